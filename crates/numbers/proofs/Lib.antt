-- Found: numbers of which 0 stands for none, as options
pub mod Found
