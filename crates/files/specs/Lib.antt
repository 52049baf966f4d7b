-- Count: what is counted of an input, by the sizes of its reads
pub mod Count
