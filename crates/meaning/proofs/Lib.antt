-- Computed: facts that a wrong definition breaks, by a set or level that comes out wrong
pub mod Computed
