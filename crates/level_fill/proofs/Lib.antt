-- Whole: the families one after the other are the filled-out assignment
pub mod Whole
-- Families: what each family asks and writes
pub mod Families
-- Computed: facts that compute
pub mod Computed
