-- Computed: document 01's examples and a case of each row, filled out from their texts
pub mod Computed
-- FirstRows: the call refuses with the first row met, and accepts exactly if none is
pub mod FirstRows
-- Written: what is written and returned
pub mod Written
-- Steps: the answer by the tests that the code makes
pub mod Steps
