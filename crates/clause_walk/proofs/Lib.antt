-- Groups: what each group has, every group has
pub mod Groups
-- Computed: the walk of the sample programs
-- Tabs: tables and rows of lists
-- Blocks, Bits, Lowest: groups 1, 2, 3 and 7, groups 4 and 5, and group 6 are those of the clause list
-- Walked: so is the whole walk
pub mod Computed
pub mod Tabs
pub mod Blocks
pub mod Bits
pub mod Lowest
pub mod Walked
