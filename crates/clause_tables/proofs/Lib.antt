-- Sizes: the numbers of pairs, of rules with no positive body atom and of body atoms, and their bounds
pub mod Sizes
-- Regions: lists laid one after the other
pub mod Regions
-- Links: the first rule from a rule on with a head, by the next head
pub mod Links
-- Computed: the table of a program, region by region
pub mod Computed
