-- Lists: lists of atoms read one after the other, and what a range of bytes says of them
-- Rules: the two lists of a rule as parts of the array of body atoms
-- Computed: facts that compute
pub mod Lists
pub mod Rules
pub mod Computed
