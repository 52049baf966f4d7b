-- Next: what a number adds to a list, as bytes
-- Listed: the text of a list, number by number
-- Parts: the line of a model, part by part, and its length
-- Assumed: the line of the variables that were assumed, and the lines of a model
-- Computed: lines of models
pub mod Next
pub mod Listed
pub mod Parts
pub mod Assumed
pub mod Computed
