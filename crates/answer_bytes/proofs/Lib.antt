-- Turns: one turn of each loop over a buffer
-- Putting: one literal, by its number
-- Computed: buffers counted and completed
pub mod Turns
pub mod Putting
pub mod Computed
