-- Values: what an answer's literals that are assigned say of its values, and that the buffer plays no part
-- Offers: the answer text of a list of values, read and assigned
-- Computed: document 01's answer
pub mod Values
pub mod Offers
pub mod Computed
