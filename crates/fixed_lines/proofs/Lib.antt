-- Parts: the lengths of the header and of a refusal, and their texts in two parts
-- Computed: a header and two refusals, as texts
pub mod Parts
pub mod Computed
