-- Correspond: stable models, accepted assignments and filled-out sets, for every admitted text
-- Gaps: levels without gaps, in the bytes that an accepted call writes
-- Texts: the correspondence over texts, answers and bytes
pub mod Correspond
pub mod Gaps
pub mod Texts
