-- Told: the reply of a call, from what the calls below gave
-- Zero: a reply's number is 0 exactly if the call accepts
pub mod Told
pub mod Zero
