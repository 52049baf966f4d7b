-- Results: what the code answers, by the definitions of answer_form
pub mod Results
-- Refusals: the check's refusal of an answer that offers no model
pub mod Refusals
