-- Numbers: what a refusal's number says
pub mod Numbers
-- Actions: what any number for an action does
pub mod Actions
