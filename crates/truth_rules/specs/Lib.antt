-- Rules: truth of whole items of groups 1 and 6
pub mod Rules
