-- Replies: the reply for a verdict
pub mod Replies
