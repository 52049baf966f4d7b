-- Replies: the replies of the calls for other languages
pub mod Replies
