-- Reading: the reader's answer from what its loop left, and what follows for the table and the totals
pub mod Reading
