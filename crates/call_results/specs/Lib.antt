-- Results: what the check and filling out write and return
-- Order: the order of the rows, for a call with its own order
pub mod Results
pub mod Order
