-- Parts: a cell and a part of a region
pub mod Parts
