-- Formula: the counts over plain numbers
-- Stages: the table after each of its parts was written
pub mod Formula
pub mod Stages
