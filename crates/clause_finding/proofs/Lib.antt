-- Falling: the search part by part, over plain numbers
-- Coded: what the code asks and answers, over plain numbers
-- Located: the place of a clause from its group, item, block and number there
-- ItemPlaces: the places of an item's clauses, from that of its first one
pub mod Falling
pub mod Coded
pub mod Located
pub mod ItemPlaces
