-- SupportLaws: what the rules of an atom say, over plain lists and of a table
-- HeadItems: the items of groups 2 and 7 in the walk
pub mod SupportLaws
pub mod HeadItems
