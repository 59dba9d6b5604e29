-- Why it is true, and what callers cite: the steps of the machine, the places that the loops have come to, where a field lies, the sizes of
-- records, a record read field by field, what a whole record says, its fields by where they end, each of them by itself, bytes that come behind
-- a text, and those that end a record there.
pub mod Steps
pub mod Past
pub mod Within
pub mod Sizes
pub mod Come
pub mod Reading
pub mod Whole
pub mod Parts
pub mod NthField
pub mod Prefix
pub mod Finish
