-- Why it is true: how a text grows by pieces, what the functions that write a line need and answer, the lengths of lines, one law for each answer of
-- writing, and that the answer is the only one.
pub mod Pieces
pub mod Lines
pub mod Lengths
pub mod Says
pub mod Unique
