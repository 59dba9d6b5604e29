-- Why it is true, and what callers cite: the keys there and back.
pub mod KeyTexts
pub mod Cells
