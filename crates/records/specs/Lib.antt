-- What the contracts of `records` cite: one field, and the record at the front of a text. Inner is for the inner functions and the crates above.
pub mod Fields
pub mod Rows
pub mod Inner
