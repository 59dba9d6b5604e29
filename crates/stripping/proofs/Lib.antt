-- Why `stripping` is right: a record found by the ends of its fields, lines put into a buffer, record by record, that a text that waits for more is short, that calls on
-- the pieces of an export leave what is left of the whole and end, and that any two results of its promise are equal.
pub mod Rows
pub mod Making
pub mod Putting
pub mod Taking
pub mod Says
pub mod Reading
pub mod Calls
pub mod Ends
pub mod Unique
