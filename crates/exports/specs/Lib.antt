-- What an export is, and what is left of it for a reader.
pub mod Names
pub mod Rows
pub mod Text
