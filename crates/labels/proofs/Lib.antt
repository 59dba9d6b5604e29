-- The search for a bad label has one answer.
pub mod Unique
