-- What the contracts of `accepts` cite: which rules and which tables are accepted, and when two tables are equal.
pub mod Accepted
pub mod Tables
