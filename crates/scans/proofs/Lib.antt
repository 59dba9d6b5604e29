-- Why it is true, and what callers cite: a text at a place, and runs of bytes.
pub mod Counted
pub mod Places
pub mod Runs
