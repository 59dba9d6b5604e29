-- What the contracts of `reader` cite: looking up the names of a rule, one line after another, what reading a rulebook answers, and texts that differ only in their
-- classes. The files named Inner hold what only the private functions and the proofs speak of.
pub mod Names
pub mod Lines
pub mod Reading
pub mod Agreeing
pub mod InnerAdding
pub mod InnerLines
