-- Why it is true, and what callers cite: names without their quotes, the loops, what each function answers, what an answer with columns says, that there is
-- only one answer and always one, that bytes behind a text do not change it, that a text that waits for more is short, and that nothing past the count is looked at.
pub mod Quoted
pub mod Looking
pub mod Covered
pub mod Heads
pub mod Says
pub mod Kept
pub mod Waiting
pub mod Answered
pub mod Unique
pub mod Pieces
pub mod Counted
