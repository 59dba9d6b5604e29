-- What the contracts of `checker` cite: what an answer says, and which answer checking gives, of a table or of a list. The files Inner.. are what only its
-- inner functions promise: judging accepted rules, and what the walk over a list knows.
pub mod Answer
pub mod Checking
pub mod List
pub mod InnerJudging
pub mod InnerWalking
