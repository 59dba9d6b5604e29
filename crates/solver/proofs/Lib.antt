-- Why it is true: sums that fall, labels that are lowered, settling, and lowering item by item; that there is only one answer, that nothing past the count is looked at,
-- and that one part's labels depend on that part alone.
pub mod Common
pub mod OneItem
pub mod Push
pub mod Sweep
pub mod Lacking
pub mod Choosing
pub mod Attempts
pub mod Lowering
pub mod Core
pub mod HandingOut
pub mod Answers
pub mod Unique
pub mod Counted
pub mod Alone
