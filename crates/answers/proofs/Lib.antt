-- Why the answer is right: what assigning says of a text, what each function answers, that every answer is short and its places are printed whole, that
-- there is only one answer, and that one part's labels depend on that part alone.
pub mod Told
pub mod Says
pub mod Short
pub mod Unique
pub mod Alone
