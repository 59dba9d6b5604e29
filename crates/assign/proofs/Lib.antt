-- Why assigning is right, and what callers cite: what each answer of reading and of solving says of the text, that there is only one answer and always one, what a
-- labelled book says, and that one part's labels depend on that part alone.
pub mod Says
pub mod Unique
pub mod Labelled
pub mod Answered
pub mod Alone
