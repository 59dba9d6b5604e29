-- Why it is true, and what callers cite: numbers in digits, and the tokens there and back.
pub mod Values
pub mod Tokens
mod Valued
mod Answers
