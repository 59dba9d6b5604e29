-- What the contracts of `tokens` cite: numbers in digits, and the tokens with the text of each. InnerDigits is what only private functions
-- and proofs speak of.
pub mod Numbers
pub mod Tokens
pub mod InnerDigits
