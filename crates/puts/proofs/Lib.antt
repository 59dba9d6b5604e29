-- Why it is true, and what callers cite: what a put leaves in a buffer, a text that grows by puts, and a class that is put by its digits.
pub mod Placed
pub mod Growing
pub mod Digits
