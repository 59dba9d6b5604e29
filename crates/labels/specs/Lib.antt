-- What the contracts of `labels` cite: labels held in two lists, and which of them are right.
pub mod Labels
