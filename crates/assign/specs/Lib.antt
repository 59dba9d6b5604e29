-- What the contracts of `assign` cite: what assigning answers, and what is then in the lent buffers.
pub mod Assigning
