-- The laws that the proofs of `classes` cite, and that other crates may: bits of a word, and the parts of a class.
pub mod Bits
pub mod Marks
pub mod Parts
