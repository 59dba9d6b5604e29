-- What the contracts of `classes` cite: bits of a word, the class and its covering, join and common part, and the parts of a class.
pub mod Bits
pub mod Class
pub mod Parts
