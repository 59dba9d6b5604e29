-- What the contracts of `answers` cite: the answer to a whole text; and, in Inner, what the inner functions need and give.
pub mod Answering
pub mod Inner
