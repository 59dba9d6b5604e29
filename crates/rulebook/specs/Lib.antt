-- What the theorems on reading and writing a rulebook say, and on texts that differ only in their classes.
pub mod RoundTrip
pub mod Agreeing
