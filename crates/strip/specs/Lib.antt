-- What is left of an export by a rulebook and a class, and the calls of a run; and, in InnerHeld, which bytes of a buffer are held.
pub mod Runs
pub mod InnerHeld
