-- What contracts of several crates cite: what a bool answer tells, a test of every number below a bound, the first number of which a test says yes or a
-- statement fails, and a buffer with a text over a part of it.
pub mod Tells
pub mod Every
pub mod Search
pub mod First
pub mod Over
