-- Why it is true: searches below a bound, the greatest labelling below a bound, lowering, and the parts of a class.
pub mod Search
pub mod Lattice
pub mod Joins
pub mod Placed
pub mod Same
pub mod Settle
pub mod Ordered
pub mod Lowering
pub mod Pruned
pub mod PartLaws
pub mod Whole
pub mod Trial
pub mod Classes
pub mod Examples
pub mod Demands
pub mod Worthless
pub mod SameBooks
