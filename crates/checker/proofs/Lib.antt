-- Why it is true: one rule of each kind, one law for each answer of checking, the walk over a list, that the answer is the only one and one for a table and a list, that
-- nothing past a count is looked at, and that no rule is answered exactly of a labelling.
pub mod Meets
pub mod Says
pub mod Walking
pub mod Unique
pub mod Alike
pub mod Counted
pub mod Labellings
