-- Why it is true: the tests of a rule and of a table, and that an accepted table names only its items.
pub mod Accepts
pub mod Inside
pub mod Counted
