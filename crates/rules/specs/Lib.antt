-- What the contracts of `rules` cite: a rule as a record, and the flat table of rules, read and written; and tables that differ only in their classes.
pub mod Record
pub mod Table
pub mod Agreeing
