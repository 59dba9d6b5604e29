-- What the contracts of `items` cite: names, the item table, and what looking up a name answers.
pub mod Names
pub mod Table
pub mod Lookup
