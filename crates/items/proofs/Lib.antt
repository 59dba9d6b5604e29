-- Why it is true, and what callers cite: names, the item table, looking up a name, and the count.
pub mod Names
pub mod Table
pub mod Lookup
pub mod Counted
pub mod Entries
pub mod Told
