-- What the contracts of `lines` cite: the left side of a rule, the values of the six keys, and a line.
pub mod Left
pub mod Values
pub mod Lines
