-- Why it is true: what readers find past the end of a table, joins of left labels, the rule that a record of each kind stands for, what a table holds after
-- a put, and tables that agree in a part.
pub mod Laws
pub mod Meaning
pub mod Words
pub mod Put
pub mod Agreeing
