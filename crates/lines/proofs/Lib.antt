-- Why it is true, and what callers cite: the left side of a rule, and what each function of a value and of a line answers.
pub mod Sides
pub mod Told
mod Passed
