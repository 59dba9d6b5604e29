-- Why it is true: what is taken from a text and from what comes behind it, how long what is written is, and that columns held back leave no trace.
pub mod Fitting
pub mod Taking
pub mod Fronts
pub mod Gone
pub mod Joining
pub mod Lengths
pub mod Cuts
pub mod HeldBack
