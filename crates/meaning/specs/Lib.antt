-- What rules mean, which labelling is wanted, and which part is refused. The files Inner.. are what only the solver and the argument for it speak of: greatest labels below a
-- bound, labels that are lowered item by item, and labels that are settled while what cannot be met is set aside.
pub mod Values
pub mod Rules
pub mod Labelling
pub mod Parts
pub mod Classes
pub mod Examples
pub mod InnerGreatest
pub mod InnerLowered
pub mod InnerPruned
