-- What the contracts of `solver` cite. `Solving` is the promise of solving; the files named Inner say what its steps do to labels in every part.
pub mod Solving
pub mod InnerSteps
pub mod InnerLowers
pub mod InnerLabels
