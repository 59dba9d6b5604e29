-- What the contracts of `stripping` cite: the promise of `strip`, and a run of its calls. Inner is what the inner functions need and give.
pub mod Stripping
pub mod Inner
pub mod Calls
