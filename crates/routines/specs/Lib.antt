-- What the contracts of `routines` cite: how a success is told, and the numbers of the routines.
pub mod Told
pub mod Numbers
