-- What the contracts of `puts` cite: Writing is what a put leaves in a buffer, and InnerGrowing is of puts one behind the other.
pub mod Writing
pub mod InnerGrowing
