-- Why a run leaves what it should, that there is one on every export and it ends, and what the bytes that are held tell.
pub mod Runs
pub mod Ends
pub mod Inside
