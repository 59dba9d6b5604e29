-- The laws of what specs/ defines, of bools as answers, of lists past their end, of what stands in a buffer, and of a text copied into one.
pub mod Bools
pub mod Tells
pub mod Every
pub mod Search
pub mod First
pub mod Over
pub mod Lists
pub mod Buffers
pub mod Copying
