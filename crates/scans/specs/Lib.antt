-- What the contracts of `scans` cite: the bytes that have a name, the first byte of a text, the kinds of bytes, and runs of them.
pub mod Ascii
pub mod Bytes
