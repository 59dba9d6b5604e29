-- Why reading and writing undo each other. Reading and then writing: what is read passes the table tests (the crate `reader` has that), and its text is the
-- text that was read. Writing and then reading: a written line reads back, and so does the whole text. Then the promises of the two routines, put together. Last texts that
-- differ only in their classes.
pub mod KindKeys
pub mod LineBytes
pub mod LineTexts
pub mod ReadWrite
pub mod LineByLine
pub mod LinesRead
pub mod Filling
pub mod Looked
pub mod Steps
pub mod WriteRead
pub mod Counted
pub mod RoundTrip
pub mod Agreeing
