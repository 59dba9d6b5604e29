-- Why it is true. First what one line does: its key, its value, names looked up, what it adds to the tables. Then a whole text: what is read is right, and where
-- reading refuses. Last the promise: one law for each answer of the code, that it fixes the answer, what a book that was read says of the lent tables, and texts that agree.
pub mod KeyRows
pub mod LineFacts
pub mod LineCases
pub mod LookUps
pub mod Entries
pub mod Numbers
pub mod ReadRight
pub mod Places
pub mod Adding
pub mod Turns
pub mod Whole
pub mod Answers
pub mod Unique
pub mod Books
pub mod Agreeing
