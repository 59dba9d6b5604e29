-- What the contracts of `writer` cite: Texts is the text of a rulebook and of a labelling, Writing what writing one answers; InnerTexts is what only the
-- functions within this crate speak of.
pub mod Texts
pub mod Writing
pub mod InnerTexts
