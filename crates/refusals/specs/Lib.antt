-- What the contracts of `refusals` and of every crate whose answers may be refusals cite: the number of each fault, the sizes past which a text or a book is
-- refused, and what an answer says.
pub mod Numbers
pub mod Sizes
pub mod Said
