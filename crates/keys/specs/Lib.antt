-- What the contracts of `keys` cite: the texts of the keys, the key at the front of a text, and which key may come next.
pub mod Keys
