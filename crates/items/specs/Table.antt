-- The item table: 16 bytes a name, zeros behind it, lent with the number of its items.
-- Assumes nothing.
use Rattle.std.specs.Prelude.{◌≡◌, Bool, true, ◌&&◌, List, ℕ, ◌+◌, ◌*◌, ◌≤◌, ◌<◌, leb, eqb, length, get_or, take, drop}
use Rattle.laws.specs.Search.{first_below}
use Rattle.refusals.specs.Sizes.{most_items}
use Rattle.items.specs.Names.{name_room}
use Rattle.scans.specs.Bytes.{name_byte}

-- "Each table comes with its count; .. a buffer too short for it is BAD_TABLE": at most 256 items, and room for each.
unfoldable pub table_fits : List ℕ → ℕ → Bool
table_fits t n = leb n most_items && leb (n * name_room) (length t)

-- Byte k of entry i; what lies past the table's end is 0.
unfoldable pub entry_byte : List ℕ → ℕ → ℕ → ℕ
entry_byte t i k = get_or t (i * name_room + k) 0

-- How many bytes of entry i stand before its first zero byte: 16 where it has none, 0 where it lies outside the table.
unfoldable pub name_len : List ℕ → ℕ → ℕ
name_len t i = first_below name_room (λ k. eqb (entry_byte t i k) 0)

-- The bytes of entry i before its first zero byte.
abbrev pub name_of : List ℕ → ℕ → List ℕ
name_of t i = take (name_len t i) (drop (i * name_room) t)

-- Entry i of a and entry j of b have the same 16 bytes.
pub record SameEntry (a : List ℕ) (i : ℕ) (b : List ℕ) (j : ℕ) : Type 0 where
  pub bytes : (k : ℕ) → k < name_room → entry_byte a i k ≡ entry_byte b j k

-- "Room in a name .. that isn't used (the rest of a short name, ..) holds zero": the bytes of entry i from len on.
pub record ZerosFrom (t : List ℕ) (i len : ℕ) : Type 0 where
  pub zeros : (k : ℕ) → len ≤ k → k < name_room → entry_byte t i k ≡ 0

-- "A NAME is 1 to 16 bytes of a-z, 0-9 and hyphen": entry i is one, with zeros behind it.
pub record NameAt (t : List ℕ) (i : ℕ) : Type 0 where
  pub len : ℕ
  pub least : 1 ≤ len
  pub most : len ≤ name_room
  pub bytes : (k : ℕ) → k < len → name_byte (entry_byte t i k) ≡ true
  pub rest : ZerosFrom t i len

-- The bytes of entry j stand in no entry before it.
pub record NewAt (t : List ℕ) (j : ℕ) : Type 0 where
  pub new : (i : ℕ) → i < j → SameEntry t i t j → ⊥

-- "for the writer BAD_TABLE includes bad or repeated names": a table of n items that no writer refuses.
pub record ItemsOk (t : List ℕ) (n : ℕ) : Type 0 where
  pub size : n ≤ most_items
  pub room : n * name_room ≤ length t
  pub names : (i : ℕ) → i < n → NameAt t i
  pub distinct : (j : ℕ) → j < n → NewAt t j
