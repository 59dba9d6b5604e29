-- The header of an export: the names in it, which of them are items, and which columns a reader's class covers.
-- Assumes nothing.
use Rattle.std.specs.Prelude.{◌≡◌, Bool, false, cond, List, [], ◌∷◌, ℕ, ◌<◌, eqb, length, get_or, Some, Ok}
use Rattle.laws.specs.Tells.{Tells}
use Rattle.classes.specs.Class.{Covers}
use Rattle.classes.specs.declared.Class.{Class}
use Rattle.items.specs.Lookup.{Found, find_in}
use Rattle.scans.specs.Ascii.{quote}

-- What stands between quotes, with "doubled quotes made one" and the closing quote off.
unfoldable pub undoubled : List ℕ → List ℕ
undoubled [] = []
undoubled (b ∷ []) = cond (eqb b quote) [] (b ∷ [])
undoubled (b ∷ c ∷ l) = cond (eqb b quote) (b ∷ undoubled l) (b ∷ undoubled (c ∷ l))

-- "Header names are compared with outer quotes off and doubled quotes made one."
unfoldable pub unquoted : List ℕ → List ℕ
unquoted [] = []
unquoted (b ∷ l) = cond (eqb b quote) (undoubled l) (b ∷ l)

-- The name of column c.
abbrev pub name_in : List (List ℕ) → ℕ → List ℕ
name_in fs c = unquoted (get_or fs c [])

-- What looking up the name of column c answers.
abbrev pub column_item : List ℕ → ℕ → List (List ℕ) → ℕ → Found
column_item t n fs c = find_in t n (name_in fs c)

-- A name that is an item.
pub record IsItem (t : List ℕ) (n : ℕ) (name : List ℕ) : Type 0 where
  pub item : ℕ
  pub found : find_in t n name ≡ Ok (Some item)

-- "a header name, quotes taken off, that is no item or is repeated" is bad: each name is an item, and none is repeated.
pub record HeaderOk (t : List ℕ) (n : ℕ) (fs : List (List ℕ)) : Type 0 where
  pub known : (c : ℕ) → c < length fs → IsItem t n (name_in fs c)
  pub distinct : (c d : ℕ) → c < d → d < length fs → name_in fs c ≡ name_in fs d → ⊥

-- "only the columns whose label that class covers" are kept.
pub record KeepsCovered (t : List ℕ) (n : ℕ) (labels : ℕ → Class) (reader : Class) (fs : List (List ℕ)) (kept : List Bool) : Type 0 where
  pub columns : length kept ≡ length fs
  pub covered : (c i : ℕ) → c < length fs → column_item t n fs c ≡ Ok (Some i) → Tells (Covers reader (labels i)) (get_or kept c false)
