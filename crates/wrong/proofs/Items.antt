-- Wrong answers of `items`.
-- Assumes nothing.
use Rattle.std.specs.Prelude.{Some, None, Ok}
use mathlib.Core.Path.{◌≡◌, refl}
use mathlib.Core.Bool.{true, false, true≢false}
use mathlib.Core.List.{List, [], ◌∷◌}
use Prim.Native.Nat.{ℕ, ◌≤◌}
use native.Mathlib.Decide.{dec_le}
use native.Mathlib.Omega.{arith}
use lib.ListN.{replicate}
use Rattle.laws.specs.Tells.{Tells}
use Rattle.laws.specs.Every.{every_below}
use Rattle.laws.specs.Search.{first_below}
use Rattle.scans.specs.Bytes.{name_byte}
use Rattle.refusals.specs.Said.{success, refused}
use Rattle.items.specs.Names.{name_bytes, is_name}
use Rattle.items.specs.Table.{table_fits, entry_byte, name_len, NameAt, ItemsOk}
use Rattle.items.specs.Lookup.{said_found, same_name, look_up, find_in, FindSays}

-- The item "a", an item of sixteen bytes a, and one without a name.
abbrev only_a : List ℕ
only_a = 97 ∷ replicate 15 0

abbrev longest : List ℕ
longest = replicate 16 97

abbrev nameless : List ℕ
nameless = replicate 16 0

-- Looked up is "b".
pub find_answers_the_count : FindSays only_a 1 (98 ∷ []) (said_found (Ok (Some 1))) → ⊥
unfolding find_in look_up same_name table_fits is_name name_bytes name_byte every_below first_below entry_byte
find_answers_the_count x = let e : success 0 (1 ∷ []) ≡ success 1 [] = x.answer in let z : ◌≡◌ {A = ℕ} 0 1 = cc in omega arith

pub find_is_absent_of_an_item : FindSays only_a 1 (97 ∷ []) (said_found (Ok None)) → ⊥
unfolding find_in look_up same_name table_fits is_name name_bytes name_byte every_below first_below entry_byte
find_is_absent_of_an_item x = let e : success 1 [] ≡ success 0 (0 ∷ []) = x.answer in let z : ◌≡◌ {A = ℕ} 0 1 = cc in omega arith

-- Seventeen bytes a, of which a table has room for sixteen.
pub find_answers_at_of_a_name_of_17_bytes : FindSays longest 1 (replicate 17 97) (said_found (Ok (Some 0))) → ⊥
unfolding find_in table_fits is_name name_bytes name_byte
find_answers_at_of_a_name_of_17_bytes x = let e : success 0 (0 ∷ []) ≡ success 1 [] = x.answer in let z : ◌≡◌ {A = ℕ} 0 1 = cc in omega arith

pub find_answers_at_of_no_bytes : FindSays nameless 1 [] (said_found (Ok (Some 0))) → ⊥
unfolding find_in table_fits is_name name_bytes name_byte
find_answers_at_of_no_bytes x = let e : success 0 (0 ∷ []) ≡ success 1 [] = x.answer in let z : ◌≡◌ {A = ℕ} 0 1 = cc in omega arith

-- A table of one item that is said to have two.
pub find_is_absent_of_a_short_table : FindSays only_a 2 (98 ∷ []) (said_found (Ok None)) → ⊥
unfolding find_in table_fits
find_is_absent_of_a_short_table x = let e : success 1 [] ≡ refused 10 0 = x.answer in let z : ◌≡◌ {A = ℕ} 0 1 = cc in omega arith

-- The bytes "a", zero, "b".
abbrev behind : List ℕ
behind = 97 ∷ 0 ∷ 98 ∷ replicate 13 0

no_name_behind : NameAt behind 0 → ⊥
unfolding entry_byte name_byte
no_name_behind x = go (dec_le x.len 2)
  where
    go : Dec (x.len ≤ 2) → ⊥
    go (yes l) = let z : ◌≡◌ {A = ℕ} 98 0 = x.rest.zeros 2 l (omega arith) in omega arith
    go (no l) = let z : false ≡ true = x.bytes 1 (omega arith) in true≢false (cc)

pub items_ok_with_bytes_behind_a_name : Tells (ItemsOk behind 1) true → ⊥
items_ok_with_bytes_behind_a_name t = no_name_behind ((t.holds refl).names 0 (omega arith))

pub items_ok_of_a_short_table : Tells (ItemsOk only_a 2) true → ⊥
items_ok_of_a_short_table t = let z : 32 ≤ 16 = (t.holds refl).room in omega arith

-- The name "a-b".
pub name_len_ends_at_a_hyphen : 1 ≡ name_len (97 ∷ 45 ∷ 98 ∷ replicate 13 0) 0 → ⊥
unfolding name_len first_below entry_byte
name_len_ends_at_a_hyphen e = let z : ◌≡◌ {A = ℕ} 1 3 = e in omega arith

pub name_len_of_a_longest_name_is_0 : 0 ≡ name_len longest 0 → ⊥
unfolding name_len first_below entry_byte
name_len_of_a_longest_name_is_0 e = let z : ◌≡◌ {A = ℕ} 0 16 = e in omega arith
