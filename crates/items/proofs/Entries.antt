-- An entry that has a name is that name: the item that is found has the bytes that were looked up, and tables that are equal up to their count have the same
-- names. They rest on the laws of looking up a name.
-- Assumes nothing.
use Rattle.std.specs.Prelude.{Some, Ok}
use mathlib.Core.Path.{◌≡◌, sym, ◌∙◌}
use mathlib.Core.Bool.{true}
use mathlib.Core.List.{List}
use Prim.Native.Nat.{ℕ, ◌≤◌, ◌<◌}
use native.Mathlib.Omega.{arith}
use lib.ListN.{length, get_or-eq_default}
use lib.Seq.{ext_get_or}
use Rattle.scans.specs.Bytes.{name_byte}
use Rattle.items.specs.Names.{name_room, is_name}
use Rattle.items.specs.Table.{entry_byte, name_len, name_of, NameAt, ItemsOk}
use Rattle.items.specs.Lookup.{find_in}
use Rattle.items.proofs.Names.{name_spelled, byte_not_zero}
use Rattle.items.proofs.Table.{name_of_length, name_of_at, name_len_is}
use Rattle.items.proofs.Lookup.{HasName, find_lowest, name_is_name, own_name}
use Rattle.items.proofs.Counted.{SameItems}

-- An entry that has a name is that name.
module _ (t : List ℕ) (i : ℕ) (name : List ℕ) (e : is_name name ≡ true) (h : HasName t i name) where
  entry_zero : (k : ℕ) → length name ≤ k → k < name_room → entry_byte t i k ≡ 0
  entry_zero k m l = h.bytes k l ∙ get_or-eq_default name 0 m

  entry_byte_lem : (k : ℕ) → k < length name → name_byte (entry_byte t i k) ≡ true
  entry_byte_lem k l = rw (h.bytes k (omega (arith, (name_spelled name e).most))) ((name_spelled name e).bytes k l)

  pub has_name_at : NameAt t i
  has_name_at = record {
    len = length name;
    least = (name_spelled name e).least;
    most = (name_spelled name e).most;
    bytes = entry_byte_lem;
    rest = record { zeros = entry_zero };
  }

  pub has_name_of : name_of t i ≡ name
  has_name_of =
      ext_get_or 0 (name_of t i) name (name_of_length t i ∙ sym long)
      (λ k l.
      let inside : k < name_len t i = omega (arith, name_of_length t i) in
      name_of_at t i k inside ∙ h.bytes k (omega (arith, long, (name_spelled name e).most)))
    where
      long : length name ≡ name_len t i
      long =
          name_len_is t i (length name) (name_spelled name e).most (λ k l. byte_not_zero (entry_byte_lem k l))
          (λ l. entry_zero (length name) (omega arith) l)

-- The item that is found has those bytes.
pub found_bytes : (t : List ℕ) (n : ℕ) (name : List ℕ) (i : ℕ) → find_in t n name ≡ Ok (Some i) → name_of t i ≡ name
found_bytes t n name i e = let f = find_lowest t n name i e in has_name_of t i name f.spelled f.here

-- Tables that are equal up to n have the same names.
pub same_names : {n : ℕ} {t u : List ℕ} → SameItems n t u → ItemsOk t n → (i : ℕ) → i < n → name_of u i ≡ name_of t i
same_names {n} {t} {u} s o i l =
    has_name_of u i (name_of t i) (name_is_name o i l) (record { bytes = λ k g. sym (s.bytes i k l g) ∙ (own_name o i l).bytes k g })
