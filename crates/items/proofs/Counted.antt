-- The count of a table: entries past it are not looked at. Two tables whose first n entries are equal give the same look-ups, and both are right
-- or neither is. It rests on what each answer tells. Assumes nothing.
use Rattle.std.specs.Prelude.{Some, None, Ok, Err}
use mathlib.Core.Path.{◌≡◌, sym, ◌∙◌}
use mathlib.Core.List.{List}
use Prim.Native.Nat.{ℕ, ◌+◌, ◌*◌, ◌≤◌, ◌<◌}
use native.Mathlib.Omega.{arith}
use lib.ListN.{length}
use Rattle.laws.proofs.Buffers.{SameFront}
use Rattle.items.specs.Names.{name_room}
use Rattle.items.specs.Table.{entry_byte, NameAt, ItemsOk}
use Rattle.items.specs.Lookup.{Found, find_in}
use Rattle.items.proofs.Lookup.{HasName, Sized, FoundTells, find_says, find_is}

-- Two tables with room for n items are equal up to n.
pub record SameItems (n : ℕ) (t u : List ℕ) : Type 0 where
  pub left : n * name_room ≤ length t
  pub right : n * name_room ≤ length u
  pub bytes : (i k : ℕ) → i < n → k < name_room → entry_byte t i k ≡ entry_byte u i k

pub same_items_sym : {n : ℕ} {t u : List ℕ} → SameItems n t u → SameItems n u t
same_items_sym s = record { left = s.right; right = s.left; bytes = λ i k h g. sym (s.bytes i k h g) }

module _ {n : ℕ} {t u : List ℕ} (s : SameItems n t u) where
  has_name : {i : ℕ} {name : List ℕ} → i < n → HasName t i name → HasName u i name
  has_name {i} h g = record { bytes = λ k l. sym (s.bytes i k h l) ∙ g.bytes k l }

  sized : Sized t n → Sized u n
  sized z = record { size = z.size; room = s.right }

says : {n : ℕ} {t u : List ℕ} → SameItems n t u → (name : List ℕ) (x : Found) → FoundTells t n name x → FoundTells u n name x
says s name (Ok (Some i)) f = record {
  sized = sized s f.sized;
  spelled = f.spelled;
  item = f.item;
  here = has_name s f.item f.here;
  lowest = λ j l h. f.lowest j l (has_name (same_items_sym s) (omega (arith, f.item)) h);
}
says s name (Ok None) f = record { sized = sized s f.sized; none = λ e i l h. f.none e i l (has_name (same_items_sym s) l h) }
says s name (Err r) f = record { is = f.is; wrong = λ z. f.wrong (sized (same_items_sym s) z) }

pub find_counted : {n : ℕ} {t u : List ℕ} → SameItems n t u → (name : List ℕ) → find_in t n name ≡ find_in u n name
find_counted {n} {t} {u} s name = find_is u n name (find_in t n name) (says s name (find_in t n name) (find_says t n name))

name_counted : {n : ℕ} {t u : List ℕ} → SameItems n t u → (i : ℕ) → i < n → NameAt t i → NameAt u i
name_counted s i h g = record {
  len = g.len;
  least = g.least;
  most = g.most;
  bytes = λ k l. rw (← s.bytes i k h (omega (arith, g.most))) (g.bytes k l);
  rest = record { zeros = λ k m l. sym (s.bytes i k h l) ∙ g.rest.zeros k m l };
}

pub items_counted : {n : ℕ} {t u : List ℕ} → SameItems n t u → ItemsOk t n → ItemsOk u n
items_counted s o = record {
  size = o.size;
  room = s.right;
  names = λ i h. name_counted s i h (o.names i h);
  distinct = λ j h. record {
    new = λ i l e.
        (o.distinct j h).new i l
        (record { bytes = λ k g. s.bytes i k (omega arith) g ∙ e.bytes k g ∙ sym (s.bytes j k h g) });
  };
}

-- Item tables with the same front have the same items.
pub front_items : {n : ℕ} {t u : List ℕ} → SameFront (n * name_room) t u → n * name_room ≤ length t → n * name_room ≤ length u → SameItems n t u
unfolding entry_byte
front_items s h g = record { left = h; right = g; bytes = λ i k l m. s.same (i * name_room + k) (omega arith) }
