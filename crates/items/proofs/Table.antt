-- The item table: its bytes, the length of a name, and what it is for an entry to be a name. They rest on the laws of names and of searches.
-- Assumes nothing.
use mathlib.Core.Path.{◌≡◌, refl, sym, ap, ◌∙◌}
use mathlib.Core.List.{List}
use Prim.Native.Nat.{ℕ, zero, suc, ◌+◌, ◌-◌, ◌*◌, ◌≤◌, ◌<◌}
use native.Mathlib.Decide.{dec_le}
use native.Mathlib.Omega.{arith}
use Rattle.std.specs.Prelude.{min}
use lib.Dec.{eqb}
use lib.ListN.{length, get_or, drop, length-take, length-drop, get_or-eq_default}
use lib.Seq.{get_or-take, get_or-drop}
use borrow.Author.Tests.{eqb-false, eq-eqb, ne_eqb}
use Rattle.items.specs.Names.{name_room}
use Rattle.items.specs.Table.{entry_byte, name_len, name_of, ZerosFrom, NameAt}
use Rattle.laws.proofs.Search.{First, first_below_lem, first_is}
use Rattle.items.proofs.Names.{Spelled, byte_not_zero}

-- Past the table's end every byte is 0, so a byte that is not lies inside.
pub past_end : (t : List ℕ) (i k : ℕ) → length t ≤ i * name_room + k → entry_byte t i k ≡ 0
unfolding entry_byte
past_end t i k h = get_or-eq_default t 0 h

-- A place that is too large for a number is past the table's end.
pub byte_at : (t : List ℕ) (i k m at : ℕ) → length t ≤ m → at ≡ min (min (i * name_room) m + k) m → get_or t at 0 ≡ entry_byte t i k
unfolding entry_byte
byte_at t i k m at h e = go (dec_le (length t) (i * name_room + k))
  where
    go : Dec (length t ≤ i * name_room + k) → get_or t at 0 ≡ get_or t (i * name_room + k) 0
    go (yes l) = get_or-eq_default t 0 (omega (arith, e)) ∙ sym (get_or-eq_default t 0 l)
    go (no l) = ap (λ (j : ℕ). get_or t j 0) (omega (arith, e))

pub byte_inside : (t : List ℕ) (i k : ℕ) → (entry_byte t i k ≡ 0 → ⊥) → i * name_room + k < length t
byte_inside t i k n = go (dec_le (length t) (i * name_room + k))
  where
    go : Dec (length t ≤ i * name_room + k) → i * name_room + k < length t
    go (yes h) = absurd (n (past_end t i k h))
    go (no h) = omega arith

-- The length of a name is the place of the entry's first zero byte, or 16, and what a name has lies inside the table.
len_first : (t : List ℕ) (i : ℕ) → First name_room (λ k. eqb (entry_byte t i k) 0) (name_len t i)
unfolding name_len
len_first t i = first_below_lem name_room (λ k. eqb (entry_byte t i k) 0)

pub name_len_most : (t : List ℕ) (i : ℕ) → name_len t i ≤ name_room
name_len_most t i = (len_first t i).within

pub name_len_before : (t : List ℕ) (i k : ℕ) → k < name_len t i → entry_byte t i k ≡ 0 → ⊥
name_len_before t i k h = eqb-false _ _ ((len_first t i).before k h)

pub name_len_is : (t : List ℕ) (i len : ℕ) → len ≤ name_room → ((k : ℕ) → k < len → entry_byte t i k ≡ 0 → ⊥)
    → (len < name_room → entry_byte t i len ≡ 0) → len ≡ name_len t i
unfolding name_len
name_len_is t i len h n z = first_is (record { within = h; before = λ k l. ne_eqb _ _ (n k l); here = λ l. eq-eqb _ _ (z l) })

pub name_len_inside : (t : List ℕ) (i : ℕ) → name_len t i ≤ length t - i * name_room
name_len_inside t i = go (name_len t i) refl
  where
    go : (len : ℕ) → name_len t i ≡ len → len ≤ length t - i * name_room
    go zero e = omega arith
    go (suc k) e = omega (arith, byte_inside t i k (name_len_before t i k (omega arith)))

-- The bytes of an entry's name are the entry's, with zeros behind them.
pub name_of_length : (t : List ℕ) (i : ℕ) → length (name_of t i) ≡ name_len t i
name_of_length t i = omega (arith, length-take (name_len t i) (drop (i * name_room) t), length-drop (i * name_room) t, name_len_inside t i)

pub name_of_at : (t : List ℕ) (i k : ℕ) → k < name_len t i → get_or (name_of t i) k 0 ≡ entry_byte t i k
unfolding entry_byte
name_of_at t i k h = get_or-take (name_len t i) (drop (i * name_room) t) k 0 h ∙ get_or-drop (i * name_room) t k 0

pub name_of_past : (t : List ℕ) (i k : ℕ) → name_len t i ≤ k → get_or (name_of t i) k 0 ≡ 0
name_of_past t i k h = get_or-eq_default (name_of t i) 0 (omega (arith, name_of_length t i))

-- An entry is a name exactly if the bytes before its first zero byte are, and the others are zero.
pub named_len : {t : List ℕ} {i : ℕ} (h : NameAt t i) → h.len ≡ name_len t i
named_len {t} {i} h =
    name_len_is t i h.len h.most (λ k l. byte_not_zero (h.bytes k l)) (λ l. h.rest.zeros h.len (omega arith) l)

pub named_spelled : {t : List ℕ} {i : ℕ} → NameAt t i → Spelled (name_of t i)
named_spelled {t} {i} h = record {
  least = omega (arith, name_of_length t i, named_len h);
  most = omega (arith, name_of_length t i, named_len h);
  bytes = λ k l.
      let inside : k < name_len t i = omega (arith, name_of_length t i) in
      rw (name_of_at t i k inside) (h.bytes k (omega (arith, named_len h)));
}

pub named_rest : {t : List ℕ} {i : ℕ} → NameAt t i → ZerosFrom t i (name_len t i)
named_rest h = rw (named_len h) at h.rest

pub spelled_named : (t : List ℕ) (i : ℕ) → Spelled (name_of t i) → ZerosFrom t i (name_len t i) → NameAt t i
spelled_named t i s z = record {
  len = name_len t i;
  least = omega (arith, s.least, name_of_length t i);
  most = name_len_most t i;
  bytes = λ k l. rw (name_of_at t i k l) at (s.bytes k (omega (arith, name_of_length t i)));
  rest = z;
}
