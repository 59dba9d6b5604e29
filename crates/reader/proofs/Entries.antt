-- What a table holds after one more item, and the left places of a rule. The items before it are as they were. They rest on the laws of a put and of looking up
-- a name.
-- Assumes nothing.
use Rattle.std.specs.Prelude.{None, Ok}
use mathlib.Core.Path.{◌≡◌, sym, ap, ◌∙◌}
use mathlib.Core.Bool.{true}
use mathlib.Core.List.{List}
use Prim.Native.Nat.{ℕ, ◌+◌, ◌*◌, ◌≤◌, ◌<◌}
use native.Mathlib.Nat.{zero-add}
use native.Mathlib.Decide.{dec_lt}
use native.Mathlib.Omega.{arith}
use borrow.Author.Count.{below_more}
use lib.ListN.{length, get_or, replicate, get_or-eq_default}
use Rattle.laws.specs.Over.{over}
use Rattle.laws.proofs.Over.{over_length}
use Rattle.laws.proofs.Buffers.{over_before, over_inside, over_behind, zeros_at}
use Rattle.refusals.specs.Sizes.{most_items, most_left}
use Rattle.items.specs.Names.{name_room, is_name}
use Rattle.items.specs.Table.{entry_byte, NameAt, NewAt, ItemsOk}
use Rattle.items.specs.Lookup.{find_in}
use Rattle.items.proofs.Names.{name_spelled}
use Rattle.items.proofs.Lookup.{HasName, find_absent}
use Rattle.items.proofs.Counted.{SameItems, items_counted}
use Rattle.items.proofs.Entries.{has_name_at}
use Rattle.reader.specs.Lines.{left_places}

-- Every byte behind n items is zero.
pub record Spare (t : List ℕ) (n : ℕ) : Type 0 where
  pub zeros : (i : ℕ) → n * name_room ≤ i → get_or t i 0 ≡ 0

-- One more item: its name is put behind n items.
module _ (t : List ℕ) (n : ℕ) (name : List ℕ) (e : is_name name ≡ true) (room : n * name_room + name_room ≤ length t) (spare : Spare t n) where
  abbrev pub added : List ℕ
  added = over t (n * name_room) name

  short : length name ≤ name_room
  short = (name_spelled name e).most

  fits : n * name_room + length name ≤ length t
  fits = omega (arith, short)

  pub added_length : length added ≡ length t
  added_length = over_length t (n * name_room) name fits

  pub added_has : HasName added n name
  unfolding entry_byte
  added_has = record { bytes = λ k l. at k (dec_lt k (length name)) }
    where
      at : (k : ℕ) → Dec (k < length name) → get_or added (n * name_room + k) 0 ≡ get_or name k 0
      at k (yes l) = over_inside t (n * name_room) name fits k l
      at k (no l) =
          over_behind t (n * name_room) name fits (n * name_room + k) (omega arith)
          ∙ spare.zeros (n * name_room + k) (omega arith)
          ∙ sym (get_or-eq_default name 0 (omega arith))

  pub added_same : SameItems n t added
  unfolding entry_byte
  added_same = record {
    left = omega arith;
    right = omega (arith, added_length);
    bytes = λ i k h l. sym (over_before t (n * name_room) name fits (i * name_room + k) (omega arith));
  }

  pub added_spare : Spare added (n + 1)
  added_spare = record {
    zeros = λ i h.
        over_behind t (n * name_room) name fits i (omega (arith, short)) ∙ spare.zeros i (omega arith);
  }

  pub added_ok : ItemsOk t n → n < most_items → find_in t n name ≡ Ok None → ItemsOk added (n + 1)
  added_ok o few new = record {
    size = omega arith;
    room = omega (arith, added_length);
    names = below_more (NameAt added) n before.names (has_name_at added n name e added_has);
    distinct =
        below_more (NewAt added) n before.distinct
        (record {
          new = λ i l s.
              (find_absent t n name new).none e i l
              (record { bytes = λ k g. added_same.bytes i k l g ∙ s.bytes k g ∙ added_has.bytes k g });
        });
  }
    where
      before : ItemsOk added n
      before = items_counted added_same o

-- The left places of a rule hold its items, and zeros behind them.
module _ (items : List ℕ) (few : length items ≤ most_left) where
  abbrev none : List ℕ
  none = replicate most_left 0

  room : 0 + length items ≤ length none
  room = omega arith

  pub places_length : length (left_places items) ≡ most_left
  places_length = over_length none 0 items room

  pub places_at : (k : ℕ) → get_or (left_places items) k 0 ≡ get_or items k 0
  places_at k = go (dec_lt k (length items))
    where
      go : Dec (k < length items) → get_or (left_places items) k 0 ≡ get_or items k 0
      go (yes h) = ap (λ (j : ℕ). get_or (left_places items) j 0) (sym (zero-add k)) ∙ over_inside none 0 items room k h
      go (no h) = over_behind none 0 items room k (omega arith) ∙ zeros_at most_left k ∙ sym (get_or-eq_default items 0 (omega arith))
