-- The item table as it fills: it has the first items of another, and the next item's name is put behind them; and what looking up a name answers
-- there. They rest on the laws of the item table.
-- Assumes nothing.
use Rattle.std.specs.Prelude.{Some, None, Ok}
use mathlib.Core.Path.{◌≡◌, sym, ap, ◌∙◌}
use mathlib.Core.List.{List}
use Prim.Native.Nat.{ℕ, suc, ◌+◌, ◌-◌, ◌*◌, ◌≤◌, ◌<◌}
use native.Mathlib.Decide.{dec_lt}
use native.Mathlib.Omega.{arith}
use lib.ListN.{length, get_or, replicate, length-replicate}
use Rattle.items.specs.Names.{name_room}
use Rattle.items.specs.Table.{entry_byte, name_of, ItemsOk}
use Rattle.refusals.specs.Sizes.{most_items}
use Rattle.items.specs.Lookup.{find_in}
use Rattle.items.proofs.Names.{name_spelled}
use Rattle.items.proofs.Lookup.{HasName, find_is, name_is_name, own_name, found_name}
use Rattle.items.proofs.Counted.{SameItems, find_counted, front_items}
use Rattle.laws.specs.Over.{over}
use Rattle.laws.proofs.Buffers.{over_before, zeros_at, SameFront}
use Rattle.reader.proofs.Entries.{Spare, added_length, added_has, added_spare}

-- The item table has its whole room, the first i items of t, and zeros behind them.
pub record Holds (t : List ℕ) (i : ℕ) (names : List ℕ) : Type 0 where
  pub size : length names ≡ most_items * name_room
  pub same : SameFront (i * name_room) names t
  pub spare : Spare names i

pub holds_none : (t : List ℕ) → Holds t 0 (replicate (most_items * name_room) 0)
holds_none t = record {
  size = length-replicate {A = ℕ} (most_items * name_room) 0;
  same = record { same = λ k h. absurd (omega arith) };
  spare = record { zeros = λ k h. zeros_at (most_items * name_room) k };
}

module _ {t : List ℕ} {n : ℕ} (o : ItemsOk t n) {i : ℕ} {names : List ℕ} (p : Holds t i names) where
  -- Up to i the two tables are equal.
  pub holds_items : i ≤ n → SameItems i names t
  holds_items h = front_items p.same (omega (arith, o.size, p.size)) (omega (arith, o.room))

  pub holds_more : i < n → Holds t (suc i) (over names (i * name_room) (name_of t i))
  unfolding entry_byte
  holds_more h = record {
    size = added_length names i (name_of t i) (name_is_name o i h) room p.spare ∙ p.size;
    same = record { same = λ k l. byte k l (dec_lt k (i * name_room)) };
    spare = record { zeros = λ k l. (added_spare names i (name_of t i) (name_is_name o i h) room p.spare).zeros k (omega arith) };
  }
    where
      room : i * name_room + name_room ≤ length names
      room = omega (arith, p.size, o.size)

      fits : i * name_room + length (name_of t i) ≤ length names
      fits = omega (arith, (name_spelled (name_of t i) (name_is_name o i h)).most, room)

      here : HasName (over names (i * name_room) (name_of t i)) i (name_of t i)
      here = added_has names i (name_of t i) (name_is_name o i h) room p.spare

      byte : (k : ℕ) → k < suc i * name_room → Dec (k < i * name_room) → get_or (over names (i * name_room) (name_of t i)) k 0 ≡ get_or t k 0
      byte k l (yes g) = over_before names (i * name_room) (name_of t i) fits k g ∙ p.same.same k g
      byte k l (no g) =
          let e : k ≡ i * name_room + (k - i * name_room) = omega arith in
          let inside : k - i * name_room < name_room = omega arith in
          ap (λ (j : ℕ). get_or (over names (i * name_room) (name_of t i)) j 0) e
          ∙ here.bytes (k - i * name_room) inside
          ∙ sym ((own_name o i h).bytes (k - i * name_room) inside)
          ∙ ap (λ (j : ℕ). get_or t j 0) (sym e)

  -- The next item's name is not among the first i.
  pub next_absent : i < n → find_in names i (name_of t i) ≡ Ok None
  next_absent h =
      let same = holds_items (omega arith) in
      sym
      (find_is names i (name_of t i) (Ok None)
      (record {
        sized = record { size = omega (arith, o.size); room = same.left };
        none = λ e j l s.
            (o.distinct i h).new j l
            (record { bytes = λ k g. sym (same.bytes j k l g) ∙ s.bytes k g ∙ sym ((own_name o i h).bytes k g) });
      }))

-- In the whole table each item's name finds it.
pub name_found : {t : List ℕ} {n : ℕ} → ItemsOk t n → {names : List ℕ} → Holds t n names → (j : ℕ) → j < n
    → find_in names n (name_of t j) ≡ Ok (Some j)
name_found {t} {n} o p j h = find_counted (holds_items o p (omega arith)) (name_of t j) ∙ found_name o j h
