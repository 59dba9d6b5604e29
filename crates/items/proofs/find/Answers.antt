-- `find` meets its contract: its tests are those of the definition, in the same order. Assumes nothing.
use mathlib.Core.Path.{◌≡◌, refl, sym, ap, ◌∙◌}
use mathlib.Core.Bool.{Bool, true, false}
use mathlib.Core.List.{List}
use Prim.Native.Nat.{ℕ, ◌*◌, ◌≤◌, ◌<◌}
use lib.ListN.{length}
use native.Mathlib.Omega.{arith}
use borrow.Author.Rules.{rules}
use borrow.Author.Tests.{le-leb, lt-ltb, le-ltb}
use Rattle.std.specs.Prelude.{Option, Some, None, Ok, MatchOption}
use Rattle.std.proofs.lemmas.Iterator.{first_from_Range}
use Rattle.laws.proofs.Search.{first_is}
use Rattle.items.proofs.Told.{first_told}
use Rattle.laws.specs.Search.{first_below}
use Rattle.items.specs.Names.{name_room, is_name}
use Rattle.items.specs.Table.{table_fits}
use Rattle.refusals.specs.Sizes.{most_items}
use Rattle.items.specs.Lookup.{said_found, bad_table, same_name, look_up, find_in, FindSays}
use Rattle.items.proofs.Lookup.{Sized, find_is, lent_yes, lent_no}
use Rattle.items.proofs.find.Goals as goal
use Rattle.items.proofs.find.Goals.{then-n-gt-MOST_ITEMS-via-then-n-gt-MOST_ITEMS, then-n-gt-MOST_ITEMS-via-else-n-gt-MOST_ITEMS+then-items-n}

wrong_size : (t : List ℕ) (n : ℕ) (name : List ℕ) → (Sized t n → ⊥) → FindSays t n name (said_found bad_table)
wrong_size t n name w = record { answer = ap said_found (find_is t n name bad_table (record { is = refl; wrong = w })) }

module _ (t : List ℕ) (n : ℕ) (name : List ℕ) (size : n ≤ most_items) (room : n * name_room ≤ length t) (r : Bool) (e : r ≡ is_name name) where
  no_name : r ≡ false → FindSays t n name (said_found (Ok None))
  unfolding find_in table_fits
  no_name f = record { answer = rw (le-leb n most_items size, le-leb (n * name_room) (length t) room, sym e ∙ f) }

  module _ (f : r ≡ true) where
    abbrev has : ℕ → Bool
    has i = same_name t i name

    -- The first item that has the name, if there is one.
    looked : (o : Option ℕ) → MatchOption o ((k : ℕ) → 0 ≤ k → k < n → has k ≡ false)
        (λ i. (0 ≤ i) × (i < n) × (has i ≡ true) × ((k : ℕ) → 0 ≤ k → k < i → has k ≡ false)) → FindSays t n name (said_found (Ok o))
    unfolding find_in table_fits look_up
    looked None h =
        let q : n ≡ first_below n has = first_is (first_told has None h) in
        record { answer = rw (le-leb n most_items size, le-leb (n * name_room) (length t) room, sym e ∙ f, ← q, le-ltb n n (omega arith)) }
    looked (Some i) h =
        let q : i ≡ first_below n has = first_is (first_told has (Some i) h) in
        record { answer = rw (le-leb n most_items size, le-leb (n * name_room) (length t) room, sym e ∙ f, ← q, lt-ltb i n h.1) }

pub returns-then-n-gt-MOST_ITEMS : goal.returns-then-n-gt-MOST_ITEMS
returns-then-n-gt-MOST_ITEMS c =
    rw c.at.ensures
    (wrong_size _ _ _
    (λ s. elim c.then-n-gt-MOST_ITEMS.branch [
      | then-n-gt-MOST_ITEMS-via-then-n-gt-MOST_ITEMS w ↦ omega (arith, s.size)
      | then-n-gt-MOST_ITEMS-via-else-n-gt-MOST_ITEMS+then-items-n w ↦ omega (arith, s.room)
    ]))

pub returns-then-not-is_name : goal.returns-then-not-is_name
returns-then-not-is_name c = search (no_name, rules)

pub returns : goal.returns
returns c =
    let has : ℕ → Bool = λ i. same_name c.args.items.now i c.args.name.now in
    looked _ _ _ (omega arith) (omega arith) _ c.is_name.ensures (search rules) c.find.result
    (first_from_Range _ _ _ c.find.result (λ i. has i ≡ true) (λ i. has i ≡ false) c.find.ensures.ran (λ x q h. search (lent_yes, h, rules)) (λ x q h. search (lent_no, h, rules)))
