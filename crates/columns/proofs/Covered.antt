-- Which columns a class covers: what the loop over them keeps from turn to turn, and what is then in the buffer. They rest on the laws of
-- lists.
-- Assumes nothing.
use mathlib.Core.Path.{◌≡◌, refl, sym, ap, ◌∙◌}
use mathlib.Core.Bool.{Bool, false}
use mathlib.Core.List.{List, ◌++◌}
use Prim.Native.Nat.{ℕ, ◌+◌, ◌≤◌, ◌<◌}
use native.Mathlib.Decide.{dec_le}
use native.Mathlib.Omega.{arith}
use lib.ListN.{length, get_or, set, take, drop, length-set, take-append-drop}
use lib.Seq.{get_or-set_same, get_or-set_other, get_or-take, drop-drop, drop-set-lt, length-take-le}
use Rattle.laws.specs.Tells.{Tells}
use Rattle.classes.specs.Class.{Covers}
use Rattle.classes.specs.declared.Class.{Class}
use Rattle.exports.specs.Names.{KeepsCovered}
use Rattle.columns.specs.Inner.{Numbered, Covering}

-- Nothing is said.
pub cover_none : {labels : ℕ → Class} {reader : Class} {numbers : List ℕ} {before : List Bool} → Covering labels reader numbers 0 before before
cover_none = record { sized = refl; told = λ c h. absurd (omega arith); rest = refl }

-- Of one column more.
pub cover_more : {labels : ℕ → Class} {reader : Class} {numbers : List ℕ} {c : ℕ} {before after : List Bool}
    → Covering labels reader numbers c before after
    → c < length before → {x : Class} → x ≡ labels (get_or numbers c 0) → {r : Bool} → Tells (Covers reader x) r
    → Covering labels reader numbers (c + 1) before (set after c r)
cover_more {labels} {reader} {numbers} {c} {before} {after} w h {x} e {r} g = record {
  sized = length-set after c r ∙ w.sized;
  told = λ j k. told j k (dec_le c j);
  rest = drop-set-lt (c + 1) after c r (omega arith) ∙ sym (drop-drop 1 c after) ∙ ap (drop 1) w.rest ∙ drop-drop 1 c before;
}
  where
    told : (j : ℕ) → j < c + 1 → Dec (c ≤ j) → Tells (Covers reader (labels (get_or numbers j 0))) (get_or (set after c r) j false)
    told j k (yes m) =
        let z : j ≡ c = omega arith in
        rw (z, get_or-set_same after c r false (omega (arith, w.sized)), ← e) g
    told j k (no m) = rw (get_or-set_other after c j r false (λ z. omega arith)) (w.told j (omega arith))

-- Of all columns.
pub cover_all : {labels : ℕ → Class} {reader : Class} {numbers : List ℕ} {fields c : ℕ} {before after : List Bool} → c ≡ fields
    → Covering labels reader numbers c before after → Covering labels reader numbers fields before after
cover_all e w = rw e at w

-- What the front of the buffer then says of the columns that have these items.
module _ {labels : ℕ → Class} {reader : Class} {numbers : List ℕ} {fields : ℕ} {before after : List Bool}
    (w : Covering labels reader numbers fields before after) where
  pub covered_front : (t : List ℕ) (n : ℕ) (fs : List (List ℕ)) → fields ≡ length fs → fields ≤ length before → Numbered t n fs numbers
      → KeepsCovered t n labels reader fs (take fields after)
  covered_front t n fs e h s = record {
    columns = length-take-le fields after (omega (arith, w.sized)) ∙ e;
    covered = λ c i g f.
        let inside : c < fields = omega arith in
        let at = sym f ∙ s.each c g in
        let same : i ≡ get_or numbers c 0 = cc in
        rw (get_or-take fields after c false inside, same) (w.told c inside);
  }

  pub covered_rest : after ≡ take fields after ++ drop fields before
  covered_rest = sym (take-append-drop fields after) ∙ ap (λ (x : List Bool). take fields after ++ x) w.rest
