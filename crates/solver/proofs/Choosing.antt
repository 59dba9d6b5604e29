-- Marks chosen bit by bit of two words, for one label after the other.
-- Assumes nothing.
use mathlib.Core.Path.{◌≡◌, refl, sym, ◌∙◌, ap, ap₂, subst}
use mathlib.Core.List.{List}
use Prim.Native.Nat.{ℕ, ◌+◌, ◌-◌, ◌^◌, ◌≤◌, ◌<◌, min, max}
use native.Mathlib.Nat.{not-suc-le-zero}
use native.Mathlib.Omega.{arith}
use borrow.Author.Count.{below_more}
use lib.Bits.{bit_and, bit_or}
use lib.ListN.{length, set, length-set}
use lib.Seq.{get_or-set_same, get_or-set_other}
use Rattle.classes.specs.Bits.{bit}
use Rattle.classes.specs.Class.{class_of, lowest}
use Rattle.classes.specs.declared.Class.{Class}
use Rattle.classes.proofs.Bits.{bit-bit_and, bit-bit_or, bit_not}
use Rattle.refusals.specs.Sizes.{most_items}
use Rattle.labels.specs.Labels.{listed}
use Rattle.solver.specs.InnerLowers.{ChosenOne, Chosen}

pub chosen_made : (x old y : Class) (w : ℕ) → w < 2 ^ 64 → y ≡ class_of x.level (bit_or (bit_and x.marks (2 ^ 64 - 1 - w)) (bit_and old.marks w)) → ChosenOne w old x y
chosen_made x old y w h e = record { level = ap (λ (c : Class). c.level) e; bits = λ k s. ap (λ (c : Class). bit k c.marks) e ∙ chosen_bit k s }
  where
    chosen_bit : (k : ℕ) → k < 64 → bit k (bit_or (bit_and x.marks (2 ^ 64 - 1 - w)) (bit_and old.marks w)) ≡ max (min (bit k x.marks) (1 - bit k w)) (min (bit k old.marks) (bit k w))
    chosen_bit k s =
        bit-bit_or k (bit_and x.marks (2 ^ 64 - 1 - w)) (bit_and old.marks w)
        ∙ ap₂ max (bit-bit_and k x.marks (2 ^ 64 - 1 - w) ∙ ap (λ z. min (bit k x.marks) z) (bit_not 64 k w s h)) (bit-bit_and k old.marks w)

-- After the first i labels; the others are as they were.
pub record ChosenSoFar (w : ℕ) (old before cur : List Class) (i : ℕ) : Type 0 where
  pub sized : length cur ≡ length before
  pub done : (j : ℕ) → j < i → ChosenOne w (listed old j) (listed before j) (listed cur j)
  pub rest : (j : ℕ) → i ≤ j → listed cur j ≡ listed before j

pub chosen_none : {w : ℕ} {old before : List Class} → ChosenSoFar w old before before 0
chosen_none = record { sized = refl; done = λ j s. absurd (not-suc-le-zero s); rest = λ j s. refl }

pub chosen_more : {w i : ℕ} {old before cur : List Class} {y : Class} → ChosenSoFar w old before cur i → i < length before → ChosenOne w (listed old i) (listed cur i) y
    → ChosenSoFar w old before (set cur i y) (i + 1)
chosen_more {w} {i} {old} {before} {cur} {y} x s one = record {
  sized = length-set cur i y ∙ x.sized;
  done = below_more _ _
      (λ j l. subst (ChosenOne w (listed old j) (listed before j)) (sym (get_or-set_other cur i j y lowest (λ e. absurd (omega arith)))) (x.done j l))
      (subst (λ z. ChosenOne w (listed old i) z (listed (set cur i y) i)) (x.rest i (omega arith)) (subst (ChosenOne w (listed old i) (listed cur i)) (sym (get_or-set_same cur i y lowest (omega (arith, x.sized)))) one));
  rest = λ j l. get_or-set_other cur i j y lowest (λ e. absurd (omega arith)) ∙ x.rest j (omega arith);
}

pub chosen_all : {w i : ℕ} {old before cur : List Class} → ChosenSoFar w old before cur i → most_items ≤ i → Chosen w old before cur
chosen_all x s = record { each = λ j l. x.done j (omega arith) }
