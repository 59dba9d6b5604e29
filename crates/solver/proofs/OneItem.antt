-- Lowering one item: what it does to the labels, and that the sum of all levels and mark words falls with it.
-- Assumes nothing.
use mathlib.Core.Path.{◌≡◌, refl, sym, ◌∙◌, ap, subst}
use mathlib.Core.Bool.{Bool, true, false, true≢false, false≢true}
use mathlib.Core.List.{List, [], ◌∷◌}
use Prim.Native.Nat.{ℕ, zero, suc, ◌+◌, ◌^◌, ◌<◌}
use native.Mathlib.Nat.{not-suc-le-zero}
use native.Mathlib.Omega.{arith}
use lib.ListN.{length, set}
use lib.Seq.{get_or-set_same, get_or-set_other}
use Rattle.laws.specs.Tells.{Tells}
use Rattle.classes.specs.Class.{Covers, common_of, lowest}
use Rattle.classes.specs.declared.Class.{Class}
use Rattle.meaning.specs.InnerGreatest.{Placed}
use Rattle.labels.specs.Labels.{listed}
use Rattle.solver.specs.InnerSteps.{sum_of, Tracks, LowersItem}
use Rattle.solver.proofs.Common.{common_covered, common_falls}

-- one label stored
pub sum_set : (l : List Class) (i : ℕ) (x : Class) → i < length l
    → sum_of (set l i x) + ((listed l i).level + (listed l i).marks) ≡ sum_of l + (x.level + x.marks)
unfolding sum_of
sum_set [] i x s = absurd (not-suc-le-zero s)
sum_set (y ∷ l) zero x s = omega arith
sum_set (y ∷ l) (suc i) x s = omega (arith, sum_set l i x (omega arith))

pub label_placed : (l : List Class) (i : ℕ) (x : Class) → i < length l → (n : ℕ) → Placed n (listed l) i x (listed (set l i x))
label_placed l i x s n = record { here = get_or-set_same l i x lowest s; other = λ j u ne. get_or-set_other l i j x lowest ne }

pub tracks_same : (b : List Class) → Tracks b b false
tracks_same b = record { same = λ e. refl; falls = λ e. absurd (false≢true e) }

module _ (l : List Class) (i : ℕ) (c x : Class) (b : Bool) (small : x.marks < 2 ^ 64) (e : x ≡ listed l i) (told : Tells (Covers c x) b) where
  label_small : (listed l i).marks < 2 ^ 64
  label_small = subst (λ k. k.marks < 2 ^ 64) e small

  pub lower_kept : b ≡ true → LowersItem i c l l false
  lower_kept yes_covers = record {
    placed = λ n. record { here = sym (common_covered label_small covers); other = λ j s ne. refl };
    covered = λ z. covers;
    tracks = tracks_same l;
  }
    where
      covers : Covers c (listed l i)
      covers = subst (Covers c) e (told.holds yes_covers)

  pub lower_falls : i < length l → c.marks < 2 ^ 64 → b ≡ false → (y : Class) → y ≡ common_of x c → LowersItem i c l (set l i y) true
  lower_falls s g no_covers y f = record {
    placed = λ n. subst (λ z. Placed n (listed l) i z (listed (set l i y))) y_common (label_placed l i y s n);
    covered = λ z. absurd (true≢false z);
    tracks = record { same = λ z. absurd (true≢false z); falls = λ z. smaller };
  }
    where
      y_common : y ≡ common_of (listed l i) c
      y_common = f ∙ ap (λ k. common_of k c) e

      falls : y.level + y.marks < (listed l i).level + (listed l i).marks
      falls = subst (λ k. k.level + k.marks < (listed l i).level + (listed l i).marks) (sym y_common) (common_falls label_small g (λ v. told.fails no_covers (subst (Covers c) (sym e) v)))

      smaller : sum_of (set l i y) < sum_of l
      smaller = omega (arith, falls, sum_set l i y s)
