-- Lowering an item by levels from the lowest up, and one item after the other.
-- Assumes nothing.
use mathlib.Core.Path.{◌≡◌, refl, sym, ◌∙◌, subst}
use mathlib.Core.Bool.{Bool, true, false}
use mathlib.Core.List.{List}
use Prim.Native.Nat.{ℕ, zero, suc, ◌+◌, ◌≤◌, ◌<◌}
use native.Mathlib.Nat.{not-suc-le-zero}
use native.Mathlib.Numerals.{add-one}
use native.Mathlib.Omega.{arith}
use Rattle.classes.specs.Class.{top_level}
use Rattle.classes.specs.Parts.{part_count, top_of}
use Rattle.classes.specs.declared.Class.{Class}
use Rattle.meaning.specs.InnerLowered.{Lowered}
use Rattle.rules.specs.declared.Head.{Head}
use Rattle.solver.specs.InnerSteps.{book_in, values_in, labels_at}
use Rattle.solver.specs.InnerLowers.{ItemUsable, NoLevelLess, TriesLevel, Lowers}

-- The levels of one item, from the lowest up: no labelling has less than v, and the labels are as they were.
pub record LevelSoFar (h : Head) (t : List ℕ) (i v : ℕ) (before cur : List Class) : Type 0 where
  pub same : cur ≡ before
  pub less : NoLevelLess h t before i v

pub level_start : {h : Head} {t : List ℕ} {i : ℕ} {before : List Class} → LevelSoFar h t i 0 before before
level_start {before = before} = record {
  same = refl;
  less = record { never = λ g y below l. not-suc-le-zero l };
}

module _ {h : Head} {t : List ℕ} {i v : ℕ} {before cur : List Class} (w : LevelSoFar h t i v before cur) where
  module _ {next : List Class} {left : Bool} (x : TriesLevel h t i v cur next left) where
    pub level_more : left ≡ false → LevelSoFar h t i (v + 1) before next
    level_more e = record {
      same = x.stays e ∙ w.same;
      less = rw add-one (subst (λ c. NoLevelLess h t c i (suc v)) w.same (x.failed e));
    }

    pub level_found : left ≡ true → Lowers h t i (i + 1) before next
    level_found e = rw add-one (record { lowered = λ u y. record { each = λ p s. go p s (u p) (subst (λ c. Lowered (values_in p) (book_in p h t) (u p) i (labels_at p c)) (sym w.same) (y.each p s)) } })
      where
        go : (p : ℕ) → p < part_count → (u : ℕ → ℕ) → Lowered (values_in p) (book_in p h t) u i (labels_at p cur)
            → Lowered (values_in p) (book_in p h t) u (suc i) (labels_at p next)
        go zero s = x.level e (subst (λ c. NoLevelLess h t c i v) (sym w.same) w.less)
        go (suc p) s = x.marks e p (omega arith)

  -- A labelling has no level over 15, so that one of them was found.
  pub level_past : ItemUsable h t i → top_level < v → Lowers h t i (i + 1) before cur
  unfolding top_of
  level_past usable past = record {
    lowered = λ u y.
        let here = (y.each 0 (omega arith)).below.labelling in
        absurd (w.less.never (labels_at 0 before) here (λ j s. omega arith) (omega (arith, here.labels i usable.item)));
  }

-- One item after the other.
pub lowered_none : {h : Head} {t : List ℕ} {before : List Class} → Lowers h t 0 0 before before
lowered_none = record { lowered = λ u x. x }

pub lowered_more : {h : Head} {t : List ℕ} {i : ℕ} {before cur next : List Class} → Lowers h t 0 i before cur → Lowers h t i (i + 1) cur next → Lowers h t 0 (i + 1) before next
lowered_more x y = record { lowered = λ u z. y.lowered u (x.lowered u z) }

pub lowered_all : {h : Head} {t : List ℕ} {i : ℕ} {before after : List Class} → Lowers h t 0 i before after → i ≤ h.items → h.items ≤ i → Lowers h t 0 h.items before after
lowered_all {h} {t} {before = before} {after = after} x below all = subst (λ k. Lowers h t 0 k before after) (omega arith) x
