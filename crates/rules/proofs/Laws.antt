-- Laws of the join of left labels, one name after the other.
-- Assumes nothing.
use mathlib.Core.Path.{◌≡◌, refl, sym, ap, ◌∙◌}
use Prim.Native.Nat.{ℕ, ◌+◌}
use native.Mathlib.Numerals.{add-one}
use Rattle.classes.specs.Class.{joined, lowest}
use Rattle.classes.specs.declared.Class.{Class}
use Rattle.meaning.specs.Rules.{join_up_to, join_over}
use Rattle.meaning.specs.Classes.{classes}
use Rattle.rules.specs.declared.Rule.{Rule}
use Rattle.rules.specs.Record.{left_of, left_item, left_count}

-- a is the join of the first k left labels.
pub record JoinSoFar (x : Rule) (f : ℕ → Class) (k : ℕ) (a : Class) : Type 0 where
  pub same : a ≡ join_up_to classes k (λ j. f (left_item x j))

pub join_none : {x : Rule} {f : ℕ → Class} → JoinSoFar x f 0 lowest
join_none = record { same = refl }

-- one name more
pub join_more : {x : Rule} {f : ℕ → Class} {k : ℕ} {a b d : Class} → JoinSoFar x f k a → b ≡ f (left_item x k) → d ≡ joined a b → JoinSoFar x f (k + 1) d
join_more p q e = record { same = rw (add-one, e, p.same, q) }

-- all names
pub join_all : {x : Rule} {f : ℕ → Class} {k : ℕ} {a : Class} → JoinSoFar x f k a → left_count x ≡ k → a ≡ join_over classes (left_of x) f
join_all {x} {f} p e = p.same ∙ ap (λ k. join_up_to classes k (λ j. f (left_item x j))) (sym e)
