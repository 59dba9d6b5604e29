-- Bools as answers: true is not false, both halves of a true `&&`, and two bools that compare equal. They rest on the two cases of a bool.
-- Assumes nothing.
use mathlib.Core.Path.{◌≡◌, refl, sym, ◌∙◌}
use mathlib.Core.Bool.{Bool, true, false, ◌&&◌, beq, true≢false, and-eq-true_iff}

pub true_not_false : {b : Bool} → b ≡ true → b ≡ false → ⊥
true_not_false e d = true≢false (sym e ∙ d)

pub and_left : (a b : Bool) → (a && b) ≡ true → a ≡ true
and_left a b e = ((and-eq-true_iff a b).0 e).0

pub and_right : (a b : Bool) → (a && b) ≡ true → b ≡ true
and_right a b e = ((and-eq-true_iff a b).0 e).1

pub beq_same : (a b : Bool) → beq a b ≡ true → a ≡ b
beq_same true true e = refl
beq_same true false e = absurd (true_not_false e refl)
beq_same false true e = absurd (true_not_false e refl)
beq_same false false e = refl
