-- What a bool answer tells: a statement tells one bool, `false` tells of a statement that is refuted and `true` of one that holds, and a test tells of
-- a statement that holds exactly if the test is true, or if the numbers that it compares are so. They rest on the meaning of the tests on numbers.
-- Assumes nothing.
use mathlib.Core.Path.{◌≡◌, refl}
use mathlib.Core.Bool.{Bool, true, false, not}
use Prim.Native.Nat.{ℕ, ◌≤◌, ◌<◌}
use native.Mathlib.Nat.{not-le_of_lt}
use lib.Dec.{eqb, ltb, leb}
use borrow.Author.Tests.{eqb-true, eqb-false, ltb-true, ltb-false, leb-true, leb-false, not-true, not-false}
use Rattle.laws.specs.Tells.{Tells}
use Rattle.laws.proofs.Bools.{true_not_false}

-- Two answers that tell of one statement are equal.
pub tells_unique : {P : Type 0} {a b : Bool} → Tells P a → Tells P b → a ≡ b
tells_unique {a = true} {b = true} s t = refl
tells_unique {a = true} {b = false} s t = absurd (t.fails refl (s.holds refl))
tells_unique {a = false} {b = true} s t = absurd (s.fails refl (t.holds refl))
tells_unique {a = false} {b = false} s t = refl

-- Answers that tell.
pub tells_no : {P : Type 0} → (P → ⊥) → Tells P false
tells_no n = record { holds = λ e. absurd (true_not_false e refl); fails = λ e. n }

pub tells_yes : {P : Type 0} → P → Tells P true
tells_yes p = record { holds = λ e. p; fails = λ e. absurd (true_not_false refl e) }

pub tells_test : {P : Type 0} {b : Bool} → (b ≡ true → P) → (P → b ≡ true) → Tells P b
tells_test f g = record { holds = f; fails = λ e p. true_not_false (g p) e }

pub tells_eqb : {P : Type 0} (a b : ℕ) → (a ≡ b → P) → (P → a ≡ b) → Tells P (eqb a b)
tells_eqb a b f g = record { holds = λ e. f (eqb-true a b e); fails = λ e p. eqb-false a b e (g p) }

pub tells_ltb : {P : Type 0} (a b : ℕ) → (a < b → P) → (P → a < b) → Tells P (ltb a b)
tells_ltb a b f g = record { holds = λ e. f (ltb-true a b e); fails = λ e p. not-le_of_lt (g p) (ltb-false a b e) }

pub tells_leb : {P : Type 0} (a b : ℕ) → (a ≤ b → P) → (P → a ≤ b) → Tells P (leb a b)
tells_leb a b f g = record { holds = λ e. f (leb-true a b e); fails = λ e p. not-le_of_lt (leb-false a b e) (g p) }

-- What a test `if !b` leaves behind it: the statement is refuted where the branch is taken, and holds where it is not.
pub told_no : {P : Type 0} {b : Bool} → Tells P b → not b ≡ true → P → ⊥
told_no {b = b} t e = t.fails (not-true b e)

pub told_yes : {P : Type 0} {b : Bool} → Tells P b → not b ≡ false → P
told_yes {b = b} t e = t.holds (not-false b e)
