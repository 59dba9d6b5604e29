-- The values that a label can have: those that are labels, which covers which, and their joins. Rules and labellings are defined over such
-- a record once, and so are the same for classes, for one part of a class, and for any other lattice.
-- Assumes nothing.
use Rattle.std.specs.Prelude.{◌≡◌, ℕ, ◌≤◌, max}

pub record Values : Type 1 where
  pub Val : Type 0
  -- which of them may stand as a label
  pub Is : Val → Type 0
  -- Below x y: y covers x
  pub Below : Val → Val → Type 0
  pub lowest : Val
  pub join : Val → Val → Val

-- "Strictly below" means covered and not equal.
pub record StrictlyBelow (K : Values) (x y : K.Val) : Type 0 where
  pub covered : K.Below x y
  pub differs : x ≡ y → ⊥

-- The numbers 0 to top, each covering those up to it: a level, or one mark.
abbrev pub numbers : ℕ → Values
numbers top = record { Val = ℕ; Is = λ v. v ≤ top; Below = ◌≤◌; lowest = 0; join = max }
