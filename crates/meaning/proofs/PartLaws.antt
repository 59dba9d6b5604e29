-- What the argument asks of values that have parts: covering, join and common part are ≤, max and min in every part, equal parts make equal labels, and labels can be
-- made from the values of their parts.
-- Assumes nothing.
use mathlib.Core.Path.{◌≡◌}
use Prim.Native.Nat.{ℕ, ◌≤◌, ◌<◌, min, max}
use Rattle.meaning.specs.Parts.{Parts}

pub record PartLaws (P : Parts) : Type 0 where
  pub discrete : (x y : P.values.Val) → Dec (x ≡ y)
  pub below_parts : (x y : P.values.Val) → P.values.Below x y → (p : ℕ) → p < P.count → P.part p x ≤ P.part p y
  pub parts_below : (x y : P.values.Val) → ((p : ℕ) → p < P.count → P.part p x ≤ P.part p y) → P.values.Below x y
  pub join_parts : (x y : P.values.Val) (p : ℕ) → p < P.count → P.part p (P.values.join x y) ≡ max (P.part p x) (P.part p y)
  pub common : P.values.Val → P.values.Val → P.values.Val
  pub common_parts : (x y : P.values.Val) (p : ℕ) → p < P.count → P.part p (common x y) ≡ min (P.part p x) (P.part p y)
  pub lowest_parts : (p : ℕ) → p < P.count → P.part p P.values.lowest ≡ 0
  pub part_top : (x : P.values.Val) → P.values.Is x → (p : ℕ) → p < P.count → P.part p x ≤ P.top p
  pub same_parts : (x y : P.values.Val) → P.values.Is x → P.values.Is y → ((p : ℕ) → p < P.count → P.part p x ≡ P.part p y) → x ≡ y
  pub make : (ℕ → ℕ) → P.values.Val
  pub make_is : (f : ℕ → ℕ) → ((p : ℕ) → p < P.count → f p ≤ P.top p) → P.values.Is (make f)
  pub make_part : (f : ℕ → ℕ) → ((p : ℕ) → p < P.count → f p ≤ P.top p) → (p : ℕ) → p < P.count → P.part p (make f) ≡ f p
