-- The laws that the argument asks of values: covering is an order with joins and common parts, decided by a test, and a value that is strictly
-- below another has a smaller height, so that lowering ends. Classes meet them part by part; any other finite lattice may.
-- Assumes nothing.
use mathlib.Core.Path.{◌≡◌}
use mathlib.Core.Bool.{Bool}
use Prim.Native.Nat.{ℕ, ◌<◌}
use lib.Dec.{T}
use Rattle.meaning.specs.Values.{Values}

pub record Lattice (K : Values) : Type 0 where
  pub reflexive : (x : K.Val) → K.Below x x
  pub transitive : (x y z : K.Val) → K.Below x y → K.Below y z → K.Below x z
  pub antisymmetric : (x y : K.Val) → K.Below x y → K.Below y x → x ≡ y
  pub lowest_below : (x : K.Val) → K.Below K.lowest x
  pub join_left : (x y : K.Val) → K.Below x (K.join x y)
  pub join_right : (x y : K.Val) → K.Below y (K.join x y)
  pub join_least : (x y z : K.Val) → K.Below x z → K.Below y z → K.Below (K.join x y) z
  pub meet : K.Val → K.Val → K.Val
  pub meet_left : (x y : K.Val) → K.Below (meet x y) x
  pub meet_right : (x y : K.Val) → K.Below (meet x y) y
  pub meet_greatest : (x y z : K.Val) → K.Below z x → K.Below z y → K.Below z (meet x y)
  pub is_below : (x y : K.Val) → K.Is y → K.Below x y → K.Is x
  pub belowb : K.Val → K.Val → Bool
  pub belowb_holds : (x y : K.Val) → T (belowb x y) → K.Below x y
  pub below_passes : (x y : K.Val) → K.Below x y → T (belowb x y)
  pub height : K.Val → ℕ
  pub height_falls : (x y : K.Val) → K.Below x y → (x ≡ y → ⊥) → height x < height y
