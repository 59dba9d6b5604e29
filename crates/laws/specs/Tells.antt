-- What a bool answer tells: true that the statement holds, false that it does not.
-- Assumes nothing.
use Rattle.std.specs.Prelude.{◌≡◌, Bool, true, false}

pub record Tells (P : Type 0) (b : Bool) : Type 0 where
  pub holds : b ≡ true → P
  pub fails : b ≡ false → P → ⊥
