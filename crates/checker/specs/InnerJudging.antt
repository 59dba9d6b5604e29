-- What is answered of rules that are accepted, by what a search tells of them.
-- Assumes nothing.
use Rattle.std.specs.Prelude.{List, ℕ, Option, Some, None}
use Rattle.laws.specs.First.{AllBelow, FirstFailing}
use Rattle.refusals.specs.Said.{Said}
use Rattle.rules.specs.declared.Head.{Head}
use Rattle.rules.specs.declared.Rule.{Rule}
use Rattle.checker.specs.Checking.{RuleMet, CheckSays}

-- What a search tells of m rules: the first that is not met, or that each is met.
abbrev pub TellsUnmet : (ℕ → Rule) → List ℕ → List ℕ → ℕ → Option ℕ → Type 0
TellsUnmet at levels marks m None = AllBelow (RuleMet at levels marks) m
TellsUnmet at levels marks m (Some r) = FirstFailing (RuleMet at levels marks) m r

-- What checking says of any rules of which the search tells this.
pub record Judges (unmet : Option ℕ) (h : Head) (levels marks : List ℕ) (s : Said) : Type 0 where
  pub says : (at : ℕ → Rule) → TellsUnmet at levels marks h.rules unmet → CheckSays (Unit {0}) h at levels marks s
