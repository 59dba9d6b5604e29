-- Which answer checking gives. The rules are given by number, `at`, and what accepts them is `Accepted`, so that a flat table and a list of rule
-- records have one definition.
-- Assumes nothing.
use Rattle.std.specs.Prelude.{List, [], ◌∷◌, ℕ}
use Rattle.laws.specs.First.{AllBelow, FirstFailing}
use Rattle.meaning.specs.Rules as meant
use Rattle.meaning.specs.Classes.{classes}
use Rattle.refusals.specs.declared.Fault.{Fault}
use Rattle.refusals.specs.Said.{Said, success, refused_by}
use Rattle.labels.specs.Labels.{labels_in, LevelInRange, Room}
use Rattle.rules.specs.declared.Head.{Head}
use Rattle.rules.specs.declared.Rule.{Rule}
use Rattle.rules.specs.Record.{meaning_of}

-- Rule r is met.
pub record RuleMet (at : ℕ → Rule) (levels marks : List ℕ) (r : ℕ) : Type 0 where
  pub meets : meant.Met classes (meaning_of (at r)) (labels_in levels marks)

module _ (Accepted : Type 0) (h : Head) (at : ℕ → Rule) (levels marks : List ℕ) where
  -- The lent labels are shorter than the items.
  pub record Roomless : Type 0 where
    pub accepted : Accepted
    pub short : Room h.items levels marks → ⊥

  -- Item i is "the first item whose given label has a level over 15; labels past the last item aren't looked at".
  pub record BadAt (i : ℕ) : Type 0 where
    pub accepted : Accepted
    pub room : Room h.items levels marks
    pub label : FirstFailing (LevelInRange levels) h.items i

  -- Rule r is, "from 0 in table order", "the first rule not met".
  pub record UnmetAt (r : ℕ) : Type 0 where
    pub accepted : Accepted
    pub room : Room h.items levels marks
    pub labels : AllBelow (LevelInRange levels) h.items
    pub rule : FirstFailing (RuleMet at levels marks) h.rules r

  -- Every rule is met.
  pub record AllMet : Type 0 where
    pub accepted : Accepted
    pub room : Room h.items levels marks
    pub labels : AllBelow (LevelInRange levels) h.items
    pub rules : AllBelow (RuleMet at levels marks) h.rules

  -- "Checking: 10, 11, 12, then the answer", with the place of each refusal.
  pub data CheckSays : Said → Type 0 where
    bad_table : (Accepted → ⊥) → CheckSays (refused_by Fault.BadTable 0)
    no_room : Roomless → CheckSays (refused_by Fault.NoRoom 0)
    bad_label : {i : ℕ} → BadAt i → CheckSays (refused_by Fault.BadLabel i)
    first_unmet : {r : ℕ} → UnmetAt r → CheckSays (success 1 (r ∷ []))
    all_met : AllMet → CheckSays (success 0 [])
