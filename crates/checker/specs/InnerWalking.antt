-- What the walk over a list knows of its rules: before the first, after each, and at the end. Rules are given by number, `at`.
-- Assumes nothing.
use Rattle.std.specs.Prelude.{◌≡◌, true, List, ℕ, zero, suc, ◌≤◌, length, Option}
use Rattle.laws.specs.Tells.{Tells}
use Rattle.laws.specs.First.{AllBelow}
use Rattle.refusals.specs.Said.{Said}
use Rattle.refusals.specs.Sizes.{most_items, most_rules}
use Rattle.rules.specs.declared.Head.{Head}
use Rattle.rules.specs.declared.Rule.{Rule}
use Rattle.accepts.specs.Accepted.{RuleAccepted, Standing}
use Rattle.checker.specs.declared.list.Seen.{Seen}
use Rattle.checker.specs.Checking.{CheckSays}
use Rattle.checker.specs.List.{list_at, ListAccepted}
use Rattle.checker.specs.InnerJudging.{TellsUnmet}

-- The head is not too large, and a list of this length is not too short for it.
pub record Sizes (len : ℕ) (h : Head) : Type 0 where
  pub items : h.items ≤ most_items
  pub rules : h.rules ≤ most_rules
  pub room : h.rules ≤ len

-- c rules are looked at: all of them where the sizes are right, and never more than there are or may be.
pub record Count (len : ℕ) (h : Head) (c : ℕ) : Type 0 where
  pub all : Sizes len h → c ≡ h.rules
  pub room : c ≤ len
  pub few : c ≤ most_rules

-- The head of the book of the first i rules.
abbrev pub up_to : Head → ℕ → Head
up_to h i = record { items = h.items; rules = i }

-- The first i rules are accepted in this order.
abbrev pub InOrder : Head → (ℕ → Rule) → ℕ → Type 0
InOrder h at i = AllBelow (Standing (up_to h i) at) i

-- The kind of the last of the first i rules; before the first it is the lowest.
abbrev pub kind_before : (ℕ → Rule) → ℕ → ℕ
kind_before at zero = 0
kind_before at (suc i) = (at i).kind

-- What is known of the first i rules.
pub record SeenSoFar (h : Head) (at : ℕ → Rule) (levels marks : List ℕ) (i : ℕ) (s : Seen) : Type 0 where
  pub good : Tells (InOrder h at i) s.good
  pub kind : s.kind ≡ kind_before at i
  pub unmet : TellsUnmet at levels marks i s.unmet

-- It is known of no rule.
pub record Starts (s : Seen) : Type 0 where
  pub start : (h : Head) (at : ℕ → Rule) (levels marks : List ℕ) → SeenSoFar h at levels marks 0 s

-- The rules before this one are accepted, and this one may come behind them.
pub record Stands (before : Seen) (rule : Rule) (n : ℕ) : Type 0 where
  pub good : before.good ≡ true
  pub order : before.kind ≤ rule.kind
  pub accepted : RuleAccepted n rule

-- From which of the rules before rule i is the first that is not met to which of those up to it.
pub record UnmetOn (before : Option ℕ) (rule : Rule) (i : ℕ) (levels marks : List ℕ) (after : Option ℕ) : Type 0 where
  pub on : (at : ℕ → Rule) → rule ≡ at i → TellsUnmet at levels marks i before → TellsUnmet at levels marks (suc i) after

-- From what is known before rule i to what is known after it.
pub record GoesOn (before : Seen) (rule : Rule) (i : ℕ) (h : Head) (levels marks : List ℕ) (after : Seen) : Type 0 where
  pub on : (at : ℕ → Rule) → rule ≡ at i → SeenSoFar h at levels marks i before → SeenSoFar h at levels marks (suc i) after

-- From what is known of the rules that were looked at to what checking says of the list.
pub record Concludes (seen : Seen) (len : ℕ) (h : Head) (levels marks : List ℕ) (s : Said) : Type 0 where
  pub says : (rules : List Rule) → length rules ≡ len → {c : ℕ} → Count len h c → SeenSoFar h (list_at rules) levels marks c seen
      → CheckSays (ListAccepted h rules) h (list_at rules) levels marks s
