-- Which rules and which tables of rules are accepted: sizes, ranges, order, and zero in the room that is not used.
-- Assumes nothing.
use Rattle.std.specs.Prelude.{◌≡◌, List, ℕ, suc, ◌*◌, ◌≤◌, ◌<◌, length}
use Rattle.classes.specs.Class.{top_level}
use Rattle.refusals.specs.Sizes.{most_items, most_rules, most_left}
use Rattle.rules.specs.declared.Head.{Head}
use Rattle.rules.specs.declared.Rule.{Rule}
use Rattle.rules.specs.Record.{left_item}
use Rattle.rules.specs.Table.{rule_words, rule_at}

-- Place k of the left side, in a book of n items: a name there is an item, and less than the next one if there is one; a place beyond the last
-- name holds zero.
pub record PlaceAccepted (n : ℕ) (x : Rule) (k : ℕ) : Type 0 where
  pub item : k < x.count → left_item x k < n
  pub rising : suc k < x.count → left_item x k < left_item x (suc k)
  pub spare : x.count ≤ k → left_item x k ≡ 0

-- 1 to 8 left names.
pub record LeftAccepted (n : ℕ) (x : Rule) : Type 0 where
  pub some : 1 ≤ x.count
  pub few : x.count ≤ most_left
  pub places : (k : ℕ) → k < most_left → PlaceAccepted n x k

-- A cap, 0, has one left name; a follow, 2, has a right name. A level is at most 15. Words that a kind of rule does not use hold zero: the right
-- name of a cap and of a floor, the level and the marks of a follow.
pub record RuleAccepted (n : ℕ) (x : Rule) : Type 0 where
  pub kind : x.kind ≤ 2
  pub left : LeftAccepted n x
  pub level : x.class.level ≤ top_level
  pub single : x.kind ≡ 0 → x.count ≡ 1
  pub right : x.kind ≡ 2 → x.right < n
  pub levelless : x.kind ≡ 2 → x.class.level ≡ 0
  pub markless : x.kind ≡ 2 → x.class.marks ≡ 0
  pub rightless : x.kind < 2 → x.right ≡ 0

-- Rule r is accepted, and its kind is not above the next one's: all caps, then floors, then follows.
pub record Standing (h : Head) (at : ℕ → Rule) (r : ℕ) : Type 0 where
  pub accepted : RuleAccepted h.items (at r)
  pub order : suc r < h.rules → (at r).kind ≤ (at (suc r)).kind

-- Rules by number, under the head of their book, hold to every size, range and order.
pub record RulesAccepted (h : Head) (at : ℕ → Rule) : Type 0 where
  pub items : h.items ≤ most_items
  pub rules : h.rules ≤ most_rules
  pub each : (r : ℕ) → r < h.rules → Standing h at r

-- The same of a flat table, which is not shorter than its count.
pub record TableAccepted (h : Head) (t : List ℕ) : Type 0 where
  pub room : h.rules * rule_words ≤ length t
  pub accepted : RulesAccepted h (rule_at t)
