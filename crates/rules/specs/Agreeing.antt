-- "two rulebooks with the same items and the same lines, which differ only in the classes written there, and agree in those on one mark": of two rules as records, and of
-- two tables under their heads. The level, part 0, may take the place of the mark.
-- Assumes nothing.
use Rattle.std.specs.Prelude.{◌≡◌, List, ℕ, ◌<◌}
use Rattle.meaning.specs.Classes.{ClassesAgree}
use Rattle.rules.specs.declared.Head.{Head}
use Rattle.rules.specs.declared.Rule.{Rule}
use Rattle.rules.specs.Table.{rule_at}

-- The same line but for the class: the same kind, the same left names and the same right name.
pub record SameLine (x y : Rule) : Type 0 where
  pub kind : x.kind ≡ y.kind
  pub count : x.count ≡ y.count
  pub left : x.left ≡ y.left
  pub right : x.right ≡ y.right

-- As many items, and the same lines in the same order, which differ only in the classes written there.
pub record DifferInClasses (h : Head) (t : List ℕ) (k : Head) (u : List ℕ) : Type 0 where
  pub items : h.items ≡ k.items
  pub rules : h.rules ≡ k.rules
  pub lines : (r : ℕ) → r < h.rules → SameLine (rule_at t r) (rule_at u r)

-- Such tables, whose classes agree in part p.
pub record TablesAgree (p : ℕ) (h : Head) (t : List ℕ) (k : Head) (u : List ℕ) : Type 0 where
  pub differ : DifferInClasses h t k u
  pub classes : (r : ℕ) → r < h.rules → ClassesAgree p (rule_at t r).class (rule_at u r).class
