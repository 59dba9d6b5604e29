-- An accepted table is a book whose every name is an item, so that the theorems about books hold of it.
-- Assumes nothing.
use mathlib.Core.List.{List}
use Prim.Native.Nat.{ℕ}
use native.Mathlib.Omega.{arith}
use Rattle.meaning.specs.Rules as meant
use Rattle.rules.specs.declared.Head.{Head}
use Rattle.rules.specs.declared.Rule.{Rule}
use Rattle.rules.specs.Record.{left_of, meaning_of, book_by}
use Rattle.rules.specs.Table.{book_of}
use Rattle.rules.proofs.Meaning.{by_kind_lem}
use Rattle.accepts.specs.Accepted.{LeftAccepted, RuleAccepted, RulesAccepted, TableAccepted}

left_inside : {n : ℕ} {x : Rule} → LeftAccepted n x → meant.LeftInside n (left_of x)
left_inside p = record { within = λ k s. (p.places k (omega arith)).item (omega arith) }

rule_inside : (n : ℕ) (x : Rule) → RuleAccepted n x → meant.RuleInside n (meaning_of x)
unfolding meaning_of
rule_inside n x p =
    by_kind_lem (meant.RuleInside n) x.kind p.kind
    (λ e. (p.left.places 0 (omega arith)).item (omega (arith, p.left.some)))
    (λ e. left_inside p.left)
    (λ e. (left_inside p.left, p.right e))

pub rules_inside : {h : Head} {at : ℕ → Rule} → RulesAccepted h at → meant.Inside (book_by h at)
rules_inside {h} {at} p = record { inside = λ r s. rule_inside h.items (at r) (p.each r s).accepted }

pub table_inside : {h : Head} {t : List ℕ} → TableAccepted h t → meant.Inside (book_of h t)
table_inside p = rules_inside p.accepted
