-- Rules as a list of records: which one has a number, which lists are accepted, and when a list and a flat table have equal rules.
-- Assumes nothing.
use Rattle.std.specs.Prelude.{◌≡◌, List, [], ◌∷◌, ℕ, zero, suc, ◌*◌, ◌≤◌, ◌<◌, length, get_or}
use Rattle.rules.specs.declared.Head.{Head}
use Rattle.rules.specs.declared.Rule.{Rule}
use Rattle.rules.specs.Table.{rule_words, rule_at}
use Rattle.accepts.specs.Accepted.{RulesAccepted}

-- Rule r; past the list's end it is the rule that a table has past its end, all zero.
abbrev pub list_at : List Rule → ℕ → Rule
list_at rules r = get_or rules r (rule_at [] 0)

-- The rules, under the head of their book, hold to every size, range and order, and the list is not shorter than its count.
pub record ListAccepted (h : Head) (rules : List Rule) : Type 0 where
  pub room : h.rules ≤ length rules
  pub accepted : RulesAccepted h (list_at rules)

-- A flat table and a list have equal rules up to their count, and one is shorter than it only if the other is.
pub record SameAsList (h : Head) (t : List ℕ) (rules : List Rule) : Type 0 where
  pub listed : h.rules * rule_words ≤ length t → h.rules ≤ length rules
  pub tabled : h.rules ≤ length rules → h.rules * rule_words ≤ length t
  pub each : (r : ℕ) → r < h.rules → rule_at t r ≡ list_at rules r

-- k rules of a flat table from rule r on, decoded rule by rule.
abbrev pub decoded_from : List ℕ → ℕ → ℕ → List Rule
decoded_from t r zero = []
decoded_from t r (suc k) = rule_at t r ∷ decoded_from t (suc r) k
