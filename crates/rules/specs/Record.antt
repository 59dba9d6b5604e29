-- One rule as a record, the rule that it stands for, and the book of rules by number under its head.
-- Assumes nothing.
use Rattle.std.specs.Prelude.{ℕ, zero, suc, min, get_or, Option, Some, None}
use Rattle.classes.specs.declared.Class.{Class}
use Rattle.refusals.specs.Sizes.{most_left}
use Rattle.meaning.specs.Rules as meant
use Rattle.rules.specs.declared.Head.{Head}
use Rattle.rules.specs.declared.Rule.{Rule}
use Rattle.rules.specs.declared.RuleKind.{RuleKind}

-- The kinds of a rule by number: a cap, a floor, and a follow.
abbrev pub by_kind : {A : Type 0} → ℕ → A → A → A → A
by_kind zero c f g = c
by_kind (suc zero) c f g = f
by_kind (suc (suc k)) c f g = g

-- The kind that a number names, if it names one.
abbrev pub kind_of : ℕ → Option RuleKind
kind_of zero = Some RuleKind.Cap
kind_of (suc zero) = Some RuleKind.Floor
kind_of (suc (suc zero)) = Some RuleKind.Follow
kind_of (suc (suc (suc k))) = None

-- 1 to 8 left names: what a record holds beyond the eighth is not looked at.
abbrev pub left_count : Rule → ℕ
left_count x = min x.count most_left

abbrev pub left_item : Rule → ℕ → ℕ
left_item x k = get_or x.left k 0

abbrev pub left_of : Rule → meant.Left
left_of x = record { count = left_count x; item = left_item x }

-- The rule that a record stands for. The item of a cap is its one left name.
unfoldable pub meaning_of : Rule → meant.Rule Class
meaning_of x = by_kind x.kind (meant.cap (left_item x 0) x.class) (meant.floor (left_of x) x.class) (meant.follow (left_of x) x.right)

-- The book of rules by number, with as many items and rules as its head says.
abbrev pub book_by : Head → (ℕ → Rule) → meant.Book Class
book_by h at = record { items = h.items; rules = h.rules; rule = λ r. meaning_of (at r) }
