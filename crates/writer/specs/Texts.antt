-- The text of tables: of a rulebook, and of a labelling. The item table is t, the rule table w.
-- Assumes nothing.
use Rattle.std.specs.Prelude.{cond, List, [], ◌∷◌, ◌++◌, ℕ, zero, suc, ◌+◌, ltb}
use Rattle.scans.specs.Ascii.{lf, plus, digit1, colon}
use Rattle.items.specs.Table.{name_of}
use Rattle.labels.specs.Labels.{labels_in}
use Rattle.rules.specs.Record.{by_kind, left_item}
use Rattle.rules.specs.Table.{rule_at}
use Rattle.rules.specs.declared.Head.{Head}
use Rattle.rules.specs.declared.Rule.{Rule}
use Rattle.keys.specs.Keys.{key_text, label_key}
use Rattle.keys.specs.declared.Key.{Key}
use Rattle.tokens.specs.Tokens.{count_text, class_text}

-- c pieces from number k on, one after the other.
unfoldable pub pieces : (ℕ → List ℕ) → ℕ → ℕ → List ℕ
pieces piece k zero = []
pieces piece k (suc c) = piece k ++ pieces piece (suc k) c

-- "form=1" and "end=COUNT", each with its LF.
abbrev pub form_line : List ℕ
form_line = key_text Key.Form ++ digit1 ∷ lf ∷ []

abbrev pub end_line : ℕ → List ℕ
end_line count = key_text Key.End ++ count_text count ++ lf ∷ []

-- "item=NAME", and the lines of n items.
abbrev pub item_line : List ℕ → ℕ → List ℕ
item_line t i = key_text Key.Item ++ name_of t i ++ lf ∷ []

abbrev pub item_lines : List ℕ → ℕ → List ℕ
item_lines t n = pieces (item_line t) 0 n

-- A left name with the sign behind it: a plus sign, and a colon behind the last.
abbrev pub left_piece : List ℕ → Rule → ℕ → List ℕ
left_piece t x k = name_of t (left_item x k) ++ cond (ltb (k + 1) x.count) plus colon ∷ []

abbrev pub left_text : List ℕ → Rule → List ℕ
left_text t x = pieces (left_piece t x) 0 x.count

-- A follow ends with its right name, any other rule with its class.
abbrev pub right_text : List ℕ → Rule → List ℕ
right_text t x = by_kind x.kind (class_text x.class) (class_text x.class) (name_of t x.right)

abbrev pub rule_key : Rule → Key
rule_key x = by_kind x.kind Key.Cap Key.Floor Key.Follow

-- "cap=NAME:CLASS", "floor=NAME+..+NAME:CLASS" and "follow=NAME+..+NAME:NAME", and the lines of m rules in table order.
abbrev pub rule_line : List ℕ → Rule → List ℕ
rule_line t x = key_text (rule_key x) ++ left_text t x ++ right_text t x ++ lf ∷ []

abbrev pub rule_lines : List ℕ → List ℕ → ℕ → List ℕ
rule_lines t w m = pieces (λ r. rule_line t (rule_at w r)) 0 m

-- A rulebook: its form line, its items, its rules, and its end line with the lines before it.
unfoldable pub book_text : Head → List ℕ → List ℕ → List ℕ
book_text h t w = form_line ++ item_lines t h.items ++ rule_lines t w h.rules ++ end_line (1 + h.items + h.rules)

-- "one line `label=NAME:CLASS` for each item in book order"
abbrev pub label_name : List ℕ → ℕ → List ℕ
label_name t i = label_key ++ name_of t i ++ colon ∷ []

abbrev pub label_line : List ℕ → List ℕ → List ℕ → ℕ → List ℕ
label_line t levels marks i = label_name t i ++ class_text (labels_in levels marks i) ++ lf ∷ []

abbrev pub label_lines : List ℕ → ℕ → List ℕ → List ℕ → List ℕ
label_lines t n levels marks = pieces (label_line t levels marks) 0 n

-- A labelling: "`form=1`, one line .. for each item in book order, and `end=COUNT` with the lines before it".
unfoldable pub labels_text : List ℕ → ℕ → List ℕ → List ℕ → List ℕ
labels_text t n levels marks = form_line ++ label_lines t n levels marks ++ end_line (1 + n)
