-- Wrong answers of `rules`.
-- Assumes nothing.
use mathlib.Core.Path.{◌≡◌, ap}
use mathlib.Core.Bool.{true, false, true≢false}
use mathlib.Core.List.{List, [], ◌∷◌}
use Prim.Native.Nat.{ℕ}
use native.Mathlib.Omega.{arith}
use lib.ListN.{get_or, replicate}
use Rattle.classes.specs.Class.{class_of, joined, lowest}
use Rattle.classes.specs.declared.Class.{Class}
use Rattle.meaning.specs.Rules.{join_over}
use Rattle.meaning.specs.Classes.{classes}
use Rattle.labels.specs.Labels.{labels_in}
use Rattle.std.specs.Prelude.{Some, None}
use Rattle.rules.specs.declared.Rule.{Rule}
use Rattle.rules.specs.declared.RuleKind.{RuleKind}
use Rattle.rules.specs.Record.{kind_of, left_of}
use Rattle.rules.specs.Table.{word_at, rule_at, WordsPut, RulePut}

-- A floor of two left names, without a class.
abbrev floor_of : ℕ → ℕ → Rule
floor_of i j = record { kind = 1; count = 2; left = i ∷ j ∷ replicate 6 0; right = 0; class = lowest }

pub kind_of_3_is_a_follow : Some RuleKind.Follow ≡ kind_of 3 → ⊥
kind_of_3_is_a_follow e = let f : Some RuleKind.Follow ≡ None = e in let z : ◌≡◌ {A = ℕ} 0 1 = cc in omega arith

pub rule_at_swaps_two_left_names : floor_of 1 0 ≡ rule_at (1 ∷ 2 ∷ 0 ∷ 1 ∷ replicate 9 0) 0 → ⊥
unfolding rule_at word_at
rule_at_swaps_two_left_names e = let z : ◌≡◌ {A = ℕ} 1 0 = ap (λ (x : Rule). get_or x.left 0 0) e in omega arith

-- The labels have levels 2 and 1.
pub left_join_is_the_last_left_label : class_of 1 0 ≡ join_over classes (left_of (floor_of 0 1)) (labels_in (2 ∷ 1 ∷ []) (0 ∷ 0 ∷ [])) → ⊥
unfolding joined
left_join_is_the_last_left_label e = let z : ◌≡◌ {A = ℕ} 1 2 = ap (λ (c : Class). c.level) e in omega arith

-- Two words put into a table of one.
pub put_words_writes_without_room : WordsPut (7 ∷ 8 ∷ []) 0 (0 ∷ []) false (7 ∷ []) → ⊥
put_words_writes_without_room x = let z : ◌≡◌ {A = ℕ} 7 0 = ap (λ (l : List ℕ). get_or l 0 0) x.table in omega arith

pub put_words_says_yes_without_room : (d : List ℕ) → WordsPut (7 ∷ 8 ∷ []) 0 (0 ∷ []) true d → ⊥
put_words_says_yes_without_room d x = true≢false x.told

-- A rule put into a table of twelve words.
pub put_rule_writes_without_room : RulePut (floor_of 0 1) 0 (replicate 12 0) false (1 ∷ replicate 11 0) → ⊥
put_rule_writes_without_room x = let z : ◌≡◌ {A = ℕ} 1 0 = ap (λ (l : List ℕ). get_or l 0 0) x.table in omega arith

pub put_rule_says_yes_without_room : (d : List ℕ) → RulePut (floor_of 0 1) 0 (replicate 12 0) true d → ⊥
put_rule_says_yes_without_room d x = true≢false x.told
