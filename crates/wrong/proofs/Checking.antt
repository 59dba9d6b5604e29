-- Wrong answers of `checker`.
-- Assumes nothing.
use mathlib.Core.Path.{◌≡◌, refl}
use mathlib.Core.List.{List, [], ◌∷◌, ◌++◌}
use Prim.Native.Nat.{ℕ, ◌≤◌}
use native.Mathlib.Omega.{arith}
use lib.ListN.{replicate}
use Rattle.std.specs.Prelude.{Option, Some, None, Result, Ok, Err}
use Rattle.refusals.specs.declared.Refusal.{Refusal}
use Rattle.classes.specs.Bits.{bit, word}
use Rattle.classes.specs.Class.{joined}
use Rattle.refusals.specs.declared.Fault.{Fault}
use Rattle.refusals.specs.Said.{Said, success, refused}
use Rattle.rules.specs.declared.Head.{Head}
use Rattle.rules.specs.declared.Rule.{Rule}
use Rattle.rules.specs.Record.{meaning_of}
use Rattle.rules.specs.Table.{word_at, rule_at}
use Rattle.accepts.specs.Accepted.{TableAccepted}
use Rattle.checker.specs.Answer.{said_checked}
use Rattle.checker.specs.Checking.{Roomless, BadAt, UnmetAt, AllMet, CheckSays, bad_table, no_room, bad_label, first_unmet, all_met}
use Rattle.checker.specs.List.{list_at, ListAccepted}
use Rattle.wrong.specs.InnerExample.{head}

-- What an answer of each kind tells.
module _ {A : Type 0} {h : Head} {at : ℕ → Rule} {levels marks : List ℕ} where
  said_met : {s : Said} → CheckSays A h at levels marks s → s ≡ success 0 [] → AllMet A h at levels marks
  said_met (bad_table x) e = let z : ◌≡◌ {A = ℕ} 0 1 = cc in absurd (omega arith)
  said_met (no_room x) e = let z : ◌≡◌ {A = ℕ} 0 1 = cc in absurd (omega arith)
  said_met (bad_label x) e = let z : ◌≡◌ {A = ℕ} 0 1 = cc in absurd (omega arith)
  said_met (first_unmet x) e = let z : ◌≡◌ {A = ℕ} 1 0 = cc in absurd (omega arith)
  said_met (all_met x) e = x

  said_unmet : {s : Said} {r : ℕ} → CheckSays A h at levels marks s → s ≡ success 1 (r ∷ []) → UnmetAt A h at levels marks r
  said_unmet (bad_table x) e = let z : ◌≡◌ {A = ℕ} 0 1 = cc in absurd (omega arith)
  said_unmet (no_room x) e = let z : ◌≡◌ {A = ℕ} 0 1 = cc in absurd (omega arith)
  said_unmet (bad_label x) e = let z : ◌≡◌ {A = ℕ} 0 1 = cc in absurd (omega arith)
  said_unmet {r = r} (first_unmet {r = q} x) e = let same : q ≡ r = cc in rw same at x
  said_unmet (all_met x) e = let z : ◌≡◌ {A = ℕ} 0 1 = cc in absurd (omega arith)

  said_no_room : {s : Said} → CheckSays A h at levels marks s → s ≡ refused 11 0 → Roomless A h at levels marks
  said_no_room (bad_table x) e = let z : ◌≡◌ {A = ℕ} 10 11 = cc in absurd (omega arith)
  said_no_room (no_room x) e = x
  said_no_room (bad_label x) e = let z : ◌≡◌ {A = ℕ} 12 11 = cc in absurd (omega arith)
  said_no_room (first_unmet x) e = let z : ◌≡◌ {A = ℕ} 0 1 = cc in absurd (omega arith)
  said_no_room (all_met x) e = let z : ◌≡◌ {A = ℕ} 0 1 = cc in absurd (omega arith)

  said_bad_label : {s : Said} {i : ℕ} → CheckSays A h at levels marks s → s ≡ refused 12 i → BadAt A h at levels marks i
  said_bad_label (bad_table x) e = let z : ◌≡◌ {A = ℕ} 10 12 = cc in absurd (omega arith)
  said_bad_label (no_room x) e = let z : ◌≡◌ {A = ℕ} 11 12 = cc in absurd (omega arith)
  said_bad_label {i = i} (bad_label {i = j} x) e = let same : j ≡ i = cc in rw same at x
  said_bad_label (first_unmet x) e = let z : ◌≡◌ {A = ℕ} 0 1 = cc in absurd (omega arith)
  said_bad_label (all_met x) e = let z : ◌≡◌ {A = ℕ} 0 1 = cc in absurd (omega arith)

-- `check`, of a flat table.
abbrev Says : Head → List ℕ → List ℕ → List ℕ → Result (Option ℕ) Refusal → Type 0
Says h t levels marks a = CheckSays (TableAccepted h t) h (rule_at t) levels marks (said_checked a)

-- Of any table under a head of 1,025 rules, whatever labels are lent.
pub check_answers_no_room_of_a_bad_table
    : (t levels marks : List ℕ) → Says (head 1 1025) t levels marks (Err (record { fault = Fault.NoRoom; place = 0 })) → ⊥
check_answers_no_room_of_a_bad_table t levels marks x = let z : 1025 ≤ 1024 = (said_no_room x refl).accepted.accepted.rules in omega arith

-- Two labels of level 16.
pub check_answers_a_later_bad_label
    : (t marks : List ℕ) → Says (head 2 0) t (16 ∷ 16 ∷ []) marks (Err (record { fault = Fault.BadLabel; place = 1 })) → ⊥
check_answers_a_later_bad_label t marks x = let z : 16 ≤ 15 = ((said_bad_label x refl).label.before.each 0 (omega arith)).most in omega arith

-- A cap of item 0 at level 1, and a label of level 2.
abbrev capped : List ℕ
capped = 0 ∷ 1 ∷ replicate 9 0 ++ 1 ∷ 0 ∷ []

pub check_answers_met_of_a_cap_turned_round : Says (head 1 1) capped (2 ∷ []) (0 ∷ []) (Ok None) → ⊥
unfolding meaning_of rule_at word_at
check_answers_met_of_a_cap_turned_round x = let z : 2 ≤ 1 = ((said_met x refl).rules.each 0 (omega arith)).meets.level in omega arith

-- That cap twice, and neither is met.
pub check_answers_a_later_unmet_rule : Says (head 1 2) (capped ++ capped) (2 ∷ []) (0 ∷ []) (Ok (Some 1)) → ⊥
unfolding meaning_of rule_at word_at
check_answers_a_later_unmet_rule x = let z : 2 ≤ 1 = ((said_unmet x refl).rule.before.each 0 (omega arith)).meets.level in omega arith

-- A floor of items 0 and 1 at 0/3, and labels with mark 0 and mark 1: neither covers it, their join does.
abbrev floored : List ℕ
floored = 1 ∷ 2 ∷ 0 ∷ 1 ∷ replicate 7 0 ++ 0 ∷ 3 ∷ []

pub check_answers_unmet_of_a_floor_that_the_join_covers : Says (head 2 1) floored (0 ∷ 0 ∷ []) (1 ∷ 2 ∷ []) (Ok (Some 0)) → ⊥
unfolding meaning_of rule_at word_at joined word bit
check_answers_unmet_of_a_floor_that_the_join_covers x = (said_unmet x refl).rule.fails (record { meets = record { level = omega arith; marks = λ k l h. h } })

-- `check_list`, of a list that is shorter than its count.
pub check_list_answers_met_of_a_short_list
    : (levels marks : List ℕ) → CheckSays (ListAccepted (head 0 1) []) (head 0 1) (list_at []) levels marks (said_checked (Ok None)) → ⊥
check_list_answers_met_of_a_short_list levels marks x = let z : 1 ≤ 0 = (said_met x refl).accepted.room in omega arith

pub check_list_answers_no_room_of_a_short_list
    : (levels marks : List ℕ)
    → CheckSays (ListAccepted (head 1 1) []) (head 1 1) (list_at []) levels marks (said_checked (Err (record { fault = Fault.NoRoom; place = 0 }))) → ⊥
check_list_answers_no_room_of_a_short_list levels marks x = let z : 1 ≤ 0 = (said_no_room x refl).accepted.room in omega arith

-- `check_array`, of any rules by value, under a head of 1,025 rules.
pub check_array_answers_met_of_1025_rules
    : (rules : List Rule) (levels marks : List ℕ) → CheckSays (ListAccepted (head 0 1025) rules) (head 0 1025) (list_at rules) levels marks (said_checked (Ok None)) → ⊥
check_array_answers_met_of_1025_rules rules levels marks x = let z : 1025 ≤ 1024 = (said_met x refl).accepted.accepted.rules in omega arith
