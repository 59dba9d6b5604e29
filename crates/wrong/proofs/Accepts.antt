-- Wrong answers of `accepts`.
-- Assumes nothing.
use mathlib.Core.Path.{refl}
use mathlib.Core.Bool.{true, false}
use mathlib.Core.List.{List, [], ◌∷◌}
use Prim.Native.Nat.{ℕ, ◌≤◌, ◌<◌}
use native.Mathlib.Nat.{not-suc-le-zero}
use native.Mathlib.Omega.{arith}
use lib.ListN.{replicate}
use Rattle.laws.specs.Tells.{Tells}
use Rattle.classes.specs.Class.{class_of, lowest}
use Rattle.rules.specs.Table.{word_at, rule_at}
use Rattle.accepts.specs.Accepted.{RuleAccepted, TableAccepted}
use Rattle.wrong.specs.InnerExample.{head}

-- Of any table.
pub rules_ok_with_1025_rules : (t : List ℕ) → Tells (TableAccepted (head 0 1025) t) true → ⊥
rules_ok_with_1025_rules t x = let z : 1025 ≤ 1024 = (x.holds refl).accepted.rules in omega arith

pub rules_ok_with_257_items : (t : List ℕ) → Tells (TableAccepted (head 257 0) t) true → ⊥
rules_ok_with_257_items t x = let z : 257 ≤ 256 = (x.holds refl).accepted.items in omega arith

-- The empty table of a book without rules.
pub rules_ok_refuses_a_book_without_rules : Tells (TableAccepted (head 1 0) []) false → ⊥
rules_ok_refuses_a_book_without_rules x =
    x.fails refl (record { room = omega arith; accepted = record { items = omega arith; rules = omega arith; each = λ r l. absurd (not-suc-le-zero l) } })

-- A follow of item 0 and then a cap of item 0.
pub rules_ok_of_a_cap_behind_a_follow
    : Tells (TableAccepted (head 1 2) (2 ∷ 1 ∷ replicate 11 0)) true → ⊥
unfolding rule_at word_at
rules_ok_of_a_cap_behind_a_follow x = let z : 2 ≤ 0 = ((x.holds refl).accepted.each 0 (omega arith)).order (omega arith) in omega arith

-- The left names 1 and 1.
pub rule_ok_with_equal_left_names
    : Tells (RuleAccepted 2 (record { kind = 1; count = 2; left = 1 ∷ 1 ∷ replicate 6 0; right = 0; class = lowest })) true → ⊥
rule_ok_with_equal_left_names x = let z : 1 < 1 = ((x.holds refl).left.places 0 (omega arith)).rising (omega arith) in omega arith

pub rule_ok_with_level_16
    : Tells (RuleAccepted 2 (record { kind = 0; count = 1; left = replicate 8 0; right = 0; class = class_of 16 0 })) true → ⊥
rule_ok_with_level_16 x = let z : 16 ≤ 15 = (x.holds refl).level in omega arith
