-- Nothing past a count is looked at: rule tables that are equal up to their count are checked alike, and so are labels that are equal up to the items. It rests on that an
-- accepted rule names only items.
-- Assumes nothing.
use mathlib.Core.Path.{◌≡◌, sym, subst}
use mathlib.Core.List.{List}
use Prim.Native.Nat.{ℕ, ◌*◌, ◌≤◌, ◌<◌}
use native.Mathlib.Omega.{arith}
use lib.ListN.{take}
use Rattle.classes.specs.Class.{top_level}
use Rattle.classes.specs.declared.Class.{Class}
use Rattle.meaning.specs.Rules.{Inside}
use Rattle.meaning.specs.Classes.{classes}
use Rattle.meaning.proofs.Same.{met_same}
use Rattle.refusals.specs.Said.{Said}
use Rattle.labels.specs.Labels.{labels_in, LevelInRange, Room}
use Rattle.rules.specs.declared.Head.{Head}
use Rattle.rules.specs.declared.Rule.{Rule}
use Rattle.rules.specs.Record.{meaning_of, book_by}
use Rattle.rules.specs.Table.{rule_words, rule_at}
use Rattle.accepts.specs.Accepted.{TableAccepted}
use Rattle.accepts.proofs.Counted.{rule_same, rules_counted}
use Rattle.accepts.proofs.Inside.{table_inside}
use Rattle.checker.specs.Checking.{RuleMet, CheckSays, bad_table, no_room, bad_label, first_unmet, all_met}
use Rattle.checker.proofs.Alike.{says_alike}

-- "entries past it aren't looked at".
pub check_counted : (h : Head) (t t' : List ℕ) → take (h.rules * rule_words) t ≡ take (h.rules * rule_words) t' → {levels marks : List ℕ} {s : Said}
    → CheckSays (TableAccepted h t) h (rule_at t) levels marks s → CheckSays (TableAccepted h t') h (rule_at t') levels marks s
check_counted h t t' e = says_alike (rule_same h t t' e) (rules_counted h t t' e) (rules_counted h t' t (sym e))

-- Labels of n items that are equal, in lists that are long enough.
pub record SameLabels (n : ℕ) (levels marks levels' marks' : List ℕ) : Type 0 where
  pub room : Room n levels marks
  pub room' : Room n levels' marks'
  pub each : (i : ℕ) → i < n → labels_in levels marks i ≡ labels_in levels' marks' i

turned : {n : ℕ} {levels marks levels' marks' : List ℕ} → SameLabels n levels marks levels' marks' → SameLabels n levels' marks' levels marks
turned s = record { room = s.room'; room' = s.room; each = λ i h. sym (s.each i h) }

level_moved : {n : ℕ} {levels marks levels' marks' : List ℕ} → SameLabels n levels marks levels' marks' → (i : ℕ) → i < n → LevelInRange levels i → LevelInRange levels' i
level_moved s i h x = record { most = subst (λ (c : Class). c.level ≤ top_level) (s.each i h) x.most }

met_moved : {h : Head} {at : ℕ → Rule} {levels marks levels' marks' : List ℕ} → Inside (book_by h at) → SameLabels h.items levels marks levels' marks'
    → (r : ℕ) → r < h.rules → RuleMet at levels marks r → RuleMet at levels' marks' r
met_moved {h} {at} inside s r l x = record { meets = met_same classes h.items (meaning_of (at r)) (inside.inside r l) s.each x.meets }

-- "labels past the last item aren't looked at".
pub labels_counted : {Accepted : Type 0} {h : Head} {at : ℕ → Rule} {levels marks levels' marks' : List ℕ} → (Accepted → Inside (book_by h at))
    → SameLabels h.items levels marks levels' marks' → {s : Said} → CheckSays Accepted h at levels marks s → CheckSays Accepted h at levels' marks' s
labels_counted inside same (bad_table x) = bad_table x
labels_counted inside same (no_room x) = absurd (x.short same.room)
labels_counted inside same (bad_label {i} x) = bad_label (record {
  accepted = x.accepted;
  room = same.room';
  label = record {
    below = x.label.below;
    before = record { each = λ j l. level_moved same j (omega (arith, x.label.below)) (x.label.before.each j l) };
    fails = λ y. x.label.fails (level_moved (turned same) i x.label.below y);
  };
})
labels_counted inside same (first_unmet {r} x) = first_unmet (record {
  accepted = x.accepted;
  room = same.room';
  labels = record { each = λ j l. level_moved same j l (x.labels.each j l) };
  rule = record {
    below = x.rule.below;
    before = record { each = λ j l. met_moved (inside x.accepted) same j (omega (arith, x.rule.below)) (x.rule.before.each j l) };
    fails = λ y. x.rule.fails (met_moved (inside x.accepted) (turned same) r x.rule.below y);
  };
})
labels_counted inside same (all_met x) = all_met (record {
  accepted = x.accepted;
  room = same.room';
  labels = record { each = λ j l. level_moved same j l (x.labels.each j l) };
  rules = record { each = λ r l. met_moved (inside x.accepted) same r l (x.rules.each r l) };
})

pub check_labels_counted : {h : Head} {t levels marks levels' marks' : List ℕ} → SameLabels h.items levels marks levels' marks' → {s : Said}
    → CheckSays (TableAccepted h t) h (rule_at t) levels marks s → CheckSays (TableAccepted h t) h (rule_at t) levels' marks' s
check_labels_counted = labels_counted table_inside
