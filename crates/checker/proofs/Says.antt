-- Checking, one law for each answer that the code can give.
-- Assumes nothing.
use mathlib.Core.Path.{◌≡◌}
use mathlib.Core.Bool.{Bool, true, false, not}
use mathlib.Core.List.{List}
use Prim.Native.Nat.{ℕ, ◌≤◌, ◌<◌}
use Rattle.std.specs.Prelude.{Option, Some, None, Ok, IfSome, unwrap_or}
use Rattle.laws.specs.Tells.{Tells}
use Rattle.laws.specs.First.{Sought}
use Rattle.laws.proofs.Tells.{told_no, told_yes}
use Rattle.refusals.specs.declared.Fault.{Fault}
use Rattle.refusals.specs.declared.Refusal.{Refusal}
use Rattle.refusals.specs.Said.{Said, refusal_at, said_refusal}
use Rattle.labels.specs.Labels.{LevelInRange, Room}
use Rattle.rules.specs.declared.Head.{Head}
use Rattle.rules.specs.declared.Rule.{Rule}
use Rattle.checker.specs.Answer.{said_checked}
use Rattle.checker.specs.Checking.{RuleMet, CheckSays, bad_table, no_room, bad_label, first_unmet, all_met}
use Rattle.checker.specs.InnerJudging.{TellsUnmet, Judges}
use Rattle.checker.proofs.Meets.{sought_tells}

-- What is answered of accepted rules; `i` is what the search for a bad label tells.
module _ {u : Option ℕ} {h : Head} {levels marks : List ℕ} {b : Bool} (told : Tells (Room h.items levels marks) b) where
  pub judges_no_room : not b ≡ true → {r : Refusal} → r ≡ refusal_at Fault.NoRoom 0 → Judges u h levels marks (said_refusal r)
  judges_no_room short e = rw e (record { says = λ at u_tells. no_room (record { accepted = tt; short = told_no told short }) })

  module _ (enough : not b ≡ false) {i : ℕ} (bad : Sought (LevelInRange levels) h.items i) where
    pub judges_bad_label : i < h.items → {r : Refusal} → r ≡ refusal_at Fault.BadLabel i → Judges u h levels marks (said_refusal r)
    judges_bad_label s e = rw e (record { says = λ at u_tells. bad_label (record { accepted = tt; room = told_yes told enough; label = bad.found s }) })

    pub judges_rules : h.items ≤ i → Judges u h levels marks (said_checked (Ok u))
    judges_rules none = record { says = λ at. go u at }
      where
        go : (v : Option ℕ) (at : ℕ → Rule) → TellsUnmet at levels marks h.rules v → CheckSays (Unit {0}) h at levels marks (said_checked (Ok v))
        go None at x = all_met (record { accepted = tt; room = told_yes told enough; labels = bad.nowhere none; rules = x })
        go (Some r) at x = first_unmet (record { accepted = tt; room = told_yes told enough; labels = bad.nowhere none; rule = x })

-- What checking answers of rules that are not accepted, and of rules that are.
module _ {Accepted : Type 0} {h : Head} {at : ℕ → Rule} {levels marks : List ℕ} where
  says_accepted : Accepted → {s : Said} → CheckSays (Unit {0}) h at levels marks s → CheckSays Accepted h at levels marks s
  says_accepted a (bad_table x) = absurd (x tt)
  says_accepted a (no_room x) = no_room (record { accepted = a; short = x.short })
  says_accepted a (bad_label x) = bad_label (record { accepted = a; room = x.room; label = x.label })
  says_accepted a (first_unmet x) = first_unmet (record { accepted = a; room = x.room; labels = x.labels; rule = x.rule })
  says_accepted a (all_met x) = all_met (record { accepted = a; room = x.room; labels = x.labels; rules = x.rules })

  pub judges_accepted : Accepted → {s : Said} {u : Option ℕ} → Judges u h levels marks s → TellsUnmet at levels marks h.rules u → CheckSays Accepted h at levels marks s
  judges_accepted a j x = says_accepted a (j.says at x)

  module _ {b : Bool} (told : Tells Accepted b) where
    pub says_bad_table : not b ≡ true → {r : Refusal} → r ≡ refusal_at Fault.BadTable 0 → CheckSays Accepted h at levels marks (said_refusal r)
    says_bad_table bad e = rw e (bad_table (told_no told bad))

    pub says_judged : not b ≡ false → {s : Said} {u : Option ℕ} → Judges u h levels marks s → Sought (RuleMet at levels marks) h.rules (unwrap_or u h.rules)
        → IfSome u (λ r. r < h.rules) → CheckSays Accepted h at levels marks s
    says_judged good j x s = judges_accepted (told_yes told good) j (sought_tells _ x s)
