-- The answer of checking is the only one that its promise allows: of any rules and labels only one thing is said, and different answers say different
-- things.
-- Assumes nothing.
use mathlib.Core.Path.{◌≡◌, refl, ap}
use mathlib.Core.List.{List, [], ◌∷◌}
use Prim.Native.Nat.{ℕ, zero, suc}
use lib.ListN.{get_or}
use Rattle.std.specs.Prelude.{Option, Some, None, Result, Ok, Err}
use Rattle.refusals.specs.declared.Refusal.{Refusal}
use Rattle.laws.proofs.First.{first_not_all, first_unique}
use Rattle.refusals.specs.declared.Fault.{Fault}
use Rattle.refusals.specs.Said.{Said, success, refused, refused_by}
use Rattle.refusals.proofs.Said.{said_injective, refusal_of, refusal_back}
use Rattle.rules.specs.declared.Head.{Head}
use Rattle.rules.specs.declared.Rule.{Rule}
use Rattle.checker.specs.Answer.{said_checked}
use Rattle.checker.specs.Checking.{CheckSays, bad_table, no_room, bad_label, first_unmet, all_met}

-- An answer is found again from what it says.
abbrev checked_of : Said → Result (Option ℕ) Refusal
checked_of (success zero vs) = Ok None
checked_of (success (suc k) vs) = Ok (Some (get_or vs 0 0))
checked_of (refused k p) = Err (refusal_of k p)

checked_back : (a : Result (Option ℕ) Refusal) → checked_of (said_checked a) ≡ a
checked_back (Ok None) = refl
checked_back (Ok (Some r)) = refl
checked_back (Err r) = ap Err (refusal_back r)

module _ {Accepted : Type 0} {h : Head} {at : ℕ → Rule} {levels marks : List ℕ} where
  -- Of any rules and labels only one thing is said.
  pub says_unique : {a b : Said} → CheckSays Accepted h at levels marks a → CheckSays Accepted h at levels marks b → a ≡ b
  says_unique (bad_table x) (bad_table y) = refl
  says_unique (bad_table x) (no_room y) = absurd (x y.accepted)
  says_unique (bad_table x) (bad_label y) = absurd (x y.accepted)
  says_unique (bad_table x) (first_unmet y) = absurd (x y.accepted)
  says_unique (bad_table x) (all_met y) = absurd (x y.accepted)
  says_unique (no_room x) (bad_table y) = absurd (y x.accepted)
  says_unique (no_room x) (no_room y) = refl
  says_unique (no_room x) (bad_label y) = absurd (x.short y.room)
  says_unique (no_room x) (first_unmet y) = absurd (x.short y.room)
  says_unique (no_room x) (all_met y) = absurd (x.short y.room)
  says_unique (bad_label x) (bad_table y) = absurd (y x.accepted)
  says_unique (bad_label x) (no_room y) = absurd (y.short x.room)
  says_unique (bad_label x) (bad_label y) = ap (refused_by Fault.BadLabel) (first_unique x.label y.label)
  says_unique (bad_label x) (first_unmet y) = absurd (first_not_all x.label y.labels)
  says_unique (bad_label x) (all_met y) = absurd (first_not_all x.label y.labels)
  says_unique (first_unmet x) (bad_table y) = absurd (y x.accepted)
  says_unique (first_unmet x) (no_room y) = absurd (y.short x.room)
  says_unique (first_unmet x) (bad_label y) = absurd (first_not_all y.label x.labels)
  says_unique (first_unmet x) (first_unmet y) = ap (λ r. success 1 (r ∷ [])) (first_unique x.rule y.rule)
  says_unique (first_unmet x) (all_met y) = absurd (first_not_all x.rule y.rules)
  says_unique (all_met x) (bad_table y) = absurd (y x.accepted)
  says_unique (all_met x) (no_room y) = absurd (y.short x.room)
  says_unique (all_met x) (bad_label y) = absurd (first_not_all y.label x.labels)
  says_unique (all_met x) (first_unmet y) = absurd (first_not_all y.rule x.rules)
  says_unique (all_met x) (all_met y) = refl

  -- Any two answers that checking allows are equal.
  pub check_unique : {a b : Result (Option ℕ) Refusal} → CheckSays Accepted h at levels marks (said_checked a) → CheckSays Accepted h at levels marks (said_checked b) → a ≡ b
  check_unique x y = said_injective said_checked checked_of checked_back (says_unique x y)
