-- Wrong answers of `assign`.
-- Assumes nothing.
use mathlib.Core.Path.{◌≡◌, refl, ap}
use mathlib.Core.List.{[], ◌∷◌}
use Prim.Native.Nat.{ℕ}
use native.Mathlib.Omega.{arith}
use lib.ListN.{get_or}
use Rattle.std.specs.Prelude.{Result, Ok, Err}
use Rattle.refusals.specs.declared.Refusal.{Refusal}
use Rattle.refusals.specs.declared.Fault.{Fault}
use Rattle.refusals.specs.Said.{refused}
use Rattle.rules.specs.declared.Head.{Head}
use Rattle.reader.specs.Reading.{read_from}
use Rattle.solver.specs.Solving.{Buffers}
use Rattle.assign.specs.Assigning.{said_assigned, Lent, lent, AssignSays, unread}
use Rattle.assign.proofs.Unique.{says_unique}

-- A text of no bytes is 8 at 1, and the buffers stay as they were.
no_bytes : (before : Lent) → AssignSays [] before (refused 8 1) before
unfolding read_from
no_bytes before = unread {r = record { fault = Fault.EndCount; place = 1 }} refl

pub assign_labels_no_bytes : (h : Head) (before after : Lent) → AssignSays [] before (said_assigned (Ok h)) after → ⊥
assign_labels_no_bytes h before after x = let e = (says_unique x (no_bytes before)).0 in let z : ◌≡◌ {A = ℕ} 0 1 = cc in omega arith

pub assign_refuses_no_bytes_with_9 : (p : ℕ) (before after : Lent)
    → AssignSays [] before (said_assigned (Err (record { fault = Fault.NoLabelling; place = p }))) after → ⊥
assign_refuses_no_bytes_with_9 p before after x = let e = (says_unique x (no_bytes before)).0 in let z : ◌≡◌ {A = ℕ} 9 8 = cc in omega arith

pub assign_writes_items_of_no_bytes : (a : Result Head Refusal) (labels : Buffers) → AssignSays [] (lent (7 ∷ []) labels) (said_assigned a) (lent (0 ∷ []) labels) → ⊥
assign_writes_items_of_no_bytes a labels x =
    let z : ◌≡◌ {A = ℕ} 0 7 = ap (λ (b : Lent). get_or b.items 0 0) (says_unique x (no_bytes (lent (7 ∷ []) labels))).1 in omega arith
