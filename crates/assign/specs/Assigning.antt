-- From the text of a rulebook to its items and their labels: what an answer says, and what is then in the lent buffers.
-- Assumes nothing.
use Rattle.std.specs.Prelude.{◌≡◌, List, [], ◌∷◌, ℕ, ◌*◌, ◌≤◌, ◌<◌, length, take, Result, Ok, Err}
use Rattle.laws.specs.Over.{over}
use Rattle.refusals.specs.declared.Fault.{Fault}
use Rattle.refusals.specs.declared.Refusal.{Refusal}
use Rattle.refusals.specs.Said.{Said, success, refused, refused_by, said_refusal}
use Rattle.items.specs.Names.{name_room}
use Rattle.rules.specs.declared.Head.{Head}
use Rattle.reader.specs.Reading.{read_text, read_whole}
use Rattle.solver.specs.Solving.{Buffers, SolveSays}

-- A book's counts of items and of rules, or a refusal.
abbrev pub said_head : Head → Said
said_head h = success 0 (h.items ∷ h.rules ∷ [])

abbrev pub said_assigned : Result Head Refusal → Said
said_assigned (Ok h) = said_head h
said_assigned (Err r) = said_refusal r

-- The lent items and labels, before and after.
pub record Lent : Type 0 where
  pub items : List ℕ
  pub labels : Buffers

abbrev pub lent : List ℕ → Buffers → Lent
lent items labels = record { items = items; labels = labels }

-- "A success writes from the front .. and leaves the rest of the buffer": the names of the book's items, from the item table t.
abbrev pub items_over : Head → List ℕ → List ℕ → List ℕ
items_over h t before = over before 0 (take (h.items * name_room) t)

-- What is said of a book with the item table t and the rule table w, and what the buffers hold then: 11 at 0 where there is no room for the items; else what
-- solving says, and with the labels the items.
pub data BookSays (h : Head) (t w : List ℕ) (before : Lent) : Said → Lent → Type 0 where
  short_items : length before.items < h.items * name_room → BookSays h t w before (refused_by Fault.NoRoom 0) before
  unsolved : {n p : ℕ} {labels : Buffers} → h.items * name_room ≤ length before.items → SolveSays h w before.labels (refused n p) labels →
      BookSays h t w before (refused n p) (lent before.items labels)
  solved : {k : ℕ} {labels : Buffers} → h.items * name_room ≤ length before.items → SolveSays h w before.labels (success 0 (k ∷ [])) labels →
      BookSays h t w before (said_head h) (lent (items_over h t before.items) labels)

-- The promise of `assign`: what reading refuses, or what is said of the book that was read.
pub data AssignSays (l : List ℕ) (before : Lent) : Said → Lent → Type 0 where
  unread : {r : Refusal} → read_whole l ≡ Err r → AssignSays l before (said_refusal r) before
  read : {h : Head} {s : Said} {after : Lent} → read_whole l ≡ Ok h → BookSays h (read_text l).names (read_text l).words before s after →
      AssignSays l before s after
