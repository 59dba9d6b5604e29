-- The promise of solving: for each answer what it says, what is true of the tables, and what the two label buffers then hold.
-- Assumes nothing.
use Rattle.std.specs.Prelude.{◌≡◌, List, [], ◌∷◌, ℕ, ◌≤◌, length, get_or, Result, Ok, Err}
use Rattle.classes.specs.declared.Class.{Class}
use Rattle.refusals.specs.declared.Fault.{Fault}
use Rattle.refusals.specs.declared.Refusal.{Refusal}
use Rattle.refusals.specs.Said.{Said, success, refused_by, said_refusal}
use Rattle.meaning.specs.Labelling.{Wanted}
use Rattle.meaning.specs.Parts.{Refused}
use Rattle.meaning.specs.Classes.{classes, class_parts}
use Rattle.labels.specs.Labels.{labels_in, Room}
use Rattle.rules.specs.declared.Head.{Head}
use Rattle.rules.specs.Table.{book_of}
use Rattle.accepts.specs.Accepted.{TableAccepted}

-- What an answer says: the count of the labels that were written, or a refusal.
abbrev pub said_solved : Result ℕ Refusal → Said
said_solved (Ok k) = success 0 (k ∷ [])
said_solved (Err r) = said_refusal r

-- The lent labels, before and after.
pub record Buffers : Type 0 where
  pub levels : List ℕ
  pub marks : List ℕ

abbrev pub held : List ℕ → List ℕ → Buffers
held levels marks = record { levels = levels; marks = marks }

abbrev pub labels_of : Buffers → ℕ → Class
labels_of b = labels_in b.levels b.marks

-- A list of the same length, equal from n on: written from the front, with the rest left.
pub record RestKept (n : ℕ) (before after : List ℕ) : Type 0 where
  pub sized : length after ≡ length before
  pub rest : (i : ℕ) → n ≤ i → get_or after i 0 ≡ get_or before i 0

-- A success answers the count of the items and writes the wanted labels.
pub record WritesLabels (h : Head) (t : List ℕ) (k : ℕ) (before after : Buffers) : Type 0 where
  pub accepted : TableAccepted h t
  pub room : Room h.items before.levels before.marks
  pub count : k ≡ h.items
  pub wanted : Wanted classes (book_of h t) (labels_of after)
  pub levels : RestKept h.items before.levels after.levels
  pub marks : RestKept h.items before.marks after.marks

pub record RefusesTable (h : Head) (t : List ℕ) (before after : Buffers) : Type 0 where
  pub bad : TableAccepted h t → ⊥
  pub untouched : after ≡ before

pub record RefusesRoom (h : Head) (t : List ℕ) (before after : Buffers) : Type 0 where
  pub accepted : TableAccepted h t
  pub short : Room h.items before.levels before.marks → ⊥
  pub untouched : after ≡ before

pub record RefusesBook (h : Head) (t : List ℕ) (p : ℕ) (before after : Buffers) : Type 0 where
  pub accepted : TableAccepted h t
  pub room : Room h.items before.levels before.marks
  pub unlabelled : Refused class_parts (book_of h t) p
  pub untouched : after ≡ before

-- "Solving: 10, 11, 9", with the place of each refusal, and what the buffers then hold.
pub data SolveSays (h : Head) (t : List ℕ) (before : Buffers) : Said → Buffers → Type 0 where
  bad_table : {after : Buffers} → RefusesTable h t before after → SolveSays h t before (refused_by Fault.BadTable 0) after
  no_room : {after : Buffers} → RefusesRoom h t before after → SolveSays h t before (refused_by Fault.NoRoom 0) after
  has_no_labelling : {p : ℕ} {after : Buffers} → RefusesBook h t p before after → SolveSays h t before (refused_by Fault.NoLabelling p) after
  writes_labels : {k : ℕ} {after : Buffers} → WritesLabels h t k before after → SolveSays h t before (success 0 (k ∷ [])) after
