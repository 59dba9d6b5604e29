-- Any two results that the promise of assigning allows are equal: the answer, and the content of the three buffers.
-- Assumes nothing.
use mathlib.Core.Path.{◌≡◌, refl, sym, ap, ◌∙◌, subst}
use mathlib.Core.List.{List, [], ◌∷◌}
use Prim.Native.Nat.{ℕ}
use native.Mathlib.Omega.{arith}
use Rattle.reader.specs.Lines.{ReadBook}
use Rattle.std.specs.Prelude.{Result, Ok, Err}
use Rattle.refusals.specs.declared.Refusal.{Refusal}
use Rattle.refusals.specs.Said.{Said, success, refused, said_refusal}
use Rattle.refusals.proofs.Said.{said_injective, refusal_of, refusal_back}
use Rattle.rules.specs.declared.Head.{Head}
use Rattle.reader.specs.Reading.{said_read, read_text}
use Rattle.reader.proofs.Unique.{same_head}
use Rattle.solver.proofs.Unique as solving
use Rattle.assign.specs.Assigning.{said_assigned, Lent, lent, items_over, BookSays, short_items, unsolved, solved, AssignSays, unread, read}

-- An answer is known by what it says.
abbrev pub head_of : List ℕ → Head
head_of [] = record { items = 0; rules = 0 }
head_of (n ∷ []) = record { items = n; rules = 0 }
head_of (n ∷ m ∷ l) = record { items = n; rules = m }

abbrev assigned_of : Said → Result Head Refusal
assigned_of (success c l) = Ok (head_of l)
assigned_of (refused n p) = Err (refusal_of n p)

assigned_back : (x : Result Head Refusal) → assigned_of (said_assigned x) ≡ x
assigned_back (Ok h) = refl
assigned_back (Err r) = ap Err (refusal_back r)

pub assigned_told : {x y : Result Head Refusal} → said_assigned x ≡ said_assigned y → x ≡ y
assigned_told e = said_injective said_assigned assigned_of assigned_back e

-- Of one book one thing is said.
module _ {h : Head} {t w : List ℕ} {before : Lent} where
  pub book_unique : {x y : Said} {a b : Lent} → BookSays h t w before x a → BookSays h t w before y b → (x ≡ y) × (a ≡ b)
  book_unique (short_items s) (short_items s') = (refl, refl)
  book_unique (short_items s) (unsolved room y) = absurd (omega arith)
  book_unique (short_items s) (solved room y) = absurd (omega arith)
  book_unique (unsolved room x) (short_items s) = absurd (omega arith)
  book_unique (unsolved room x) (unsolved room' y) = let same = solving.says_unique x y in (same.0, ap (lent before.items) same.1)
  book_unique (unsolved room x) (solved room' y) = let e = (solving.says_unique x y).0 in let z : ◌≡◌ {A = ℕ} 0 1 = cc in absurd (omega arith)
  book_unique (solved room x) (short_items s) = absurd (omega arith)
  book_unique (solved room x) (unsolved room' y) = let e = (solving.says_unique x y).0 in let z : ◌≡◌ {A = ℕ} 0 1 = cc in absurd (omega arith)
  book_unique (solved room x) (solved room' y) = (refl, ap (lent (items_over h t before.items)) (solving.says_unique x y).1)

-- A text is read in one way.
same_refusal : {x : ReadBook} {r s : Refusal} → x ≡ Err r → x ≡ Err s → said_refusal r ≡ said_refusal s
same_refusal e f = ap said_read (sym e ∙ f)

pub says_unique : {l : List ℕ} {before : Lent} {x y : Said} {a b : Lent} → AssignSays l before x a → AssignSays l before y b → (x ≡ y) × (a ≡ b)
says_unique (unread e) (unread f) = (same_refusal e f, refl)
says_unique (unread e) (read f y) = let z : ◌≡◌ {A = ℕ} 0 1 = cc in absurd (omega arith)
says_unique (read e x) (unread f) = let z : ◌≡◌ {A = ℕ} 0 1 = cc in absurd (omega arith)
says_unique {l} {before} (read e x) (read {s = s} {after = after} f y) =
    book_unique x (subst (λ (g : Head). BookSays g (read_text l).names (read_text l).words before s after) (same_head e f) y)

pub assign_unique : {l : List ℕ} {before : Lent} {x y : Result Head Refusal} {a b : Lent} → AssignSays l before (said_assigned x) a → AssignSays l before (said_assigned y) b
    → (x ≡ y) × (a ≡ b)
assign_unique p q = (assigned_told (says_unique p q).0, (says_unique p q).1)
