-- "The labelling program": the text that it prints for a text that it reads, and what the routine that makes it answers.
-- Assumes nothing.
use Rattle.std.specs.Prelude.{◌≡◌, List, [], ◌∷◌, ◌++◌, ℕ, ◌≤◌, ◌<◌, length, Ok, Err}
use Rattle.laws.specs.Over.{over}
use Rattle.meaning.specs.Classes.{classes, class_parts}
use Rattle.meaning.specs.Labelling.{Wanted}
use Rattle.meaning.specs.Parts.{Refused}
use Rattle.refusals.specs.Numbers.{fault_number}
use Rattle.refusals.specs.Said.{Said, success, refused_by}
use Rattle.refusals.specs.declared.Fault.{Fault}
use Rattle.refusals.specs.declared.Refusal.{Refusal}
use Rattle.labels.specs.Labels.{labels_in}
use Rattle.rules.specs.declared.Head.{Head}
use Rattle.rules.specs.Table.{book_of}
use Rattle.scans.specs.Ascii.{lf}
use Rattle.keys.specs.Keys.{key_text, refused_key, at_key}
use Rattle.keys.specs.declared.Key.{Key}
use Rattle.tokens.specs.Tokens.{count_text}
use Rattle.reader.specs.Reading.{read_text, read_whole}
use Rattle.writer.specs.Texts.{labels_text}

-- A line of a key, with its `=`, and a count.
abbrev pub count_line : List ℕ → ℕ → List ℕ
count_line key n = key ++ count_text n ++ lf ∷ []

-- "On a refusal it prints `form=1`, `refused=` with the number, `at=` with the place, and `end=3`."
unfoldable pub refusal_text : Refusal → List ℕ
refusal_text r =
    count_line (key_text Key.Form) 1 ++ count_line refused_key (fault_number r.fault) ++ count_line at_key r.place ++ count_line (key_text Key.End) 3

-- The refusal of a book that has no labelling: 9 at the part.
abbrev pub no_labelling : ℕ → Refusal
no_labelling p = record { fault = Fault.NoLabelling; place = p }

-- What is printed of a book with the item table t and the rule table w: the refusal of the part that is refused, or "`form=1`, one line
-- `label=NAME:CLASS` for each item in book order, and `end=COUNT`" with the wanted labels.
pub data BookPrints (h : Head) (t w : List ℕ) : List ℕ → Type 0 where
  unlabelled : {p : ℕ} → Refused class_parts (book_of h w) p → BookPrints h t w (refusal_text (no_labelling p))
  labelled : (levels marks : List ℕ) → Wanted classes (book_of h w) (labels_in levels marks) → BookPrints h t w (labels_text t h.items levels marks)

-- What is printed for a text: the refusal of reading, or what is printed of the book that was read.
pub data AnswerSays (l : List ℕ) : List ℕ → Type 0 where
  unread : {r : Refusal} → read_whole l ≡ Err r → AnswerSays l (refusal_text r)
  book : {h : Head} {x : List ℕ} → read_whole l ≡ Ok h → BookPrints h (read_text l).names (read_text l).words x → AnswerSays l x

-- The text x that is printed for l is the labelling of the book that l is read as, under the head h: its items with the wanted labels.
pub record PrintsLabels (l x : List ℕ) (h : Head) (levels marks : List ℕ) : Type 0 where
  pub whole : read_whole l ≡ Ok h
  pub wanted : Wanted classes (book_of h (read_text l).words) (labels_in levels marks)
  pub text : x ≡ labels_text (read_text l).names h.items levels marks

-- What is printed is a refusal, or such a labelling.
pub data Printed (l x : List ℕ) : Type 0 where
  refusal : (r : Refusal) → x ≡ refusal_text r → Printed l x
  labelling : (h : Head) (levels marks : List ℕ) → PrintsLabels l x h levels marks → Printed l x

-- The promise of `answer`: what is printed for the text l is at the front of a buffer that held `out`, and its length is answered; 11 at 0 and the buffer as
-- it was where it has no room.
pub data RoutineSays (l out : List ℕ) : Said → List ℕ → Type 0 where
  no_room : {x : List ℕ} → AnswerSays l x → length out < length x → RoutineSays l out (refused_by Fault.NoRoom 0) out
  written : {x : List ℕ} → AnswerSays l x → length x ≤ length out → RoutineSays l out (success 0 (length x ∷ [])) (over out 0 x)
