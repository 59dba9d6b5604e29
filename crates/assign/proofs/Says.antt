-- What each function answers, one law for each answer that the code can give. They rest on the promises of reading, solving and putting.
-- Assumes nothing.
use mathlib.Core.Path.{◌≡◌, sym, subst}
use mathlib.Core.List.{List, ◌++◌}
use Prim.Native.Nat.{ℕ, ◌*◌, ◌≤◌, ◌<◌}
use lib.ListN.{length, take, drop}
use lib.Seq.{length-take-le}
use Rattle.reader.specs.Lines.{ReadBook}
use Rattle.std.specs.Prelude.{Result, Ok, Err}
use Rattle.laws.specs.Over.{over}
use Rattle.refusals.specs.declared.Fault.{Fault}
use Rattle.refusals.specs.declared.Refusal.{Refusal}
use Rattle.refusals.specs.Sizes.{most_items, most_rules}
use Rattle.refusals.specs.Said.{Said, refused_by, said_refusal}
use Rattle.items.specs.Names.{name_room}
use Rattle.rules.specs.declared.Head.{Head}
use Rattle.rules.specs.Table.{rule_words}
use Rattle.accepts.specs.Tables.{Tables, SameTables}
use Rattle.accepts.proofs.Counted.{tables_counted}
use Rattle.reader.specs.Reading.{said_read, ReadSays}
use Rattle.reader.proofs.Answers.{front_copied}
use Rattle.reader.proofs.Books.{answer_whole, tables_read, read_tables}
use Rattle.solver.specs.Solving.{said_solved, held, SolveSays}
use Rattle.solver.proofs.Counted.{solve_counted}
use Rattle.assign.specs.Assigning.{said_head, said_assigned, Lent, lent, BookSays, short_items, unsolved, solved, AssignSays, unread, read}

-- Of tables that are equal up to their counts the same is said.
book_moved : {h : Head} {t w t' w' : List ℕ} {before after : Lent} {s : Said} → SameTables h t w t' w' → BookSays h t' w' before s after
    → BookSays h t w before s after
book_moved same (short_items x) = short_items x
book_moved {h} {w = w} {w' = w'} same (unsolved room x) = unsolved room (solve_counted h w' w (sym same.rules) x)
book_moved {h} {t} {w} {w' = w'} {before = before} same (solved {k} {labels} room x) =
    subst (λ (y : List ℕ). BookSays h t w before (said_head h) (lent (over before.items 0 y) labels)) same.items
    (solved room (solve_counted h w' w (sym same.rules) x))

-- The answers to a book whose tables are right.
module _ {h : Head} {names rules items levels marks : List ℕ} where
  pub says_short : length items < h.items * name_room
      → BookSays h names rules (lent items (held levels marks)) (refused_by Fault.NoRoom 0) (lent items (held levels marks))
  says_short s = short_items s

  module _ (tables : Tables h names rules) {answer : Result ℕ Refusal} {levels' marks' : List ℕ}
      (says : SolveSays h rules (held levels marks) (said_solved answer) (held levels' marks')) (room : h.items * name_room ≤ length items) where
    pub says_refused : {r : Refusal} → answer ≡ Err r
        → BookSays h names rules (lent items (held levels marks)) (said_refusal r) (lent items (held levels' marks'))
    says_refused e = unsolved room (subst (λ (x : Result ℕ Refusal). SolveSays h rules (held levels marks) (said_solved x) (held levels' marks')) e says)

    pub says_labelled : {k : ℕ} → answer ≡ Ok k → {x : List ℕ} → x ≡ take (h.items * name_room) names
        → BookSays h names rules (lent items (held levels marks)) (said_assigned (Ok h)) (lent (x ++ drop (h.items * name_room) items) (held levels' marks'))
    says_labelled e {x} same =
        subst (λ (y : List ℕ). BookSays h names rules (lent items (held levels marks)) (said_assigned (Ok h)) (lent y (held levels' marks')))
        (sym (front_copied items (h.items * name_room) same (length-take-le (h.items * name_room) names tables.items.room)))
        (solved room (subst (λ (x : Result ℕ Refusal). SolveSays h rules (held levels marks) (said_solved x) (held levels' marks')) e says))

-- The answers to a text that was read into tables with room for every book.
module _ {l names rules : List ℕ} {answer : ReadBook} {names' rules' : List ℕ} (says : ReadSays l names rules (said_read answer) names' rules')
    (bytes : length names ≡ most_items * name_room) (words : length rules ≡ most_rules * rule_words) where
  pub says_unread : {r : Refusal} {before : Lent} → answer ≡ Err r → AssignSays l before (said_refusal r) before
  says_unread e = unread (answer_whole says bytes words e)

  pub says_read : {h : Head} → answer ≡ Ok h → {before after : Lent} {s : Said} → BookSays h names' rules' before s after → AssignSays l before s after
  says_read e x = let whole = answer_whole says bytes words e in read whole (book_moved (tables_read says e) x)

  pub tables_right : {h : Head} → answer ≡ Ok h → Tables h names' rules'
  tables_right e = tables_counted (tables_read says e) (read_tables l (answer_whole says bytes words e))
