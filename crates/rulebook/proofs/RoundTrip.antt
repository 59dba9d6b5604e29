-- Reading and writing through the promises of the two routines: what is read passes the table tests and is written as the bytes that were read,
-- where there is room; and what is written reads back. They rest on the two halves and on tables being looked at up to their counts.
-- Assumes nothing.
use mathlib.Core.Path.{◌≡◌, refl, sym, ap, ◌∙◌}
use mathlib.Core.List.{List, [], ◌∷◌}
use Prim.Native.Nat.{ℕ, ◌*◌, ◌≤◌, ◌<◌}
use native.Mathlib.Omega.{arith}
use lib.ListN.{length, get_or, take, drop}
use Rattle.std.specs.Prelude.{Ok}
use Rattle.laws.specs.Over.{over}
use Rattle.laws.proofs.Buffers.{front_over, behind_over}
use Rattle.refusals.specs.Said.{Said, success, refused}
use Rattle.refusals.specs.Sizes.{most_text}
use Rattle.items.specs.Names.{name_room}
use Rattle.rules.specs.Table.{rule_words}
use Rattle.rules.specs.declared.Head.{Head}
use Rattle.accepts.specs.Tables.{Tables, SameTables}
use Rattle.reader.specs.Reading.{said_read, read_text, ReadSays}
use Rattle.reader.proofs.ReadRight.{read_right}
use Rattle.reader.proofs.Books.{accepted, accepted_answer, tables_read, read_passes}
use Rattle.writer.specs.Texts.{book_text}
use Rattle.writer.specs.Writing.{said_written, WriteSays, bad_table, too_long, no_room, written}
use Rattle.rulebook.specs.RoundTrip.{Words, ReadBack, WrittenBack, RoomRefused}
use Rattle.rulebook.proofs.ReadWrite.{read_write}
use Rattle.rulebook.proofs.WriteRead.{Back, write_read}
use Rattle.rulebook.proofs.Counted.{text_counted}

-- A text that was read as a book: what would be written of it is the text.
module _ {l items rules : List ℕ} {h : Head} {items' rules' : List ℕ} (read : ReadSays l items rules (said_read (Ok h)) items' rules') where
  text_read : book_text h items' rules' ≡ l
  text_read =
      text_counted (tables_read read refl) (read_right l (accepted read refl).book) ∙ read_write l (accepted read refl).book

  long : length (book_text h items' rules') ≡ length l
  long = ap length text_read

  -- Read and written, it gives its own bytes where there is room.
  pub read_then_write : {out : List ℕ} {s : Said} {out' : List ℕ} → WriteSays h items' rules' out s out' → length l ≤ length out → WrittenBack l out s out'
  read_then_write (bad_table bad) room = absurd (bad (read_passes read))
  read_then_write (too_long ok n) room = absurd (omega (arith, long, (accepted read refl).short))
  read_then_write (no_room ok n k) room = absurd (omega (arith, long))
  read_then_write {out} (written ok n k) room = record {
    answer = ap (λ (j : ℕ). success 0 (j ∷ [])) long;
    text = ap (λ (x : List ℕ). take (length l) (over out 0 x)) text_read ∙ front_over out l (length l) refl room;
    rest = ap (λ (x : List ℕ). drop (length l) (over out 0 x)) text_read ∙ behind_over out l (length l) refl room;
  }

  -- Where there is no room for it, that is the refusal: room is the only condition.
  pub no_room_only : {out : List ℕ} {s : Said} {out' : List ℕ} → WriteSays h items' rules' out s out' → length out < length l → RoomRefused out s out'
  no_room_only (bad_table bad) none = absurd (bad (read_passes read))
  no_room_only (too_long ok n) none = absurd (omega (arith, long, (accepted read refl).short))
  no_room_only (no_room ok n k) none = record { answer = refl; buffer = refl }
  no_room_only (written ok n k) none = absurd (omega (arith, long))

-- A text that was written, with its length k.
record TextWritten (h : Head) (t w : List ℕ) (k : ℕ) (out' : List ℕ) : Type 0 where
  tables : Tables h t w
  short : length (book_text h t w) ≤ most_text
  text : take k out' ≡ book_text h t w

abbrev WroteSays : Head → List ℕ → List ℕ → Said → List ℕ → Type 0
WroteSays h t w (success c l) out' = TextWritten h t w (get_or l 0 0) out'
WroteSays h t w (refused n p) out' = Unit

wrote_says : {h : Head} {t w out : List ℕ} {s : Said} {out' : List ℕ} → WriteSays h t w out s out' → WroteSays h t w s out'
wrote_says (bad_table bad) = tt
wrote_says (too_long ok n) = tt
wrote_says (no_room ok n k) = tt
wrote_says {h} {t} {w} {out} (written ok n k) =
    record { tables = ok; short = n; text = front_over out (book_text h t w) (length (book_text h t w)) refl k }

-- Tables that the writer accepts read back equal, into tables that have room.
module _ {h : Head} {t w : List ℕ} {k : ℕ} {out' : List ℕ} (wrote : TextWritten h t w k out') (u : Words w) where
  back : Back h t w (read_text (take k out'))
  back = rw wrote.text (write_read wrote.tables u)

  module _ {items rules : List ℕ} {s : Said} {items' rules' : List ℕ} (read : ReadSays (take k out') items rules s items' rules')
      (items_room : h.items * name_room ≤ length items) (rules_room : h.rules * rule_words ≤ length rules) where
    book : s ≡ said_read (Ok h)
    book =
        read.answer
        ∙ ap said_read
        (accepted_answer (record { short = rw wrote.text wrote.short; book = back.answer; items = items_room; rules = rules_room }))

    same : SameTables h (read_text (take k out')).names (read_text (take k out')).words items' rules'
    same = tables_read (rw book at read) refl

    tables_back : ReadBack h t w s items' rules'
    tables_back = record {
      answer = book;
      tables = record { items = sym same.items ∙ back.tables.items; rules = sym same.rules ∙ back.tables.rules };
    }

pub write_then_read : {h : Head} {t w out : List ℕ} {k : ℕ} {out' items rules : List ℕ} {s : Said} {items' rules' : List ℕ}
    → WriteSays h t w out (said_written (Ok k)) out' → Words w → ReadSays (take k out') items rules s items' rules'
    → h.items * name_room ≤ length items → h.rules * rule_words ≤ length rules → ReadBack h t w s items' rules'
write_then_read write u read items_room rules_room = tables_back (wrote_says write) u read items_room rules_room
