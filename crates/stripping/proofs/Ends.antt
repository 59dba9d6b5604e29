-- Calls on the pieces of an export come to an end, whatever the pieces hold: there are a text and a verdict to which they lead. It rests on that each record that is
-- taken has a byte, that what waits for more is short, and that what is written of a text is no longer than the text and a line end.
-- Assumes nothing.
use mathlib.Core.Path.{◌≡◌, refl, ap, subst}
use mathlib.Core.Bool.{Bool, true, false, ◌&&◌}
use mathlib.Core.List.{List, [], ◌∷◌}
use Prim.Native.Nat.{ℕ, zero, suc, ◌+◌, ◌≤◌, ◌<◌}
use native.Mathlib.Omega.{arith}
use lib.Dec.{eqb}
use lib.ListN.{length, drop, replicate, length-replicate, length-drop}
use borrow.Author.Tests.{le-ltb, ne_eqb}
use Rattle.laws.specs.Over.{over}
use Rattle.records.specs.Rows.{most_fields, most_bytes, line_end}
use Rattle.refusals.specs.Said.{Said, refused_by}
use Rattle.refusals.specs.Sizes.{most_text}
use Rattle.refusals.specs.declared.Fault.{Fault}
use Rattle.exports.specs.Rows.{Taken, stopped, taken}
use Rattle.exports.specs.Text.{Verdict, accepted, bad_record}
use Rattle.exports.proofs.Fronts.{AtFront, nothing_yet, bad_first, some_taken, at_front}
use Rattle.exports.proofs.Lengths.{lines_most}
use Rattle.exports.proofs.Taking.{taken_within}
use Rattle.stripping.specs.Stripping.{said_cut, answer_to, made_of, strip_answer, StripSays}
use Rattle.stripping.specs.Calls.{none_to_come, Calls, writes, reads, done, refuses}
use Rattle.stripping.proofs.Reading.{left_to_read, read_fits, read_less, some_read}

-- A buffer that has room for what is made of any text that is held.
abbrev out_room : List ℕ
out_room = replicate (most_text + line_end) 0

-- What it holds after a call that writes.
abbrev after_call : List ℕ → Bool → List Bool → List ℕ
after_call l last kept = over out_room 0 (made_of l last kept)

-- What `strip` answers with this buffer.
module _ (l : List ℕ) (last : Bool) (kept : List Bool) (number : ℕ) (short : length l ≤ most_text) (narrow : length kept ≤ most_fields) where
  answer_is : strip_answer l last kept number (length out_room) ≡ answer_to number (length out_room) (length (made_of l last kept)) (taken last (length kept) l)
  unfolding strip_answer
  answer_is = rw (le-ltb most_text (length l) short, le-ltb most_fields (length kept) narrow)

  enough : length (made_of l last kept) ≤ length out_room
  enough = omega (arith, lines_most last kept l, length-replicate {A = ℕ} (most_text + line_end) 0)

  abbrev said_of : ℕ → Said
  said_of k = said_cut (taken last (length kept) l).used (length (made_of l last kept)) k

  says_bad : taken last (length kept) l ≡ stopped true → StripSays l last kept number out_room (refused_by Fault.CsvSyntax number) out_room
  says_bad e = record { answer = rw (answer_is, e); out_is = refl }

  says_cut : (eqb (length (taken last (length kept) l).rows) 0 && (taken last (length kept) l).faulty) ≡ false
      → StripSays l last kept number out_room (said_of (length (taken last (length kept) l).rows)) (after_call l last kept)
  says_cut e = record { answer = rw (answer_is, e, le-ltb (length out_room) (length (made_of l last kept)) enough); out_is = refl }

  says_none : taken last (length kept) l ≡ stopped false → StripSays l last kept number out_room (said_of 0) (after_call l last kept)
  says_none e =
      subst (λ (k : ℕ). StripSays l last kept number out_room (said_of k) (after_call l last kept)) (ap (λ (t : Taken). length t.rows) e) (says_cut (rw e))

  says_some : 0 < length (taken last (length kept) l).rows
      → StripSays l last kept number out_room (said_of (length (taken last (length kept) l).rows)) (after_call l last kept)
  says_some h = says_cut (rw (ne_eqb (length (taken last (length kept) l).rows) 0 (λ z. omega (arith, z))))

-- A text and a verdict to which calls lead.
abbrev SomeCalls : List Bool → ℕ → List ℕ → List (List ℕ) → Type 0
SomeCalls kept number held pieces = (text : List ℕ) × ((v : Verdict) × Calls kept number held pieces text v)

module _ (kept : List Bool) (narrow : length kept ≤ most_fields) where
  -- How it goes on from a text of which nothing can be taken before more of it is read.
  abbrev Waiting : List (List ℕ) → Type 0
  Waiting pieces =
      (number : ℕ) (held : List ℕ) → length held < most_bytes + line_end → taken (none_to_come pieces) (length kept) held ≡ stopped false → SomeCalls kept number held pieces

  one_call : (pieces : List (List ℕ)) → Waiting pieces → (number : ℕ) (held : List ℕ) → length held ≤ most_text
      → (0 < (taken (none_to_come pieces) (length kept) held).used
      → SomeCalls kept (number + length (taken (none_to_come pieces) (length kept) held).rows) (drop (taken (none_to_come pieces) (length kept) held).used held) pieces)
      → SomeCalls kept number held pieces
  one_call pieces wait number held short on = by (at_front (none_to_come pieces) (length kept) held)
    where
      by : AtFront (none_to_come pieces) (length kept) held → SomeCalls kept number held pieces
      by (nothing_yet e h) = wait number held h e
      by (bad_first e) = ([], (bad_record number, refuses (says_bad held (none_to_come pieces) kept number short narrow e)))
      by (some_taken some used) =
          let rest = on used in (_, (_, writes (says_some held (none_to_come pieces) kept number short narrow some) some rest.1.1))

  -- Records are taken from what is held, of which there are at most f bytes, until it waits.
  all_calls : (pieces : List (List ℕ)) → Waiting pieces → (f number : ℕ) (held : List ℕ) → length held ≤ f → length held ≤ most_text → SomeCalls kept number held pieces
  all_calls pieces wait zero number held few short =
      one_call pieces wait number held short (λ used. absurd (omega (arith, taken_within (none_to_come pieces) (length kept) held)))
  all_calls pieces wait (suc f) number held few short =
      one_call pieces wait number held short
      (λ used.
      let t = taken (none_to_come pieces) (length kept) held in
      let less = length-drop t.used held in
      all_calls pieces wait f (number + length t.rows) (drop t.used held) (omega (arith, less)) (omega (arith, less)))

  -- All calls up to a read; and read after read, of which there are at most f.
  one_read : (pieces : List (List ℕ))
      → ((pieces' : List (List ℕ)) → left_to_read pieces' < left_to_read pieces → (number : ℕ) (held : List ℕ) → length held ≤ most_text → SomeCalls kept number held pieces')
      → (number : ℕ) (held : List ℕ) → length held ≤ most_text → SomeCalls kept number held pieces
  one_read [] on number held short =
      all_calls [] (λ m l h e. ([], (accepted, done (says_none l true kept m (omega arith) narrow e)))) (length held) number held (omega arith) short
  one_read (p ∷ ps) on number held short =
      all_calls (p ∷ ps)
      (λ m l h e.
      let next = some_read l p ps (omega arith) in
      let rest = on next.to_come (read_less (omega arith) next.read) m next.holds (read_fits next.read) in
      (_, (_, reads (says_none l false kept m (omega arith) narrow e) next.read rest.1.1)))
      (length held) number held (omega arith) short

  ends : (f : ℕ) (pieces : List (List ℕ)) → left_to_read pieces ≤ f → (number : ℕ) (held : List ℕ) → length held ≤ most_text → SomeCalls kept number held pieces
  ends zero pieces small = one_read pieces (λ pieces' less. absurd (omega arith))
  ends (suc f) pieces small = one_read pieces (λ pieces' less. ends f pieces' (omega arith))

  -- For every text that is held and all pieces that come behind it the calls end. The derivation is finite, which is what ending means.
  pub calls_end : (number : ℕ) (held : List ℕ) (pieces : List (List ℕ)) → length held ≤ most_text → (text : List ℕ) × ((v : Verdict) × Calls kept number held pieces text v)
  calls_end number held pieces short = ends (left_to_read pieces) pieces (omega arith) number held short
