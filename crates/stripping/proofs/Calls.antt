-- However an export is cut into reads, the calls of `strip` write what is left of the whole export and end with its verdict; and a text that waits for more is short. It
-- rests on the same of the definition.
-- Assumes nothing.
use mathlib.Core.Path.{◌≡◌, refl, sym, ap, subst, ◌∙◌}
use mathlib.Core.Bool.{Bool, true, false, false≢true, cond, ◌&&◌}
use mathlib.Core.List.{List, [], ◌∷◌, ◌++◌}
use Prim.Native.Nat.{ℕ, ◌+◌, ◌≤◌, ◌<◌}
use native.Mathlib.Nat.{zero-add}
use native.Mathlib.Omega.{arith}
use lib.Dec.{ltb, eqb}
use lib.ListN.{length, get_or, take}
use borrow.Author.Tests.{ltb-false}
use Rattle.records.specs.Rows.{most_bytes, most_fields, line_end}
use Rattle.refusals.specs.Numbers.{fault_number}
use Rattle.refusals.specs.Said.{Said, success, refused, refused_by}
use Rattle.refusals.specs.Sizes.{most_text}
use Rattle.refusals.specs.declared.Fault.{Fault}
use Rattle.laws.proofs.Over.{over_length, take_over}
use Rattle.exports.specs.Rows.{Taken, taken}
use Rattle.exports.specs.Text.{stripped_from, Verdict, bad_record}
use Rattle.exports.proofs.Fronts.{AtFront, nothing_yet, bad_first, some_taken, at_front}
use Rattle.exports.proofs.Taking.{taken_within}
use Rattle.exports.proofs.Cuts.{Lastly, after_writing, after_refusing, after_all}
use Rattle.stripping.specs.Stripping.{said_cut, answer_to, made_of, strip_answer, StripSays}
use Rattle.stripping.specs.Calls.{all_of, none_to_come, Calls, writes, reads, done, refuses}
use Rattle.stripping.proofs.Says.{first_bad}
use Rattle.stripping.proofs.Reading.{same_bytes}

-- What an answer says of what was taken.
record TextIs (room n : ℕ) (t : Taken) (u m k : ℕ) : Type 0 where
  good : (eqb (length t.rows) 0 && t.faulty) ≡ false
  fits : n ≤ room
  used : u ≡ t.used
  long : m ≡ n
  count : k ≡ length t.rows

record RefusedIs (number : ℕ) (t : Taken) (place : ℕ) : Type 0 where
  bad : (eqb (length t.rows) 0 && t.faulty) ≡ true
  at : place ≡ number

abbrev AnswerIs : ℕ → ℕ → ℕ → Taken → Said → Type 0
AnswerIs number room n t (success c values) = TextIs room n t (get_or values 0 0) (get_or values 1 0) (get_or values 2 0)
AnswerIs number room n t (refused code place) = code ≡ fault_number Fault.CsvSyntax → RefusedIs number t place

answer_is : (number room n : ℕ) (t : Taken) → AnswerIs number room n t (answer_to number room n t)
answer_is number room n t = by (eqb (length t.rows) 0 && t.faulty) refl (ltb room n) refl
  where
    by : (a : Bool) → (eqb (length t.rows) 0 && t.faulty) ≡ a → (b : Bool) → ltb room n ≡ b
        → AnswerIs number room n t (cond a (refused_by Fault.CsvSyntax number) (cond b (refused_by Fault.NoRoom 0) (said_cut t.used n (length t.rows))))
    by true e b f = λ z. record { bad = e; at = refl }
    by false e true f = λ z. absurd (omega arith)
    by false e false f = record { good = e; fits = ltb-false room n f; used = refl; long = refl; count = refl }

module _ (l : List ℕ) (last : Bool) (kept : List Bool) (number : ℕ) where
  strip_is : (room : ℕ) → AnswerIs number room (length (made_of l last kept)) (taken last (length kept) l) (strip_answer l last kept number room)
  unfolding strip_answer
  strip_is room = by (ltb most_text (length l)) (ltb most_fields (length kept))
    where
      by : (a b : Bool) → AnswerIs number room (length (made_of l last kept)) (taken last (length kept) l)
          (cond a (refused_by Fault.TooLong 0)
          (cond b (refused_by Fault.BadTable 0) (answer_to number room (length (made_of l last kept)) (taken last (length kept) l))))
      by true b = λ z. absurd (omega arith)
      by false true = λ z. absurd (omega arith)
      by false false = answer_is number room (length (made_of l last kept)) (taken last (length kept) l)

says_is : (l : List ℕ) (last : Bool) (kept : List Bool) (number : ℕ) (out : List ℕ) (s : Said) (out' : List ℕ) → StripSays l last kept number out s out'
    → AnswerIs number (length out) (length (made_of l last kept)) (taken last (length kept) l) s
says_is l last kept number out s out' p =
    subst (AnswerIs number (length out) (length (made_of l last kept)) (taken last (length kept) l)) (sym p.answer)
    (strip_is l last kept number (length out))

-- What was written is what was made.
written : (l : List ℕ) (last : Bool) (kept : List Bool) (number : ℕ) (out : List ℕ) {used n k : ℕ} (out' : List ℕ)
    → StripSays l last kept number out (said_cut used n k) out' → take n out' ≡ made_of l last kept
written l last kept number out {used} {n} {k} out' p =
    let is = says_is l last kept number out (said_cut used n k) out' p in
    ap (λ (j : ℕ). take j out') is.long ∙ ap (take (length (made_of l last kept))) p.out_is
    ∙ rw zero-add at (take_over out 0 (made_of l last kept) (omega (arith, is.fits)))

-- No more bytes are taken than the text has, and no more are written than the buffer has.
pub record Inside (l out' : List ℕ) (used n : ℕ) : Type 0 where
  pub taken_in : used ≤ length l
  pub written_in : n ≤ length out'

pub text_inside : (l : List ℕ) (last : Bool) (kept : List Bool) (number : ℕ) (out : List ℕ) {used n k : ℕ} (out' : List ℕ)
    → StripSays l last kept number out (said_cut used n k) out' → Inside l out' used n
text_inside l last kept number out {used} {n} {k} out' p =
    let is = says_is l last kept number out (said_cut used n k) out' p in
    record {
      taken_in = omega (arith, is.used, taken_within last (length kept) l);
      written_in =
          omega (arith, is.long, is.fits, ap length p.out_is ∙ over_length out 0 (made_of l last kept) (omega (arith, is.fits)));
    }

-- A text that is not the last and of which no record is taken waits for more, and is short: no record that waits for its end has over 4,097 bytes.
pub none_waits : {l : List ℕ} {kept : List Bool} {number used n : ℕ} {out out' : List ℕ} → StripSays l false kept number out (said_cut used n 0) out'
    → length l < most_bytes + line_end
none_waits {l} {kept} {number} {used} {n} {out} {out'} p = by (at_front false (length kept) l)
  where
    is : TextIs (length out) (length (made_of l false kept)) (taken false (length kept) l) used n 0
    is = says_is l false kept number out (said_cut used n 0) out' p

    by : AtFront false (length kept) l → length l < most_bytes + line_end
    by (nothing_yet e h) = h
    by (bad_first e) = absurd (false≢true (sym (subst (λ (t : Taken). (eqb (length t.rows) 0 && t.faulty) ≡ false) e is.good)))
    by (some_taken h used) = absurd (omega (arith, is.count))

no_rows : (rows : List (List (List ℕ))) → 0 ≡ length rows → rows ≡ []
no_rows [] e = refl
no_rows (r ∷ rows) e = absurd (omega (arith, e))

-- Behind the last text nothing comes.
lastly : (pieces : List (List ℕ)) → Lastly (none_to_come pieces) (all_of pieces)
unfolding all_of
lastly [] e = refl
lastly (p ∷ ps) e = absurd (false≢true e)

-- "prove that the routine .. computes it, however the input was cut into reads": calls on the pieces of an export write what is left of the whole of it.
pub calls_strip : {kept : List Bool} {number : ℕ} {held : List ℕ} {pieces : List (List ℕ)} {text : List ℕ} {v : Verdict} → Calls kept number held pieces text v
    → stripped_from kept number (held ++ all_of pieces) ≡ record { text = text; verdict = v }
unfolding all_of
calls_strip {kept} {number} {held} {pieces} (writes {text = text} {v} {used} {n} {k} {out} {out'} says some p) =
    subst (λ (x : List ℕ). stripped_from kept number (held ++ all_of pieces) ≡ record { text = x ++ text; verdict = v })
    (sym (written held (none_to_come pieces) kept number out out' says))
    (after_writing kept number held (all_of pieces) (none_to_come pieces) (lastly pieces) (rw (is.count, is.used) at (calls_strip p)))
  where
    is : TextIs (length out) (length (made_of held (none_to_come pieces) kept)) (taken (none_to_come pieces) (length kept) held) used n k
    is = says_is held (none_to_come pieces) kept number out (said_cut used n k) out' says
calls_strip {kept} {number} (reads says read p) = ap (stripped_from kept number) (same_bytes read) ∙ calls_strip p
calls_strip {kept} {number} {held} (done {used = used} {n} {out} {out'} says) =
    after_all kept number held none (sound (taken true (length kept) held).faulty none is.good)
  where
    is : TextIs (length out) (length (made_of held true kept)) (taken true (length kept) held) used n 0
    is = says_is held true kept number out (said_cut used n 0) out' says

    none : (taken true (length kept) held).rows ≡ []
    none = no_rows (taken true (length kept) held).rows is.count

    sound : (b : Bool) → (taken true (length kept) held).rows ≡ [] → (eqb (length (taken true (length kept) held).rows) 0 && b) ≡ false → b ≡ false
    sound b e h = subst (λ (rows : List (List (List ℕ))). (eqb (length rows) 0 && b) ≡ false) e h
calls_strip {kept} {number} {held} {pieces} (refuses {place = place} {out} {out'} says) =
    subst (λ (j : ℕ). stripped_from kept number (held ++ all_of pieces) ≡ record { text = []; verdict = bad_record j }) (sym is.at)
    (after_refusing kept number held (all_of pieces) (none_to_come pieces) (lastly pieces) bad.0 bad.1)
  where
    is : RefusedIs number (taken (none_to_come pieces) (length kept) held) place
    is = says_is held (none_to_come pieces) kept number out (refused_by Fault.CsvSyntax place) out' says refl

    bad : ((taken (none_to_come pieces) (length kept) held).rows ≡ []) × ((taken (none_to_come pieces) (length kept) held).faulty ≡ true)
    bad = first_bad (taken (none_to_come pieces) (length kept) held).rows (taken (none_to_come pieces) (length kept) held).faulty is.bad
