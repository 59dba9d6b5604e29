-- Every answer has at most 32,768 bytes: a buffer of so many has room for it, and the length that is answered is within the buffer; and the place of each refusal
-- is printed whole. It rests on the lengths of the lines, and on where reading refuses.
-- Assumes nothing.
use mathlib.Core.Path.{◌≡◌, refl, sym, ◌∙◌}
use mathlib.Core.List.{List, [], ◌∷◌, ◌++◌}
use Prim.Native.Nat.{ℕ, ◌+◌, ◌≤◌}
use native.Mathlib.Omega.{arith}
use lib.ListN.{length, length-append}
use Rattle.std.specs.Prelude.{Result, Ok}
use Rattle.laws.proofs.Over.{over_length}
use Rattle.refusals.specs.Numbers.{fault_number}
use Rattle.refusals.specs.Sizes.{most_text}
use Rattle.refusals.specs.Said.{Said, success}
use Rattle.refusals.specs.declared.Refusal.{Refusal}
use Rattle.items.specs.Table.{ItemsOk}
use Rattle.rules.specs.declared.Head.{Head}
use Rattle.scans.specs.Ascii.{lf}
use Rattle.keys.specs.Keys.{key_text, refused_key, at_key}
use Rattle.keys.specs.declared.Key.{Key}
use Rattle.tokens.specs.Numbers.{decimal_len}
use Rattle.tokens.specs.Tokens.{count_text}
use Rattle.tokens.proofs.Values.{digits_length, decimal_most}
use Rattle.reader.proofs.Books.{read_tables}
use Rattle.writer.specs.Writing.{said_written}
use Rattle.writer.proofs.Lengths.{labels_short}
use Rattle.writer.proofs.Unique.{written_told}
use Rattle.answers.specs.Answering.{count_line, refusal_text, BookPrints, unlabelled, labelled, AnswerSays, unread, book, RoutineSays, no_room, written}

line_most : (key : List ℕ) (n : ℕ) → length (count_line key n) ≤ length key + 6
line_most key n =
    omega (
      arith,
      length-append (key ++ count_text n) (lf ∷ []),
      length-append key (count_text n),
      digits_length 10 (decimal_len n) n,
      decimal_most n,
    )

pub refusal_short : (r : Refusal) → length (refusal_text r) ≤ most_text
unfolding refusal_text
refusal_short r =
    omega (
      arith,
      length-append (count_line (key_text Key.Form) 1 ++ count_line refused_key (fault_number r.fault) ++ count_line at_key r.place) (count_line (key_text Key.End) 3),
      length-append (count_line (key_text Key.Form) 1 ++ count_line refused_key (fault_number r.fault)) (count_line at_key r.place),
      length-append (count_line (key_text Key.Form) 1) (count_line refused_key (fault_number r.fault)),
      line_most (key_text Key.Form) 1,
      line_most refused_key (fault_number r.fault),
      line_most at_key r.place,
      line_most (key_text Key.End) 3,
    )

book_short : {h : Head} {t w x : List ℕ} → ItemsOk t h.items → BookPrints h t w x → length x ≤ most_text
book_short items (unlabelled p) = refusal_short _
book_short items (labelled levels marks f) =
    labels_short levels marks items (record { each = λ i s. record { most = (f.labelling.labels i s).level } })

pub answer_short : {l x : List ℕ} → AnswerSays l x → length x ≤ most_text
answer_short (unread e) = refusal_short _
answer_short {l} (book e prints) = book_short (read_tables l e).items prints

-- A buffer of 32,768 bytes has room for every answer, and the length that is answered is within the buffer.
record InBuffer (d : List ℕ) (s : Said) : Type 0 where
  pub len : ℕ
  pub is : s ≡ success 0 (len ∷ [])
  pub within : len ≤ length d

in_buffer : {l out d : List ℕ} {s : Said} → most_text ≤ length out → RoutineSays l out s d → InBuffer d s
in_buffer room (no_room says short) = absurd (omega (arith, answer_short says))
in_buffer {out = out} room (written {x} says fits) = record { len = length x; is = refl; within = omega (arith, over_length out 0 x (omega arith)) }

module _ {l out d : List ℕ} {a : Result ℕ Refusal} (says : RoutineSays l out (said_written a) d) (room : most_text ≤ length out) where
  text : a ≡ Ok (in_buffer room says).len
  text = written_told (in_buffer room says).is

  pub answer_within : {k : ℕ} → a ≡ Ok k → k ≤ length d
  answer_within {k} e = let same = sym text ∙ e in let count : (in_buffer room says).len ≡ k = cc in omega (arith, (in_buffer room says).within)
