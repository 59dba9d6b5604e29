-- The answer to a text, and what is then in the buffer, are the only ones that the promise allows.
-- Assumes nothing.
use mathlib.Core.Path.{◌≡◌, refl, sym, ap, ◌∙◌, subst}
use mathlib.Core.List.{List, [], ◌∷◌}
use Prim.Native.Nat.{ℕ}
use native.Mathlib.Omega.{arith}
use lib.ListN.{length}
use Rattle.reader.specs.Lines.{ReadBook}
use Rattle.std.specs.Prelude.{Result, Ok, Err}
use Rattle.laws.specs.Over.{over}
use Rattle.meaning.proofs.Demands.{wanted_unique, refused_unique, refused_unlabelled}
use Rattle.refusals.specs.Said.{Said, success}
use Rattle.refusals.specs.declared.Refusal.{Refusal}
use Rattle.rules.specs.declared.Head.{Head}
use Rattle.rules.specs.Table.{book_of}
use Rattle.accepts.specs.Accepted.{TableAccepted}
use Rattle.accepts.proofs.Inside.{table_inside}
use Rattle.reader.specs.Reading.{read_text}
use Rattle.reader.proofs.Unique.{same_head}
use Rattle.reader.proofs.Books.{read_tables}
use Rattle.writer.specs.Writing.{said_written}
use Rattle.writer.proofs.Unique.{Same, written_told}
use Rattle.answers.specs.Answering.{refusal_text, no_labelling, BookPrints, unlabelled, labelled, AnswerSays, unread, book, RoutineSays, no_room, written}
use Rattle.answers.proofs.Told.{labels_text_same}

-- Of a book with an accepted table one text is printed.
book_unique : {h : Head} {t w x y : List ℕ} → TableAccepted h w → BookPrints h t w x → BookPrints h t w y → x ≡ y
book_unique {h} {t} {w} a (unlabelled p) (unlabelled q) = ap (λ (k : ℕ). refusal_text (no_labelling k)) (refused_unique (book_of h w) (table_inside a) p q)
book_unique {h} {t} {w} a (unlabelled p) (labelled levels marks g) = absurd (refused_unlabelled (book_of h w) (table_inside a) p g.labelling)
book_unique {h} {t} {w} a (labelled levels marks f) (unlabelled q) = absurd (refused_unlabelled (book_of h w) (table_inside a) q f.labelling)
book_unique {h} {t} {w} a (labelled levels marks f) (labelled levels' marks' g) =
    labels_text_same t t h.items levels marks levels' marks' (λ i s. refl) (wanted_unique (book_of h w) (table_inside a) f g)

same_refusal : {x : ReadBook} {r s : Refusal} → x ≡ Err r → x ≡ Err s → r ≡ s
same_refusal e f = let same = sym e ∙ f in cc

not_both : {x : ReadBook} {r : Refusal} {h : Head} → x ≡ Err r → x ≡ Ok h → ⊥
not_both e f = let same = sym e ∙ f in let never : ◌≡◌ {A = ℕ} 0 1 = cc in omega arith

-- For each text one text is printed.
pub answer_unique : {l x y : List ℕ} → AnswerSays l x → AnswerSays l y → x ≡ y
answer_unique (unread e) (unread g) = ap refusal_text (same_refusal e g)
answer_unique (unread e) (book g y) = absurd (not_both e g)
answer_unique (book e x) (unread g) = absurd (not_both g e)
answer_unique {l} {y = text} (book e x) (book g y) =
    book_unique (read_tables l e).rules x (subst (λ (k : Head). BookPrints k (read_text l).names (read_text l).words text) (same_head e g) y)

says_unique : {l out : List ℕ} {a b : Said} {d e : List ℕ} → RoutineSays l out a d → RoutineSays l out b e → Same a b d e
says_unique (no_room p h) (no_room q g) = record { answer = refl; buffer = refl }
says_unique (no_room p h) (written q g) = absurd (omega (arith, ap length (answer_unique p q)))
says_unique (written p h) (no_room q g) = absurd (omega (arith, ap length (answer_unique p q)))
says_unique {out = out} (written p h) (written q g) =
    record { answer = ap (λ (x : List ℕ). success 0 (length x ∷ [])) (answer_unique p q); buffer = ap (over out 0) (answer_unique p q) }

-- Any two results that the routine allows are equal: the answer, and the content of the buffer.
pub routine_unique : {l out : List ℕ} {a b : Result ℕ Refusal} {d e : List ℕ} → RoutineSays l out (said_written a) d → RoutineSays l out (said_written b) e → Same a b d e
routine_unique p q = let same = says_unique p q in record { answer = written_told same.answer; buffer = same.buffer }
