-- Wrong answers of `reader`.
-- Assumes nothing.
use mathlib.Core.Path.{◌≡◌, ap}
use mathlib.Core.List.{List, [], ◌∷◌, ◌++◌}
use Prim.Native.Nat.{ℕ}
use native.Mathlib.Omega.{arith}
use lib.ListN.{get_or}
use Rattle.std.specs.Prelude.{Ok}
use Rattle.refusals.specs.declared.Fault.{Fault}
use Rattle.refusals.specs.Said.{Said, success, refused}
use Rattle.scans.specs.Bytes.{decimal_byte, run_len}
use Rattle.tokens.specs.Numbers.{digit_value, value_after}
use Rattle.tokens.specs.Tokens.{leading_zero, decimal_of_run}
use Rattle.keys.specs.Keys.{key_text, starts_with, key_at, next_allowed}
use Rattle.keys.specs.declared.Key.{Key}
use Rattle.lines.specs.Values.{form_at}
use Rattle.rules.specs.declared.Head.{Head}
use Rattle.reader.specs.Lines.{refused_at, end_step, line_step, step}
use Rattle.reader.specs.Reading.{said_read, read_from, read_answer, ReadSays}

-- A text of no bytes has no end line: it is 8 at 1.
pub read_answers_a_book_of_no_bytes : (h : Head) (a b c d : List ℕ) → ReadSays [] a b (said_read (Ok h)) c d → ⊥
unfolding read_answer read_from
read_answers_a_book_of_no_bytes h a b c d x =
    let e : said_read (Ok h) ≡ refused 8 1 = x.answer in let z : ◌≡◌ {A = ℕ} 0 1 = cc in omega arith

pub read_answers_syntax_of_no_bytes : (p : ℕ) (a b c d : List ℕ) → ReadSays [] a b (said_read (refused_at Fault.Syntax p)) c d → ⊥
unfolding read_answer read_from
read_answers_syntax_of_no_bytes p a b c d x = let e : refused 2 p ≡ refused 8 1 = x.answer in let z : ◌≡◌ {A = ℕ} 2 8 = cc in omega arith

-- The refusal leaves the items as they were.
pub read_writes_items_of_no_bytes : (s : Said) (b d : List ℕ) → ReadSays [] (7 ∷ []) b s (0 ∷ []) d → ⊥
unfolding read_answer read_from
read_writes_items_of_no_bytes s b d x = let z : ◌≡◌ {A = ℕ} 0 7 = ap (λ (l : List ℕ). get_or l 0 0) x.items_are in omega arith

-- The text "form=1" with its LF: a text with no end line is 8 at the number of its lines plus one.
abbrev formed : List ℕ
formed = key_text Key.Form ++ 49 ∷ 10 ∷ []

pub read_answers_the_last_line_of_a_text_without_end : (a b c d : List ℕ) → ReadSays formed a b (said_read (refused_at Fault.EndCount 1)) c d → ⊥
unfolding read_answer read_from step line_step key_at starts_with next_allowed form_at
read_answers_the_last_line_of_a_text_without_end a b c d x =
    let e : refused 8 1 ≡ refused 8 2 = x.answer in let z : ◌≡◌ {A = ℕ} 1 2 = cc in omega arith

-- A form line and an end line with the count 1, which is a book, and with the count 2, which is 8 at 2.
abbrev ended : ℕ → List ℕ
ended b = key_text Key.Form ++ 49 ∷ 10 ∷ key_text Key.End ++ b ∷ 10 ∷ []

pub read_refuses_an_empty_book : (f : Fault) (p : ℕ) (c d : List ℕ) → ReadSays (ended 49) [] [] (said_read (refused_at f p)) c d → ⊥
unfolding read_answer read_from step line_step end_step key_at starts_with next_allowed form_at decimal_of_run leading_zero run_len decimal_byte value_after digit_value
read_refuses_an_empty_book f p c d x =
    let e : said_read (refused_at f p) ≡ success 0 (0 ∷ 0 ∷ []) = x.answer in let z : ◌≡◌ {A = ℕ} 0 1 = cc in omega arith

pub read_answers_a_book_of_a_wrong_end_count : (h : Head) (a b c d : List ℕ) → ReadSays (ended 50) a b (said_read (Ok h)) c d → ⊥
unfolding read_answer read_from step line_step end_step key_at starts_with next_allowed form_at decimal_of_run leading_zero run_len decimal_byte value_after digit_value
read_answers_a_book_of_a_wrong_end_count h a b c d x =
    let e : said_read (Ok h) ≡ refused 8 2 = x.answer in let z : ◌≡◌ {A = ℕ} 0 1 = cc in omega arith
