-- Wrong answers of `answers`. A text of no bytes is refused with 8 at 1, and that is printed in 28 bytes.
-- Assumes nothing.
use mathlib.Core.Path.{◌≡◌, refl, ap}
use mathlib.Core.List.{List, [], ◌∷◌}
use Prim.Native.Nat.{ℕ}
use native.Mathlib.Omega.{arith}
use lib.ListN.{length, get_or, replicate}
use Rattle.std.specs.Prelude.{Result, Ok, Err}
use Rattle.laws.specs.Over.{over}
use Rattle.refusals.specs.declared.Fault.{Fault}
use Rattle.refusals.specs.declared.Refusal.{Refusal}
use Rattle.tokens.specs.Numbers.{digit, digits_of, decimal_len}
use Rattle.reader.specs.Reading.{read_from}
use Rattle.writer.specs.Writing.{said_written}
use Rattle.answers.specs.Answering.{refusal_text, AnswerSays, unread, RoutineSays, no_room, written}
use Rattle.answers.proofs.Unique.{answer_unique, routine_unique}

abbrev at1 : Refusal
at1 = record { fault = Fault.EndCount; place = 1 }

abbrev text : List ℕ
text = refusal_text at1

size : length text ≡ 28
unfolding refusal_text digits_of decimal_len digit
size = refl

no_bytes : AnswerSays [] text
unfolding read_from
no_bytes = unread {r = at1} refl

-- With room for the whole text, and with room for one byte.
right : RoutineSays [] (replicate 28 0) (said_written (Ok (length text))) (over (replicate 28 0) 0 text)
right = written no_bytes (omega (arith, size))

abbrev without_room : Result ℕ Refusal
without_room = Err (record { fault = Fault.NoRoom; place = 0 })

roomless : RoutineSays [] (0 ∷ []) (said_written without_room) (0 ∷ [])
roomless = no_room no_bytes (omega (arith, size))

pub answer_prints_nothing_of_no_bytes : AnswerSays [] [] → ⊥
answer_prints_nothing_of_no_bytes x = let z : 0 ≡ length text = ap length (answer_unique x no_bytes) in omega (arith, size)

pub answer_answers_text_0 : (d : List ℕ) → RoutineSays [] (replicate 28 0) (said_written (Ok 0)) d → ⊥
answer_answers_text_0 d x = let e = (routine_unique {a = Ok 0} {b = Ok (length text)} x right).answer in let z : 0 ≡ length text = cc in omega (arith, size)

-- What reading refuses is printed, not answered.
pub answer_answers_the_refusal_of_reading : (d : List ℕ) → RoutineSays [] (replicate 28 0) (said_written (Err at1)) d → ⊥
answer_answers_the_refusal_of_reading d x = let e = (routine_unique {a = Err at1} {b = Ok (length text)} x right).answer in let z : ◌≡◌ {A = ℕ} 0 1 = cc in omega arith

pub answer_answers_text_without_room : (n : ℕ) (d : List ℕ) → RoutineSays [] (0 ∷ []) (said_written (Ok n)) d → ⊥
answer_answers_text_without_room n d x = let e = (routine_unique {a = Ok n} {b = without_room} x roomless).answer in let z : ◌≡◌ {A = ℕ} 0 1 = cc in omega arith

pub answer_leaves_a_part_of_the_text : (a : Result ℕ Refusal) → RoutineSays [] (0 ∷ []) (said_written a) (102 ∷ []) → ⊥
answer_leaves_a_part_of_the_text a x = let z : ◌≡◌ {A = ℕ} 102 0 = ap (λ (l : List ℕ). get_or l 0 0) (routine_unique {a = a} {b = without_room} x roomless).buffer in omega arith
