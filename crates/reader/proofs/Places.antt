-- Where a refusal of reading is: at a line that is at most two past the bytes of the text, so that a place has at most five digits. It rests on what each line
-- does, by induction over the lines.
-- Assumes nothing.
use mathlib.Core.Path.{◌≡◌, refl, subst}
use mathlib.Core.Bool.{Bool, true, false, cond}
use mathlib.Core.List.{List}
use Prim.Native.Nat.{ℕ, ◌+◌, ◌≤◌}
use native.Mathlib.Omega.{arith}
use lib.Dec.{ltb}
use lib.ListN.{length, drop, length-drop}
use borrow.Author.Tests.{ltb-false}
use Rattle.std.specs.Prelude.{Ok, Err}
use Rattle.refusals.specs.Sizes.{most_text}
use Rattle.refusals.specs.declared.Fault.{Fault}
use Rattle.refusals.specs.declared.Refusal.{Refusal}
use Rattle.lines.specs.Lines.{line_len}
use Rattle.lines.specs.declared.Line.{Line}
use Rattle.lines.proofs.Told.{LineHere}
use Rattle.reader.specs.Lines.{State, start, refused_at, ReadBook}
use Rattle.reader.specs.Reading.{read_text, read_whole}
use Rattle.reader.proofs.LineCases.{Cases, read_says}

-- A refusal is at most n.
abbrev Near : ℕ → ReadBook → Type 0
Near n (Ok h) = Unit
Near n (Err r) = r.place ≤ n

-- The lines that were read and the bytes that are still to be read are at most n.
record Left (n : ℕ) (st : State) (l : List ℕ) : Type 0 where
  most : st.counts.lines + length l ≤ n

left_cases : (n : ℕ) (st : State) (l : List ℕ) → Left n st l → Cases st l (λ next k. Left n next (drop k l)) (λ r. Near (n + 2) r.answer)
left_cases n st l p = record {
  refused = λ f q h. omega (arith, p.most);
  form = λ x h. fewer x h.stands refl;
  item = λ x h. fewer x h.stands refl;
  rule = λ x h. fewer x h.stands refl;
  end = λ x h. tt;
}
  where
    fewer : {next : State} (x : Line) → LineHere l x → next.counts.lines ≡ st.counts.lines + 1 → Left n next (drop (line_len x) l)
    fewer x h e = record { most = omega (arith, p.most, h.some, length-drop (line_len x) l, e) }

read_near : (l : List ℕ) → Near (length l + 2) (read_text l).answer
read_near l = read_says (Left (length l)) (λ r. Near (length l + 2) r.answer) (left_cases (length l)) (length l) start l (record { most = omega arith })

near_more : (m n : ℕ) (r : ReadBook) → m ≤ n → Near m r → Near n r
near_more m n (Ok b) h g = tt
near_more m n (Err r) h g = omega arith

whole_near : (l : List ℕ) (b : Bool) → ltb most_text (length l) ≡ b → Near (most_text + 2) (cond b (refused_at Fault.TooLong 0) (read_text l).answer)
whole_near l true e = omega arith
whole_near l false e = near_more (length l + 2) (most_text + 2) (read_text l).answer (omega (arith, ltb-false most_text (length l) e)) (read_near l)

-- The place of a refusal has at most five digits.
pub place_small : (l : List ℕ) (r : Refusal) → read_whole l ≡ Err r → r.place ≤ most_text + 2
place_small l r e = subst (Near (most_text + 2)) e (whole_near l (ltb most_text (length l)) refl)
