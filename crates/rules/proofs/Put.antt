-- Words put into a table, and what it holds after one more rule: the rule that was put, and the rules before it as they were. They rest on the laws of a put.
-- Assumes nothing.
use mathlib.Core.Path.{◌≡◌, refl, sym, ◌∙◌}
use mathlib.Core.Bool.{Bool, true}
use mathlib.Core.List.{List, [], ◌∷◌}
use Prim.Native.Nat.{ℕ, zero, suc, ◌+◌, ◌-◌, ◌*◌, ◌≤◌, ◌<◌}
use native.Mathlib.Omega.{arith}
use lib.ListN.{length, get_or}
use lib.Seq.{ext_get_or}
use borrow.Rule.Slice.PartMut.{put_mid}
use borrow.Author.Tests.{le-leb}
use Rattle.refusals.specs.Sizes.{most_left}
use Rattle.laws.specs.Over.{over}
use Rattle.laws.proofs.Over.{over_length}
use Rattle.laws.proofs.Buffers.{over_before, over_inside}
use Rattle.std.proofs.lemmas.Slice.{put_mid-paste}
use Rattle.rules.specs.declared.Rule.{Rule}
use Rattle.rules.specs.Table.{rule_words, word_at, rule_at, words_of, WordsPut}
use Rattle.rules.proofs.Words.{rule_by_words}

-- There is room: the words are copied.
pub words_put : {x : List ℕ} {at k : ℕ} {d y : List ℕ} → at ≤ length d → length x ≤ length d - at → k ≡ length x → y ≡ x → WordsPut x at d true (put_mid at k d y)
unfolding over
words_put {x} {at} {k} {d} {y} h g e s = record {
  told = rw (le-leb (at + length x) (length d) (omega arith));
  table = put_mid-paste at k d y x (length x) s (sym e) refl;
}

-- A put has one result: the answer, and the table.
pub record SamePut (a b : Bool) (d e : List ℕ) : Type 0 where
  pub answer : a ≡ b
  pub table : d ≡ e

pub words_put_unique : {x : List ℕ} {at : ℕ} {d : List ℕ} {a b : Bool} {d₁ d₂ : List ℕ} → WordsPut x at d a d₁ → WordsPut x at d b d₂ → SamePut a b d₁ d₂
words_put_unique p q =
    let same = p.told ∙ sym q.told in
    record { answer = same; table = p.table ∙ rw same (sym q.table) }

-- Where there is room, words are put.
pub put_told : {x : List ℕ} {at : ℕ} {d : List ℕ} {b : Bool} {d' : List ℕ} → WordsPut x at d b d' → at + length x ≤ length d → d' ≡ over d at x
put_told {x} {at} {d} p h = rw (p.told, le-leb (at + length x) (length d) h) at p.table

-- Eight numbers are the numbers at their places.
eight : (l : List ℕ) → length l ≡ most_left
    → l ≡ get_or l 0 0 ∷ get_or l 1 0 ∷ get_or l 2 0 ∷ get_or l 3 0 ∷ get_or l 4 0 ∷ get_or l 5 0 ∷ get_or l 6 0 ∷ get_or l 7 0 ∷ []
eight l e = ext_get_or 0 l _ e (λ i h. go i (omega (arith, h)))
  where
    go : (i : ℕ) → i < most_left
        → get_or l i 0 ≡ get_or (get_or l 0 0 ∷ get_or l 1 0 ∷ get_or l 2 0 ∷ get_or l 3 0 ∷ get_or l 4 0 ∷ get_or l 5 0 ∷ get_or l 6 0 ∷ get_or l 7 0 ∷ []) i 0
    go zero h = refl
    go (suc zero) h = refl
    go (suc (suc zero)) h = refl
    go (suc (suc (suc zero))) h = refl
    go (suc (suc (suc (suc zero)))) h = refl
    go (suc (suc (suc (suc (suc zero))))) h = refl
    go (suc (suc (suc (suc (suc (suc zero)))))) h = refl
    go (suc (suc (suc (suc (suc (suc (suc zero))))))) h = refl
    go (suc (suc (suc (suc (suc (suc (suc (suc i)))))))) h = absurd (omega arith)

-- One more rule: its words are put behind r rules.
module _ (w : List ℕ) (r : ℕ) (x : Rule) (room : r * rule_words + rule_words ≤ length w) where
  abbrev pub ruled : List ℕ
  ruled = over w (r * rule_words) (words_of x)

  pub ruled_length : length ruled ≡ length w
  ruled_length = over_length w (r * rule_words) (words_of x) room

  word_here : (k : ℕ) → k < rule_words → word_at ruled r k ≡ get_or (words_of x) k 0
  unfolding word_at
  word_here k h = over_inside w (r * rule_words) (words_of x) room k h

  word_before : (q : ℕ) → q < r → (k : ℕ) → k < rule_words → word_at ruled q k ≡ word_at w q k
  unfolding word_at
  word_before q h k l = over_before w (r * rule_words) (words_of x) room (q * rule_words + k) (omega arith)

  pub ruled_here : length x.left ≡ most_left → rule_at ruled r ≡ x
  unfolding rule_at
  ruled_here e =
      rw (
        word_here 0 (omega arith),
        word_here 1 (omega arith),
        word_here 2 (omega arith),
        word_here 3 (omega arith),
        word_here 4 (omega arith),
        word_here 5 (omega arith),
        word_here 6 (omega arith),
        word_here 7 (omega arith),
        word_here 8 (omega arith),
        word_here 9 (omega arith),
        word_here 10 (omega arith),
        word_here 11 (omega arith),
        word_here 12 (omega arith),
        ← eight x.left e,
      )

  pub ruled_before : (q : ℕ) → q < r → rule_at ruled q ≡ rule_at w q
  ruled_before q h = rule_by_words ruled w q (word_before q h)
