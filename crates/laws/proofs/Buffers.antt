-- What stands at a place of a buffer: after a put, in a buffer of zeros, and in two buffers with the same front. They rest on the laws of a put.
-- Assumes nothing.
use mathlib.Core.Path.{◌≡◌, refl, sym, ap, ◌∙◌}
use mathlib.Core.List.{List, ◌++◌}
use Prim.Native.Nat.{ℕ, zero, suc, ◌+◌, ◌-◌, ◌≤◌, ◌<◌}
use native.Mathlib.Decide.{dec_lt}
use native.Mathlib.Omega.{arith}
use lib.ListN.{length, get_or, take, drop, replicate, length-take, get_or-append}
use lib.Seq.{length-take-le, get_or-take, get_or-drop, get_or-append-add, drop_at, ext_get_or}
use Rattle.laws.specs.Over.{over}
use Rattle.laws.proofs.Over.{take_over, drop_over}

-- After a put: before the place, in it, and behind what was put.
module _ (d : List ℕ) (at : ℕ) (x : List ℕ) (room : at + length x ≤ length d) where
  pub over_before : (i : ℕ) → i < at → get_or (over d at x) i 0 ≡ get_or d i 0
  over_before i h =
      sym (get_or-take (at + length x) (over d at x) i 0 (omega arith))
      ∙ ap (λ (y : List ℕ). get_or y i 0) (take_over d at x room)
      ∙ get_or-append (take at d) x 0 i (omega (arith, length-take-le at d (omega arith)))
      ∙ get_or-take at d i 0 h

  from : (k : ℕ) → get_or (over d at x) (at + k) 0 ≡ get_or (x ++ drop (at + length x) d) k 0
  from k = sym (get_or-drop at (over d at x) k 0) ∙ ap (λ (y : List ℕ). get_or y k 0) (drop_over d at x room)

  pub over_inside : (k : ℕ) → k < length x → get_or (over d at x) (at + k) 0 ≡ get_or x k 0
  over_inside k h = from k ∙ get_or-append x (drop (at + length x) d) 0 k h

  pub over_behind : (i : ℕ) → at + length x ≤ i → get_or (over d at x) i 0 ≡ get_or d i 0
  over_behind i h =
      ap (λ (j : ℕ). get_or (over d at x) j 0) place
      ∙ from (length x + j)
      ∙ get_or-append-add x (drop (at + length x) d) j 0
      ∙ get_or-drop (at + length x) d j 0
      ∙ ap (λ (j : ℕ). get_or d j 0) back
    where
      j : ℕ
      j = i - (at + length x)

      place : i ≡ at + (length x + j)
      place = omega arith

      back : at + length x + j ≡ i
      back = omega arith

-- A put at the front: what was put, and the rest of the buffer.
module _ (d x : List ℕ) (n : ℕ) (e : length x ≡ n) (room : n ≤ length d) where
  fits : 0 + length x ≤ length d
  fits = omega arith

  whole : n ≡ 0 + length x
  whole = omega arith

  pub front_over : take n (over d 0 x) ≡ x
  front_over = ap (λ (k : ℕ). take k (over d 0 x)) whole ∙ take_over d 0 x fits

  pub behind_over : drop n (over d 0 x) ≡ drop n d
  behind_over =
      ap (drop n) (drop_over d 0 x fits) ∙ drop_at x (drop (0 + length x) d) n e ∙ ap (λ (k : ℕ). drop k d) (sym whole)

pub zeros_at : (n k : ℕ) → get_or {A = ℕ} (replicate n 0) k 0 ≡ 0
zeros_at zero k = refl
zeros_at (suc n) zero = refl
zeros_at (suc n) (suc k) = zeros_at n k

-- Two buffers have the same first n bytes or words.
pub record SameFront (n : ℕ) (a b : List ℕ) : Type 0 where
  pub same : (k : ℕ) → k < n → get_or a k 0 ≡ get_or b k 0

pub same_take : {n : ℕ} {a b : List ℕ} → SameFront n a b → n ≤ length a → n ≤ length b → take n a ≡ take n b
same_take {n} {a} {b} s h g =
    ext_get_or 0 (take n a) (take n b) (length-take-le n a h ∙ sym (length-take-le n b g))
    (λ i l.
    let below : i < n = omega (arith, length-take-le n a h) in
    get_or-take n a i 0 below ∙ s.same i below ∙ sym (get_or-take n b i 0 below))

pub take_same : {n : ℕ} {a b : List ℕ} → take n a ≡ take n b → SameFront n a b
take_same {n} {a} {b} e = record {
  same = λ k h. sym (get_or-take n a k 0 h) ∙ ap (λ (y : List ℕ). get_or y k 0) e ∙ get_or-take n b k 0 h;
}

pub take_room : (n : ℕ) (a b : List ℕ) → take n a ≡ take n b → n ≤ length a → n ≤ length b
take_room n a b e h = omega (arith, length-take-le n a h, ap length e, length-take n b)

-- The next part of the buffer is that of the other.
pub same_more : {n : ℕ} {a b : List ℕ} (x : List ℕ) → SameFront n a b → n + length x ≤ length a
    → ((k : ℕ) → k < length x → get_or x k 0 ≡ get_or b (n + k) 0) → SameFront (n + length x) (over a n x) b
same_more {n} {a} {b} x s h f = record { same = λ k l. go k l (dec_lt k n) }
  where
    go : (k : ℕ) → k < n + length x → Dec (k < n) → get_or (over a n x) k 0 ≡ get_or b k 0
    go k l (yes g) = over_before a n x h k g ∙ s.same k g
    go k l (no g) =
        let e : k ≡ n + (k - n) = omega arith in
        ap (λ (j : ℕ). get_or (over a n x) j 0) e ∙ over_inside a n x h (k - n) (omega arith) ∙ f (k - n) (omega arith)
        ∙ ap (λ (j : ℕ). get_or b j 0) (sym e)
