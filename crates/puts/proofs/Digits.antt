-- Digits written from the last to the first, and a count and a class put by their digits. They rest on the definition of digits, and on the laws of what a put
-- leaves in a buffer.
-- Assumes nothing.
use mathlib.Core.Path.{◌≡◌, refl, sym, ap, ◌∙◌}
use mathlib.Core.Bool.{cond}
use mathlib.Core.List.{List, [], ◌∷◌, ◌++◌, append_assoc}
use Prim.Native.Nat.{ℕ, zero, suc, ◌+◌, ◌-◌, ◌/◌, ◌%◌, ◌≤◌, ◌<◌}
use native.Mathlib.Numerals.{add-one}
use native.Mathlib.Omega.{arith}
use lib.Dec.{leb}
use lib.ListN.{length, set, take, drop, length-append, length-take, length-drop}
use lib.Seq.{append_snoc}
use borrow.Rule.Slice.PartMut.{put_mid}
use Rattle.std.specs.Prelude.{Option, Some, None}
use Rattle.std.proofs.lemmas.List.{drop-set}
use Rattle.laws.specs.Over.{over}
use Rattle.laws.proofs.Over.{over_length, over_over, set_over}
use Rattle.classes.specs.declared.Class.{Class}
use Rattle.scans.specs.Ascii.{slash}
use Rattle.tokens.specs.Numbers.{digit, digits_of, decimal_len, decimal_of}
use Rattle.tokens.specs.Tokens.{count_text, mark_digits, behind_level, class_text}
use Rattle.tokens.proofs.Values.{digits_length}
use Rattle.tokens.proofs.Tokens.{class_length}
use Rattle.puts.specs.Writing.{Put}
use Rattle.puts.proofs.Placed.{EndsAt, ends_at, mid_over, put_there, put_at, put_nowhere}

-- One digit more, before those that are written.
pub digits_more : (base v : ℕ) (d : List ℕ) (i b : ℕ) {x : List ℕ} → digits_of base i v ++ drop i d ≡ x → 0 < i → i ≤ length d → b ≡ digit (v % base)
    → digits_of base (i - 1) (v / base) ++ drop (i - 1) (set d (i - 1) b) ≡ x
unfolding digits_of
digits_more base v d zero b f h g e = absurd (omega arith)
digits_more base v d (suc i) b f h g e =
    let same : suc i - 1 ≡ i = omega arith in
    rw (same, e)
    (ap (λ (l : List ℕ). digits_of base i (v / base) ++ l) (drop-set d i (digit (v % base)) (omega arith))
    ∙ sym (append_assoc (digits_of base i (v / base)) (digit (v % base) ∷ []) (drop (i + 1) d))
    ∙ rw add-one f)

-- All digits are written.
pub digits_done : (base v : ℕ) (d : List ℕ) (i : ℕ) {x : List ℕ} → digits_of base i v ++ drop i d ≡ x → i ≤ 0 → d ≡ x
unfolding digits_of
digits_done base v d zero f h = f
digits_done base v d (suc i) f h = absurd (omega arith)

-- The part of a buffer from a place on that is as long as it should be.
part_length : (d : List ℕ) (at j k : ℕ) → at + k ≤ length d → j ≡ k → length (take j (drop at d)) ≡ k
part_length d at j k room e = omega (arith, length-take j (drop at d), length-drop at d)

-- A count put by its digits.
long_count : (n : ℕ) {k : ℕ} → k ≡ decimal_len n → length (count_text n) ≡ k
long_count n len = digits_length 10 (decimal_len n) n ∙ sym len

module _ (n : ℕ) {k : ℕ} (len : k ≡ decimal_len n) where
  pub count_nowhere : {d : List ℕ} {at : ℕ} {r : Option ℕ} → r ≡ None → None ≡ cond (leb (at + k) (length d)) (Some (at + k)) None → Put d at (count_text n) d r
  count_nowhere none e = rw none (put_nowhere e (long_count n len))

  pub count_there : {d : List ℕ} {at end : ℕ} {y : List ℕ} → Some end ≡ cond (leb (at + k) (length d)) (Some (at + k)) None
      → y ≡ digits_of 10 (length (take (end - at) (drop at d))) n → Put d at (count_text n) (put_mid at (end - at) d y) (Some end)
  count_there {d} {at} {end} e f =
      let ends : EndsAt d at k end = ends_at e in
      put_at e (f ∙ rw (part_length d at (end - at) k ends.room (omega (arith, ends.place)), len) refl) (long_count n len)

-- A class put by the digits of its level, a slash, and the digits of its marks.
class_size : (c : Class) {k : ℕ} → k ≡ decimal_len c.level → length (class_text c) ≡ k + behind_level
class_size c len = omega (arith, class_length c, len)

pub class_nowhere : (c : Class) {k : ℕ} → k ≡ decimal_len c.level → {d : List ℕ} {at : ℕ} {r : Option ℕ} → r ≡ None
    → None ≡ cond (leb (at + (k + behind_level)) (length d)) (Some (at + (k + behind_level))) None → Put d at (class_text c) d r
class_nowhere c len none e = rw none (put_nowhere e (class_size c len))

abbrev slashed : List ℕ → ℕ → ℕ → List ℕ → List ℕ
slashed d at k y = set (put_mid at (at + k - at) d y) (at + k) slash

pub class_there : (c : Class) {k : ℕ} → k ≡ decimal_len c.level → {d : List ℕ} {at end : ℕ}
    → Some end ≡ cond (leb (at + (k + behind_level)) (length d)) (Some (at + (k + behind_level))) None → {y : List ℕ}
    → y ≡ digits_of 10 (length (take (at + k - at) (drop at d))) c.level → {z : List ℕ}
    → z ≡ digits_of 16 (length (take (end - (at + k + 1)) (drop (at + k + 1) (slashed d at k y)))) c.marks
    → Put d at (class_text c) (put_mid (at + k + 1) (end - (at + k + 1)) (slashed d at k y) z) (Some end)
class_there c {k} len {d} {at} {end} e {y} level {z} marks =
    put_there (omega (arith, class_size c len, ends.room)) buffer (omega (arith, class_size c len, ends.place))
  where
    ends : EndsAt d at (k + behind_level) end
    ends = ends_at e

    x : List ℕ
    x = decimal_of c.level

    long : length x ≡ k
    long = digits_length 10 (decimal_len c.level) c.level ∙ sym len

    level_is : y ≡ x
    level_is = level ∙ rw (part_length d at (at + k - at) k (omega (arith, ends.room)) (omega arith), len) refl

    level_there : put_mid at (at + k - at) d y ≡ over d at x
    level_there = mid_over d at (at + k - at) level_is (omega (arith, long))

    place : at + k ≡ at + length x
    place = omega (arith, long)

    level_room : at + length x ≤ length d
    level_room = omega (arith, ends.room, long)

    slash_there : slashed d at k y ≡ over d at (x ++ (slash ∷ []))
    slash_there =
        rw (level_there, place)
        (set_over (over d at x) (at + length x) slash (omega (arith, over_length d at x level_room, ends.room, long))
        ∙ over_over d at x level_room (slash ∷ []))

    after : at + k + 1 ≡ at + length (x ++ (slash ∷ []))
    after = omega (arith, place, length-append x (slash ∷ []))

    room : at + length (x ++ (slash ∷ [])) ≤ length d
    room = omega (arith, after, ends.room)

    kept : length (slashed d at k y) ≡ length d
    kept = ap length slash_there ∙ over_length d at (x ++ (slash ∷ [])) room

    marks_are : z ≡ digits_of 16 mark_digits c.marks
    marks_are =
        marks
        ∙ ap (λ (j : ℕ). digits_of 16 j c.marks)
        (part_length (slashed d at k y) (at + k + 1) (end - (at + k + 1)) mark_digits (omega (arith, ends.room, kept)) (omega (arith, ends.place)))

    buffer : put_mid (at + k + 1) (end - (at + k + 1)) (slashed d at k y) z ≡ over d at (class_text c)
    buffer =
        mid_over (slashed d at k y) (at + k + 1) (end - (at + k + 1)) marks_are (omega (arith, digits_length 16 mark_digits c.marks, ends.place))
        ∙ rw (slash_there, after) (over_over d at (x ++ (slash ∷ [])) room (digits_of 16 mark_digits c.marks))
        ∙ ap (over d at) (append_snoc x slash (digits_of 16 mark_digits c.marks))
