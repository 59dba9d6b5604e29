-- How a text grows by puts one behind the other: one piece, and two texts in a row, which are one; where the first has no room, neither have both. They rest on
-- the laws of what a put leaves in a buffer.
-- Assumes nothing.
use mathlib.Core.Path.{◌≡◌, refl, sym, ◌∙◌}
use mathlib.Core.List.{List, ◌++◌}
use Prim.Native.Nat.{ℕ, ◌+◌, ◌≤◌, ◌<◌}
use native.Mathlib.Decide.{dec_le}
use native.Mathlib.Nat.{zero-add}
use native.Mathlib.Omega.{arith}
use lib.ListN.{length, take, length-append}
use lib.Seq.{length-take-le}
use Rattle.std.specs.Prelude.{Option, Some, None, IsSome}
use Rattle.laws.specs.Over.{over}
use Rattle.laws.proofs.Over.{over_length, over_over, take_over}
use Rattle.puts.specs.Writing.{Put}
use Rattle.puts.specs.InnerGrowing.{Grown, whole, full, Front}
use Rattle.puts.proofs.Placed.{put_buffer, put_next, put_untouched, put_full}

grown_there : {d : List ℕ} {at : ℕ} {x d' : List ℕ} {r : ℕ} → at + length x ≤ length d → d' ≡ over d at x → r ≡ at + length x → Grown d at x d' (Some r)
grown_there h e f = rw (e, f) (whole h)

-- One piece.
pub put_grown : {d : List ℕ} {at : ℕ} {x d' : List ℕ} {r : Option ℕ} → Put d at x d' r → Grown d at x d' r
put_grown {d} {at} {x} {d'} {r} p = by (dec_le (at + length x) (length d))
  where
    by : Dec (at + length x ≤ length d) → Grown d at x d' r
    by (yes h) = rw (put_buffer p h, put_next p h) (whole h)
    by (no h) =
        let past : length d < at + length x = omega arith in
        rw (put_untouched p past, put_full p past) (full refl past)

-- Two texts in a row are one, and where the first has no room there is none for both.
pub grown_grown : {d : List ℕ} {at : ℕ} {x d₁ : List ℕ} {r₁ : ℕ} {y d₂ : List ℕ} {r₂ : Option ℕ} → Grown d at x d₁ (Some r₁) → Grown d₁ r₁ y d₂ r₂
    → Grown d at (x ++ y) d₂ r₂
grown_grown {d} {at} {x} {y = y} (whole h) (whole g) =
    grown_there (omega (arith, length-append x y, over_length d at x h)) (over_over d at x h y) (omega (arith, length-append x y))
grown_grown {d} {at} {x} {y = y} (whole h) (full e g) = full (e ∙ over_length d at x h) (omega (arith, length-append x y, over_length d at x h))

pub grown_stops : {d : List ℕ} {at : ℕ} {x : List ℕ} (y : List ℕ) {d' : List ℕ} {r : Option ℕ} → r ≡ None → Grown d at x d' None → Grown d at (x ++ y) d' r
grown_stops {x = x} y none (full e h) = rw none (full e (omega (arith, length-append x y)))

-- The same where what is put next is one piece, and where the first piece had no room.
pub grown_put : {d : List ℕ} {at : ℕ} {x d₁ : List ℕ} {r₁ : ℕ} {y d₂ : List ℕ} {r₂ : Option ℕ} → Grown d at x d₁ (Some r₁) → Put d₁ r₁ y d₂ r₂
    → Grown d at (x ++ y) d₂ r₂
grown_put p q = grown_grown p (put_grown q)

pub put_stops : {d : List ℕ} {at : ℕ} {x : List ℕ} (y : List ℕ) {d' : List ℕ} {r : Option ℕ} → r ≡ None → Put d at x d' None → Grown d at (x ++ y) d' r
put_stops y none p = grown_stops y none (put_grown p)

pub grown_sized : {d : List ℕ} {at : ℕ} {x d' : List ℕ} {r : Option ℕ} → Grown d at x d' r → length d' ≡ length d
grown_sized {d} {at} {x} (whole h) = over_length d at x h
grown_sized (full e h) = e

-- A text from the front of a buffer on stands there, or has no room in the buffer.
pub grown_front : {e x d : List ℕ} {r : ℕ} → Grown e 0 x d (Some r) → Front x d r
grown_front {e} {x} (whole h) = record {
  within = omega (arith, over_length e 0 x h);
  len = zero-add (length x);
  text = take_over e 0 x h;
}

pub grown_over : {e x d : List ℕ} → Grown e 0 x d None → length e < length x
grown_over (full s h) = omega arith

pub grown_some : {e x d : List ℕ} {r : Option ℕ} → Grown e 0 x d r → length x ≤ length e → IsSome r
grown_some (whole h) room = refl
grown_some (full s h) room = absurd (omega arith)

-- A part of a buffer that is a text at its front is as long as that.
pub front_counted : {x d : List ℕ} {r : ℕ} → Front x d r → r ≡ length (take r d)
front_counted {d = d} {r = r} f = sym (length-take-le r d f.within)
