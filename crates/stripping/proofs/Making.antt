-- What is made in a buffer from a place on: one text behind another, a field with its comma, and the line end over the last comma.
-- Assumes nothing.
use mathlib.Core.Path.{◌≡◌, refl, sym, ap, subst, ◌∙◌}
use mathlib.Core.Bool.{Bool, true, false, not}
use mathlib.Core.List.{List, [], ◌∷◌, ◌++◌}
use Prim.Native.Nat.{ℕ, ◌+◌, ◌-◌, ◌^◌, ◌≤◌, ◌<◌, zero-le}
use native.Mathlib.Nat.{add-zero}
use native.Mathlib.Decide.{dec_lt}
use native.Mathlib.Omega.{arith}
use lib.ListN.{length, take, drop, set, length-append}
use lib.Seq.{take-take, length-take-le, take_at, drop_at, drop-drop}
use mir.Syntax.{w64}
use mir.Val.{Fits}
use borrow.Author.Tests.{lt-ltb, le-ltb}
use Rattle.std.specs.Prelude.{Option, Some, IsSome}
use Rattle.puts.specs.Writing.{Put}
use Rattle.laws.specs.Over.{over}
use Rattle.puts.proofs.Placed.{put_buffer, put_next}
use Rattle.laws.proofs.Over.{over_is, over_none, set_over, over_length, take_over, drop_over, over_over}
use Rattle.scans.specs.Ascii.{comma, cr, lf}
use Rattle.exports.specs.Text.{with_commas}
use Rattle.exports.proofs.Joining.{closed_each, closed_commas}
use Rattle.stripping.specs.Inner.{Made, KeepReady, Keeps, line_place, EndReady, EndsLine}

-- Nothing is made.
pub made_none : (d : List ℕ) (to : ℕ) → to ≤ length d → Made d to [] d
made_none d to h = record { buffer = sym (over_none d to); room = rw add-zero h }

-- The buffer is as long as it was.
pub made_size : {d : List ℕ} {to : ℕ} {x d' : List ℕ} → Made d to x d' → length d' ≡ length d
made_size {d} {to} {x} p = ap length p.buffer ∙ over_length d to x p.room

-- What a put with room makes.
pub put_made : {d : List ℕ} {to : ℕ} {x d' : List ℕ} {r : Option ℕ} → Put d to x d' r → to + length x ≤ length d → Made d to x d'
put_made p h = record { buffer = put_buffer p h; room = h }

-- One text behind another.
pub made_made : {d : List ℕ} {to : ℕ} {x d₁ y d₂ : List ℕ} → Made d to x d₁ → Made d₁ (to + length x) y d₂ → Made d to (x ++ y) d₂
made_made {d} {to} {x} {d₁} {y} {d₂} p q = record {
  buffer = q.buffer ∙ ap (λ (b : List ℕ). over b (to + length x) y) p.buffer ∙ over_over d to x p.room y;
  room = omega (arith, length-append x y, q.room, made_size p);
}

-- A byte that is stored.
pub set_made : (d : List ℕ) (to b : ℕ) → to < length d → Made d to (b ∷ []) (set d to b)
set_made d to b h = record { buffer = set_over d to b h; room = omega arith }

-- A field that is not kept, and one that is kept and put with a comma behind it.
pub keeps_none : (f : List ℕ) (kept : Bool) (d : List ℕ) (to : ℕ) → not kept ≡ true → KeepReady f d to → Keeps f kept d to to d
keeps_none f true d to h ready = let z : ◌≡◌ {A = ℕ} 0 1 = cc in absurd (omega arith)
keeps_none f false d to h ready = record { made = made_none d to (omega (arith, ready.room)); next = sym (add-zero to) }

-- A put that has room answers the place behind it.
put_some : {d : List ℕ} {to : ℕ} {x d' : List ℕ} {o : Option ℕ} → Put d to x d' o → to + length x ≤ length d → IsSome o
put_some p h = rw (put_next p h) refl

put_behind : {d : List ℕ} {to : ℕ} {x d' : List ℕ} {o : Option ℕ} {r : ℕ} → Put d to x d' o → to + length x ≤ length d → o ≡ Some r → r ≡ to + length x
put_behind {to = to} {x = x} {r = r} p h some = let both : ◌≡◌ {A = Option ℕ} (Some r) (Some (to + length x)) = sym some ∙ put_next p h in cc

module _ (f d : List ℕ) (to : ℕ) {x d₁ : List ℕ} {o : Option ℕ} (ready : KeepReady f d to) (e : x ≡ f) (p : Put d to x d₁ o) where
  same : Put d to f d₁ o
  same = subst (λ (y : List ℕ). Put d to y d₁ o) e p

  fits : to + length f ≤ length d
  fits = omega (arith, ready.room)

  pub keep_some : IsSome o
  keep_some = put_some same fits

  module _ {r : ℕ} (some : o ≡ Some r) where
    next : r ≡ to + length f
    next = put_behind same fits some

    size : length d₁ ≡ length d
    size = made_size (put_made same fits)

    -- There is room for the comma.
    pub comma_in : r < length d₁
    comma_in = omega (arith, next, size, ready.room)

    pub comma_fits : length d < 2 ^ 64 → Fits w64 (r + 1)
    comma_fits h = record { fits = omega (arith, next, ready.room) }

    pub keeps_put : (kept : Bool) → not kept ≡ false → Keeps f kept d to (r + 1) (set d₁ r comma)
    keeps_put false h = let z : ◌≡◌ {A = ℕ} 0 1 = cc in absurd (omega arith)
    keeps_put true h = record {
      made = made_made (put_made same fits) (subst (λ (k : ℕ). Made d₁ k (comma ∷ []) (set d₁ r comma)) next (set_made d₁ r comma comma_in));
      next = omega (arith, next, length-append f (comma ∷ []));
    }

-- The line end behind what was made, over the comma behind the last field or at the place itself.
pub over_place : (to n : ℕ) {at : ℕ} → to < n → at ≡ n - 1 → at ≡ line_place to n
over_place to n h e = rw (lt-ltb to n h) e

pub own_place : (to n : ℕ) {at : ℕ} → n ≤ to → at ≡ n → at ≡ line_place to n
own_place to n h e = rw (le-ltb to n h) e

module _ (d : List ℕ) (to n : ℕ) (ready : EndReady d to n) {at : ℕ} (here : at ≡ line_place to n) {d' : List ℕ} {o : Option ℕ} (p : Put d at (cr ∷ lf ∷ []) d' o) where
  end_room : at + 2 ≤ length d
  end_room = by (dec_lt to n)
    where
      by : Dec (to < n) → at + 2 ≤ length d
      by (yes h) = let e : at ≡ n - 1 = rw (lt-ltb to n h) at here in omega (arith, h, ready.over_comma h)
      by (no h) = let e : at ≡ n = rw (le-ltb to n (omega arith)) at here in omega (arith, ready.here (omega arith))

  pub end_some : IsSome o
  end_some = put_some p end_room

  pub ends_line : {r : ℕ} → o ≡ Some r → EndsLine d to n r d'
  ends_line some = record { made = rw here at (put_made p end_room); next = rw here at (put_behind p end_room some) }

-- What is put over a shorter text at the same place leaves nothing of it.
over_again : (d : List ℕ) (at : ℕ) (y z : List ℕ) → length y ≤ length z → at + length z ≤ length d → over (over d at y) at z ≡ over d at z
over_again d at y z h g =
    over_is (over d at y) at z
    ∙ rw (front, rest) (sym (over_is d at z))
  where
    room : at + length y ≤ length d
    room = omega arith

    front : take at (over d at y) ≡ take at d
    front =
        sym (take-take at (at + length y) (over d at y) (omega arith)) ∙ ap (take at) (take_over d at y room)
        ∙ take_at (take at d) y at (length-take-le at d (omega arith))

    rest : drop (at + length z) (over d at y) ≡ drop (at + length z) d
    rest =
        ap (λ (k : ℕ). drop k (over d at y)) far ∙ sym (drop-drop (length z - length y) (at + length y) (over d at y))
        ∙ ap (drop (length z - length y)) behind
        ∙ drop-drop (length z - length y) (at + length y) d ∙ ap (λ (k : ℕ). drop k d) (sym far)
      where
        behind : drop (at + length y) (over d at y) ≡ drop (at + length y) d
        behind =
            sym (drop-drop (length y) at (over d at y)) ∙ ap (drop (length y)) (drop_over d at y room)
            ∙ drop_at y (drop (at + length y) d) (length y) refl

        far : at + length z ≡ at + length y + (length z - length y)
        far = omega arith

-- One text over the end of another that is no longer.
pub made_over : {d : List ℕ} {to : ℕ} (x y : List ℕ) {d₁ z d₂ : List ℕ} → length y ≤ length z → Made d to (x ++ y) d₁
    → Made d₁ (to + length x) z d₂ → Made d to (x ++ z) d₂
made_over {d} {to} x y {d₁} {z} {d₂} h p q = record {
  buffer =
      q.buffer ∙ ap (λ (b : List ℕ). over b (to + length x) z) (p.buffer ∙ sym (over_over d to x first y))
      ∙ over_again (over d to x) (to + length x) y z h (omega (arith, q.room, made_size p, over_length d to x first))
      ∙ over_over d to x first z;
  room = omega (arith, length-append x z, q.room, made_size p);
}
  where
    first : to + length x ≤ length d
    first = omega (arith, p.room, length-append x y)

place_here : (to n : ℕ) → n ≡ to → line_place to n ≡ to
place_here to n e = rw (le-ltb to n (omega (arith, e))) e

place_over : (to k n : ℕ) → n ≡ to + (k + 1) → line_place to n ≡ to + k
place_over to k n e = rw (lt-ltb to n (omega (arith, e))) (omega (arith, e))

-- Joined fields lack the last comma of closed ones.
pub commas_most : (gs : List (List ℕ)) → length (with_commas gs) ≤ length (closed_each gs) - 1
unfolding closed_each with_commas
commas_most [] = zero-le
commas_most (g ∷ gs) = omega (arith, ap length (closed_commas (g ∷ gs) (omega arith)), length-append (with_commas (g ∷ gs)) (comma ∷ []))

-- The line end stands behind the withCommas fields.
line_place_lem : (to n : ℕ) (gs : List (List ℕ)) → n ≡ to + length (closed_each gs) → line_place to n ≡ to + length (with_commas gs)
unfolding closed_each with_commas
line_place_lem to n [] e = place_here to n (omega (arith, e)) ∙ sym (add-zero to)
line_place_lem to n (g ∷ gs) e =
    place_over to (length (with_commas (g ∷ gs))) n
    (omega (arith, e, ap length (closed_commas (g ∷ gs) (omega arith)), length-append (with_commas (g ∷ gs)) (comma ∷ [])))

-- Closed fields with the line end over the last comma are withCommas fields and a line end.
line_over : {d : List ℕ} {to : ℕ} (gs : List (List ℕ)) {d₁ d₂ : List ℕ} → Made d to (closed_each gs) d₁
    → Made d₁ (to + length (with_commas gs)) (cr ∷ lf ∷ []) d₂ → Made d to (with_commas gs ++ cr ∷ lf ∷ []) d₂
unfolding closed_each with_commas
line_over [] p q = made_made p q
line_over {d} {to} (g ∷ gs) {d₁} p q =
    made_over (with_commas (g ∷ gs)) (comma ∷ []) (omega arith) (subst (λ (x : List ℕ). Made d to x d₁) (closed_commas (g ∷ gs) (omega arith)) p) q

module _ {d₁ : List ℕ} {to n r : ℕ} {d₂ : List ℕ} (gs : List (List ℕ)) (e : n ≡ to + length (closed_each gs)) (q : EndsLine d₁ to n r d₂) where
  pub line_made : {d : List ℕ} → Made d to (closed_each gs) d₁ → Made d to (with_commas gs ++ cr ∷ lf ∷ []) d₂
  line_made p = line_over gs p (subst (λ (k : ℕ). Made d₁ k (cr ∷ lf ∷ []) d₂) (line_place_lem to n gs e) q.made)

  pub line_next : r ≡ to + length (with_commas gs ++ cr ∷ lf ∷ [])
  line_next = omega (arith, q.next, line_place_lem to n gs e, length-append (with_commas gs) (cr ∷ lf ∷ []))
