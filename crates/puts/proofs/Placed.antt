-- The two answers of a put, and that it has no other. They rest on the tests of the definition.
-- Assumes nothing.
use mathlib.Core.Path.{◌≡◌, sym, ap, ◌∙◌}
use mathlib.Core.Bool.{true, cond}
use mathlib.Core.List.{List}
use Prim.Native.Nat.{ℕ, ◌+◌, ◌-◌, ◌≤◌, ◌<◌}
use native.Mathlib.Decide.{dec_le}
use native.Mathlib.Omega.{arith}
use lib.Dec.{leb}
use lib.ListN.{length}
use borrow.Author.Tests.{le-leb, lt-leb, leb-true}
use borrow.Rule.Slice.PartMut.{put_mid}
use Rattle.std.specs.Prelude.{Option, Some, None}
use Rattle.std.proofs.lemmas.Option.{cond_some, none-some}
use Rattle.std.proofs.lemmas.Slice.{put_mid-paste}
use Rattle.laws.specs.Over.{over}
use Rattle.puts.specs.Writing.{Put}

-- The place behind k bytes, where there is one.
pub record EndsAt (d : List ℕ) (at k end : ℕ) : Type 0 where
  pub room : at + k ≤ length d
  pub place : end ≡ at + k

pub ends_at : {d : List ℕ} {at k end : ℕ} → Some end ≡ cond (leb (at + k) (length d)) (Some (at + k)) None → EndsAt d at k end
ends_at {d} {at} {k} {end} e =
    let both = cond_some (leb (at + k) (length d)) (at + k) end (sym e) in
    record { room = leb-true (at + k) (length d) both.0; place = sym both.1 }

-- What is written to a part of a buffer stands over it.
pub mid_over : (d : List ℕ) (at k : ℕ) {x y : List ℕ} → y ≡ x → length x ≡ k → put_mid at k d y ≡ over d at x
unfolding over
mid_over d at k {x} {y} e long = put_mid-paste at k d y x (length x) e long (ap length (sym e) ∙ ap length e)

-- A put that has room, and one that has none.
module _ {d : List ℕ} {at : ℕ} {x : List ℕ} where
  pub put_there : {d' : List ℕ} {r : ℕ} → at + length x ≤ length d → d' ≡ over d at x → r ≡ at + length x → Put d at x d' (Some r)
  put_there h e f = record { buffer = rw (le-leb (at + length x) (length d) h) e; next = rw (le-leb (at + length x) (length d) h) (ap Some f) }

  pub put_at : {k end : ℕ} {y : List ℕ} → Some end ≡ cond (leb (at + k) (length d)) (Some (at + k)) None → y ≡ x → length x ≡ k
      → Put d at x (put_mid at (end - at) d y) (Some end)
  put_at {k} {end} {y} e same long =
      let ends : EndsAt d at k end = ends_at e in
      put_there (omega (arith, ends.room)) (mid_over d at (end - at) same (omega (arith, ends.place))) (omega (arith, ends.place))

  pub put_nowhere : {k : ℕ} → None ≡ cond (leb (at + k) (length d)) (Some (at + k)) None → length x ≡ k → Put d at x d None
  put_nowhere {k} e long = by (dec_le (at + length x) (length d))
    where
      by : Dec (at + length x ≤ length d) → Put d at x d None
      by (yes h) =
          let there : leb (at + k) (length d) ≡ true = le-leb (at + k) (length d) (omega arith) in
          absurd (none-some (at + k) (rw there at e))
      by (no h) = record { buffer = rw (lt-leb (at + length x) (length d) (omega arith)); next = rw (lt-leb (at + length x) (length d) (omega arith)) }

-- What a put gives where it has room, and where it has none.
module _ {d : List ℕ} {at : ℕ} {x d' : List ℕ} {r : Option ℕ} (p : Put d at x d' r) where
  pub put_buffer : at + length x ≤ length d → d' ≡ over d at x
  put_buffer h = rw (le-leb (at + length x) (length d) h) at p.buffer

  pub put_next : at + length x ≤ length d → r ≡ Some (at + length x)
  put_next h = rw (le-leb (at + length x) (length d) h) at p.next

  pub put_untouched : length d < at + length x → d' ≡ d
  put_untouched h = rw (lt-leb (at + length x) (length d) h) at p.buffer

  pub put_full : length d < at + length x → r ≡ None
  put_full h = rw (lt-leb (at + length x) (length d) h) at p.next

-- A put has one result: the buffer, and what it answers.
pub record SamePut (d e : List ℕ) (r s : Option ℕ) : Type 0 where
  pub buffer : d ≡ e
  pub next : r ≡ s

pub put_unique : {d : List ℕ} {at : ℕ} {x d₁ : List ℕ} {r₁ : Option ℕ} {d₂ : List ℕ} {r₂ : Option ℕ} → Put d at x d₁ r₁ → Put d at x d₂ r₂
    → SamePut d₁ d₂ r₁ r₂
put_unique p q = record { buffer = p.buffer ∙ sym q.buffer; next = p.next ∙ sym q.next }
