-- The left side of a rule, one name after the other: the three things that a name can be followed by, and what holds of every left side. They rest on
-- induction over a bound on the text's length.
-- Assumes nothing.
use mathlib.Core.Path.{◌≡◌, refl, ap, ◌∙◌, subst}
use mathlib.Core.Bool.{Bool, true, false, cond}
use mathlib.Core.List.{List, [], ◌∷◌}
use Prim.Native.Nat.{ℕ, zero, suc, ◌+◌, ◌≤◌, ◌<◌}
use native.Mathlib.Nat.{add_assoc, le_refl}
use native.Mathlib.Omega.{arith}
use lib.Dec.{eqb}
use lib.ListN.{length, take, drop, length-drop}
use lib.Seq.{length-take-le}
use borrow.Author.Tests.{eq-eqb, ne_eqb, eqb-true}
use Rattle.std.specs.Prelude.{Option, Some, None}
use Rattle.items.proofs.Names.{name_spelled}
use Rattle.scans.specs.Ascii.{plus}
use Rattle.scans.specs.Bytes.{byte_at, run_len}
use Rattle.scans.proofs.Places.{byte_inside}
use Rattle.tokens.specs.Tokens.{name_of_run, name_at}
use Rattle.tokens.proofs.Tokens.{name_is_name}
use Rattle.lines.specs.Left.{left_found, names_before, after_name, left_from, left_at}
use Rattle.lines.specs.declared.left.LeftSide.{LeftSide}

pub before_before : (c k d n : ℕ) (x : Option LeftSide) → names_before c k (names_before d n x) ≡ names_before (c + d) (k + n) x
before_before c k d n None = refl
before_before c k d n (Some x) = rw (add_assoc c d x.names, add_assoc k n x.len)

name_nil : name_at [] ≡ None
unfolding name_of_run run_len
name_nil = refl

-- The rest of the left side counts only where a plus sign follows the name.
after_agree : (more other : ℕ → Option LeftSide) (l : List ℕ) (x : Option ℕ) → ((n : ℕ) → n < length l → more (n + 1) ≡ other (n + 1))
    → after_name more l x ≡ after_name other l x
unfolding after_name
after_agree more other l None f = refl
after_agree more other l (Some n) f = sign (eqb (byte_at (drop n l)) plus) refl
  where
    sign : (b : Bool) → eqb (byte_at (drop n l)) plus ≡ b
        → cond b (names_before 1 (n + 1) (more (n + 1))) (left_found 1 n) ≡ cond b (names_before 1 (n + 1) (other (n + 1))) (left_found 1 n)
    sign false e = refl
    sign true e = ap (names_before 1 (n + 1)) (f n (byte_inside l n (omega (arith, eqb-true (byte_at (drop n l)) plus e))))

-- Any bound on the length gives the same left side.
left_bound : (f g : ℕ) (l : List ℕ) → length l ≤ f → length l ≤ g → left_from f l ≡ left_from g l
unfolding left_from after_name
left_bound zero zero l h i = refl
left_bound zero (suc g) [] h i = rw name_nil
left_bound zero (suc g) (b ∷ l) h i = absurd (omega arith)
left_bound (suc f) zero [] h i = rw name_nil
left_bound (suc f) zero (b ∷ l) h i = absurd (omega arith)
left_bound (suc f) (suc g) l h i =
    after_agree (λ k. left_from f (drop k l)) (λ k. left_from g (drop k l)) l (name_at l)
    (λ n s. left_bound f g (drop (n + 1) l) (omega (arith, length-drop (n + 1) l)) (omega (arith, length-drop (n + 1) l)))

left_step : (l : List ℕ) → left_at l ≡ after_name (λ k. left_at (drop k l)) l (name_at l)
unfolding left_from after_name
left_step [] = rw name_nil
left_step (b ∷ l) =
    after_agree (λ k. left_from (length l) (drop k (b ∷ l))) (λ k. left_at (drop k (b ∷ l))) (b ∷ l) (name_at (b ∷ l))
    (λ n s. left_bound (length l) (length (drop (n + 1) (b ∷ l))) (drop (n + 1) (b ∷ l)) (omega (arith, length-drop (n + 1) (b ∷ l))) (le_refl _))

-- No name; the last name; and a name with a plus sign behind it.
pub left_bad : (l : List ℕ) → name_at l ≡ None → left_at l ≡ None
unfolding after_name
left_bad l e = left_step l ∙ rw e

module _ (l : List ℕ) (n : ℕ) (e : name_at l ≡ Some n) where
  pub left_last : (byte_at (drop n l) ≡ plus → ⊥) → left_at l ≡ left_found 1 n
  unfolding after_name
  left_last f = left_step l ∙ rw (e, ne_eqb (byte_at (drop n l)) plus f)

  pub left_more : byte_at (drop n l) ≡ plus → left_at l ≡ names_before 1 (n + 1) (left_at (drop (n + 1) l))
  unfolding after_name
  left_more f = left_step l ∙ rw (e, eq-eqb (byte_at (drop n l)) plus f)

-- What holds of one name, and of a name with a plus sign behind it and a left side of which it holds, holds of every left side that is read.
module _ (P : List ℕ → ℕ → ℕ → Type 0) (one : (l : List ℕ) (n : ℕ) → name_at l ≡ Some n → P l 1 n)
    (more : (l : List ℕ) (n c k : ℕ) → name_at l ≡ Some n → byte_at (drop n l) ≡ plus → P (drop (n + 1) l) c k → P l (1 + c) (n + 1 + k)) where
  abbrev LeftSays : List ℕ → Option LeftSide → Type 0
  LeftSays l None = Unit
  LeftSays l (Some x) = P l x.names x.len

  more_says : (l : List ℕ) (n : ℕ) (x : Option LeftSide) → name_at l ≡ Some n → byte_at (drop n l) ≡ plus → LeftSays (drop (n + 1) l) x
      → LeftSays l (names_before 1 (n + 1) x)
  more_says l n None e f g = tt
  more_says l n (Some x) e f g = more l n x.names x.len e f g

  from_says : (f : ℕ) (l : List ℕ) → LeftSays l (left_from f l)
  unfolding left_from after_name
  from_says zero l = tt
  from_says (suc f) l = after (name_at l) refl (λ n. from_says f (drop (n + 1) l))
    where
      after : (x : Option ℕ) → name_at l ≡ x → ((n : ℕ) → LeftSays (drop (n + 1) l) (left_from f (drop (n + 1) l)))
          → LeftSays l (after_name (λ k. left_from f (drop k l)) l x)
      after None e g = tt
      after (Some n) e g = sign (eqb (byte_at (drop n l)) plus) refl
        where
          sign : (b : Bool) → eqb (byte_at (drop n l)) plus ≡ b
              → LeftSays l (cond b (names_before 1 (n + 1) (left_from f (drop (n + 1) l))) (left_found 1 n))
          sign true d = more_says l n (left_from f (drop (n + 1) l)) e (eqb-true (byte_at (drop n l)) plus d) (g n)
          sign false d = one l n e

  pub left_by : (l : List ℕ) (x : LeftSide) → left_at l ≡ Some x → P l x.names x.len
  left_by l x e = subst (LeftSays l) e (from_says (length l) l)

pub name_some : (l : List ℕ) (n : ℕ) → name_at l ≡ Some n → 1 ≤ n
name_some l n e =
    let here = name_is_name l n e in
    omega (arith, (name_spelled (take n l) here.name).least, length-take-le n l here.within)

-- What has n bytes at a place has at least one, and stands within the text.
pub record Stands (s : List ℕ) (at n : ℕ) : Type 0 where
  pub some : 1 ≤ n
  pub within : at + n ≤ length s

pub name_stands : (s : List ℕ) (at n : ℕ) → name_at (drop at s) ≡ Some n → Stands s at n
name_stands s at n e =
    let some = name_some (drop at s) n e in
    record { some = some; within = omega (arith, (name_is_name (drop at s) n e).within, length-drop at s) }

-- The same at the front of what is left of a text.
record LeftHere (l : List ℕ) (n : ℕ) : Type 0 where
  some : 1 ≤ n
  within : n ≤ length l

left_here : (l : List ℕ) (x : LeftSide) → left_at l ≡ Some x → LeftHere l x.len
left_here =
    left_by (λ l c n. LeftHere l n) (λ l n e. record { some = name_some l n e; within = (name_is_name l n e).within })
    (λ l n c k e f g. record { some = omega arith; within = omega (arith, g.within, length-drop (n + 1) l, byte_inside l n (omega arith)) })

pub left_stands : (s : List ℕ) (at : ℕ) (x : LeftSide) → left_at (drop at s) ≡ Some x → Stands s at x.len
left_stands s at x e =
    let here = left_here (drop at s) x e in
    record { some = here.some; within = omega (arith, here.some, here.within, length-drop at s) }
