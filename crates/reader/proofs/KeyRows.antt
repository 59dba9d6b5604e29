-- Which key may come next, by its number: the form line at the start, and any other key after some line and not before its row; and the keys of the
-- three kinds of rule. They rest on the table of keys, row by row.
-- Assumes nothing.
use mathlib.Core.Path.{◌≡◌, refl, sym, ◌∙◌}
use mathlib.Core.Bool.{Bool, true, cond, ◌&&◌, beq}
use Prim.Native.Nat.{ℕ, suc, ◌+◌, ◌≤◌, ◌<◌}
use native.Mathlib.Decide.{dec_lt}
use native.Mathlib.Omega.{arith}
use lib.Dec.{leb, eqb}
use borrow.Author.Tests.{leb-true, le-leb, eqb-true, ne_eqb}
use Rattle.laws.specs.Every.{every_below}
use Rattle.laws.proofs.Bools.{true_not_false, and_left, and_right, beq_same}
use Rattle.laws.proofs.Every.{every_at}
use Rattle.rules.specs.Record.{by_kind}
use Rattle.keys.specs.Keys.{key_number, next_allowed}
use Rattle.keys.specs.declared.Key.{Key}
use Rattle.keys.proofs.KeyTexts.{next_past_rows, next_past_columns}

abbrev may_come : ℕ → ℕ → Bool
may_come after key = cond (eqb key 0) (eqb after 0) (leb 1 after && leb after (key + 1))

rows : every_below 6 (λ a. every_below 6 (λ k. beq (next_allowed a k) (may_come a k))) ≡ true
unfolding every_below next_allowed
rows = refl

next_inside : (after key : ℕ) → after < 6 → key < 6 → next_allowed after key ≡ may_come after key
next_inside after key h g =
    beq_same (next_allowed after key) (may_come after key)
    (every_at 6 (λ k. beq (next_allowed after k) (may_come after k))
    (every_at 6 (λ a. every_below 6 (λ k. beq (next_allowed a k) (may_come a k))) rows after h) key g)

next_comes : (after key : ℕ) → next_allowed after key ≡ true → may_come after key ≡ true
next_comes after key e = go (dec_lt after 6) (dec_lt key 6)
  where
    go : Dec (after < 6) → Dec (key < 6) → may_come after key ≡ true
    go (yes h) (yes g) = sym (next_inside after key h g) ∙ e
    go (no h) g = absurd (true_not_false e (sym (next_past_rows after key (omega arith))))
    go (yes h) (no g) = absurd (true_not_false e (sym (next_past_columns after key (omega arith))))

-- The form line comes at the start.
pub form_next_lem : next_allowed 0 (key_number Key.Form) ≡ true
unfolding next_allowed
form_next_lem = refl

pub next_form : (after : ℕ) → next_allowed after 0 ≡ true → after ≡ 0
next_form after e = eqb-true after 0 (next_comes after 0 e)

-- Any other key comes after some line, and not before its row.
pub record NextRow (after key : ℕ) : Type 0 where
  pub some : 1 ≤ after
  pub rise : after ≤ key + 1

later : (after key : ℕ) → may_come after (suc key) ≡ (leb 1 after && leb after (suc key + 1))
later after key = rw (ne_eqb (suc key) 0 (λ z. omega arith))

pub next_row : (after key : ℕ) → next_allowed after (suc key) ≡ true → NextRow after (suc key)
next_row after key e =
    record {
      some = leb-true 1 after (and_left (leb 1 after) (leb after (suc key + 1)) both);
      rise = leb-true after (suc key + 1) (and_right (leb 1 after) (leb after (suc key + 1)) both);
    }
  where
    both : (leb 1 after && leb after (suc key + 1)) ≡ true
    both = sym (later after key) ∙ next_comes after (suc key) e

pub row_next : {after key : ℕ} → NextRow after (suc key) → after < 6 → suc key < 6 → next_allowed after (suc key) ≡ true
row_next {after} {key} r h g =
    next_inside after (suc key) h g ∙ later after key ∙ rw (le-leb 1 after r.some, le-leb after (suc key + 1) r.rise)

-- The keys of the three kinds of rule.
abbrev pub key_of_kind : ℕ → Key
key_of_kind k = by_kind k Key.Cap Key.Floor Key.Follow
