-- The keys there and back: a key's text reads back whatever follows it, and what is read is the key's text; and the edges of the table of
-- what may come next. They rest on comparing byte by byte.
-- Assumes nothing.
use mathlib.Core.Path.{◌≡◌, refl, sym, ap₂, subst}
use mathlib.Core.Bool.{Bool, true, false, cond}
use mathlib.Core.List.{List, [], ◌∷◌, ◌++◌}
use Prim.Native.Nat.{ℕ, zero, suc, ◌≤◌, zero-le, suc-le-suc}
use native.Mathlib.Omega.{arith}
use lib.Dec.{eqb}
use lib.ListN.{length, get_or, take, get_or-eq_default}
use borrow.Author.Tests.{eqb-true}
use Rattle.std.specs.Prelude.{Option, None, Some}
use Rattle.std.specs.Option.{option_map}
use Rattle.std.specs.List.{find}
use Rattle.std.specs.Cmp.Lexicographic.{pointwise}
use Rattle.laws.proofs.Bools.{true_not_false, and_left, and_right}
use Rattle.keys.specs.Keys.{key_text, every_key, starts_with, key_found, key_or, key_at, next_rows, next_allowed}
use Rattle.keys.specs.declared.Key.{Key}
use Rattle.keys.specs.declared.KeyToken.{KeyToken}

-- No key's text is empty.
pub key_some : (k : Key) → 1 ≤ length (key_text k)
key_some Key.Form = omega arith
key_some Key.Item = omega arith
key_some Key.Cap = omega arith
key_some Key.Floor = omega arith
key_some Key.Follow = omega arith
key_some Key.End = omega arith

-- What it is to begin with given bytes.
pub record Begins (x l : List ℕ) : Type 0 where
  pub within : length x ≤ length l
  pub text : take (length x) l ≡ x

pub starts_begins : (x l : List ℕ) → starts_with x l ≡ true → Begins x l
unfolding starts_with
starts_begins [] l e = record { within = zero-le; text = refl }
starts_begins (a ∷ x) [] e = absurd (true_not_false e refl)
starts_begins (a ∷ x) (b ∷ l) e =
    let rest = starts_begins x l (and_right (eqb b a) (starts_with x l) e) in
    record { within = suc-le-suc rest.within; text = ap₂ ◌∷◌ (eqb-true b a (and_left _ _ e)) rest.text }

-- It is the library's test of the front of a text.
eqb_swap : (a b : ℕ) → eqb a b ≡ eqb b a
eqb_swap a b = grind arith

pub starts_library : (x l : List ℕ) → starts_with x l ≡ pointwise eqb x (take (length x) l)
unfolding starts_with
starts_library [] l = refl
starts_library (a ∷ x) [] = refl
starts_library (a ∷ x) (b ∷ l) = rw (eqb_swap b a, starts_library x l) refl

-- The key at the front is the first one whose text is there.
map_cond : {A B : Type 0} (f : A → B) (b : Bool) (x : A) (o : Option A) → option_map f (cond b (Some x) o) ≡ cond b (Some (f x)) (option_map f o)
map_cond f true x o = refl
map_cond f false x o = refl

pub key_by_find : (l : List ℕ) → key_at l ≡ option_map (λ k. record { key = k; len = length (key_text k) }) (find (λ k. starts_with (key_text k) l) every_key)
unfolding key_at
key_by_find l = simp map_cond

-- What a key of n bytes says.
pub record KeyHere (l : List ℕ) (k : Key) (n : ℕ) : Type 0 where
  pub size : n ≡ length (key_text k)
  pub begins : Begins (key_text k) l

abbrev pub KeySays : List ℕ → Option KeyToken → Type 0
KeySays l (Some x) = KeyHere l x.key x.len
KeySays l None = Unit

or_says : (l : List ℕ) (k : Key) (other : Option KeyToken) → KeySays l other → KeySays l (key_or k l other)
or_says l k other o = says (starts_with (key_text k) l) refl
  where
    says : (b : Bool) → starts_with (key_text k) l ≡ b → KeySays l (cond b (key_found k (length (key_text k))) other)
    says true e = record { size = refl; begins = starts_begins (key_text k) l e }
    says false e = o

pub key_says : (l : List ℕ) → KeySays l (key_at l)
unfolding key_at
key_says l =
    or_says l Key.Form _
    (or_says l Key.Item _ (or_says l Key.Cap _ (or_says l Key.Floor _ (or_says l Key.Follow _ (or_says l Key.End _ tt)))))

-- What is read is what would be written.
pub key_is_text : (l : List ℕ) (k : Key) (n : ℕ) → key_at l ≡ key_found k n → KeyHere l k n
key_is_text l k n e = subst (KeySays l) e (key_says l)

-- What is written reads back.
pub key_reads : (k : Key) (rest : List ℕ) → key_at (key_text k ++ rest) ≡ key_found k (length (key_text k))
unfolding key_at starts_with
key_reads Key.Form rest = refl
key_reads Key.Item rest = refl
key_reads Key.Cap rest = refl
key_reads Key.Floor rest = refl
key_reads Key.Follow rest = refl
key_reads Key.End rest = refl

-- "six rows and six columns": outside them no key may come.
abbrev pub key_count : ℕ
key_count = 6

pub next_past_rows : (after key : ℕ) → key_count ≤ after → false ≡ next_allowed after key
unfolding next_allowed
next_past_rows after key h = rw (get_or-eq_default next_rows [] {n = after} h)

row_length : (after : ℕ) → length (get_or next_rows after []) ≤ key_count
row_length zero = omega arith
row_length (suc zero) = omega arith
row_length (suc (suc zero)) = omega arith
row_length (suc (suc (suc zero))) = omega arith
row_length (suc (suc (suc (suc zero)))) = omega arith
row_length (suc (suc (suc (suc (suc zero))))) = omega arith
row_length (suc (suc (suc (suc (suc (suc after)))))) = omega arith

pub next_past_columns : (after key : ℕ) → key_count ≤ key → false ≡ next_allowed after key
unfolding next_allowed
next_past_columns after key h = sym (get_or-eq_default (get_or next_rows after []) false {n = key} (omega (arith, row_length after)))
