-- Looking up a name: what each answer tells, that what is told determines the answer, and that an item's own name finds it. They rest on the
-- laws of the table and of searches. Assumes nothing.
use Rattle.std.specs.Prelude.{Some, None, Ok, Err}
use mathlib.Core.Path.{◌≡◌, refl, sym, ap, ◌∙◌, subst}
use mathlib.Core.Bool.{Bool, true, false, cond}
use mathlib.Core.List.{List, [], ◌∷◌}
use mathlib.Core.Logic.{◌⊎◌, inl, inr, ◌↔◌}
use Prim.Native.Nat.{ℕ, ◌*◌, ◌≤◌, ◌<◌}
use native.Mathlib.Decide.{dec_le}
use native.Mathlib.Nat.{zero-add, le_antisymm}
use native.Mathlib.Omega.{arith}
use lib.Dec.{ltb, leb}
use lib.ListN.{length, get_or}
use borrow.Author.Tests.{eqb-true, eq-eqb, leb-true, le-leb, ltb-true, ltb-false}
use Rattle.laws.specs.Tells.{Tells}
use Rattle.laws.proofs.Bools.{true_not_false, and_left, and_right}
use Rattle.laws.proofs.Every.{every_all, every_at}
use Rattle.laws.proofs.Tells.{tells_unique, tells_test}
use Rattle.laws.specs.Search.{first_below}
use Rattle.refusals.specs.declared.Refusal.{Refusal}
use Rattle.refusals.specs.Said.{Said, success, refused}
use Rattle.refusals.proofs.Said.{said_injective, refusal_of, refusal_back}
use Rattle.items.specs.Names.{name_room, is_name}
use Rattle.items.specs.Table.{table_fits, entry_byte, name_len, name_of, SameEntry, ItemsOk}
use Rattle.refusals.specs.Sizes.{most_items}
use Rattle.items.specs.Lookup.{Found, said_found, bad_table, same_name, look_up, find_in, FindSays}
use Rattle.laws.proofs.Search.{First, first_below_lem}
use Rattle.items.proofs.Names.{spelled_name}
use Rattle.items.proofs.Table.{named_spelled, named_rest, name_of_at, name_of_past}

-- Entry i has the name's bytes, and zeros behind them.
pub record HasName (t : List ℕ) (i : ℕ) (name : List ℕ) : Type 0 where
  pub bytes : (k : ℕ) → k < name_room → entry_byte t i k ≡ get_or name k 0

pub same_name_tells : (t : List ℕ) (i : ℕ) (name : List ℕ) → Tells (HasName t i name) (same_name t i name)
unfolding same_name
same_name_tells t i name =
    tells_test (λ e. record { bytes = λ k l. eqb-true _ _ (every_at name_room _ e k l) })
    (λ h. every_all name_room _ (λ k l. eq-eqb _ _ (h.bytes k l)))

-- A name that is lent by itself is the first entry of a table.
lent_byte : (name : List ℕ) (k : ℕ) → entry_byte name 0 k ≡ get_or name k 0
unfolding entry_byte
lent_byte name k = rw (zero-add k)

pub lent_tells : {t : List ℕ} {i : ℕ} {name : List ℕ} {r : Bool} → Tells (SameEntry t i name 0) r → r ≡ same_name t i name
lent_tells {t} {i} {name} s =
    tells_unique
    (record {
      holds = λ e. record { bytes = λ k l. (s.holds e).bytes k l ∙ lent_byte name k };
      fails = λ e h. s.fails e (record { bytes = λ k l. h.bytes k l ∙ sym (lent_byte name k) });
    })
    (same_name_tells t i name)

pub lent_yes : {t : List ℕ} {i : ℕ} {name : List ℕ} {r : Bool} → Tells (SameEntry t i name 0) r → r ≡ true → same_name t i name ≡ true
lent_yes s e = sym (lent_tells s) ∙ e

pub lent_no : {t : List ℕ} {i : ℕ} {name : List ℕ} {r : Bool} → Tells (SameEntry t i name 0) r → r ≡ false → same_name t i name ≡ false
lent_no s e = sym (lent_tells s) ∙ e

-- The table's size is right.
pub record Sized (t : List ℕ) (n : ℕ) : Type 0 where
  pub size : n ≤ most_items
  pub room : n * name_room ≤ length t

pub fits_tells : (t : List ℕ) (n : ℕ) → Tells (Sized t n) (table_fits t n)
unfolding table_fits
fits_tells t n =
    tells_test
    (λ e. record {
      size = leb-true n most_items (and_left (leb n most_items) (leb (n * name_room) (length t)) e);
      room = leb-true (n * name_room) (length t) (and_right (leb n most_items) (leb (n * name_room) (length t)) e);
    })
    (λ s. rw (le-leb n most_items s.size, le-leb (n * name_room) (length t) s.room))

-- What each answer tells. At i: item i has the name, and no item before it.
pub record FoundAt (t : List ℕ) (n : ℕ) (name : List ℕ) (i : ℕ) : Type 0 where
  pub sized : Sized t n
  pub spelled : is_name name ≡ true
  pub item : i < n
  pub here : HasName t i name
  pub lowest : (j : ℕ) → j < i → HasName t j name → ⊥

-- Absent: the bytes are no name, or no item has it.
pub record NotFound (t : List ℕ) (n : ℕ) (name : List ℕ) : Type 0 where
  pub sized : Sized t n
  pub none : is_name name ≡ true → (i : ℕ) → i < n → HasName t i name → ⊥

-- Refused: the size is wrong, and the refusal is BadTable at 0.
pub record WrongSize (t : List ℕ) (n : ℕ) (r : Refusal) : Type 0 where
  pub is : Err r ≡ bad_table
  pub wrong : Sized t n → ⊥

abbrev pub FoundTells : List ℕ → ℕ → List ℕ → Found → Type 0
FoundTells t n name (Ok (Some i)) = FoundAt t n name i
FoundTells t n name (Ok None) = NotFound t n name
FoundTells t n name (Err r) = WrongSize t n r

pub find_says : (t : List ℕ) (n : ℕ) (name : List ℕ) → FoundTells t n name (find_in t n name)
unfolding find_in look_up
find_says t n name = says (table_fits t n) refl (is_name name) refl (ltb first n) refl
  where
    first : ℕ
    first = first_below n (λ i. same_name t i name)

    search_of : First n (λ i. same_name t i name) first
    search_of = first_below_lem n (λ i. same_name t i name)

    says : (b : Bool) → table_fits t n ≡ b → (d : Bool) → is_name name ≡ d → (u : Bool) → ltb first n ≡ u
        → FoundTells t n name (cond b (cond d (cond u (Ok (Some first)) (Ok None)) (Ok None)) bad_table)
    says false e d f u g = record { is = refl; wrong = (fits_tells t n).fails e }
    says true e false f u g = record { sized = (fits_tells t n).holds e; none = λ h. absurd (true_not_false h f) }
    says true e true f false g = record {
      sized = (fits_tells t n).holds e;
      none = λ h i l. (same_name_tells t i name).fails (search_of.before i (omega (arith, ltb-false first n g)));
    }
    says true e true f true g = record {
      sized = (fits_tells t n).holds e;
      spelled = f;
      item = ltb-true first n g;
      here = (same_name_tells t first name).holds (search_of.here (ltb-true first n g));
      lowest = λ j l. (same_name_tells t j name).fails (search_of.before j l);
    }

lowest_le : {t name : List ℕ} {n i j : ℕ} → FoundAt t n name i → FoundAt t n name j → i ≤ j
lowest_le {i = i} {j = j} f g = go (dec_le i j)
  where
    go : Dec (i ≤ j) → i ≤ j
    go (yes l) = l
    go (no l) = absurd (f.lowest j (omega arith) g.here)

-- Any two answers that tell what they should are equal.
pub says_unique : (t : List ℕ) (n : ℕ) (name : List ℕ) (x y : Found) → FoundTells t n name x → FoundTells t n name y → x ≡ y
says_unique t n name (Ok (Some i)) (Ok (Some j)) f g = ap (λ k. Ok (Some k)) (le_antisymm (lowest_le f g) (lowest_le g f))
says_unique t n name (Ok (Some i)) (Ok None) f g = absurd (g.none f.spelled i f.item f.here)
says_unique t n name (Ok (Some i)) (Err r) f g = absurd (g.wrong f.sized)
says_unique t n name (Ok None) (Ok (Some j)) f g = absurd (f.none g.spelled j g.item g.here)
says_unique t n name (Ok None) (Ok None) f g = refl
says_unique t n name (Ok None) (Err r) f g = absurd (g.wrong f.sized)
says_unique t n name (Err r) (Ok (Some j)) f g = absurd (f.wrong g.sized)
says_unique t n name (Err r) (Ok None) f g = absurd (f.wrong g.sized)
says_unique t n name (Err r) (Err s) f g = f.is ∙ sym g.is

pub find_is : (t : List ℕ) (n : ℕ) (name : List ℕ) (x : Found) → FoundTells t n name x → x ≡ find_in t n name
find_is t n name x f = says_unique t n name x (find_in t n name) f (find_says t n name)

-- At i: item i has the name, and it is the lowest.
pub find_lowest : (t : List ℕ) (n : ℕ) (name : List ℕ) (i : ℕ) → find_in t n name ≡ Ok (Some i) → FoundAt t n name i
find_lowest t n name i e = subst (FoundTells t n name) e (find_says t n name)

-- Absent: the bytes are no name, or no item has it.
pub find_absent : (t : List ℕ) (n : ℕ) (name : List ℕ) → find_in t n name ≡ Ok None → NotFound t n name
find_absent t n name e = subst (FoundTells t n name) e (find_says t n name)

-- Refused exactly if there are over 256 items or the buffer has no room for them.
pub find_bad : (t : List ℕ) (n : ℕ) (name : List ℕ) → (find_in t n name ≡ bad_table) ↔ ((most_items < n) ⊎ (length t < n * name_room))
find_bad t n name = (λ e. wrong (subst (FoundTells t n name) e (find_says t n name)).wrong (dec_le n most_items) (dec_le (n * name_room) (length t)), bad)
  where
    wrong : (Sized t n → ⊥) → Dec (n ≤ most_items) → Dec (n * name_room ≤ length t) → (most_items < n) ⊎ (length t < n * name_room)
    wrong f (yes h) (yes g) = absurd (f (record { size = h; room = g }))
    wrong f (yes h) (no g) = inr (omega arith)
    wrong f (no h) g = inl (omega arith)

    bad : (most_items < n) ⊎ (length t < n * name_room) → find_in t n name ≡ bad_table
    bad (inl h) = sym (find_is t n name bad_table (record { is = refl; wrong = λ s. omega (arith, s.size) }))
    bad (inr h) = sym (find_is t n name bad_table (record { is = refl; wrong = λ s. omega (arith, s.room) }))

-- An answer is known by what it says.
abbrev first_or : List ℕ → Found
first_or [] = Ok None
first_or (i ∷ l) = Ok (Some i)

abbrev found_of : Said → Found
found_of (success c l) = first_or l
found_of (refused n p) = Err (refusal_of n p)

found_back : (x : Found) → found_of (said_found x) ≡ x
found_back (Ok (Some i)) = refl
found_back (Ok None) = refl
found_back (Err r) = ap Err (refusal_back r)

pub find_told : {t : List ℕ} {n : ℕ} {name : List ℕ} {r : Found} → FindSays t n name (said_found r) → r ≡ find_in t n name
find_told s = said_injective said_found found_of found_back s.answer

pub find_unique : {t : List ℕ} {n : ℕ} {name : List ℕ} {r s : Found} → FindSays t n name (said_found r) → FindSays t n name (said_found s) → r ≡ s
find_unique s u = find_told s ∙ sym (find_told u)

-- In a table that no writer refuses, the name of each item is a name, the item has it, and it finds that item.
pub name_is_name : {t : List ℕ} {n : ℕ} → ItemsOk t n → (i : ℕ) → i < n → is_name (name_of t i) ≡ true
name_is_name o i h = spelled_name (named_spelled (o.names i h))

pub own_name : {t : List ℕ} {n : ℕ} → ItemsOk t n → (i : ℕ) → i < n → HasName t i (name_of t i)
own_name {t} o i h = record { bytes = λ k l. go k l (dec_le (name_len t i) k) }
  where
    go : (k : ℕ) → k < name_room → Dec (name_len t i ≤ k) → entry_byte t i k ≡ get_or (name_of t i) k 0
    go k l (yes g) = (named_rest (o.names i h)).zeros k g l ∙ sym (name_of_past t i k g)
    go k l (no g) = sym (name_of_at t i k (omega arith))

pub found_name : {t : List ℕ} {n : ℕ} → ItemsOk t n → (i : ℕ) → i < n → find_in t n (name_of t i) ≡ Ok (Some i)
found_name {t} {n} o i h =
    sym
    (find_is t n (name_of t i) (Ok (Some i))
    (record {
      sized = record { size = o.size; room = o.room };
      spelled = name_is_name o i h;
      item = h;
      here = own;
      lowest = λ j l s. (o.distinct i h).new j l (record { bytes = λ k g. s.bytes k g ∙ sym (own.bytes k g) });
    }))
  where
    own : HasName t i (name_of t i)
    own = own_name o i h
