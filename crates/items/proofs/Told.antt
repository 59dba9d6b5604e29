-- What a test of every number in a range tells, and what a search in a range finds; and by that what the tests of the item table tell.
-- Assumes nothing.
use mathlib.Core.Path.{◌≡◌, refl, sym, subst}
use mathlib.Core.Bool.{Bool, true, false}
use mathlib.Core.List.{List}
use Prim.Native.Nat.{ℕ, ◌+◌, ◌-◌, ◌*◌, ◌≤◌, ◌<◌}
use native.Mathlib.Omega.{arith}
use lib.ListN.{length, get_or}
use denote.Param.Members.{Mut}
use Rattle.std.specs.declared.ops.Range.{Range}
use Rattle.std.specs.Iterator.{YieldsThen}
use Rattle.std.specs.List.{FoldsTo, range_with_len, AllWithin, HoldsAt}
use Rattle.std.specs.Fn.{Called}
use Rattle.std.specs.Bool.{MatchBool}
use Rattle.std.proofs.iter.Yields.{nat_range_steps}
use Rattle.std.specs.Prelude.{Option, Some, None, MatchOption, unwrap_or}
use Rattle.std.proofs.lemmas.Iterator.{cases_from_all, YieldsList-from_range}
use Rattle.std.proofs.lemmas.List.FromFn.{length-range_with_len, get_or-range_with_len}
use Rattle.laws.specs.Tells.{Tells}
use Rattle.laws.proofs.Tells.{tells_no, tells_yes}
use Rattle.laws.proofs.Search.{First}
use Rattle.refusals.specs.Sizes.{most_items}
use Rattle.items.specs.Names.{name_room}
use Rattle.items.specs.Table.{entry_byte, SameEntry, ZerosFrom, NameAt, NewAt, ItemsOk}

-- `all` over a range, said of the numbers in it.
pub all_told : {F : Type 0} {g : Mut F (ℕ × Unit {0}) Bool} (s u : Range ℕ) (f : F) (r : Bool) (P : ℕ → Type 0)
    → (xs : List ℕ) × (o : Option ℕ) × (j : F) × YieldsThen nat_range_steps s xs o u × FoldsTo (λ p x q. Called g p (x, tt) true q) f xs j × MatchOption o (r ≡ true) (λ x. (r ≡ false) × ((h : F) × Called g j (x, tt) false h))
    → ((x : ℕ) (q : F) → Called g f (x, tt) true q → (q ≡ f) × P x) → ((x : ℕ) (q : F) → Called g f (x, tt) false q → P x → ⊥)
    → Tells ((k : ℕ) → s.start ≤ k → k < s.end → P k) r
all_told s u f r P d yes' no' = by r (cases_from_all u f r P (λ x. P x → ⊥) d (YieldsList-from_range s.start s.end _ refl refl) yes' no')
  where
    all : List ℕ
    all = range_with_len s.start (s.end - s.start)

    long : length all ≡ s.end - s.start
    long = length-range_with_len s.start (s.end - s.start)

    at : (k : ℕ) → k < s.end - s.start → get_or all k 0 ≡ s.start + k
    at k h = get_or-range_with_len s.start (s.end - s.start) k 0 h

    by : (b : Bool) → MatchBool b (AllWithin P all 0 (length all)) ((k : ℕ) × (k < length all) × HoldsAt (λ x. P x → ⊥) all k)
        → Tells ((k : ℕ) → s.start ≤ k → k < s.end → P k) b
    by true h = tells_yes (λ k a b. subst P {x = get_or all (k - s.start) 0} {y = k} (omega (arith, at (k - s.start) (omega arith))) (h (k - s.start) 0 (omega arith) (omega (arith, long))))
    by false h = tells_no (λ p. h.2 0 (subst P (sym (at h.0 (omega (arith, long, h.1)))) (p (s.start + h.0) (omega arith) (omega (arith, long, h.1)))))

-- `find` over a range, as a search.
pub first_told : {n : ℕ} (f : ℕ → Bool) (r : Option ℕ)
    → MatchOption r ((k : ℕ) → 0 ≤ k → k < n → f k ≡ false) (λ i. (0 ≤ i) × (i < n) × (f i ≡ true) × ((k : ℕ) → 0 ≤ k → k < i → f k ≡ false)) → First n f (unwrap_or r n)
first_told f None h = record { within = omega arith; before = λ j l. h j (omega arith) l; here = λ l. absurd (omega arith) }
first_told f (Some i) h = record { within = omega (arith, h.1); before = λ j l. h.3 j (omega arith) l; here = λ l. h.2 }

-- What each test of the table tells.
tells_so : {P Q : Type 0} {r : Bool} → (P → Q) → (Q → P) → Tells P r → Tells Q r
tells_so f g t = record { holds = λ e. f (t.holds e); fails = λ e q. t.fails e (g q) }

pub same_told : {a : List ℕ} {i : ℕ} {b : List ℕ} {j : ℕ} {r : Bool} → Tells ((k : ℕ) → 0 ≤ k → k < name_room → entry_byte a i k ≡ entry_byte b j k) r
    → Tells (SameEntry a i b j) r
same_told t = tells_so (λ p. record { bytes = λ k h. p k (omega arith) h }) (λ s k z h. s.bytes k h) t

pub zeros_told : {t : List ℕ} {i len : ℕ} {r : Bool} → Tells ((k : ℕ) → len ≤ k → k < name_room → entry_byte t i k ≡ 0) r → Tells (ZerosFrom t i len) r
zeros_told t = tells_so (λ p. record { zeros = p }) (λ z. z.zeros) t

pub new_told : {t : List ℕ} {j : ℕ} {r : Bool} → Tells ((i : ℕ) → 0 ≤ i → i < j → SameEntry t i t j → ⊥) r → Tells (NewAt t j) r
new_told t = tells_so (λ p. record { new = λ i h. p i (omega arith) h }) (λ n i z h. n.new i h) t

pub items_told : {t : List ℕ} {n : ℕ} {r : Bool} → n ≤ most_items → n * name_room ≤ length t → Tells ((i : ℕ) → 0 ≤ i → i < n → NameAt t i × NewAt t i) r
    → Tells (ItemsOk t n) r
items_told size room t =
    tells_so
    (λ p. record { size = size; room = room; names = λ i h. (p i (omega arith) h).0; distinct = λ i h. (p i (omega arith) h).1 })
    (λ o i z h. (o.names i h, o.distinct i h)) t

pub new_name_none : {t : List ℕ} {i : ℕ} {r : Bool} → Tells (NameAt t i) r → r ≡ false → Tells (NameAt t i × NewAt t i) r
new_name_none t e = rw e (tells_no (λ p. t.fails e p.0))

pub new_name_told : {t : List ℕ} {i : ℕ} {r s : Bool} → Tells (NameAt t i) r → r ≡ true → Tells (NewAt t i) s → Tells (NameAt t i × NewAt t i) s
new_name_told t e u = tells_so (λ n. (t.holds e, n)) (λ p. p.1) u
