-- Names: what it is for bytes to be spelled as a name, and that `is_name` tells of it. They rest on induction over the bytes.
-- Assumes nothing.
use mathlib.Core.Path.{◌≡◌, refl, sym, ap₂, ◌∙◌}
use mathlib.Core.Bool.{Bool, true, false, ◌&&◌}
use mathlib.Core.List.{List, [], ◌∷◌}
use Prim.Native.Nat.{ℕ, zero, suc, ◌≤◌, ◌<◌}
use native.Mathlib.Omega.{arith}
use lib.Dec.{leb, eqb}
use Rattle.std.specs.Prelude.{◌↔◌, ◌≢◌, IsTrue}
use lib.ListN.{length, get_or}
use borrow.Author.Tests.{le-leb, leb-true, eqb-true, eqb-false}
use Rattle.laws.specs.Tells.{Tells}
use Rattle.laws.proofs.Bools.{true_not_false, and_left, and_right}
use Rattle.laws.proofs.Tells.{tells_test, tells_no, tells_unique}
use Rattle.items.specs.Names.{name_room, name_bytes, is_name}
use Rattle.scans.specs.Bytes.{name_byte}

-- A zero byte is no byte of a name.
pub zero_no_byte : name_byte 0 ≡ false
unfolding name_byte
zero_no_byte = refl

pub byte_not_zero : {b : ℕ} → name_byte b ≡ true → b ≡ 0 → ⊥
byte_not_zero h e = true_not_false (rw e at h) zero_no_byte

-- The bytes are 1 to 16, and each is one that names are made of.
pub record Spelled (l : List ℕ) : Type 0 where
  pub least : 1 ≤ length l
  pub most : length l ≤ name_room
  pub bytes : (k : ℕ) → k < length l → name_byte (get_or l k 0) ≡ true

bytes_all : (l : List ℕ) → ((k : ℕ) → k < length l → name_byte (get_or l k 0) ≡ true) → name_bytes l ≡ true
unfolding name_bytes
bytes_all [] h = refl
bytes_all (b ∷ l) h = ap₂ ◌&&◌ (h 0 (omega arith)) (bytes_all l (λ k s. h (suc k) (omega arith)))

bytes_at : (l : List ℕ) → name_bytes l ≡ true → (k : ℕ) → k < length l → name_byte (get_or l k 0) ≡ true
unfolding name_bytes
bytes_at [] e k s = absurd (omega arith)
bytes_at (b ∷ l) e zero s = and_left (name_byte b) (name_bytes l) e
bytes_at (b ∷ l) e (suc k) s = bytes_at l (and_right (name_byte b) (name_bytes l) e) k (omega arith)

pub name_spelled : (l : List ℕ) → is_name l ≡ true → Spelled l
unfolding is_name
name_spelled l e = record {
  least = leb-true _ _ (and_left (leb 1 (length l)) (leb (length l) name_room) (and_left _ (name_bytes l) e));
  most = leb-true _ _ (and_right (leb 1 (length l)) (leb (length l) name_room) (and_left _ (name_bytes l) e));
  bytes = bytes_at l (and_right (leb 1 (length l) && leb (length l) name_room) (name_bytes l) e);
}

pub spelled_name : {l : List ℕ} → Spelled l → is_name l ≡ true
unfolding is_name
spelled_name {l} s = ap₂ ◌&&◌ (ap₂ ◌&&◌ (le-leb 1 (length l) s.least) (le-leb (length l) name_room s.most)) (bytes_all l s.bytes)

pub name_tells : (l : List ℕ) → Tells (Spelled l) (is_name l)
name_tells l = tells_test (name_spelled l) spelled_name

-- What the code tells of a name: no bytes, too many, and the test of each byte.
pub name_none : (l : List ℕ) {e : Bool} → e ≡ eqb (length l) 0 → e ≡ true → false ≡ is_name l
name_none l is e = tells_unique (tells_no (λ s. omega (arith, s.least, eqb-true (length l) 0 (sym is ∙ e)))) (name_tells l)

pub name_long : (l : List ℕ) → name_room < length l → false ≡ is_name l
name_long l h = tells_unique (tells_no (λ s. omega (arith, s.most))) (name_tells l)

pub name_told : (l : List ℕ) {e r : Bool} → e ≡ eqb (length l) 0 → e ≡ false → length l ≤ name_room
    → (IsTrue r ↔ ((k : ℕ) → k < length l → name_byte (get_or l k 0) ≡ true)) → r ≡ is_name l
name_told l {r = r} is e h t = tells_unique told (name_tells l)
  where
    some : 1 ≤ length l
    some = let n : length l ≢ 0 = eqb-false (length l) 0 (sym is ∙ e) in omega arith

    told : Tells (Spelled l) r
    told = tells_test (λ z. record { least = some; most = h; bytes = t.0 z }) (λ s. t.1 s.bytes)
