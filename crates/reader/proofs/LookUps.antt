-- Names looked up in the item table: the bytes of a name, the right name, left names one after the other, and whether left places rise. They rest
-- on the laws of searches and of what a put leaves in a buffer.
-- Assumes nothing.
use Rattle.std.proofs.lemmas.Option.{none-some}
use Rattle.std.specs.Prelude.{Some, None, Ok, Err, Option}
use mathlib.Core.Path.{◌≡◌, refl, sym, ap, ◌∙◌}
use mathlib.Core.Bool.{Bool, true, false, ◌&&◌}
use mathlib.Core.List.{List, [], ◌∷◌}
use Prim.Native.Nat.{ℕ, suc, ◌+◌, ◌-◌, ◌≤◌, ◌<◌, min}
use native.Mathlib.Decide.{dec_le}
use native.Mathlib.Omega.{arith}
use lib.Dec.{ltb}
use lib.ListN.{length, get_or, set, take, drop, drop_of_length-le, length-drop, length-set, replicate}
use lib.Seq.{take_all, drop-drop}
use mir.Syntax.{w64}
use mir.Val.{Fits}
use borrow.Author.Tests.{eq-eqb, ne_eqb, lt-ltb, ltb-true}
use Rattle.laws.specs.Every.{every_below}
use Rattle.laws.proofs.Every.{every_all, every_at}
use Rattle.laws.specs.Over.{over}
use Rattle.laws.proofs.Over.{over_none, set_over, over_over}
use Rattle.refusals.specs.Sizes.{most_text, most_left}
use Rattle.scans.specs.Bytes.{name_byte, run_len}
use Rattle.scans.proofs.Runs.{run_le}
use Rattle.items.specs.Lookup.{Found, said_found, find_in, FindSays}
use Rattle.items.proofs.Lookup.{find_told}
use Rattle.reader.specs.Names.{is_item, item_number, every_item, numbers_of, rising}
use Rattle.reader.specs.Lines.{right_item_at, left_places}
use Rattle.reader.specs.InnerAdding.{LookReady, LooksUp}

-- What is not At is no item.
pub not_item : (x : Found) → ((i : ℕ) → x ≡ Ok (Some i) → ⊥) → is_item x ≡ false
not_item (Ok (Some i)) h = absurd (h i refl)
not_item (Ok None) h = refl
not_item (Err r) h = refl

-- The part of a text that is lent has the bytes at a place, as many as there are.
pub part_at : (s : List ℕ) (at len : ℕ) {from size : ℕ} → from ≡ min at (length s) → size ≡ min len (length s - from)
    → take (from + size - from) (drop from s) ≡ take len (drop at s)
part_at s at len {from} {size} e f = rw (same, begin (dec_le at (length s))) (cut (dec_le len (length (drop at s))))
  where
    same : from + size - from ≡ size
    same = omega arith

    begin : Dec (at ≤ length s) → drop from s ≡ drop at s
    begin (yes h) = let z : from ≡ at = omega (arith, e) in rw z
    begin (no h) = drop_of_length-le s {i = from} (omega (arith, e)) ∙ sym (drop_of_length-le s {i = at} (omega arith))

    cut : Dec (len ≤ length (drop at s)) → take size (drop at s) ≡ take len (drop at s)
    cut (yes h) = let z : size ≡ len = omega (arith, e, f, length-drop at s) in rw z
    cut (no h) =
        take_all size (drop at s) (omega (arith, e, f, length-drop at s)) ∙ sym (take_all len (drop at s) (omega arith))

pub found_at : (s : List ℕ) (at len : ℕ) (t : List ℕ) (n : ℕ) {from size : ℕ} → from ≡ min at (length s) → size ≡ min len (length s - from)
    → {r : Found} → FindSays t n (take (from + size - from) (drop from s)) (said_found r) → r ≡ find_in t n (take len (drop at s))
found_at s at len t n e f g = find_told g ∙ ap (find_in t n) (part_at s at len e f)

-- The right name.
pub right_none : (t : List ℕ) (n len : ℕ) (l : List ℕ) → len ≡ 0 → Ok (Some 0) ≡ right_item_at t n len l
unfolding right_item_at
right_none t n len l e = rw (eq-eqb len 0 e)

pub right_some : (t : List ℕ) (n len : ℕ) (l : List ℕ) → (len ≡ 0 → ⊥) → {r : Found} → r ≡ find_in t n (take len l) → r ≡ right_item_at t n len l
unfolding right_item_at
right_some t n len l e f = rw (ne_eqb len 0 e) f

-- Left places that rise up to place k.
pub record Rising (left : List ℕ) (k : ℕ) : Type 0 where
  pub least : 1 ≤ k
  pub below : (j : ℕ) → suc j < k → get_or left j 0 < get_or left (suc j) 0

pub rising_one : {left : List ℕ} → Rising left 1
rising_one = record { least = omega arith; below = λ j h. absurd (omega arith) }

pub rising_more : {left : List ℕ} {k : ℕ} → Rising left k → get_or left (k - 1) 0 < get_or left k 0 → Rising left (k + 1)
rising_more {left} {k} w h = record { least = omega arith; below = λ j i. go j (dec_le k (suc j)) i }
  where
    go : (j : ℕ) → Dec (k ≤ suc j) → suc j < k + 1 → get_or left j 0 < get_or left (suc j) 0
    go j (yes g) i = let a : k ≡ suc j = omega arith in let b : k - 1 ≡ j = omega arith in rw (b, a) at h
    go j (no g) i = w.below j (omega arith)

pub rising_not : {left : List ℕ} {k : ℕ} → Rising left k → (count : ℕ) → k < count → get_or left k 0 ≤ get_or left (k - 1) 0 → false ≡ rising count left
unfolding rising
rising_not {left} {k} w count g h = refuse (every_below (count - 1) (λ j. ltb (get_or left j 0) (get_or left (suc j) 0))) refl
  where
    here : suc (k - 1) ≡ k
    here = omega (arith, w.least)

    refuse : (b : Bool) → every_below (count - 1) (λ j. ltb (get_or left j 0) (get_or left (suc j) 0)) ≡ b → false ≡ b
    refuse false e = refl
    refuse true e =
        let up : get_or left (k - 1) 0 < get_or left (suc (k - 1)) 0 = ltb-true _ _ (every_at (count - 1) _ e (k - 1) (omega (arith, w.least))) in
        absurd (omega (arith, rw here at up))

pub rising_all : {left : List ℕ} {k : ℕ} → Rising left k → (count : ℕ) → count ≤ k → true ≡ rising count left
unfolding rising
rising_all {left} {k} w count h = sym (every_all (count - 1) _ (λ j i. lt-ltb _ _ (w.below j (omega arith))))

-- What is put from a place on, with its first number put already.
over_next : (d : List ℕ) (k b : ℕ) (x : List ℕ) → k < length d → over (set d k b) (k + 1) x ≡ over d k (b ∷ x)
over_next d k b x h = rw (set_over d k b h) (over_over d k (b ∷ []) (omega arith) x)

-- Left names looked up one after the other: k of them are, and the next one stands at `place`.
pub record Looking (text : List ℕ) (at count : ℕ) (t : List ℕ) (n : ℕ) (left : List ℕ) (place k : ℕ) : Type 0 where
  pub within : k ≤ count
  pub near : place ≤ most_text + k
  pub sized : length left ≡ most_left
  pub told : every_item t n (count - k) (drop place text) ≡ every_item t n count (drop at text)
  pub items : over left k (numbers_of t n (count - k) (drop place text)) ≡ left_places (numbers_of t n count (drop at text))

pub looking_none : {text : List ℕ} {at count : ℕ} (t : List ℕ) (n : ℕ) → LookReady text at count → Looking text at count t n (replicate most_left 0) at 0
looking_none {count = count} t n r =
    let all : count - 0 ≡ count = omega arith in
    record { within = omega arith; near = omega (arith, r.place); sized = refl; told = rw all; items = rw all }

pub looking_room : {text : List ℕ} {at count : ℕ} {t : List ℕ} {n : ℕ} {left : List ℕ} {place k : ℕ}
    → Looking text at count t n left place k → LookReady text at count → k < count → k < length left
looking_room w r h = omega (arith, w.sized, r.few)

module _ {text : List ℕ} {at count : ℕ} {t : List ℕ} {n : ℕ} {left : List ℕ} {place k : ℕ}
    (w : Looking text at count t n left place k) (r : LookReady text at count) (h : k < count) {len : ℕ}
    (e : len ≡ run_len name_byte (drop place text)) where
  next : count - k ≡ suc (count - (k + 1))
  next = omega arith

  pub looking_fits : Fits w64 (len + 1)
  looking_fits = record { fits = omega (arith, e, run_le name_byte (drop place text), length-drop place text, r.text) }

  pub looking_next : Fits w64 (place + (len + 1))
  looking_next = record { fits = omega (arith, e, run_le name_byte (drop place text), length-drop place text, r.text, w.near, r.few) }

  module _ {x : Found} (f : x ≡ find_in t n (take len (drop place text))) where
    first : find_in t n (take (run_len name_byte (drop place text)) (drop place text)) ≡ x
    first = rw (← e) (sym f)

    rest : drop (run_len name_byte (drop place text) + 1) (drop place text) ≡ drop (place + (len + 1)) text
    rest = rw (← e) (drop-drop (len + 1) place text)

    step : every_item t n (count - k) (drop place text) ≡ (is_item x && every_item t n (count - (k + 1)) (drop (place + (len + 1)) text))
    unfolding every_item
    step = rw (next, first, rest)

    numbers : numbers_of t n (count - k) (drop place text) ≡ item_number x ∷ numbers_of t n (count - (k + 1)) (drop (place + (len + 1)) text)
    unfolding numbers_of
    numbers = rw (next, first, rest)

    pub looking_absent : ((i : ℕ) → x ≡ Ok (Some i) → ⊥) → LooksUp t n count (drop at text) None
    looking_absent g = record {
      told = sym (sym w.told ∙ step ∙ rw (not_item x g));
      items = λ left e. absurd (none-some left e);
    }

    pub looking_more : {i : ℕ} → x ≡ Ok (Some i) → Looking text at count t n (set left k i) (place + (len + 1)) (k + 1)
    looking_more {i} g = record {
      within = omega arith;
      near = omega (arith, e, run_le name_byte (drop place text), length-drop place text, r.text, w.near);
      sized = rw length-set w.sized;
      told = sym (step ∙ rw g) ∙ w.told;
      items = over_next left k i _ (looking_room w r h) ∙ ap (over left k) (sym (rw g at numbers)) ∙ w.items;
    }

pub looking_all : {text : List ℕ} {at count : ℕ} {t : List ℕ} {n : ℕ} {left : List ℕ} {place k : ℕ}
    → Looking text at count t n left place k → count ≤ k → LooksUp t n count (drop at text) (Some left)
unfolding every_item numbers_of
looking_all {text} {at} {count} {t} {n} {left} {place} {k} w h =
    let none : count - k ≡ 0 = omega arith in
    record { told = rw none at w.told; items = λ l e. same e ∙ sym (over_none left k) ∙ rw none at w.items }
  where
    same : {l : List ℕ} → ◌≡◌ {A = Option (List ℕ)} (Some left) (Some l) → l ≡ left
    same e = cc
