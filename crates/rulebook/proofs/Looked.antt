-- The names of a rule, looked up where its line was written: each left name gives its item, and so does the right one. They rest on runs of
-- bytes and on what looking up a name answers.
-- Assumes nothing.
use Rattle.std.specs.Prelude.{Some, Ok}
use mathlib.Core.Path.{◌≡◌, refl, sym, ap, ◌∙◌}
use mathlib.Core.Bool.{Bool, true, false, cond}
use mathlib.Core.List.{List, [], ◌∷◌, ◌++◌, append_assoc}
use Prim.Native.Nat.{ℕ, zero, suc, ◌+◌, ◌-◌, ◌≤◌, ◌<◌}
use native.Mathlib.Nat.{zero-add, add-zero}
use native.Mathlib.Decide.{dec_lt}
use native.Mathlib.Omega.{arith}
use lib.Dec.{ltb}
use lib.ListN.{length, get_or, get_or-eq_default}
use lib.Seq.{take_at, drop_at, drop-drop}
use borrow.Author.Tests.{lt-ltb}
use Rattle.scans.specs.Ascii.{lf, plus, colon}
use Rattle.laws.proofs.Every.{every_all}
use Rattle.items.specs.Names.{is_name}
use Rattle.items.specs.Lookup.{find_in}
use Rattle.items.proofs.Names.{name_spelled}
use Rattle.rules.specs.Record.{by_kind, left_item}
use Rattle.rules.specs.declared.Rule.{Rule}
use Rattle.accepts.specs.Accepted.{LeftAccepted}
use Rattle.refusals.specs.Sizes.{most_left}
use Rattle.scans.specs.Bytes.{name_byte, run_len}
use Rattle.reader.specs.Names.{first_name, rest_names, every_item, numbers_of, rising}
use Rattle.reader.specs.Lines.{left_places, right_item_at}
use Rattle.reader.proofs.LookUps.{right_none, right_some}
use Rattle.writer.specs.Texts.{pieces}
use Rattle.rulebook.proofs.LinesRead.{plus_no_name, colon_no_name, name_before, signed}
use Rattle.rulebook.proofs.LineBytes.{name_run}
use Rattle.reader.proofs.Entries.{places_at}

-- The first name of a text, and what stands behind it and the byte that follows it.
module _ (x : List ℕ) (b : ℕ) (rest : List ℕ) (e : is_name x ≡ true) (f : name_byte b ≡ false) where
  run_name : run_len name_byte (x ++ b ∷ rest) ≡ length x
  run_name = name_run (x ++ b ∷ rest) (length x) (name_before x b rest e f)

  first_name_lem : first_name (x ++ b ∷ rest) ≡ x
  first_name_lem = rw run_name (take_at x (b ∷ rest) (length x) refl)

  rest_names_lem : rest_names (x ++ b ∷ rest) ≡ rest
  rest_names_lem = rw run_name (sym (drop-drop 1 (length x) (x ++ b ∷ rest)) ∙ rw (drop_at x (b ∷ rest) (length x) refl))

sign_no_name : (b : Bool) → name_byte (cond b plus colon) ≡ false
sign_no_name true = plus_no_name
sign_no_name false = colon_no_name

-- The numbers that a function gives from k on.
abbrev pub numbered : (ℕ → ℕ) → ℕ → ℕ → List ℕ
numbered item k d = pieces (λ j. item j ∷ []) k d

numbered_length : (item : ℕ → ℕ) (d k : ℕ) → length (numbered item k d) ≡ d
unfolding pieces
numbered_length item zero k = refl
numbered_length item (suc d) k = ap suc (numbered_length item d (suc k))

pub numbered_at : (item : ℕ → ℕ) (d k j : ℕ) → j < d → get_or (numbered item k d) j 0 ≡ item (k + j)
unfolding pieces
numbered_at item zero k j h = absurd (omega arith)
numbered_at item (suc d) k zero h = ap item (sym (add-zero k))
numbered_at item (suc d) k (suc j) h = numbered_at item d (suc k) j (omega arith) ∙ ap item (omega arith)

-- c names, each of which is an item of the table.
module _ (t : List ℕ) (n : ℕ) (name : ℕ → List ℕ) (item : ℕ → ℕ) (c : ℕ) (ok : (j : ℕ) → j < c → is_name (name j) ≡ true)
    (found : (j : ℕ) → j < c → find_in t n (name j) ≡ Ok (Some (item j))) where
  abbrev sign : ℕ → ℕ
  sign k = cond (ltb (k + 1) c) plus colon

  whole : (k : ℕ) (l rest : List ℕ) → signed name c k ++ l ++ rest ≡ name k ++ sign k ∷ (l ++ rest)
  whole k l rest = append_assoc (signed name c k) l rest ∙ append_assoc (name k) (sign k ∷ []) (l ++ rest)

  first_here : (k : ℕ) (l rest : List ℕ) → k < c → first_name (signed name c k ++ l ++ rest) ≡ name k
  first_here k l rest h = rw (whole k l rest) (first_name_lem (name k) (sign k) (l ++ rest) (ok k h) (sign_no_name (ltb (k + 1) c)))

  rest_here : (k : ℕ) (l rest : List ℕ) → k < c → rest_names (signed name c k ++ l ++ rest) ≡ l ++ rest
  rest_here k l rest h = rw (whole k l rest) (rest_names_lem (name k) (sign k) (l ++ rest) (ok k h) (sign_no_name (ltb (k + 1) c)))

  pub every_item_lem : (d k : ℕ) (rest : List ℕ) → k + d ≡ c → every_item t n d (pieces (signed name c) k d ++ rest) ≡ true
  unfolding every_item pieces
  every_item_lem zero k rest e = refl
  every_item_lem (suc d) k rest e =
      let l = pieces (signed name c) (suc k) d in
      rw (first_here k l rest (omega arith), found k (omega arith), rest_here k l rest (omega arith))
      (every_item_lem d (suc k) rest (omega arith))

  pub numbers_of_lem : (d k : ℕ) (rest : List ℕ) → k + d ≡ c → numbers_of t n d (pieces (signed name c) k d ++ rest) ≡ numbered item k d
  unfolding numbers_of pieces
  numbers_of_lem zero k rest e = refl
  numbers_of_lem (suc d) k rest e =
      let l = pieces (signed name c) (suc k) d in
      rw (first_here k l rest (omega arith), found k (omega arith), rest_here k l rest (omega arith))
      (ap (λ (r : List ℕ). item k ∷ r) (numbers_of_lem d (suc k) rest (omega arith)))

-- The left places of an accepted rule are its own, and they rise.
module _ {n : ℕ} {x : Rule} (a : LeftAccepted n x) where
  abbrev places : List ℕ
  places = left_places (numbered (left_item x) 0 x.count)

  pub place_same : (k : ℕ) → k < most_left → get_or places k 0 ≡ left_item x k
  place_same k h = places_at items (omega (arith, long, a.few)) k ∙ go (dec_lt k x.count)
    where
      items : List ℕ
      items = numbered (left_item x) 0 x.count

      long : length items ≡ x.count
      long = numbered_length (left_item x) x.count 0

      go : Dec (k < x.count) → get_or items k 0 ≡ left_item x k
      go (yes l) = numbered_at (left_item x) x.count 0 k l ∙ ap (left_item x) (zero-add k)
      go (no l) = get_or-eq_default items 0 (omega (arith, long)) ∙ sym ((a.places k h).spare (omega arith))

  pub places_rise : rising x.count places ≡ true
  unfolding rising
  places_rise =
      every_all (x.count - 1) (λ k. ltb (get_or places k 0) (get_or places (suc k) 0))
      (λ k h.
      let few : x.count ≤ most_left = a.few in
      rw (place_same k (omega arith), place_same (suc k) (omega arith))
      (lt-ltb (left_item x k) (left_item x (suc k)) ((a.places k (omega arith)).rising (omega arith))))

-- The right name of a follow gives its item; a cap and a floor have none, which gives item 0.
pub right_found_lem : (t : List ℕ) (n k : ℕ) (class x rest : List ℕ) (i : ℕ) → (k < 2 → i ≡ 0) → (2 ≤ k → find_in t n x ≡ Ok (Some i))
    → (2 ≤ k → is_name x ≡ true) → right_item_at t n (by_kind k 0 0 (length x)) (by_kind k class class x ++ lf ∷ rest) ≡ Ok (Some i)
right_found_lem t n zero class x rest i z f ok = sym (right_none t n 0 _ refl) ∙ ap (λ k. Ok (Some k)) (sym (z (omega arith)))
right_found_lem t n (suc zero) class x rest i z f ok = sym (right_none t n 0 _ refl) ∙ ap (λ k. Ok (Some k)) (sym (z (omega arith)))
right_found_lem t n (suc (suc k)) class x rest i z f ok =
    sym (right_some t n (length x) (x ++ lf ∷ rest) (λ e. omega (arith, (name_spelled x (ok (omega arith))).least)) refl)
    ∙ rw (take_at x (lf ∷ rest) (length x) refl) (f (omega arith))
