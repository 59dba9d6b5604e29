-- The items that a rule's names are: those of the left side, which is accepted where they are found and rise, and the right one. They rest on the
-- laws of looking up a name.
-- Assumes nothing.
use Rattle.std.specs.Prelude.{Some, None, Ok, Err}
use mathlib.Core.Path.{◌≡◌, refl, sym, ap, ◌∙◌}
use mathlib.Core.Bool.{true}
use mathlib.Core.List.{List}
use Prim.Native.Nat.{ℕ, zero, suc, ◌+◌, ◌-◌, ◌≤◌, ◌<◌}
use native.Mathlib.Decide.{dec_lt}
use native.Mathlib.Omega.{arith}
use lib.Dec.{ltb}
use lib.ListN.{length, get_or, take, drop, get_or-eq_default}
use borrow.Author.Tests.{ltb-true}
use Rattle.laws.proofs.Bools.{true_not_false, and_left, and_right}
use Rattle.laws.proofs.Every.{every_at}
use Rattle.classes.specs.Class.{top_level}
use Rattle.refusals.specs.Sizes.{most_left}
use Rattle.items.specs.Lookup.{Found, find_in}
use Rattle.items.proofs.Lookup.{find_lowest}
use Rattle.accepts.specs.Accepted.{PlaceAccepted, RuleAccepted}
use Rattle.tokens.proofs.Tokens.{class_is_text}
use Rattle.lines.proofs.Sides.{name_some}
use Rattle.lines.specs.declared.Line.{Line}
use Rattle.reader.specs.Names.{first_name, rest_names, is_item, item_number, every_item, numbers_of, rising}
use Rattle.reader.specs.Lines.{State, rule_kind, left_places, left_numbers, right_found, rule_of}
use Rattle.reader.proofs.LookUps.{right_none, right_some}
use Rattle.reader.proofs.LineFacts.{names_some}
use Rattle.reader.proofs.LineCases.{RuleRead}
use Rattle.reader.proofs.Entries.{places_at}

pub found_item : (x : Found) → is_item x ≡ true → x ≡ Ok (Some (item_number x))
found_item (Ok (Some i)) e = refl
found_item (Ok None) e = absurd (true_not_false e refl)
found_item (Err r) e = absurd (true_not_false e refl)

pub item_below : (t : List ℕ) (n : ℕ) (name : List ℕ) → is_item (find_in t n name) ≡ true → item_number (find_in t n name) < n
item_below t n name e = (find_lowest t n name (item_number (find_in t n name)) (found_item (find_in t n name) e)).item

-- The left names.
pub numbers_length : (t : List ℕ) (n c : ℕ) (l : List ℕ) → length (numbers_of t n c l) ≡ c
unfolding numbers_of
numbers_length t n zero l = refl
numbers_length t n (suc c) l = ap suc (numbers_length t n c (rest_names l))

pub numbers_below : (t : List ℕ) (n c : ℕ) (l : List ℕ) → every_item t n c l ≡ true → (k : ℕ) → k < c → get_or (numbers_of t n c l) k 0 < n
unfolding every_item numbers_of
numbers_below t n zero l e k h = absurd (omega arith)
numbers_below t n (suc c) l e zero h = item_below t n (first_name l) (and_left _ (every_item t n c (rest_names l)) e)
numbers_below t n (suc c) l e (suc k) h = numbers_below t n c (rest_names l) (and_right (is_item (find_in t n (first_name l))) _ e) k (omega arith)

pub rising_at : (c : ℕ) (left : List ℕ) → rising c left ≡ true → (k : ℕ) → suc k < c → get_or left k 0 < get_or left (suc k) 0
unfolding rising
rising_at c left e k h = ltb-true _ _ (every_at (c - 1) (λ j. ltb (get_or left j 0) (get_or left (suc j) 0)) e k (omega arith))

-- A rule that is read is accepted.
module _ (st : State) (l : List ℕ) (x : Line) (h : RuleRead st l x) where
  abbrev numbers : List ℕ
  numbers = left_numbers st l x

  pub left_few : length numbers ≤ most_left
  left_few = omega (arith, numbers_length st.names st.counts.items x.value.names (drop x.from l), h.short)

  pub left_item_lem : (k : ℕ) → get_or (left_places numbers) k 0 ≡ get_or numbers k 0
  left_item_lem = places_at numbers left_few

  place_accepted : (k : ℕ) → PlaceAccepted st.counts.items (rule_of st l x) k
  place_accepted k = record {
    item = λ s. rw (left_item_lem k) (numbers_below st.names st.counts.items x.value.names (drop x.from l) h.found k s);
    rising = λ s. rising_at x.value.names (left_places numbers) h.rises k s;
    spare = λ s.
        left_item_lem k
        ∙ get_or-eq_default numbers 0
        (omega (arith, numbers_length st.names st.counts.items x.value.names (drop x.from l)));
  }

  level_low : x.value.class.level ≤ top_level
  level_low = go (dec_lt (rule_kind x.key) 2)
    where
      go : Dec (rule_kind x.key < 2) → x.value.class.level ≤ top_level
      go (yes z) = (class_is_text _ _ (h.value.classed z).class).class.level
      go (no z) = rw (h.value.named (omega (arith, h.value.known))).class (omega arith)

  pub right_name : rule_kind x.key ≡ 2
      → right_found st l x ≡ find_in st.names st.counts.items (take x.value.right (drop (x.from + x.value.left + 1) l))
  right_name z =
      let some = name_some _ _ (h.value.named z).name in
      sym (right_some st.names st.counts.items x.value.right _ (λ e. omega arith) refl)

  right_below : rule_kind x.key ≡ 2 → item_number (right_found st l x) < st.counts.items
  right_below z = rw (right_name z) (item_below st.names st.counts.items _ (rw (right_name z) at h.right))

  pub rule_accepted : RuleAccepted st.counts.items (rule_of st l x)
  rule_accepted = record {
    kind = h.value.known;
    left = record {
      some = names_some x.value.names (drop x.from l) x.value.left h.value.left;
      few = h.short;
      places = λ k s. place_accepted k;
    };
    level = level_low;
    single = h.value.single;
    right = right_below;
    levelless = λ z. rw (h.value.named z).class;
    markless = λ z. rw (h.value.named z).class;
    rightless = λ z. ap item_number (sym (right_none st.names st.counts.items x.value.right _ (h.value.classed z).right));
  }
