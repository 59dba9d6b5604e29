-- Items and labels past the count are not looked at: tables with the same items, and labels that agree on them, say the same of an export. It rests on that
-- looking up goes by the count.
-- Assumes nothing.
use mathlib.Core.Path.{◌≡◌, sym, ◌∙◌}
use mathlib.Core.Bool.{Bool}
use mathlib.Core.List.{List}
use Prim.Native.Nat.{ℕ, ◌<◌}
use native.Mathlib.Omega.{arith}
use Rattle.laws.proofs.Buffers.{SameFront}
use Rattle.classes.specs.declared.Class.{Class}
use Rattle.items.specs.Lookup.{find_in}
use Rattle.items.proofs.Counted.{SameItems, same_items_sym, find_counted, items_counted}
use Rattle.items.proofs.Lookup.{find_lowest}
use Rattle.labels.specs.Labels.{labels_in, LevelInRange, Room}
use Rattle.rules.specs.declared.Head.{Head}
use Rattle.refusals.specs.Said.{Said}
use Rattle.exports.specs.Names.{name_in, HeaderOk, KeepsCovered}
use Rattle.columns.specs.Columns.{HeaderSays, bad_header, more_header, bad_names, no_room, keeps}
use Rattle.columns.specs.Columns.{ColumnsSays, bad_items, few_labels, bad_label, headed}

-- Items and labels that are the same up to n.
pub record SameLabelled (n : ℕ) (t levels marks t' levels' marks' : List ℕ) : Type 0 where
  pub same_items : SameItems n t t'
  pub same_levels : SameFront n levels levels'
  pub same_marks : SameFront n marks marks'
  pub room : Room n levels marks
  pub room' : Room n levels' marks'

module _ {n : ℕ} {t levels marks t' levels' marks' : List ℕ} (s : SameLabelled n t levels marks t' levels' marks') where
  found_as : (name : List ℕ) → find_in t n name ≡ find_in t' n name
  found_as = find_counted s.same_items

  label_as : (i : ℕ) → i < n → labels_in levels marks i ≡ labels_in levels' marks' i
  label_as i h = rw (s.same_levels.same i h, s.same_marks.same i h)

  level_as : (i : ℕ) → i < n → LevelInRange levels i → LevelInRange levels' i
  level_as i h g = record { most = rw (s.same_levels.same i h) at g.most }

  level_back : (i : ℕ) → i < n → LevelInRange levels' i → LevelInRange levels i
  level_back i h g = record { most = rw (s.same_levels.same i h) g.most }

  names_as : {fs : List (List ℕ)} → HeaderOk t n fs → HeaderOk t' n fs
  names_as g = record {
    known = λ c h. record { item = (g.known c h).item; found = sym (found_as _) ∙ (g.known c h).found };
    distinct = g.distinct;
  }

  names_back : {fs : List (List ℕ)} → HeaderOk t' n fs → HeaderOk t n fs
  names_back g = record {
    known = λ c h. record { item = (g.known c h).item; found = found_as _ ∙ (g.known c h).found };
    distinct = g.distinct;
  }

  covered_as : {reader : Class} {fs : List (List ℕ)} {kept : List Bool} → KeepsCovered t n (labels_in levels marks) reader fs kept
      → KeepsCovered t' n (labels_in levels' marks') reader fs kept
  covered_as {fs = fs} g = record {
    columns = g.columns;
    covered = λ c i h f.
        rw (label_as i (find_lowest t' n (name_in fs c) i f).item) at (g.covered c i h (found_as _ ∙ f));
  }

  header_as : {reader : Class} {l : List ℕ} {last : Bool} {before : List Bool} {x : Said} {after : List Bool}
      → HeaderSays t n (labels_in levels marks) reader l last before x after → HeaderSays t' n (labels_in levels' marks') reader l last before x after
  header_as (bad_header e) = bad_header e
  header_as (more_header e) = more_header e
  header_as (bad_names e b) = bad_names e (λ g. b (names_back g))
  header_as (no_room e g short) = no_room e (names_as g) short
  header_as (keeps e g room k) = keeps e (names_as g) room (covered_as k)

pub columns_counted : {t levels marks t' levels' marks' : List ℕ} {h : Head} → SameLabelled h.items t levels marks t' levels' marks'
    → {reader : Class} {l : List ℕ} {last : Bool} {before : List Bool} {x : Said} {after : List Bool}
    → ColumnsSays t h levels marks reader l last before x after → ColumnsSays t' h levels' marks' reader l last before x after
columns_counted s (bad_items b) = bad_items (λ o. b (items_counted (same_items_sym s.same_items) o))
columns_counted s (few_labels o b) = absurd (b s.room)
columns_counted s (bad_label o r f) =
    bad_label (items_counted s.same_items o) s.room'
    (record {
      below = f.below;
      before = record { each = λ j h. level_as s j (omega (arith, f.below)) (f.before.each j h) };
      fails = λ g. f.fails (level_back s _ f.below g);
    })
columns_counted s (headed o r f p) =
    headed (items_counted s.same_items o) s.room' (record { each = λ j h. level_as s j h (f.each j h) }) (header_as s p)
