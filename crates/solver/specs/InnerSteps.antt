-- What each step of solving asks of a table and of labels, and does to labels in every part: a push, a sweep, and settling with the floors that it leaves
-- unmet.
-- Assumes nothing.
use Rattle.std.specs.Prelude.{◌≡◌, Bool, true, false, List, [], ◌∷◌, ℕ, suc, ◌+◌, ◌-◌, ◌≤◌, ◌<◌}
use Rattle.classes.specs.Class.{Covers, common_of}
use Rattle.classes.specs.Parts.{part_count, part}
use Rattle.classes.specs.declared.Class.{Class}
use Rattle.refusals.specs.Sizes.{most_items}
use Rattle.meaning.specs.InnerGreatest.{MetDown, MetUp, HeldUp, Between, Greatest, Placed, Pushed}
use Rattle.meaning.specs.Parts.{in_part, part_values}
use Rattle.meaning.specs.Rules.{Rule, map_rule, Book, Inside, RuleInside}
use Rattle.meaning.specs.Values.{Values}
use Rattle.meaning.specs.Classes.{classes, class_parts}
use Rattle.labels.specs.Labels.{listed}
use Rattle.rules.specs.declared.Head.{Head}
use Rattle.rules.specs.Record.{meaning_of}
use Rattle.rules.specs.Table.{rule_at, book_of}

-- The book seen in part p, the values of part p, and labels seen in part p.
abbrev pub book_in : ℕ → Head → List ℕ → Book ℕ
book_in p h t = in_part class_parts p (book_of h t)

abbrev pub values_in : ℕ → Values
values_in p = part_values class_parts p

abbrev pub labels_at : ℕ → List Class → ℕ → ℕ
labels_at p b i = part p (listed b i)

-- The rule that stands at r.
abbrev pub meant_at : List ℕ → ℕ → Rule Class
meant_at t r = meaning_of (rule_at t r)

-- All that solving rests on: every name is an item, and there are not too many of them. Nothing is asked of how many rules there are, of their order, and of the
-- levels that stand in them.
pub record Usable (h : Head) (t : List ℕ) : Type 0 where
  pub inside : Inside (book_of h t)
  pub size : h.items ≤ most_items

-- The same of one rule: every name of it has a label.
pub record Named (r : Rule Class) : Type 0 where
  pub count : ℕ
  pub inside : RuleInside count r
  pub size : count ≤ most_items

-- The sum of all levels and mark words: it falls whenever a label does.
unfoldable pub sum_of : List Class → ℕ
sum_of [] = 0
sum_of (x ∷ xs) = x.level + x.marks + sum_of xs

-- Nothing changed, or some label fell.
pub record Tracks (before after : List Class) (changed : Bool) : Type 0 where
  pub same : changed ≡ false → after ≡ before
  pub falls : changed ≡ true → sum_of after < sum_of before

-- Item i is lowered to what c covers; where nothing changed, c covers it.
pub record LowersItem (i : ℕ) (c : Class) (before after : List Class) (changed : Bool) : Type 0 where
  pub placed : (n : ℕ) → Placed n (listed before) i (common_of (listed before i) c) (listed after)
  pub covered : changed ≡ false → Covers c (listed before i)
  pub tracks : Tracks before after changed

-- A rule is pushed; where nothing changed, it is no floor's business or it is met.
pub record PushesRule (r : Rule Class) (before after : List Class) (changed : Bool) : Type 0 where
  pub pushed : (n : ℕ) → Pushed classes common_of n r (listed before) (listed after)
  pub met : changed ≡ false → MetDown classes r (listed before)
  pub tracks : Tracks before after changed

-- The rule of the k-th turn of a sweep over m rules, forward or back.
abbrev pub sweep_turn : Bool → ℕ → ℕ → ℕ
sweep_turn false m k = k
sweep_turn true m k = m - suc k

-- Every rule is pushed once; where nothing changed, every cap and every follow is met.
pub record Sweeps (h : Head) (t : List ℕ) (before after : List Class) (changed : Bool) : Type 0 where
  pub between : (p : ℕ) → p < part_count → Between (values_in p) (book_in p h t) (labels_at p before) (labels_at p after)
  pub met : changed ≡ false → (r : ℕ) → r < h.rules → MetDown classes (meant_at t r) (listed after)
  pub tracks : Tracks before after changed

-- w is 0 exactly in the parts in which x covers y.
pub record Misses (x y w : Class) : Type 0 where
  pub none : (p : ℕ) → p < part_count → part p w ≡ 0 → part p y ≤ part p x
  pub zero : (p : ℕ) → p < part_count → part p y ≤ part p x → part p w ≡ 0

-- w is 0 exactly in the parts in which the rule is no floor or is met.
pub record Lacks (r : Rule Class) (b : List Class) (w : Class) : Type 0 where
  pub met : (p : ℕ) → p < part_count → part p w ≡ 0 → MetUp (values_in p) (map_rule (part p) r) (labels_at p b)
  pub zero : (p : ℕ) → p < part_count → MetUp (values_in p) (map_rule (part p) r) (labels_at p b) → part p w ≡ 0

-- w is 0 exactly in the parts in which every floor is met.
pub record Unheld (h : Head) (t : List ℕ) (b : List Class) (w : Class) : Type 0 where
  pub held : (p : ℕ) → p < part_count → part p w ≡ 0 → HeldUp (values_in p) (book_in p h t) (labels_at p b)
  pub zero : (p : ℕ) → p < part_count → HeldUp (values_in p) (book_in p h t) (labels_at p b) → part p w ≡ 0

-- In every part the labels become the greatest below what they were that meet every cap and every follow, and w is 0 exactly in the parts in which these
-- meet every floor.
pub record Settles (h : Head) (t : List ℕ) (before after : List Class) (w : Class) : Type 0 where
  pub greatest : (p : ℕ) → p < part_count → Greatest (values_in p) (book_in p h t) (labels_at p before) (labels_at p after)
  pub floors : Unheld h t after w
