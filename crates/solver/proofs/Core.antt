-- The core: what settling tells of the labellings below a bound, in every part, and where lowering ends.
-- Assumes nothing.
use mathlib.Core.Path.{◌≡◌, sym, ◌∙◌, ap}
use mathlib.Core.List.{List}
use Prim.Native.Nat.{ℕ, zero, suc, ◌+◌, ◌^◌, ◌<◌}
use native.Mathlib.Decide.{dec_lt}
use native.Mathlib.Nat.{not-suc-le-zero}
use native.Mathlib.Numerals.{add-one}
use native.Mathlib.Omega.{arith}
use Rattle.classes.specs.Bits.{bit, LowestOne}
use Rattle.classes.specs.Parts.{part_count, part, top_of}
use Rattle.classes.specs.declared.Class.{Class}
use Rattle.classes.proofs.Bits.{bit_ext, bit_of_zero}
use Rattle.meaning.specs.Rules.{Inside}
use Rattle.meaning.specs.InnerLowered.{LabellingBelow, RefusedBelow}
use Rattle.meaning.specs.Classes.{class_parts}
use Rattle.meaning.proofs.Settle.{greatest_labels, greatest_held}
use Rattle.meaning.proofs.Lowering.{numbers_lattice, lowered_start, lowered_end}
use Rattle.rules.specs.declared.Head.{Head}
use Rattle.rules.specs.Table.{book_of}
use Rattle.labels.specs.Labels.{listed}
use Rattle.solver.specs.InnerSteps.{book_in, values_in, labels_at, Settles}
use Rattle.solver.specs.InnerLowers.{LoweredParts, Lowers}
use Rattle.solver.specs.InnerLabels.{Bounded, LabelSays, labelled, unlabelled}
use Rattle.std.specs.Prelude.{Ok, Err}
use Rattle.solver.proofs.Sweep.{usable_inside}

module _ {h : Head} {t : List ℕ} {before mid : List Class} {w : Class} (bounded : Bounded h t before) (settled : Settles h t before mid w) where
  inside : (p : ℕ) → Inside (book_in p h t)
  inside = usable_inside bounded.usable

  -- where some labelling is below the bound, every floor is met
  below_zero : (p : ℕ) → p < part_count → {f : ℕ → ℕ} → LabellingBelow (values_in p) (book_in p h t) (labels_at p before) f → part p w ≡ 0
  below_zero p s x =
      settled.floors.zero p s
      (greatest_held (values_in p) (numbers_lattice (top_of p)) (book_in p h t) (inside p) (settled.greatest p s) x.labelling x.under)

  -- where every floor is met, some labelling is below the bound
  zero_below : (p : ℕ) → p < part_count → part p w ≡ 0 → LabellingBelow (values_in p) (book_in p h t) (labels_at p before) (labels_at p mid)
  zero_below p s z = record {
    labelling = greatest_labels (values_in p) (numbers_lattice (top_of p)) (book_in p h t) (bounded.tops p s) (settled.greatest p s) (settled.floors.held p s z);
    under = (settled.greatest p s).pushed.under;
  }

  refused_at : (p : ℕ) → p < part_count → (part p w ≡ 0 → ⊥) → ((q : ℕ) → q < p → part q w ≡ 0) → RefusedBelow class_parts (book_of h t) (listed before) p
  refused_at p s fails zeros = record {
    is_part = s;
    unmet = λ f x. fails (below_zero p s x);
    lower = λ q l. (labels_at q mid, zero_below q (omega arith) (zeros q l));
  }

  pub without_level : (w.level ≡ 0 → ⊥) → {after : List Class} → LabelSays h t before (Err 0) after
  unfolding part
  without_level ne = unlabelled (refused_at 0 (omega arith) ne (λ q l. absurd (not-suc-le-zero l)))

  pub without_mark : w.level ≡ 0 → (w.marks ≡ 0 → ⊥) → w.marks < 2 ^ 64 → {k : ℕ} → LowestOne 64 w.marks k → {after : List Class}
      → LabelSays h t before (Err (k + 1)) after
  unfolding part
  without_mark z ne small {k} low = unlabelled {p = k + 1} (rw add-one (refused_at (suc k) (omega (arith, below)) (λ e. absurd (omega (arith, low.one below))) lower))
    where
      below : k < 64
      below = pick (dec_lt k 64)
        where
          pick : Dec (k < 64) → k < 64
          pick (yes s) = s
          pick (no s) = absurd (ne (bit_ext 64 w.marks 0 small (omega arith) (λ j l. low.zeros j (omega arith) ∙ sym (bit_of_zero j))))

      lower : (q : ℕ) → q < suc k → part q w ≡ 0
      lower zero l = z
      lower (suc q) l = low.zeros q (omega arith)

  pub all_labelled : w.level ≡ 0 → w.marks ≡ 0 → {after : List Class} → Lowers h t 0 h.items mid after → LabelSays h t before (Ok tt) after
  unfolding part
  all_labelled z e lowers = labelled (record {
    wanted = λ p s. lowered_end (top_of p) (book_in p h t) (inside p) (labels_at p before) ((lowers.lowered (λ q. labels_at q before) start).each p s);
  })
    where
      start : LoweredParts h t (λ p. labels_at p before) 0 mid
      start = record {
        each = λ p s.
            lowered_start (top_of p) (book_in p h t) (inside p) (labels_at p before) (bounded.tops p s) (settled.greatest p s) (settled.floors.held p s (zeros p));
      }
        where
          zeros : (p : ℕ) → part p w ≡ 0
          zeros zero = z
          zeros (suc k) = ap (bit k) e ∙ bit_of_zero k
