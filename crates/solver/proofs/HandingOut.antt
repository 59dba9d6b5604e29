-- Labels handed out to two lists of words, one after the other.
-- Assumes nothing.
use mathlib.Core.Path.{refl, ◌∙◌, ap₂}
use mathlib.Core.List.{List}
use Prim.Native.Nat.{ℕ, ◌+◌, ◌<◌}
use native.Mathlib.Nat.{not-suc-le-zero}
use native.Mathlib.Omega.{arith}
use borrow.Author.Count.{below_more}
use lib.ListN.{length, set, length-set}
use lib.Seq.{get_or-set_same, get_or-set_other}
use Rattle.classes.specs.Class.{class_of}
use Rattle.classes.specs.declared.Class.{Class}
use Rattle.labels.specs.Labels.{listed}
use Rattle.solver.specs.Solving.{Buffers, held, RestKept}
use Rattle.solver.specs.InnerLowers.{HandsOut}

-- One word more, whatever is written there.
kept_none : {before : List ℕ} → RestKept 0 before before
kept_none = record { sized = refl; rest = λ i s. refl }

kept_more : {i : ℕ} {before cur : List ℕ} (v : ℕ) → RestKept i before cur → RestKept (i + 1) before (set cur i v)
kept_more {i} {before} {cur} v w = record {
  sized = length-set cur i v ∙ w.sized;
  rest = λ j l. get_or-set_other cur i j v 0 (λ e. absurd (omega arith)) ∙ w.rest j (omega arith);
}

pub handed_none : {l : List Class} {b : Buffers} → HandsOut l 0 b b
handed_none = record { label = λ i s. absurd (not-suc-le-zero s); levels = kept_none; marks = kept_none }

module _ {l : List Class} {i : ℕ} {before : Buffers} {levels marks : List ℕ} where
  pub handed_more : HandsOut l i before (held levels marks) → i < length levels → i < length marks
      → HandsOut l (i + 1) before (held (set levels i (listed l i).level) (set marks i (listed l i).marks))
  handed_more x s t = record {
    label = below_more _ _
        (λ j u. ap₂ class_of (get_or-set_other levels i j _ 0 (λ e. absurd (omega arith))) (get_or-set_other marks i j _ 0 (λ e. absurd (omega arith))) ∙ x.label j u)
        (ap₂ class_of (get_or-set_same levels i _ 0 s) (get_or-set_same marks i _ 0 t));
    levels = kept_more (listed l i).level x.levels;
    marks = kept_more (listed l i).marks x.marks;
  }
