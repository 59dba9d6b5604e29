-- The answers of solving, one law for each.
-- Assumes nothing.
use mathlib.Core.Path.{◌≡◌, refl, sym, ap, subst, ◌∙◌}
use mathlib.Core.Bool.{Bool, true, false, not}
use mathlib.Core.List.{List, [], ◌∷◌}
use Prim.Native.Nat.{ℕ, zero, suc, ◌≤◌, ◌<◌}
use native.Mathlib.Omega.{arith}
use lib.ListN.{get_or, replicate, get_or-replicate}
use Rattle.std.specs.Prelude.{Result, Ok, Err}
use mir.Syntax.{w64}
use mir.Val.{Fits}
use Rattle.laws.specs.Tells.{Tells}
use Rattle.laws.proofs.Tells.{told_no, told_yes}
use Rattle.classes.specs.Class.{top_level, lowest, highest, IsClass}
use Rattle.classes.specs.declared.Class.{Class}
use Rattle.classes.specs.Parts.{part_count, part, top_of}
use Rattle.classes.proofs.Bits.{bit_small}
use Rattle.classes.proofs.Parts.{highest_parts}
use Rattle.refusals.specs.declared.Fault.{Fault}
use Rattle.refusals.specs.declared.Refusal.{Refusal}
use Rattle.refusals.specs.Sizes.{most_items}
use Rattle.refusals.specs.Said.{success, refusal_at, said_refusal}
use Rattle.meaning.specs.Classes.{classes, class_parts}
use Rattle.meaning.specs.InnerLowered.{RefusedBelow}
use Rattle.meaning.proofs.Classes.{class_laws}
use Rattle.meaning.proofs.Same.{wanted_same}
use Rattle.meaning.proofs.Whole.{parts_wanted_below, refused_below}
use Rattle.labels.specs.Labels.{listed, Room}
use Rattle.rules.specs.declared.Head.{Head}
use Rattle.rules.specs.Table.{book_of}
use Rattle.accepts.specs.Accepted.{TableAccepted}
use Rattle.accepts.proofs.Inside.{table_inside}
use Rattle.solver.specs.Solving.{Buffers, held, labels_of, SolveSays, bad_table, no_room, has_no_labelling, writes_labels}
use Rattle.solver.specs.InnerSteps.{labels_at}
use Rattle.solver.specs.InnerLowers.{HandsOut}
use Rattle.solver.specs.InnerLabels.{Bounded, WantedEverywhere, LabelSays, labelled, unlabelled}

-- The same class at every item is a bound.
abbrev every_item : Class → List Class
every_item x = replicate most_items x

every_label : (x : Class) (i : ℕ) → i < most_items → listed (every_item x) i ≡ x
every_label x i s = get_or-replicate most_items i x lowest s

pub start_bounded : {h : Head} {t : List ℕ} {b : Bool} → Tells (TableAccepted h t) b → not b ≡ false → (x : Class) → x.level ≤ top_level
    → Bounded h t (replicate most_items x)
unfolding part top_of
start_bounded {h} {t} told passed x small = record {
  usable = record { inside = table_inside ok; size = ok.accepted.items };
  tops = λ p s i q. subst (λ c. part p c ≤ top_of p) (sym (every_label x i (omega (arith, ok.accepted.items)))) (top p s);
}
  where
    ok : TableAccepted h t
    ok = told_yes told passed

    top : (p : ℕ) → p < part_count → part p x ≤ top_of p
    top zero s = small
    top (suc k) s = omega (arith, bit_small k x.marks)

-- What labelling comes to, by the answer.
outcome_wanted : {h : Head} {t : List ℕ} {start mid : List Class} → LabelSays h t start (Ok tt) mid → WantedEverywhere h t start mid
outcome_wanted (labelled x) = x

outcome_refused : {h : Head} {t : List ℕ} {start mid : List Class} {p : ℕ} → LabelSays h t start (Err p) mid
    → RefusedBelow class_parts (book_of h t) (listed start) p
outcome_refused (unlabelled x) = x

-- Labelling starts from the highest class at every item.
abbrev pub highest_start : List Class
highest_start = every_item highest

module _ {h : Head} {t : List ℕ} {before : Buffers} {b : Bool} (table : Tells (TableAccepted h t) b) where
  pub says_table : not b ≡ true → {r : Refusal} → r ≡ refusal_at Fault.BadTable 0 → SolveSays h t before (said_refusal r) before
  says_table failed e = rw e (bad_table (record { bad = told_no table failed; untouched = refl }))

  module _ (passed : not b ≡ false) {d : Bool} (room : Tells (Room h.items before.levels before.marks) d) where
    ok : TableAccepted h t
    ok = told_yes table passed

    pub says_room : not d ≡ true → {r : Refusal} → r ≡ refusal_at Fault.NoRoom 0 → SolveSays h t before (said_refusal r) before
    says_room failed e = rw e (no_room (record { accepted = ok; short = told_no room failed; untouched = refl }))

    module _ (fits : not d ≡ false) where
      pub few_enough : h.items ≤ most_items
      few_enough = ok.accepted.items

      pub has_room : Room h.items before.levels before.marks
      has_room = told_yes room fits

      tops : (p : ℕ) → p < part_count → (i : ℕ) → i < h.items → labels_at p highest_start i ≡ top_of p
      tops p s i l = ap (part p) (every_label highest i (omega (arith, ok.accepted.items))) ∙ highest_parts p s

      pub says_without : {mid : List Class} {o : Result (Unit {0}) ℕ} {p : ℕ} → LabelSays h t highest_start o mid → o ≡ Err p
          → {r : Refusal} → r ≡ refusal_at Fault.NoLabelling p → SolveSays h t before (said_refusal r) before
      says_without told e f = rw f (has_no_labelling (record {
        accepted = ok;
        room = told_yes room fits;
        unlabelled = refused_below class_parts class_laws (book_of h t) (table_inside ok) (listed highest_start) tops (outcome_refused (rw e at told));
        untouched = refl;
      }))

      module _ {mid : List Class} {o : Result (Unit {0}) ℕ} (told : LabelSays h t highest_start o mid) (e : o ≡ Ok tt) {levels marks : List ℕ} (out : HandsOut mid h.items before (held levels marks))
          (words : (i : ℕ) → Fits w64 (get_or marks i 0)) where
        everywhere : WantedEverywhere h t highest_start mid
        everywhere = outcome_wanted (rw e at told)

        written : (i : ℕ) → i < h.items → listed mid i ≡ labels_of (held levels marks) i
        written i s = sym (out.label i s)

        is : (i : ℕ) → i < h.items → IsClass (listed mid i)
        unfolding part top_of
        is i s = record {
          level = (everywhere.wanted 0 (omega arith)).below.labelling.labels i s;
          marks = omega (arith, (words i).fits, ap (λ (c : Class). c.marks) (out.label i s));
        }

        pub says_labelled : SolveSays h t before (success 0 (h.items ∷ [])) (held levels marks)
        says_labelled = writes_labels (record {
          accepted = ok;
          room = told_yes room fits;
          count = refl;
          wanted = wanted_same classes (book_of h t) (table_inside ok) written
              (parts_wanted_below class_parts class_laws (book_of h t) (table_inside ok) (listed highest_start) tops (listed mid) is everywhere.wanted);
          levels = out.levels;
          marks = out.marks;
        })
