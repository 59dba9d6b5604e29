-- Tests that compute: whether labels are the wanted ones of a book, and whether a part is its refused one. A yes is a proof.
-- Assumes nothing.
use mathlib.Core.Path.{◌≡◌, refl, sym, subst}
use mathlib.Core.Bool.{Bool, true, not, ◌&&◌, cond}
use Prim.Native.Nat.{ℕ, zero, suc, ◌≤◌, ◌<◌}
use native.Mathlib.Decide.{ℕ_discrete, dec_lt}
use native.Mathlib.Omega.{arith}
use borrow.Author.Tests.{lt-ltb, le-ltb, eq-eqb, ne_eqb}
use lib.Dec.{T, leb, ltb, eqb, leb→le, ltb→lt, T_not}
use Rattle.laws.specs.Every.{every_below}
use Rattle.meaning.specs.Values.{numbers}
use Rattle.meaning.specs.Rules.{Left, LeftInside, Rule, cap, floor, follow, Book, RuleInside, Inside, Met}
use Rattle.meaning.specs.Labelling.{Labelling, Wanted}
use Rattle.meaning.specs.Parts.{Parts, in_part, part_values, Refused}
use Rattle.meaning.proofs.Search.{every_at, and_left, and_right}
use Rattle.meaning.proofs.Settle.{met_downb, downb_holds, met_upb, upb_holds, met_both, labels_of, greatest_list, solvableb, solvable_labels, labelling_solvable}
use Rattle.meaning.proofs.Lowering.{numbers_lattice}
use Rattle.meaning.proofs.PartLaws.{PartLaws}
use Rattle.meaning.proofs.Whole.{part_of, part_labelling, parts_wanted, inside_part}

-- Every name of every rule is an item.
unfoldable pub leftb : ℕ → Left → Bool
leftb n l = every_below l.count (λ k. ltb (l.item k) n)

unfoldable pub ruleb : {A : Type 0} → ℕ → Rule A → Bool
ruleb n (cap i v) = ltb i n
ruleb n (floor l v) = leftb n l
ruleb n (follow l i) = leftb n l && ltb i n

unfoldable pub insideb : {A : Type 0} → Book A → Bool
insideb b = every_below b.rules (λ r. ruleb b.items (b.rule r))

leftb_holds : (n : ℕ) (l : Left) → T (leftb n l) → LeftInside n l
unfolding leftb
leftb_holds n l t = record { within = λ k s. ltb→lt _ _ (every_at l.count _ t k s) }

ruleb_holds : {A : Type 0} (n : ℕ) (r : Rule A) → T (ruleb n r) → RuleInside n r
unfolding ruleb
ruleb_holds n (cap i v) t = ltb→lt i n t
ruleb_holds n (floor l v) t = leftb_holds n l t
ruleb_holds n (follow l i) t = (leftb_holds n l (and_left (leftb n l) (ltb i n) t), ltb→lt i n (and_right (leftb n l) (ltb i n) t))

pub insideb_holds : {A : Type 0} (b : Book A) → T (insideb b) → Inside b
unfolding insideb
insideb_holds b t = record { inside = λ r s. ruleb_holds b.items (b.rule r) (every_at b.rules _ t r s) }

-- The labels f before item i, v at i, and the top after it: what a labelling that is less than f at i, and first differs there, is below.
unfoldable pub ceiling : ℕ → (ℕ → ℕ) → ℕ → ℕ → ℕ → ℕ
ceiling top f i v j = cond (ltb j i) (f j) (cond (eqb j i) v top)

module _ (top : ℕ) (b : Book ℕ) (f : ℕ → ℕ) where
  under_ceiling : (g : ℕ → ℕ) → ((j : ℕ) → j < b.items → g j ≤ top) → (i v : ℕ) → ((j : ℕ) → j < i → f j ≡ g j) → g i ≤ v → (j : ℕ) → j < b.items → g j ≤ ceiling top f i v j
  unfolding ceiling
  under_ceiling g tops i v before small j s = pick (dec_lt j i) (ℕ_discrete j i)
    where
      pick : Dec (j < i) → Dec (j ≡ i) → g j ≤ cond (ltb j i) (f j) (cond (eqb j i) v top)
      pick (yes l) d = rw (lt-ltb j i l) (omega (arith, before j l))
      pick (no nl) (yes e) = rw (le-ltb j i (omega arith), eq-eqb j i e) (subst (λ k. g k ≤ v) (sym e) small)
      pick (no nl) (no ne) = rw (le-ltb j i (omega arith), ne_eqb j i ne) (tops j s)

  -- no labelling that agrees with f before item i has less than w there
  unfoldable pub leastb : ℕ → ℕ → Bool
  leastb i zero = true
  leastb i (suc v) = not (solvableb (numbers top) (numbers_lattice top) b (ceiling top f i v))

  leastb_holds : Inside b → (i w : ℕ) → T (leastb i w) → (g : ℕ → ℕ) → Labelling (numbers top) b g → ((j : ℕ) → j < i → f j ≡ g j) → w ≤ g i
  unfolding leastb
  leastb_holds inside i zero t g y before = omega arith
  leastb_holds inside i (suc v) t g y before = pick (dec_lt v (g i))
    where
      pick : Dec (v < g i) → suc v ≤ g i
      pick (yes s) = s
      pick (no ns) = absurd (T_not (solvableb (numbers top) (numbers_lattice top) b (ceiling top f i v)) t (labelling_solvable (numbers top) (numbers_lattice top) b inside (ceiling top f i v) y (under_ceiling g y.labels i v before (omega arith))))

  unfoldable pub labelsb : Bool
  labelsb = every_below b.items (λ i. leb (f i) top)

  unfoldable pub meetsb : Bool
  meetsb = every_below b.rules (λ r. met_downb (numbers top) (numbers_lattice top) (b.rule r) f && met_upb (numbers top) (numbers_lattice top) b (b.rule r) f)

  unfoldable pub wanted_inb : Bool
  wanted_inb = labelsb && (meetsb && every_below b.items (λ i. leastb i (f i)))

  wanted_inb_holds : Inside b → T wanted_inb → Wanted (numbers top) b f
  unfolding wanted_inb labelsb meetsb
  wanted_inb_holds inside t = record {
    labelling = record {
      labels = λ i s. leb→le (f i) top (every_at b.items _ (and_left labelsb _ t) i s);
      meets = λ r s. met r s (every_at b.rules _ (and_left meetsb _ (and_right labelsb _ t)) r s);
    };
    least = λ g y i d. record {
      covered = leastb_holds inside i (f i) (every_at b.items (λ k. leastb k (f k)) (and_right meetsb _ (and_right labelsb _ t)) i d.item) g y d.before;
      differs = d.differs;
    };
  }
    where
      met : (r : ℕ) → r < b.rules → T (met_downb (numbers top) (numbers_lattice top) (b.rule r) f && met_upb (numbers top) (numbers_lattice top) b (b.rule r) f) → Met (numbers top) (b.rule r) f
      met r s u =
          met_both (numbers top) (numbers_lattice top) b (b.rule r) f
          (downb_holds (numbers top) (numbers_lattice top) (b.rule r) f (and_left (met_downb (numbers top) (numbers_lattice top) (b.rule r) f) _ u))
          (upb_holds (numbers top) (numbers_lattice top) b (b.rule r) f (and_right (met_downb (numbers top) (numbers_lattice top) (b.rule r) f) _ u))

-- The labels of a whole book, and its refused part. `isb` says of a value whether it is a label.
module _ (P : Parts) (W : PartLaws P) (isb : P.values.Val → Bool) (isb_holds : (x : P.values.Val) → T (isb x) → P.values.Is x) (b : Book P.values.Val) where
  unfoldable pub wantedb : (ℕ → P.values.Val) → Bool
  wantedb f = insideb b && (every_below b.items (λ i. isb (f i)) && every_below P.count (λ p. wanted_inb (P.top p) (in_part P p b) (part_of P W p f)))

  pub wantedb_holds : (f : ℕ → P.values.Val) → T (wantedb f) → Wanted P.values b f
  unfolding wantedb
  wantedb_holds f t = parts_wanted P W b inside f (part_labelling P W b inside f is (λ p s. (part_of P W p f, (parts p s).labelling, λ i l. refl))) parts
    where
      inside : Inside b
      inside = insideb_holds b (and_left (insideb b) _ t)

      rest : T (every_below b.items (λ i. isb (f i)) && every_below P.count (λ p. wanted_inb (P.top p) (in_part P p b) (part_of P W p f)))
      rest = and_right (insideb b) _ t

      is : (i : ℕ) → i < b.items → P.values.Is (f i)
      is i s = isb_holds (f i) (every_at b.items _ (and_left (every_below b.items (λ k. isb (f k))) _ rest) i s)

      parts : (p : ℕ) → p < P.count → Wanted (part_values P p) (in_part P p b) (part_of P W p f)
      parts p s = wanted_inb_holds (P.top p) (in_part P p b) (part_of P W p f) (inside_part P W b inside p) (every_at P.count _ (and_right (every_below b.items (λ k. isb (f k))) _ rest) p s)

  -- some labelling meets the rules in part p
  unfoldable pub possibleb : ℕ → Bool
  possibleb p = solvableb (part_values P p) (numbers_lattice (P.top p)) (in_part P p b) (λ i. P.top p)

  unfoldable pub refusedb : ℕ → Bool
  refusedb p = insideb b && (ltb p P.count && (not (possibleb p) && every_below p possibleb))

  pub refusedb_holds : (p : ℕ) → T (refusedb p) → Refused P b p
  unfolding refusedb possibleb
  refusedb_holds p t = record {
    is_part = ltb→lt p P.count (and_left (ltb p P.count) _ rest);
    unmet = λ f y. T_not (possibleb p) (and_left (not (possibleb p)) _ parts) (labelling_solvable (part_values P p) (numbers_lattice (P.top p)) (in_part P p b) (inside_part P W b inside p) (λ i. P.top p) y y.labels);
    lower = λ q s. (
      labels_of (part_values P q) (numbers_lattice (P.top q)) (greatest_list (part_values P q) (numbers_lattice (P.top q)) (in_part P q b) (λ i. P.top q)),
      solvable_labels (part_values P q) (numbers_lattice (P.top q)) (in_part P q b) (inside_part P W b inside q) (λ i. P.top q) (λ i l. omega arith)
          (every_at p possibleb (and_right (not (possibleb p)) _ parts) q s),
    );
  }
    where
      inside : Inside b
      inside = insideb_holds b (and_left (insideb b) _ t)

      rest : T (ltb p P.count && (not (possibleb p) && every_below p possibleb))
      rest = and_right (insideb b) _ t

      parts : T (not (possibleb p) && every_below p possibleb)
      parts = and_right (ltb p P.count) _ rest
