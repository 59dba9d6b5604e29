-- The answers of `strip`, each from the tests before it and what was taken.
-- Assumes nothing.
use mathlib.Core.Path.{◌≡◌, refl, sym, ap, subst, ◌∙◌}
use mathlib.Core.Bool.{Bool, true, false, cond, ◌&&◌}
use mathlib.Core.List.{List, [], ◌∷◌}
use Prim.Native.Nat.{ℕ, ◌+◌, ◌≤◌, ◌<◌}
use native.Mathlib.Nat.{zero-add}
use native.Mathlib.Omega.{arith}
use lib.Dec.{ltb, eqb}
use lib.ListN.{length, take}
use lib.Seq.{length-take-le}
use borrow.Author.Tests.{lt-ltb, le-ltb, ne_eqb}
use Rattle.puts.specs.Writing.{Put}
use Rattle.laws.specs.Over.{over}
use Rattle.puts.proofs.Placed.{put_buffer}
use Rattle.laws.proofs.Over.{over_none, take_over}
use Rattle.records.specs.Rows.{most_fields}
use Rattle.refusals.specs.Said.{refused_by}
use Rattle.refusals.specs.Sizes.{most_text}
use Rattle.refusals.specs.declared.Fault.{Fault}
use Rattle.exports.specs.Rows.{Taken, taken}
use Rattle.exports.specs.Text.{record_lines}
use Rattle.exports.proofs.Joining.{lines_none}
use Rattle.stripping.specs.Stripping.{said_cut, said_stripped, answer_to, made_of, strip_answer, StripSays}
use Rattle.stripping.specs.Inner.{front_cut, FrontSays}
use Rattle.stripping.specs.declared.Cut.{Cut}
use Rattle.refusals.specs.declared.Refusal.{Refusal}
use Rattle.std.specs.Prelude.{Option, Some, None, Result, Ok, Err, ok_or}
use Rattle.stripping.proofs.Making.{made_size}

-- What is known of a cut from what was taken.
pub record Cuts (kept : List Bool) (t : Taken) (cut : Cut) : Type 0 where
  pub good : (eqb (length t.rows) 0 && t.faulty) ≡ false
  pub used : cut.used ≡ t.used
  pub len : cut.len ≡ length (record_lines kept t.rows)
  pub records : cut.records ≡ length t.rows

abbrev cut_or : Cut → Option Cut → Cut
cut_or d (Some c) = c
cut_or d None = d

module _ (kept : List Bool) (t : Taken) where
  abbrev all_cut : Cut
  all_cut = record { used = t.used; len = length (record_lines kept t.rows); records = length t.rows }

  cut_some : {cut : Cut} → Some cut ≡ front_cut kept t → Cuts kept t cut
  cut_some {cut} = by (eqb (length t.rows) 0 && t.faulty) refl
    where
      by : (b : Bool) → (eqb (length t.rows) 0 && t.faulty) ≡ b → Some cut ≡ cond b None (Some all_cut) → Cuts kept t cut
      by true f e = let z : ◌≡◌ {A = ℕ} 0 1 = cc in absurd (omega arith)
      by false f e =
          let is : cut ≡ all_cut = ap (cut_or cut) e in
          record { good = f; used = ap (λ (c : Cut). c.used) is; len = ap (λ (c : Cut). c.len) is; records = ap (λ (c : Cut). c.records) is }

  cut_none : None ≡ front_cut kept t → (eqb (length t.rows) 0 && t.faulty) ≡ true
  cut_none = by (eqb (length t.rows) 0 && t.faulty) refl
    where
      by : (b : Bool) → (eqb (length t.rows) 0 && t.faulty) ≡ b → None ≡ cond b None (Some all_cut) → (eqb (length t.rows) 0 && t.faulty) ≡ true
      by true f e = f
      by false f e = let z : ◌≡◌ {A = ℕ} 0 1 = cc in absurd (omega arith)

-- What was put is no longer than the buffer, and stands at its front.
module _ {l : List ℕ} {last : Bool} {kept : List Bool} {d d' : List ℕ} {cut : Cut} (p : FrontSays l last kept d (Some cut) d') where
  cuts : Cuts kept (taken last (length kept) l) cut
  cuts = cut_some kept (taken last (length kept) l) p.cut

  pub front_within : cut.len ≤ length d'
  front_within = omega (arith, cuts.len, p.made.room, made_size p.made)

  pub front_text : take cut.len d' ≡ made_of l last kept
  front_text =
      ap (λ (k : ℕ). take k d') (cuts.len ∙ sym (zero-add (length (made_of l last kept))))
      ∙ ap (take (0 + length (made_of l last kept))) p.made.buffer ∙ take_over d 0 (made_of l last kept) p.made.room

-- The first record is bad: none was taken.
pub first_bad : (rows : List (List (List ℕ))) (faulty : Bool) → (eqb (length rows) 0 && faulty) ≡ true → (rows ≡ []) × (faulty ≡ true)
first_bad [] true e = (refl, refl)
first_bad [] false e = let z : ◌≡◌ {A = ℕ} 0 1 = cc in absurd (omega arith)
first_bad (fs ∷ rows) faulty e =
    let f : false ≡ true = sym (ap (λ (t : Bool). t && faulty) (ne_eqb (length (fs ∷ rows)) 0 (λ h. omega (arith, h)))) ∙ e in
    let z : ◌≡◌ {A = ℕ} 0 1 = cc in absurd (omega arith)

-- Then nothing was put.
pub front_refused : {l : List ℕ} {last : Bool} {kept : List Bool} {d d' : List ℕ} → FrontSays l last kept d None d' → d' ≡ d
front_refused {l} {last} {kept} {d} p =
    p.made.buffer
    ∙ ap (over d 0)
    (ap (record_lines kept)
    (first_bad (taken last (length kept) l).rows (taken last (length kept) l).faulty (cut_none kept (taken last (length kept) l) p.cut)).0
    ∙ lines_none kept)
    ∙ over_none d 0

-- A refusal is answered.
abbrev refused_for : Fault → ℕ → Refusal
refused_for f p = record { fault = f; place = p }

module _ (l : List ℕ) (last : Bool) (kept : List Bool) (number : ℕ) (out : List ℕ) where
  pub says_long : {f : Refusal} → most_text < length l → f ≡ refused_for Fault.TooLong 0 → StripSays l last kept number out (said_stripped (Err f)) out
  unfolding strip_answer
  says_long h f = rw f (record { answer = rw (lt-ltb most_text (length l) h); out_is = refl })

  module _ (short : length l ≤ most_text) where
    pub says_wide : {f : Refusal} → most_fields < length kept → f ≡ refused_for Fault.BadTable 0
        → StripSays l last kept number out (said_stripped (Err f)) out
    unfolding strip_answer
    says_wide h f = rw f (record { answer = rw (le-ltb most_text (length l) short, lt-ltb most_fields (length kept) h); out_is = refl })

    module _ (narrow : length kept ≤ most_fields) where
      answer_is : answer_to number (length out) (length (made_of l last kept)) (taken last (length kept) l)
          ≡ strip_answer l last kept number (length out)
      unfolding strip_answer
      answer_is = rw (le-ltb most_text (length l) short, le-ltb most_fields (length kept) narrow)

      -- The answer by the two tests that are left.
      answer_by : (a b : Bool) → (eqb (length (taken last (length kept) l).rows) 0 && (taken last (length kept) l).faulty) ≡ a
          → ltb (length out) (length (made_of l last kept)) ≡ b
          → cond a (refused_by Fault.CsvSyntax number)
          (cond b (refused_by Fault.NoRoom 0)
          (said_cut (taken last (length kept) l).used (length (made_of l last kept)) (length (taken last (length kept) l).rows)))
          ≡ strip_answer l last kept number (length out)
      answer_by a b e f = rw (← e, ← f) answer_is

      module _ {d₀ d : List ℕ} where
        refused_answer : FrontSays l last kept d₀ None d → refused_by Fault.CsvSyntax number ≡ strip_answer l last kept number (length out)
        refused_answer p =
            answer_by true (ltb (length out) (length (made_of l last kept))) (cut_none kept (taken last (length kept) l) p.cut) refl

        text_answer : {cut : Cut} → FrontSays l last kept d₀ (Some cut) d → cut.len ≤ length out
            → said_stripped (Ok cut) ≡ strip_answer l last kept number (length out)
        text_answer p h =
            rw ((cuts p).used, (cuts p).len, (cuts p).records)
            (answer_by false false (cuts p).good (le-ltb (length out) (length (made_of l last kept)) (omega (arith, h, (cuts p).len))))

        module _ {r : Option Cut} (p : FrontSays l last kept d₀ r d) where
          pub says_refused : {f : Refusal} → r ≡ None → f ≡ refused_for Fault.CsvSyntax number → StripSays l last kept number out (said_stripped (Err f)) out
          says_refused h f = rw f (record { answer = refused_answer (subst (λ (x : Option Cut). FrontSays l last kept d₀ x d) h p); out_is = refl })

          module _ {cut : Cut} (h : r ≡ Some cut) where
            good : FrontSays l last kept d₀ (Some cut) d
            good = subst (λ (x : Option Cut). FrontSays l last kept d₀ x d) h p

            pub made_within : cut.len ≤ length d
            made_within = front_within good

            pub made_long : cut.len ≡ length (take cut.len d)
            made_long = sym (length-take-le cut.len d made_within)

            pub says_no_room : {g : Refusal} → length out < cut.len → g ≡ refused_for Fault.NoRoom 0
                → StripSays l last kept number out (said_stripped (Err g)) out
            says_no_room h f = rw f (record {
              answer =
                  answer_by false true (cuts good).good (lt-ltb (length out) (length (made_of l last kept)) (omega (arith, h, (cuts good).len)));
              out_is = refl;
            })

            pub says_text : {x out' : List ℕ} {q : Option ℕ} → cut.len ≤ length out → x ≡ take cut.len d → Put out 0 x out' q
                → StripSays l last kept number out (said_stripped (Ok cut)) out'
            says_text {x} {out'} h e put = record {
              answer = text_answer good h;
              out_is = put_buffer put (omega (arith, ap length same, (cuts good).len, h)) ∙ ap (over out 0) same;
            }
              where
                same : x ≡ made_of l last kept
                same = e ∙ front_text good

-- The same where the lines were put straight into the buffer.
module _ {l : List ℕ} (last : Bool) {kept : List Bool} (number : ℕ) (out : List ℕ) (short : length l ≤ most_text)
    (narrow : length kept ≤ most_fields) {out' : List ℕ} where
  straight_by : (r : Option Cut) → FrontSays l last kept out r out'
      → StripSays l last kept number out (said_stripped (ok_or r (refused_for Fault.CsvSyntax number))) out'
  straight_by None p = record { answer = refused_answer l last kept number out short narrow p; out_is = front_refused p }
  straight_by (Some cut) p = record {
    answer = text_answer l last kept number out short narrow p (omega (arith, (cuts p).len, p.made.room));
    out_is = p.made.buffer;
  }

  pub says_straight : {r : Option Cut} (f : Refusal) {a : Result Cut Refusal} → FrontSays l last kept out r out'
      → f ≡ refused_for Fault.CsvSyntax number → a ≡ ok_or r f → StripSays l last kept number out (said_stripped a) out'
  says_straight {r} f p is e = rw (e, is) (straight_by r p)
