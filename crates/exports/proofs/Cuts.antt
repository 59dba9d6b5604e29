-- A text and what comes behind it: what can be taken from the text now and what is taken then are what is taken from both at once, wherever the cut is. They
-- rest on the laws of one record, which is the same whatever follows it.
-- Assumes nothing.
use mathlib.Core.Path.{◌≡◌, refl, sym, ap, ◌∙◌, subst}
use mathlib.Core.Bool.{Bool, true, false, false≢true, cond}
use mathlib.Core.List.{List, [], ◌∷◌, ◌++◌, append-nil}
use Prim.Native.Nat.{ℕ, zero, suc, ◌+◌, ◌≤◌, ◌<◌}
use native.Mathlib.Nat.{add_assoc, add-zero}
use native.Mathlib.Omega.{arith}
use lib.ListN.{length, drop, length-drop, length-append}
use lib.Seq.{drop-drop, drop-append-le}
use Rattle.records.specs.Rows.{Record, whole, more, bad}
use Rattle.exports.specs.Rows.{record_of, Taken, stopped, on_top, taken}
use Rattle.exports.specs.Text.{record_lines, Verdict, accepted, bad_record, Outcome, stripped_from}
use Rattle.exports.proofs.Fitting.{record_within, record_some, record_prefix, record_bad_prefix}
use Rattle.exports.proofs.Taking.{taken_nothing, taken_whole, taken_more, taken_bad}
use Rattle.exports.proofs.Gone.{past, past_none, past_under}
use Rattle.exports.proofs.Joining.{lines_append}

-- The last text has nothing behind it.
abbrev pub Lastly : Bool → List ℕ → Type 0
Lastly last b = last ≡ true → b ≡ []

module _ (columns : ℕ) where
  -- A record that is whole, or bad, is so with the rest of the export behind it.
  held_whole : (last : Bool) (a b : List ℕ) → Lastly last b → {fs : List (List ℕ)} {k : ℕ} → record_of last columns a ≡ whole fs k
      → record_of true columns (a ++ b) ≡ whole fs k
  held_whole true a b z e = rw (z refl, append-nil a) e
  held_whole false a b z e = record_prefix columns true a b e

  held_bad : (last : Bool) (a b : List ℕ) → Lastly last b → record_of last columns a ≡ bad → record_of true columns (a ++ b) ≡ bad
  held_bad true a b z e = rw (z refl, append-nil a) e
  held_bad false a b z e = record_bad_prefix columns a b e

  -- What is taken from the whole export: first what can be taken now, and then what is taken from the rest. A bad record is a bad one then too.
  pub record Ahead (a b : List ℕ) (t : Taken) : Type 0 where
    pub on : taken true columns (a ++ b) ≡ past t.rows t.used (taken true columns (drop t.used a ++ b))
    pub faulty : t.faulty ≡ true → taken true columns (a ++ b) ≡ t

  ahead_stopped : (a b : List ℕ) → Ahead a b (stopped false)
  ahead_stopped a b = record { on = past_none (taken true columns (a ++ b)); faulty = λ e. absurd (false≢true e) }

  ahead_none : (last : Bool) (a b : List ℕ) → length a ≤ 0 → Ahead a b (taken last columns a)
  ahead_none last [] b h = subst (Ahead [] b) (sym (taken_nothing last columns)) (ahead_stopped [] b)
  ahead_none last (x ∷ a) b h = absurd (omega arith)

  ahead_bad : (last : Bool) (a b : List ℕ) → 0 < length a → Lastly last b → record_of last columns a ≡ bad → Ahead a b (stopped true)
  ahead_bad last a b h z e = record {
    on = past_none (taken true columns (a ++ b));
    faulty = λ _. taken_bad true columns (a ++ b) (omega (arith, length-append a b)) (held_bad last a b z e);
  }

  ahead_whole : (last : Bool) (a b : List ℕ) → 0 < length a → Lastly last b → {fs : List (List ℕ)} {k : ℕ} {t : Taken}
      → record_of last columns a ≡ whole fs k → Ahead (drop k a) b t → Ahead a b (on_top fs k t)
  ahead_whole last a b h z {fs} {k} {t} e ih = record {
    on = first ∙ ap (on_top fs k) ih.on
        ∙ past_under fs k t.rows t.used (taken true columns (drop t.used (drop k a) ++ b))
        ∙ ap (λ m. past (fs ∷ t.rows) (k + t.used) (taken true columns (m ++ b))) (drop-drop t.used k a);
    faulty = λ q. first ∙ ap (on_top fs k) (ih.faulty q);
  }
    where
      first : taken true columns (a ++ b) ≡ on_top fs k (taken true columns (drop k a ++ b))
      first =
          taken_whole true columns (a ++ b) (omega (arith, length-append a b)) (held_whole last a b z e)
          ∙ ap (λ m. on_top fs k (taken true columns m)) (drop-append-le k a b (record_within columns last a e))

  ahead_in : (f : ℕ) (last : Bool) (a b : List ℕ) → length a ≤ f → Lastly last b → Ahead a b (taken last columns a)
  ahead_in zero last a b h z = ahead_none last a b (omega arith)
  ahead_in (suc f) last [] b h z = ahead_none last [] b (omega arith)
  ahead_in (suc f) last (x ∷ a) b h z = step (record_of last columns (x ∷ a)) refl (λ k i. ahead_in f last (drop k (x ∷ a)) b i z)
    where
      step : (r : Record) → record_of last columns (x ∷ a) ≡ r
          → ((k : ℕ) → length (drop k (x ∷ a)) ≤ f → Ahead (drop k (x ∷ a)) b (taken last columns (drop k (x ∷ a))))
          → Ahead (x ∷ a) b (taken last columns (x ∷ a))
      step (whole fs k) e ih = subst (Ahead (x ∷ a) b) (sym (taken_whole last columns (x ∷ a) (omega arith) e))
          (ahead_whole last (x ∷ a) b (omega arith) z e (ih k (omega (arith, length-drop k (x ∷ a), record_some columns last x a e))))
      step more e ih = subst (Ahead (x ∷ a) b) (sym (taken_more last columns (x ∷ a) e)) (ahead_stopped (x ∷ a) b)
      step bad e ih = subst (Ahead (x ∷ a) b) (sym (taken_bad last columns (x ∷ a) (omega arith) e))
          (ahead_bad last (x ∷ a) b (omega arith) z e)

  pub ahead : (last : Bool) (a b : List ℕ) → Lastly last b → Ahead a b (taken last columns a)
  ahead last a b z = ahead_in (length a) last a b (omega arith) z

-- What is written of what is taken, and what is said, from the record of this number on.
outcome : List Bool → ℕ → Taken → Outcome
outcome kept number t = record {
  text = record_lines kept t.rows;
  verdict = cond t.faulty (bad_record (number + length t.rows)) accepted;
}

-- An export is stripped to what is written of all that is taken from it.
stripped_outcome : (kept : List Bool) (number : ℕ) (l : List ℕ) → stripped_from kept number l ≡ outcome kept number (taken true (length kept) l)
unfolding stripped_from outcome
stripped_outcome kept number l = refl

-- Rows that are written first come first in the text, and count.
outcome_past : (kept : List Bool) (number : ℕ) (rows : List (List (List ℕ))) (at : ℕ) (t : Taken) → outcome kept number (past rows at t) ≡
    record { text = record_lines kept rows ++ (outcome kept (number + length rows) t).text; verdict = (outcome kept (number + length rows) t).verdict }
unfolding outcome
outcome_past kept number rows at t = λ i. record {
  text = lines_append kept rows t.rows i;
  verdict = cond t.faulty (bad_record (count i)) accepted;
}
  where
    count : number + length (rows ++ t.rows) ≡ number + length rows + length t.rows
    count = ap (λ n. number + n) (length-append rows t.rows) ∙ sym (add_assoc number (length rows) (length t.rows))

-- Where no row is taken nothing is written.
outcome_none : (kept : List Bool) (number : ℕ) (t : Taken) (faulty : Bool) → t.rows ≡ [] → t.faulty ≡ faulty
    → outcome kept number t ≡ record { text = []; verdict = cond faulty (bad_record number) accepted }
unfolding outcome record_lines
outcome_none kept number t faulty e q = λ i. record {
  text = ap (record_lines kept) e i;
  verdict = cond (q i) (bad_record (count i)) accepted;
}
  where
    count : number + length t.rows ≡ number
    count = ap (λ rows. number + length rows) e ∙ add-zero number

-- What is left of the whole where the rows that can be taken now are written, where a bad record stands first, and where nothing is taken from the last text.
module _ (kept : List Bool) (number : ℕ) where
  pub after_writing : (held b : List ℕ) (last : Bool) → Lastly last b → {text : List ℕ} {v : Verdict} →
      stripped_from kept (number + length (taken last (length kept) held).rows) (drop (taken last (length kept) held).used held ++ b)
      ≡ record { text = text; verdict = v } →
      stripped_from kept number (held ++ b) ≡ record { text = record_lines kept (taken last (length kept) held).rows ++ text; verdict = v }
  after_writing held b last z e =
      let t = taken last (length kept) held in
      let rest = drop t.used held ++ b in
      stripped_outcome kept number (held ++ b)
      ∙ ap (outcome kept number) (ahead (length kept) last held b z).on
      ∙ outcome_past kept number t.rows t.used (taken true (length kept) rest)
      ∙ ap (λ o. record { text = record_lines kept t.rows ++ o.text; verdict = o.verdict })
      (sym (stripped_outcome kept (number + length t.rows) rest) ∙ e)

  pub after_refusing : (held b : List ℕ) (last : Bool) → Lastly last b → (taken last (length kept) held).rows ≡ []
      → (taken last (length kept) held).faulty ≡ true
      → stripped_from kept number (held ++ b) ≡ record { text = []; verdict = bad_record number }
  after_refusing held b last z e q =
      stripped_outcome kept number (held ++ b)
      ∙ ap (outcome kept number) ((ahead (length kept) last held b z).faulty q)
      ∙ outcome_none kept number (taken last (length kept) held) true e q

  pub after_all : (held : List ℕ) → (taken true (length kept) held).rows ≡ [] → (taken true (length kept) held).faulty ≡ false
      → stripped_from kept number (held ++ []) ≡ record { text = []; verdict = accepted }
  after_all held e q =
      ap (stripped_from kept number) (append-nil held)
      ∙ stripped_outcome kept number held
      ∙ outcome_none kept number (taken true (length kept) held) false e q
