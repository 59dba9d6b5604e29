-- What the loops over a field's bytes keep from turn to turn: the machine at the next place gives what is left of the field. It rests on the
-- machine's steps.
-- Assumes nothing.
use mathlib.Core.Path.{◌≡◌, sym, ap, subst, ◌∙◌}
use mathlib.Core.Bool.{true, false}
use mathlib.Core.List.{List}
use Prim.Native.Nat.{ℕ, ◌+◌, ◌-◌, ◌≤◌, ◌<◌}
use native.Mathlib.Nat.{le_refl, add_assoc}
use native.Mathlib.Omega.{arith}
use lib.ListN.{length, get_or, drop}
use Rattle.std.specs.Prelude.{Option, Some, None}
use Rattle.scans.specs.Ascii.{quote}
use Rattle.scans.specs.Bytes.{byte_at}
use Rattle.scans.proofs.Places.{byte_in, byte_inside}
use Rattle.records.specs.Fields.{plain_byte, longer_by, behind, Where, plain, quoted, scan, field_at}
use Rattle.records.specs.Inner.{PlainRun, QuotedRun, closed_field, Closing}
use Rattle.records.specs.declared.Field.{Field}
use Rattle.records.proofs.Steps.{longer_longer, longer_none, plain_end, plain_on, plain_stop, quoted_end, quoted_on, quoted_quote}
use Rattle.records.proofs.Steps.{closed_quote, closed_shut, start_quote, start_other, start_end}

-- From the place `at` to the place i the machine stays in one state.
pub record Past (w : Where) (l : List ℕ) (at i : ℕ) : Type 0 where
  pub order : at ≤ i
  pub within : i ≤ length l
  pub rest : scan w (drop at l) ≡ longer_by (i - at) (scan w (drop i l))

module _ {w : Where} {l : List ℕ} {at : ℕ} where
  -- At the start nothing is passed.
  pub past_none : at ≤ length l → Past w l at at
  past_none h = record {
    order = le_refl at;
    within = h;
    rest = longer_none (scan w (drop at l)) ∙ ap (λ (k : ℕ). longer_by k (scan w (drop at l))) zero;
  }
    where
      zero : 0 ≡ at - at
      zero = omega arith

  module _ {i : ℕ} (p : Past w l at i) where
    -- What the machine finds at i it finds at `at`, i - at bytes later.
    pub past_then : (n : ℕ) (f : Field) → scan w (drop i l) ≡ longer_by n f → scan w (drop at l) ≡ longer_by (i + n - at) f
    past_then n f e = p.rest ∙ ap (longer_by (i - at)) e ∙ longer_longer (i - at) n f ∙ ap (λ (k : ℕ). longer_by k f) sum
      where
        sum : i - at + n ≡ i + n - at
        sum = omega (arith, p.order)

    -- n bytes further the machine is in the same state.
    pub past_on : (n : ℕ) → i + n ≤ length l → scan w (drop i l) ≡ longer_by n (scan w (drop (i + n) l)) → Past w l at (i + n)
    past_on n h e = record { order = omega (arith, p.order); within = h; rest = past_then n (scan w (drop (i + n) l)) e }

-- A field without quotes, from byte to byte.
module _ {l : List ℕ} {at i : ℕ} (p : Past plain l at i) where
  -- What is passed is the run, if the field ends at i.
  plain_run : scan plain (drop i l) ≡ behind (drop i l) → PlainRun l at (i - at)
  plain_run e = record {
    scans = p.rest ∙ ap (longer_by (i - at)) (e ∙ ap (λ (k : ℕ). behind (drop k l)) sum);
    within = omega (arith, p.order, p.within);
  }
    where
      sum : i ≡ at + (i - at)
      sum = omega (arith, p.order)

  -- A plain byte stands at i; another byte does; the text ends.
  pub past_plain_on : i < length l → plain_byte (get_or l i 0) ≡ true → Past plain l at (i + 1)
  past_plain_on h e = past_on p 1 (omega arith) (plain_on l i h e)

  pub past_plain_stop : i < length l → plain_byte (get_or l i 0) ≡ false → PlainRun l at (i - at)
  past_plain_stop h e = plain_run (plain_stop l i h e)

  pub past_plain_end : length l ≤ i → PlainRun l at (i - at)
  past_plain_end h = plain_run (plain_end l i h)

  -- The same where the loop is at its end.
  pub past_plain_all : length l ≤ i → PlainRun l at (length l - at)
  past_plain_all h = subst (λ k. PlainRun l at (k - at)) (let s : i ≡ length l = omega (arith, p.within, h) in s) (past_plain_end h)

-- Between quotes, from byte to byte.
module _ {l : List ℕ} {at i : ℕ} (p : Past quoted l at i) where
  -- What is passed is the run, if a quote stands at i or the text ends there.
  quoted_run : (i < length l → get_or l i 0 ≡ quote) → QuotedRun l at (i - at)
  quoted_run e = record {
    scans = p.rest ∙ ap (λ (k : ℕ). longer_by (i - at) (scan quoted (drop k l))) sum;
    within = omega (arith, p.order, p.within);
    stops = λ h. ap (λ (k : ℕ). get_or l k 0) (sym sum) ∙ e (omega (arith, sum));
  }
    where
      sum : i ≡ at + (i - at)
      sum = omega (arith, p.order)

  -- Another byte than a quote stands at i; a quote does; the text ends.
  pub past_quoted_on : i < length l → (get_or l i 0 ≡ quote → ⊥) → Past quoted l at (i + 1)
  past_quoted_on h e = past_on p 1 (omega arith) (quoted_on l i h e)

  pub past_quoted_stop : get_or l i 0 ≡ quote → QuotedRun l at (i - at)
  past_quoted_stop e = quoted_run (λ h. e)

  pub past_quoted_end : length l ≤ i → QuotedRun l at (i - at)
  past_quoted_end h = quoted_run (λ g. absurd (omega arith))

  -- The same where the loop is at its end.
  pub past_quoted_all : length l ≤ i → QuotedRun l at (length l - at)
  past_quoted_all h = subst (λ k. QuotedRun l at (k - at)) (let s : i ≡ length l = omega (arith, p.within, h) in s) (past_quoted_end h)

  -- A run further; the text ends before a quote that closes the field.
  pub past_run : {r : ℕ} → QuotedRun l i r → Past quoted l at (i + r)
  past_run {r} q = past_on p r q.within q.scans

  pub past_never : length l ≤ i → Closing l at None
  past_never h = record {
    scans = p.rest ∙ ap (longer_by (i - at)) (quoted_end l i h);
    within = omega (arith, p.order, p.within);
  }

-- Between quotes, from quote to quote: the quote behind a run is doubled; or it closes the field.
module _ {l : List ℕ} {at i r : ℕ} (p : Past quoted l at i) (q : QuotedRun l i r) (h : i + r < length l)
    {b : ℕ} (f : b ≡ byte_at (drop (i + r + 1) l)) where
  pub past_doubled : b ≡ quote → Past quoted l at (i + r + 2)
  past_doubled g = past_on (past_run p q) 2 (omega (arith, inside)) both
    where
      inside : i + r + 1 < length l
      inside = byte_inside l (i + r + 1) (omega (arith, f))

      sum : i + r + 1 + 1 ≡ i + r + 2
      sum = omega arith

      both : scan quoted (drop (i + r) l) ≡ longer_by 2 (scan quoted (drop (i + r + 2) l))
      both =
          quoted_quote l (i + r) h (q.stops h)
          ∙ ap (longer_by 1) (closed_quote l (i + r + 1) inside (byte_in l (i + r + 1) ∙ sym f ∙ g))
          ∙ longer_longer 1 1 (scan quoted (drop (i + r + 1 + 1) l))
          ∙ ap (λ (k : ℕ). longer_by 2 (scan quoted (drop k l))) sum

  pub past_closing : (b ≡ quote → ⊥) → Closing l at (Some (i + r + 1 - at))
  past_closing g = record {
    scans =
        past_then (past_run p q) 1 (behind (drop (i + r + 1) l)) shut
        ∙ ap (λ (k : ℕ). longer_by (i + r + 1 - at) (behind (drop k l))) sum;
    within = omega (arith, p.order);
  }
    where
      shut : scan quoted (drop (i + r) l) ≡ longer_by 1 (behind (drop (i + r + 1) l))
      shut = quoted_quote l (i + r) h (q.stops h) ∙ ap (longer_by 1) (closed_shut (drop (i + r + 1) l) (λ y. g (f ∙ y)))

      sum : i + r + 1 ≡ at + (i + r + 1 - at)
      sum = omega (arith, p.order)

-- The field at a place: nothing, a field without quotes, a quote with none that closes it, a field in quotes.
module _ (l : List ℕ) (at : ℕ) where
  pub read_end : length l ≤ at → Field.End 0 ≡ field_at (drop at l)
  read_end h = sym (start_end l at h)

  module _ (h : at < length l) where
    pub read_plain : (get_or l at 0 ≡ quote → ⊥) → {n : ℕ} → PlainRun l at n → {r : Field} → r ≡ longer_by n (behind (drop (at + n) l))
        → r ≡ field_at (drop at l)
    read_plain e p f = f ∙ sym (start_other l at h e ∙ p.scans)

    module _ (e : get_or l at 0 ≡ quote) {o : Option ℕ} (p : Closing l (at + 1) o) where
      pub read_open : o ≡ None → Field.Open ≡ field_at (drop at l)
      read_open z = sym (start_quote l at h e ∙ ap (longer_by 1) (p.scans ∙ ap (closed_field l (at + 1)) z))

      pub read_quoted : {n : ℕ} → o ≡ Some n → {r : Field} → r ≡ longer_by (1 + n) (behind (drop (at + (1 + n)) l)) → r ≡ field_at (drop at l)
      read_quoted {n} z f =
          f
          ∙ sym
          (start_quote l at h e ∙ ap (longer_by 1) (p.scans ∙ ap (closed_field l (at + 1)) z) ∙ longer_longer 1 n (behind (drop (at + 1 + n) l))
          ∙ ap (λ (k : ℕ). longer_by (1 + n) (behind (drop k l))) (add_assoc at 1 n))
