-- What a loop that takes records from the front of a text keeps from turn to turn, and what it has taken where it ends. They rest on the laws
-- of one record.
-- Assumes nothing.
use mathlib.Core.Path.{◌≡◌, sym, ap, ◌∙◌}
use mathlib.Core.Bool.{Bool, true, false}
use mathlib.Core.List.{List, [], ◌∷◌, ◌++◌, append_assoc, append-nil}
use Prim.Native.Nat.{ℕ, ◌+◌, ◌≤◌, ◌<◌}
use native.Mathlib.Nat.{add_assoc, add-zero, zero-add}
use native.Mathlib.Omega.{arith}
use lib.ListN.{length, drop, length-drop, drop_of_length-le}
use lib.Seq.{drop-drop}
use Rattle.records.specs.Rows.{whole, more, bad}
use Rattle.exports.specs.Rows.{record_of, Taken, stopped, on_top, taken}
use Rattle.exports.proofs.Fitting.{record_within}
use Rattle.exports.proofs.Taking.{taken_nothing, taken_whole, taken_more, taken_bad}

-- Taking records from the front of l has come to the place `at`, past these rows.
pub record Gone (last : Bool) (columns : ℕ) (l : List ℕ) (rows : List (List (List ℕ))) (at : ℕ) : Type 0 where
  pub rest : taken last columns l ≡ record {
    rows = rows ++ (taken last columns (drop at l)).rows;
    used = at + (taken last columns (drop at l)).used;
    faulty = (taken last columns (drop at l)).faulty;
  }
  pub within : at ≤ length l

-- Rows that are taken before others.
abbrev pub past : List (List (List ℕ)) → ℕ → Taken → Taken
past rows at t = record { rows = rows ++ t.rows; used = at + t.used; faulty = t.faulty }

-- No rows before; one more row behind those before, and before them; none behind.
pub past_none : (t : Taken) → t ≡ past [] 0 t
past_none t = λ i. record { rows = t.rows; used = sym (zero-add t.used) i; faulty = t.faulty }

pub past_on : (rows : List (List (List ℕ))) (at : ℕ) (fs : List (List ℕ)) (k : ℕ) (t : Taken)
    → past rows at (on_top fs k t) ≡ past (rows ++ fs ∷ []) (at + k) t
past_on rows at fs k t =
    λ i. record { rows = sym (append_assoc rows (fs ∷ []) t.rows) i; used = sym (add_assoc at k t.used) i; faulty = t.faulty }

pub past_under : (fs : List (List ℕ)) (k : ℕ) (rows : List (List (List ℕ))) (at : ℕ) (t : Taken)
    → on_top fs k (past rows at t) ≡ past (fs ∷ rows) (k + at) t
past_under fs k rows at t = λ i. record { rows = fs ∷ rows ++ t.rows; used = sym (add_assoc k at t.used) i; faulty = t.faulty }

pub past_stopped : (rows : List (List (List ℕ))) (at : ℕ) (faulty : Bool)
    → past rows at (stopped faulty) ≡ record { rows = rows; used = at; faulty = faulty }
past_stopped rows at faulty = λ i. record { rows = append-nil rows i; used = add-zero at i; faulty = faulty }

module _ {last : Bool} {columns : ℕ} {l : List ℕ} where
  -- At the start nothing is taken yet.
  pub gone_start : Gone last columns l [] 0
  gone_start = record { rest = past_none (taken last columns l); within = omega arith }

  module _ {rows : List (List (List ℕ))} {at : ℕ} (g : Gone last columns l rows at) where
    -- A whole record is taken, and the place is past it.
    pub gone_on : at < length l → {fs : List (List ℕ)} {k : ℕ} → record_of last columns (drop at l) ≡ whole fs k
        → Gone last columns l (rows ++ fs ∷ []) (at + k)
    gone_on h {fs} {k} e = record {
      rest = g.rest ∙ ap (past rows at) here ∙ past_on rows at fs k (taken last columns (drop (at + k) l));
      within = omega (arith, length-drop at l, record_within columns last (drop at l) e);
    }
      where
        here : taken last columns (drop at l) ≡ on_top fs k (taken last columns (drop (at + k) l))
        here =
            taken_whole last columns (drop at l) (omega (arith, length-drop at l)) e
            ∙ ap (λ m. on_top fs k (taken last columns m)) (drop-drop k at l)

    -- Nothing more is taken.
    ends : {faulty : Bool} → taken last columns (drop at l) ≡ stopped faulty
        → taken last columns l ≡ record { rows = rows; used = at; faulty = faulty }
    ends {faulty} e = g.rest ∙ ap (past rows at) e ∙ past_stopped rows at faulty

    -- The text has ended; or it ends within a record; or a bad record stands at the place.
    pub gone_end : length l ≤ at → taken last columns l ≡ record { rows = rows; used = at; faulty = false }
    gone_end h = ends (ap (taken last columns) (drop_of_length-le l h) ∙ taken_nothing last columns)

    pub gone_more : record_of last columns (drop at l) ≡ more → taken last columns l ≡ record { rows = rows; used = at; faulty = false }
    gone_more e = ends (taken_more last columns (drop at l) e)

    pub gone_bad : at < length l → record_of last columns (drop at l) ≡ bad
        → taken last columns l ≡ record { rows = rows; used = at; faulty = true }
    gone_bad h e = ends (taken_bad last columns (drop at l) (omega (arith, length-drop at l)) e)
