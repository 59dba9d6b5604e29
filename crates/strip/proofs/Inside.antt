-- The answers of the routines lie within what was lent to them: the columns that are kept, the bytes that were taken and those that were written; and where
-- they wait for more, there is room for it.
-- Assumes nothing.
use Rattle.std.specs.Prelude.{Option, Some, None, Result, Ok}
use Rattle.std.proofs.Common.{◌≡◌, ℕ, ◌<◌, ◌≤◌, Bool, false, List, length, take, sym, subst, arith, length-take-le}
use Rattle.classes.specs.declared.Class.{Class}
use Rattle.rules.specs.declared.Head.{Head}
use Rattle.columns.specs.Columns.{said_columns, ColumnsSays}
use Rattle.columns.proofs.Kept.{columns_kept}
use Rattle.columns.proofs.Waiting.{more_waits}
use Rattle.stripping.specs.Stripping.{said_cut, said_stripped, StripSays}
use Rattle.stripping.specs.declared.Cut.{Cut}
use Rattle.stripping.proofs.Calls.{Inside, text_inside}
use Rattle.stripping.proofs.Calls.{none_waits}
use Rattle.strip.specs.InnerHeld.{Held, Holds}
use Rattle.refusals.specs.declared.Refusal.{Refusal}

-- So many elements from the front.
pub long_prefix : {A : Type 0} (n : ℕ) (d : List A) → n ≤ length d → n ≡ length (take n d)
long_prefix n d h = sym (length-take-le n d h)

-- No more columns are kept than the buffer has room for.
module _ {t : List ℕ} {h : Head} {levels marks : List ℕ} {reader : Class} {export : List ℕ} {last : Bool} {before : List Bool} {r : Result (Option ℕ) Refusal} {after : List Bool} {n : ℕ}
    (p : ColumnsSays t h levels marks reader export last before (said_columns r) after) (e : r ≡ Ok (Some n)) where
  pub kept_inside : n ≤ length after
  kept_inside = (columns_kept (subst (λ (x : Result (Option ℕ) Refusal). ColumnsSays t h levels marks reader export last before (said_columns x) after) e p)).within

  pub kept_long : n ≡ length (take n after)
  kept_long = long_prefix n after kept_inside

-- No more bytes are taken than are held, and no more are written than the buffer has.
module _ {l : List ℕ} {last : Bool} {kept : List Bool} {number : ℕ} {out : List ℕ} {r : Result Cut Refusal} {out' : List ℕ} {cut : Cut}
    (p : StripSays l last kept number out (said_stripped r) out') (e : r ≡ Ok cut) where
  inside : Inside l out' cut.used cut.len
  inside = text_inside l last kept number out out' (subst (λ (x : Result Cut Refusal). StripSays l last kept number out (said_stripped x) out') e p)

  pub written_within : cut.len ≤ length out'
  written_within = inside.written_in

  pub written_long : cut.len ≡ length (take cut.len out')
  written_long = long_prefix cut.len out' written_within

-- The same of the bytes that are held in a buffer.
module _ (have : ℕ) (buf : List ℕ) {last : Bool} {kept : List Bool} {number : ℕ} {out : List ℕ} {r : Result Cut Refusal} {out' : List ℕ} {cut : Cut}
    (p : StripSays (take have buf) last kept number out (said_stripped r) out') (e : r ≡ Ok cut) (h : Holds have buf) where
  pub taken_held : Held cut.used have buf
  taken_held = record { taken = omega (arith, (inside p e).taken_in, long_prefix have buf h.within); within = h.within }

  -- There is room for more of them where no record was taken of a text that is not the last.
  pub none_room : last ≡ false → cut.records ≤ 0 → have < length buf
  none_room f g = omega (arith, none_waits none, long_prefix have buf h.within, h.large)
    where
      none : StripSays (take have buf) false kept number out (said_cut cut.used cut.len 0) out'
      none =
          subst (λ (k : ℕ). StripSays (take have buf) false kept number out (said_cut cut.used cut.len k) out')
          (let z : cut.records ≡ 0 = omega arith in z)
          (subst (λ (b : Bool). StripSays (take have buf) b kept number out (said_stripped (Ok cut)) out') f
          (subst (λ (x : Result Cut Refusal). StripSays (take have buf) last kept number out (said_stripped x) out') e p))

-- There is room for more of them where the header does not end in what is held.
pub header_room : (have : ℕ) (buf : List ℕ) {t : List ℕ} {h : Head} {levels marks : List ℕ} {reader : Class} {last : Bool} {before : List Bool} {r : Result (Option ℕ) Refusal}
    {after : List Bool} → ColumnsSays t h levels marks reader (take have buf) last before (said_columns r) after → r ≡ Ok None → Holds have buf
    → have < length buf
header_room have buf {t} {h} {levels} {marks} {reader} {last} {before} {after = after} p e g =
    omega (
      arith,
      more_waits (subst (λ (x : Result (Option ℕ) Refusal). ColumnsSays t h levels marks reader (take have buf) last before (said_columns x) after) e p),
      long_prefix have buf g.within,
      g.large,
    )
