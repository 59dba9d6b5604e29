-- What the loop that counts a run keeps from turn to turn: the run at the next place gives what is left of the whole run. It rests on the laws
-- of runs.
-- Assumes nothing.
use mathlib.Core.Path.{◌≡◌}
use mathlib.Core.Bool.{Bool, true, false}
use mathlib.Core.List.{List}
use Prim.Native.Nat.{ℕ, ◌+◌, ◌≤◌, ◌<◌, zero-le}
use native.Mathlib.Nat.{zero-add}
use native.Mathlib.Omega.{arith}
use lib.ListN.{length, get_or, drop}
use Rattle.std.proofs.lemmas.List.{at_drop_more, at_drop_all}
use Rattle.scans.specs.Bytes.{run_len}
use Rattle.scans.proofs.Runs.{run_nil, run_yes, run_no}

-- A run counted from the front, byte by byte: after n bytes of the kind, what is left of it is the run there.
pub record Counted (kind : ℕ → Bool) (l : List ℕ) (n : ℕ) : Type 0 where
  pub within : n ≤ length l
  pub rest : run_len kind l ≡ n + run_len kind (drop n l)

module _ {kind : ℕ → Bool} {l : List ℕ} where
  pub counted_none : Counted kind l 0
  counted_none = record { within = zero-le; rest = rw zero-add }

  module _ {n : ℕ} (c : Counted kind l n) where
    pub counted_more : n < length l → kind (get_or l n 0) ≡ true → Counted kind l (n + 1)
    counted_more h e = record { within = omega arith; rest = omega (arith, c.rest, at_drop_more (run_len kind) l n 0 h, run_yes kind (get_or l n 0) (drop (n + 1) l) e) }

    pub counted_stop : n < length l → kind (get_or l n 0) ≡ false → n ≡ run_len kind l
    counted_stop h e = omega (arith, c.rest, at_drop_more (run_len kind) l n 0 h, run_no kind (get_or l n 0) (drop (n + 1) l) e)

    pub counted_end : length l ≤ n → length l ≡ run_len kind l
    counted_end h = omega (arith, c.within, c.rest, at_drop_all (run_len kind) l n h, run_nil kind)
