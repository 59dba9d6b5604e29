-- The size of a record whose last field is known, one law for each answer that the code can give. They rest on the definitions and on the tests
-- of numbers.
-- Assumes nothing.
use mathlib.Core.Path.{◌≡◌}
use mathlib.Core.Bool.{Bool, true, false}
use Prim.Native.Nat.{ℕ, ◌+◌, ◌≤◌, ◌<◌}
use borrow.Author.Tests.{le-leb, lt-leb}
use Rattle.records.specs.Rows.{most_bytes, line_end}
use Rattle.records.specs.Inner.{closed_size, unfinished_size, ended_by}
use Rattle.records.specs.declared.Field.{Field}
use Rattle.records.specs.declared.Size.{Size}

-- A record of k bytes before its line end is too long; or it is not.
module _ (c k e : ℕ) where
  pub size_long : most_bytes < k → Size.Bad ≡ closed_size c k e
  size_long h = rw (lt-leb k most_bytes h)

  pub size_whole : k ≤ most_bytes → Size.Whole (record { fields = c; bytes = k + e }) ≡ closed_size c k e
  size_whole h = rw (le-leb k most_bytes h)

-- A record that does not end in the text, with at least k bytes before its line end, may still end behind it; or it is too long.
pub size_more : (k : ℕ) → k ≤ most_bytes → Size.More ≡ unfinished_size k
size_more k h = rw (le-leb k most_bytes h)

pub size_enough : (k : ℕ) → most_bytes < k → Size.Bad ≡ unfinished_size k
size_enough k h = rw (lt-leb k most_bytes h)

-- A record by its last field.
module _ (last : Bool) (n c k : ℕ) {found : Field} where
  pub ended_line : {m : ℕ} {r : Size} → found ≡ Field.Line m → r ≡ closed_size c (k + m) line_end → r ≡ ended_by last n c k found
  ended_line e f = rw e f

  pub ended_end : {m : ℕ} {r : Size} → found ≡ Field.End m → last ≡ true → r ≡ closed_size c (k + m) 0 → r ≡ ended_by last n c k found
  ended_end e g f = rw (e, g) f

  pub ended_end_more : {m : ℕ} {r : Size} → found ≡ Field.End m → last ≡ false → r ≡ unfinished_size (k + m) → r ≡ ended_by last n c k found
  ended_end_more e g f = rw (e, g) f

  pub ended_cr_more : {m : ℕ} {r : Size} → found ≡ Field.Cr m → last ≡ false → r ≡ unfinished_size (k + m) → r ≡ ended_by last n c k found
  ended_cr_more e g f = rw (e, g) f

  pub ended_cut_more : {r : Size} → found ≡ Field.Open → last ≡ false → r ≡ unfinished_size (n + 1) → r ≡ ended_by last n c k found
  ended_cut_more e g f = rw (e, g) f
