-- The text of a labelling has at most 32,768 bytes: a line of it has at most 43, and there are at most 256 of them. It rests on the lengths of
-- names, counts and classes.
-- Assumes nothing.
use mathlib.Core.Path.{ap}
use mathlib.Core.List.{List, [], ◌∷◌, ◌++◌}
use Prim.Native.Nat.{ℕ, zero, suc, ◌+◌, ◌*◌, ◌≤◌, ◌<◌}
use native.Mathlib.Numerals.{add-one}
use native.Mathlib.Omega.{arith}
use lib.ListN.{length, get_or, length-append}
use Rattle.scans.specs.Ascii.{lf, colon}
use Rattle.items.specs.Table.{name_of, ItemsOk}
use Rattle.items.proofs.Table.{name_len_most, name_of_length}
use Rattle.laws.specs.First.{AllBelow}
use Rattle.labels.specs.Labels.{labels_in, LevelInRange}
use Rattle.keys.specs.Keys.{key_text, label_key}
use Rattle.keys.specs.declared.Key.{Key}
use Rattle.tokens.specs.Numbers.{decimal_len}
use Rattle.tokens.specs.Tokens.{count_text, class_text}
use Rattle.tokens.proofs.Values.{digits_length, decimal_most, decimal_short}
use Rattle.tokens.proofs.Tokens.{class_length}
use Rattle.writer.specs.Texts.{pieces, form_line, end_line, label_name, label_line, labels_text}
use Rattle.refusals.specs.Sizes.{most_text}
use Rattle.writer.proofs.Pieces.{pieces_none, pieces_snoc}

-- The most bytes of a label's line: its key, a name, a colon, a class and the LF.
abbrev line_most : ℕ
line_most = 6 + 16 + 1 + 19 + 1

-- Pieces of at most so many bytes each.
pub pieces_most : (f : ℕ → List ℕ) (n : ℕ) → ((k : ℕ) → k < n → length (f k) ≤ line_most) → length (pieces f 0 n) ≤ n * line_most
pieces_most f zero h = omega (arith, ap length (pieces_none f 0))
pieces_most f (suc n) h =
    omega (
      arith,
      ap length (rw add-one at (pieces_snoc f n)),
      length-append (pieces f 0 n) (f n),
      pieces_most f n (λ k s. h k (omega arith)),
      h n (omega arith),
    )

pub end_most : (count : ℕ) → length (end_line count) ≤ 10
end_most count =
    omega (
      arith,
      length-append (key_text Key.End ++ count_text count) (lf ∷ []),
      length-append (key_text Key.End) (count_text count),
      digits_length 10 (decimal_len count) count,
      decimal_most count,
    )

pub label_most : (t levels marks : List ℕ) (i : ℕ) → LevelInRange levels i → length (label_line t levels marks i) ≤ line_most
label_most t levels marks i h =
    omega (
      arith,
      length-append (label_name t i ++ class_text (labels_in levels marks i)) (lf ∷ []),
      length-append (label_name t i) (class_text (labels_in levels marks i)),
      length-append (label_key ++ name_of t i) (colon ∷ []),
      length-append label_key (name_of t i),
      name_of_length t i,
      name_len_most t i,
      class_length (labels_in levels marks i),
      decimal_short (get_or levels i 0) (omega (arith, h.most)),
    )

pub labels_short : {t : List ℕ} {n : ℕ} (levels marks : List ℕ) → ItemsOk t n → AllBelow (LevelInRange levels) n
    → length (labels_text t n levels marks) ≤ most_text
unfolding labels_text
labels_short {t} {n} levels marks items range =
    omega (
      arith,
      length-append (form_line ++ pieces (label_line t levels marks) 0 n) (end_line (1 + n)),
      length-append form_line (pieces (label_line t levels marks) 0 n),
      pieces_most (label_line t levels marks) n (λ k h. label_most t levels marks k (range.each k h)),
      end_most (1 + n),
      items.size,
    )
