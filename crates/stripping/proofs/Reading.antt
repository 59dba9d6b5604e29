-- Reads: what is held and what is to come are the same bytes before a read and after it, a read leaves less to come, and while there is room for a byte and a piece is
-- to come there is a read. They rest on the laws of lists.
-- Assumes nothing.
use mathlib.Core.Path.{◌≡◌, sym, ap, subst, ◌∙◌}
use mathlib.Core.List.{List, ◌∷◌, ◌++◌, append_assoc}
use Prim.Native.Nat.{ℕ, ◌+◌, ◌-◌, ◌≤◌, ◌<◌}
use native.Mathlib.Decide.{dec_le}
use native.Mathlib.Omega.{arith}
use lib.ListN.{length, take, drop, length-append, take-append-drop}
use lib.Seq.{length-take-le}
use Rattle.refusals.specs.Sizes.{most_text}
use Rattle.stripping.specs.Calls.{all_of, NextRead, whole_piece, part_of_piece}

-- How many pieces and bytes are to come.
unfoldable pub left_to_read : List (List ℕ) → ℕ
left_to_read pieces = length pieces + length (all_of pieces)

pub same_bytes : {held held' : List ℕ} {pieces pieces' : List (List ℕ)} → NextRead held pieces held' pieces' → held ++ all_of pieces ≡ held' ++ all_of pieces'
unfolding all_of
same_bytes {held} (whole_piece {piece = piece} {pieces = ps} h) = sym (append_assoc held piece (all_of ps))
same_bytes {held} (part_of_piece front rest {pieces = ps} e) =
    ap (λ (l : List ℕ). held ++ l) (append_assoc front rest (all_of ps)) ∙ sym (append_assoc held front (rest ++ all_of ps))

pub read_fits : {held held' : List ℕ} {pieces pieces' : List (List ℕ)} → NextRead held pieces held' pieces' → length held' ≤ most_text
read_fits (whole_piece h) = h
read_fits (part_of_piece front rest e) = omega (arith, e)

pub read_less : {held held' : List ℕ} {pieces pieces' : List (List ℕ)} → length held < most_text → NextRead held pieces held' pieces'
    → left_to_read pieces' < left_to_read pieces
unfolding all_of left_to_read
read_less room (whole_piece {piece = piece} {pieces = ps} h) = omega (arith, length-append piece (all_of ps))
read_less {held} room (part_of_piece front rest {pieces = ps} e) =
    omega (
      arith,
      e,
      length-append held front,
      length-append front rest,
      length-append (front ++ rest) (all_of ps),
      length-append rest (all_of ps),
    )

-- What a read leads to.
pub record ReadOn (held : List ℕ) (pieces : List (List ℕ)) : Type 0 where
  pub holds : List ℕ
  pub to_come : List (List ℕ)
  pub read : NextRead held pieces holds to_come

pub some_read : (held piece : List ℕ) (pieces : List (List ℕ)) → length held < most_text → ReadOn held (piece ∷ pieces)
some_read held piece pieces room = by (dec_le (length (held ++ piece)) most_text)
  where
    front : List ℕ
    front = take (most_text - length held) piece

    rest : List ℕ
    rest = drop (most_text - length held) piece

    by : Dec (length (held ++ piece) ≤ most_text) → ReadOn held (piece ∷ pieces)
    by (yes h) = record { holds = held ++ piece; to_come = pieces; read = whole_piece h }
    by (no h) = record {
      holds = held ++ front;
      to_come = rest ∷ pieces;
      read =
          subst (λ (p : List ℕ). NextRead held (p ∷ pieces) (held ++ front) (rest ∷ pieces)) (take-append-drop (most_text - length held) piece)
          (part_of_piece front rest (omega (
            arith,
            length-append held front,
            length-append held piece,
            length-take-le (most_text - length held) piece (omega (arith, length-append held piece)),
          )));
    }
