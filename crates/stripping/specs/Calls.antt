-- A run that strips an export: the pieces that it reads, the calls of `strip` that it makes, and what it writes.
-- Assumes nothing.
use Rattle.std.specs.Prelude.{◌≡◌, Bool, true, false, List, [], ◌∷◌, ◌++◌, ℕ, ◌+◌, ◌≤◌, ◌<◌, length, take, drop}
use Rattle.refusals.specs.Said.{refused_by}
use Rattle.refusals.specs.Sizes.{most_text}
use Rattle.refusals.specs.declared.Fault.{Fault}
use Rattle.exports.specs.Text.{Verdict, accepted, bad_record}
use Rattle.stripping.specs.Stripping.{said_cut, StripSays}

-- An export comes in pieces of any length, as reads give it. The read that finds its end gives a piece without bytes. All pieces, one behind the other.
unfoldable pub all_of : List (List ℕ) → List ℕ
all_of [] = []
all_of (p ∷ ps) = p ++ all_of ps

-- The export has ended: no piece is to come.
abbrev pub none_to_come : List (List ℕ) → Bool
none_to_come [] = true
none_to_come (p ∷ ps) = false

-- A read, by what is held and what is to come before it and after it: the next piece comes behind what is held; or as much of it as there is room for, where 32,768
-- bytes are held at most, and the rest of it is to come.
pub data NextRead (held : List ℕ) : List (List ℕ) → List ℕ → List (List ℕ) → Type 0 where
  whole_piece : {piece : List ℕ} {pieces : List (List ℕ)} → length (held ++ piece) ≤ most_text → NextRead held (piece ∷ pieces) (held ++ piece) pieces
  part_of_piece : (front rest : List ℕ) {pieces : List (List ℕ)} → length (held ++ front) ≡ most_text →
      NextRead held ((front ++ rest) ∷ pieces) (held ++ front) (rest ∷ pieces)

-- From the record of this number on, over the bytes that are held and the pieces to come, `strip` is called on what is held. Records that it took are written
-- and held no longer, and it is called on the rest. Where it took none, there is a read, and it is called again; where no piece is to come, the run is done. A refusal ends
-- the run.
pub data Calls (kept : List Bool) : ℕ → List ℕ → List (List ℕ) → List ℕ → Verdict → Type 0 where
  writes : {number : ℕ} {held : List ℕ} {pieces : List (List ℕ)} {text : List ℕ} {v : Verdict} {used n k : ℕ} {out out' : List ℕ} →
      StripSays held (none_to_come pieces) kept number out (said_cut used n k) out' → 0 < k → Calls kept (number + k) (drop used held) pieces text v →
      Calls kept number held pieces (take n out' ++ text) v
  reads : {number : ℕ} {held held' : List ℕ} {pieces pieces' : List (List ℕ)} {text : List ℕ} {v : Verdict} {used n : ℕ} {out out' : List ℕ} →
      StripSays held false kept number out (said_cut used n 0) out' → NextRead held pieces held' pieces' → Calls kept number held' pieces' text v →
      Calls kept number held pieces text v
  done : {number : ℕ} {held : List ℕ} {used n : ℕ} {out out' : List ℕ} → StripSays held true kept number out (said_cut used n 0) out' →
      Calls kept number held [] [] accepted
  refuses : {number : ℕ} {held : List ℕ} {pieces : List (List ℕ)} {place : ℕ} {out out' : List ℕ} →
      StripSays held (none_to_come pieces) kept number out (refused_by Fault.CsvSyntax place) out' → Calls kept number held pieces [] (bad_record place)
