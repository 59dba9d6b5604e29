-- "Given room, an accepted rulebook, read and written, gives its own bytes; tables that the writer accepts read back equal": what each half says
-- of the answers and of the lent buffers.
-- Assumes nothing.
use Rattle.std.specs.Prelude.{◌≡◌, List, ℕ, ◌^◌, ◌<◌, length, get_or, take, drop, Ok}
use Rattle.refusals.specs.Said.{Said, refused_by}
use Rattle.refusals.specs.declared.Fault.{Fault}
use Rattle.rules.specs.declared.Head.{Head}
use Rattle.accepts.specs.Tables.{SameTables}
use Rattle.reader.specs.Reading.{said_read}
use Rattle.writer.specs.Writing.{said_written}

-- Each word of a table is below 2^64, as in any lent table of words: the marks of a class are sixteen hex digits.
pub record Words (w : List ℕ) : Type 0 where
  pub small : (k : ℕ) → get_or w k 0 < 2 ^ 64

-- Reading said s and left `items` and `rules`: the book under the head h, and tables equal to t and w.
pub record ReadBack (h : Head) (t w : List ℕ) (s : Said) (items rules : List ℕ) : Type 0 where
  pub answer : s ≡ said_read (Ok h)
  pub tables : SameTables h items rules t w

-- Writing said s, and the buffer, which held `out`, holds `out'`: the text l at its front, its length, and the rest of the buffer as it was.
pub record WrittenBack (l out : List ℕ) (s : Said) (out' : List ℕ) : Type 0 where
  pub answer : s ≡ said_written (Ok (length l))
  pub text : take (length l) out' ≡ l
  pub rest : drop (length l) out' ≡ drop (length l) out

-- Writing was refused for want of room, and the buffer is untouched.
pub record RoomRefused (out : List ℕ) (s : Said) (out' : List ℕ) : Type 0 where
  pub answer : s ≡ refused_by Fault.NoRoom 0
  pub buffer : out' ≡ out
