-- The answer for labelled items, a class and an export, and what is then in the buffer, are the only ones that the promise allows; and so is the class that
-- a text is. It rests on that what a bool tells determines it, and that an answer is known by what it says.
-- Assumes nothing.
use Rattle.std.specs.Prelude.{Option, Some, None, Result, Ok, Err}
use mathlib.Core.Path.{◌≡◌, refl, sym, ap, ◌∙◌}
use mathlib.Core.Bool.{Bool, false}
use mathlib.Core.List.{List, [], ◌∷◌, ◌++◌}
use Prim.Native.Nat.{ℕ, ◌≤◌, ◌<◌}
use native.Mathlib.Omega.{arith}
use lib.ListN.{length, get_or, drop}
use lib.Seq.{ext_get_or}
use Rattle.laws.proofs.First.{first_not_all, first_unique}
use Rattle.laws.proofs.Tells.{tells_unique}
use Rattle.classes.specs.Class.{class_of}
use Rattle.classes.specs.declared.Class.{Class}
use Rattle.rules.specs.declared.Head.{Head}
use Rattle.refusals.specs.Said.{Said, success, refused, refused_by}
use Rattle.refusals.specs.declared.Fault.{Fault}
use Rattle.refusals.proofs.Said.{said_injective, refusal_of, refusal_back}
use Rattle.records.specs.Rows.{Record, whole, more, bad}
use Rattle.exports.specs.Names.{HeaderOk, KeepsCovered}
use Rattle.columns.specs.Reader.{said_reader, ReaderSays}
use Rattle.columns.specs.Columns.{said_kept, said_more, said_columns, header_at, HeaderSays, bad_header, more_header, bad_names, no_room, keeps}
use Rattle.columns.specs.Columns.{ColumnsSays, bad_items, few_labels, bad_label, headed}
use Rattle.refusals.specs.declared.Refusal.{Refusal}

-- The class that says this, and that there is only one.
abbrev known_of : Said → Result Class Refusal
known_of (success c l) = Ok (class_of (get_or l 0 0) (get_or l 1 0))
known_of (refused n p) = Err (refusal_of n p)

reader_back : (r : Result Class Refusal) → known_of (said_reader r) ≡ r
reader_back (Ok c) = refl
reader_back (Err r) = ap Err (refusal_back r)

pub reader_unique : {l : List ℕ} {r s : Result Class Refusal} → ReaderSays l (said_reader r) → ReaderSays l (said_reader s) → r ≡ s
reader_unique p q = said_injective said_reader known_of reader_back (p.answer ∙ sym q.answer)

-- What is said, and the content of the buffer, are the same.
record Alike (x y : Said) (d e : List Bool) : Type 0 where
  said : x ≡ y
  buffer : d ≡ e

-- Something is said with nothing said of the columns.
record Ends (x : Said) (before : List Bool) (s : Said) (after : List Bool) : Type 0 where
  said : s ≡ x
  buffer : after ≡ before

ends_unique : {x : Said} {before : List Bool} {r s : Said} {d e : List Bool} → Ends x before r d → Ends x before s e → Alike r s d e
ends_unique p q = record { said = p.said ∙ sym q.said; buffer = p.buffer ∙ sym q.buffer }

-- What is said by a header with these fields.
data WholeSays (t : List ℕ) (n : ℕ) (labels : ℕ → Class) (reader : Class) (before : List Bool) (fs : List (List ℕ))
    : Said → List Bool → Type 0 where
  wrong : (HeaderOk t n fs → ⊥) → WholeSays t n labels reader before fs (refused_by Fault.CsvHeader 1) before
  short : HeaderOk t n fs → length before < length fs → WholeSays t n labels reader before fs (refused_by Fault.NoRoom 0) before
  right : {kept : List Bool} → HeaderOk t n fs → length fs ≤ length before → KeepsCovered t n labels reader fs kept
      → WholeSays t n labels reader before fs (said_kept (length fs)) (kept ++ drop (length fs) before)

-- What is said by a header.
abbrev Says : List ℕ → ℕ → (ℕ → Class) → Class → List Bool → Said → List Bool → Record → Type 0
Says t n labels reader before s after (whole fs k) = WholeSays t n labels reader before fs s after
Says t n labels reader before s after more = Ends said_more before s after
Says t n labels reader before s after bad = Ends (refused_by Fault.CsvSyntax 1) before s after

says : {t : List ℕ} {n : ℕ} {labels : ℕ → Class} {reader : Class} {l : List ℕ} {last : Bool} {before : List Bool} {s : Said} {after : List Bool}
    → HeaderSays t n labels reader l last before s after → Says t n labels reader before s after (header_at last l)
says (bad_header e) = rw e (record { said = refl; buffer = refl })
says (more_header e) = rw e (record { said = refl; buffer = refl })
says (bad_names e b) = rw e (wrong b)
says (no_room e g h) = rw e (short g h)
says (keeps e g h k) = rw e (right g h k)

module _ {t : List ℕ} {n : ℕ} {labels : ℕ → Class} {reader : Class} where
  kept_unique : {fs : List (List ℕ)} {a b : List Bool} → HeaderOk t n fs → KeepsCovered t n labels reader fs a
      → KeepsCovered t n labels reader fs b → a ≡ b
  kept_unique {fs} {a} {b} ok p q = ext_get_or false a b (p.columns ∙ sym q.columns) (λ c h. each c (omega (arith, p.columns)))
    where
      each : (c : ℕ) → c < length fs → get_or a c false ≡ get_or b c false
      each c h =
          let known = ok.known c h in
          tells_unique (p.covered c known.item h known.found) (q.covered c known.item h known.found)

  module _ {before : List Bool} where
    whole_unique : {fs : List (List ℕ)} {r s : Said} {d e : List Bool} → WholeSays t n labels reader before fs r d
        → WholeSays t n labels reader before fs s e → Alike r s d e
    whole_unique (wrong x) (wrong y) = record { said = refl; buffer = refl }
    whole_unique (wrong x) (short y h) = absurd (x y)
    whole_unique (wrong x) (right y h k) = absurd (x y)
    whole_unique (short x h) (wrong y) = absurd (y x)
    whole_unique (short x h) (short y g) = record { said = refl; buffer = refl }
    whole_unique (short x h) (right y g k) = absurd (omega arith)
    whole_unique (right x h k) (wrong y) = absurd (y x)
    whole_unique (right x h k) (short y g) = absurd (omega arith)
    whole_unique {fs} (right x h k) (right y g m) = record {
      said = refl;
      buffer = ap (λ (z : List Bool). z ++ drop (length fs) before) (kept_unique x k m);
    }

    header_unique : {l : List ℕ} {last : Bool} {r s : Said} {d e : List Bool} → HeaderSays t n labels reader l last before r d
        → HeaderSays t n labels reader l last before s e → Alike r s d e
    header_unique {l} {last} {r} {s} {d} {e} p q = by (header_at last l) (says p) (says q)
      where
        by : (x : Record) → Says t n labels reader before r d x → Says t n labels reader before s e x → Alike r s d e
        by (whole fs k) a b = whole_unique a b
        by more a b = ends_unique a b
        by bad a b = ends_unique a b

said_unique : {t : List ℕ} {h : Head} {levels marks : List ℕ} {reader : Class} {l : List ℕ} {last : Bool} {before : List Bool} {r s : Said}
    {d e : List Bool} → ColumnsSays t h levels marks reader l last before r d → ColumnsSays t h levels marks reader l last before s e → Alike r s d e
said_unique (bad_items x) (bad_items y) = record { said = refl; buffer = refl }
said_unique (bad_items x) (few_labels o y) = absurd (x o)
said_unique (bad_items x) (bad_label o r f) = absurd (x o)
said_unique (bad_items x) (headed o r f q) = absurd (x o)
said_unique (few_labels o x) (bad_items y) = absurd (y o)
said_unique (few_labels o x) (few_labels u y) = record { said = refl; buffer = refl }
said_unique (few_labels o x) (bad_label u r f) = absurd (x r)
said_unique (few_labels o x) (headed u r f q) = absurd (x r)
said_unique (bad_label o r f) (bad_items y) = absurd (y o)
said_unique (bad_label o r f) (few_labels u y) = absurd (y r)
said_unique (bad_label o r f) (bad_label u s g) = record { said = ap (refused_by Fault.BadLabel) (first_unique f g); buffer = refl }
said_unique (bad_label o r f) (headed u s g q) = absurd (first_not_all f g)
said_unique (headed o r f p) (bad_items y) = absurd (y o)
said_unique (headed o r f p) (few_labels u y) = absurd (y r)
said_unique (headed o r f p) (bad_label u s g) = absurd (first_not_all g f)
said_unique (headed o r f p) (headed u s g q) = header_unique p q

-- The columns that say this.
abbrev count_of : List ℕ → Result (Option ℕ) Refusal
count_of [] = Ok None
count_of (n ∷ l) = Ok (Some n)

abbrev columns_of : Said → Result (Option ℕ) Refusal
columns_of (success c l) = count_of l
columns_of (refused n p) = Err (refusal_of n p)

columns_back : (r : Result (Option ℕ) Refusal) → columns_of (said_columns r) ≡ r
columns_back (Ok (Some n)) = refl
columns_back (Ok None) = refl
columns_back (Err r) = ap Err (refusal_back r)

-- The same answer, and the same content of the buffer.
pub record Same (a b : Result (Option ℕ) Refusal) (d e : List Bool) : Type 0 where
  pub answer : a ≡ b
  pub buffer : d ≡ e

-- Any two results that `kept_columns` allows are equal: the answer, and the content of the buffer.
pub columns_unique : {t : List ℕ} {h : Head} {levels marks : List ℕ} {reader : Class} {l : List ℕ} {last : Bool} {before : List Bool} {r s : Result (Option ℕ) Refusal}
    {d e : List Bool} → ColumnsSays t h levels marks reader l last before (said_columns r) d
    → ColumnsSays t h levels marks reader l last before (said_columns s) e → Same r s d e
columns_unique p q = record {
  answer = said_injective said_columns columns_of columns_back (said_unique p q).said;
  buffer = (said_unique p q).buffer;
}
