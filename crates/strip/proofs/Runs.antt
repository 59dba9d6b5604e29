-- However an export is cut into pieces, a run writes what is left of the whole export and says what is said of it; there is only one answer; and exports that
-- differ only in columns held back leave the same bytes. It rests on the same of the calls of `strip` and of `kept_columns`.
-- Assumes nothing.
use Rattle.std.specs.Prelude.{Ok, Err, Some}
use Rattle.std.proofs.Common.{◌≡◌, ℕ, Bool, true, List, [], ◌∷◌, ◌++◌, take, sym, refl, ap, ◌∙◌, subst, append-nil, arith}
use Rattle.classes.specs.declared.Class.{Class}
use Rattle.refusals.specs.declared.Refusal.{Refusal}
use Rattle.refusals.specs.Said.{Said}
use Rattle.rules.specs.declared.Head.{Head}
use Rattle.assign.specs.Assigning.{Lent, said_head, said_assigned, AssignSays}
use Rattle.assign.proofs.Unique.{assign_unique}
use Rattle.exports.specs.Text.{Verdict, accepted, refused, Outcome, stripped_from}
use Rattle.exports.proofs.HeldBack.{held_back_leaves_no_trace}
use Rattle.columns.specs.Reader.{said_reader, ReaderSays}
use Rattle.columns.specs.Columns.{said_kept, said_more, said_columns}
use Rattle.columns.proofs.Unique.{Same, columns_unique, reader_unique}
use Rattle.columns.proofs.Pieces.{columns_stay}
use Rattle.stripping.specs.Calls.{all_of, none_to_come}
use Rattle.stripping.proofs.Calls.{calls_strip}
use Rattle.stripping.proofs.Reading.{same_bytes}
use Rattle.strip.specs.Runs.{LentRoom, Opened, Opens, OpenedSays, KeptIn, RefusedFirst, by_book, by_class, by_header, LeftOf, refused_first, stripped}
use Rattle.strip.specs.Runs.{Runs, waits, strips, refuses, DifferHeldBack}

-- What is said of what is held, unless it is that the header needs more, is said of the whole export.
whole_says : {o : Opened} (held : List ℕ) (pieces : List (List ℕ)) {before : List Bool} {s : Said} {after : List Bool}
    → OpenedSays o held (none_to_come pieces) before s after → (s ≡ said_more → ⊥) → OpenedSays o (held ++ all_of pieces) true before s after
unfolding all_of
whole_says {o} held [] {before} {s} {after} p h = subst (λ (x : List ℕ). OpenedSays o x true before s after) (sym (append-nil held)) p
whole_says held (piece ∷ pieces) p h = columns_stay true held (all_of (piece ∷ pieces)) p h

whole_refused : {room : LentRoom} {book class : List ℕ} (held : List ℕ) (pieces : List (List ℕ)) {r : Refusal}
    → RefusedFirst room book class held (none_to_come pieces) r → RefusedFirst room book class (held ++ all_of pieces) true r
whole_refused held pieces (by_book p) = by_book p
whole_refused held pieces (by_class p q) = by_class p q
whole_refused held pieces (by_header p room q) = by_header p room (whole_says held pieces q (λ e. let z : ◌≡◌ {A = ℕ} 0 1 = cc in omega arith))

whole_kept : {room : LentRoom} {book class : List ℕ} (held : List ℕ) (pieces : List (List ℕ)) {kept : List Bool} → KeptIn room book class held (none_to_come pieces) kept
    → KeptIn room book class (held ++ all_of pieces) true kept
whole_kept held pieces p = record {
  opened = p.opened;
  opens = p.opens;
  count = p.count;
  after = p.after;
  says = whole_says held pieces p.says (λ e. let z : ◌≡◌ {A = ℕ} 0 1 = cc in omega arith);
  is = p.is;
}

-- "The routine computes the definition, however the input was cut into reads": a run leaves what is left of the whole export.
pub runs_leave : {room : LentRoom} {book class held : List ℕ} {pieces : List (List ℕ)} {text : List ℕ} {v : Verdict} → Runs room book class held pieces text v
    → LeftOf room book class (held ++ all_of pieces) text v
runs_leave {room} {book} {class} {text = text} {v} (waits o says read run) =
    subst (λ (x : List ℕ). LeftOf room book class x text v) (sym (same_bytes read)) (runs_leave run)
runs_leave {held = held} {pieces} (strips p calls) = stripped (whole_kept held pieces p) (calls_strip calls)
runs_leave {held = held} {pieces} (refuses p) = refused_first (whole_refused held pieces p)

-- A book and a class are opened in one way.
labelled_same : {book : List ℕ} {lent a b : Lent} {h k : Head} → AssignSays book lent (said_head h) a → AssignSays book lent (said_head k) b → (h ≡ k) × (a ≡ b)
labelled_same {h = h} {k} p q = let same = assign_unique {x = Ok h} {y = Ok k} p q in let e = same.0 in (cc, same.1)

abbrev opened_by : Head → Lent → Class → Opened
opened_by h labels reader = record { head = h; labels = labels; reader = reader }

opens_unique : {room : LentRoom} {book class : List ℕ} {o u : Opened} → Opens room book class o → Opens room book class u → o ≡ u
opens_unique {o = o} {u} p q =
    ap (λ (h : Head). opened_by h o.labels o.reader) same.0
    ∙ ap (λ (l : Lent). opened_by u.head l o.reader) same.1
    ∙ ap (opened_by u.head u.labels) reader
  where
    same : (o.head ≡ u.head) × (o.labels ≡ u.labels)
    same = labelled_same p.assigned q.assigned

    reader : o.reader ≡ u.reader
    reader = let e = reader_unique {r = Ok o.reader} {s = Ok u.reader} p.known q.known in cc

-- The columns that are kept are the same whenever they are asked for.
pub kept_unique : {room : LentRoom} {book class export : List ℕ} {last : Bool} {k m : List Bool} → KeptIn room book class export last k
    → KeptIn room book class export last m → k ≡ m
kept_unique {room} {export = export} {last} p q =
    p.is ∙ ap (λ (n : ℕ). take n p.after) count ∙ ap (take q.count) same.buffer ∙ sym q.is
  where
    moved : OpenedSays p.opened export last room.columns (said_kept q.count) q.after
    moved = subst (λ (o : Opened). OpenedSays o export last room.columns (said_kept q.count) q.after) (opens_unique q.opens p.opens) q.says

    same : Same (Ok (Some p.count)) (Ok (Some q.count)) p.after q.after
    same = columns_unique p.says moved

    count : p.count ≡ q.count
    count = let e = same.answer in cc

never : {book : List ℕ} {lent a b : Lent} (r : Refusal) {h : Head} → AssignSays book lent (said_assigned (Err r)) a → AssignSays book lent (said_head h) b → ⊥
never r {h} p q = let e = (assign_unique {x = Err r} {y = Ok h} p q).0 in let z : ◌≡◌ {A = ℕ} 0 1 = cc in omega arith

no_reader : {class : List ℕ} (r : Refusal) {c : Class} → ReaderSays class (said_reader (Err r)) → ReaderSays class (said_reader (Ok c)) → ⊥
no_reader r {c} p q = let e = reader_unique {r = Err r} {s = Ok c} p q in let z : ◌≡◌ {A = ℕ} 0 1 = cc in omega arith

-- Refused first, or columns are kept, and never both; and the refusal is one.
refused_same : {room : LentRoom} {book class export : List ℕ} {last : Bool} {r s : Refusal} → RefusedFirst room book class export last r
    → RefusedFirst room book class export last s → r ≡ s
refused_same {r = r} {s} (by_book p) (by_book q) = let e = (assign_unique {x = Err r} {y = Err s} p q).0 in cc
refused_same {r = r} {s} (by_book p) (by_class q c) = absurd (never r p q)
refused_same {r = r} {s} (by_book p) (by_header o fits q) = absurd (never r p o.assigned)
refused_same {r = r} {s} (by_class p c) (by_book q) = absurd (never s q p)
refused_same {r = r} {s} (by_class p c) (by_class q d) = let e = reader_unique {r = Err r} {s = Err s} c d in cc
refused_same {r = r} {s} (by_class p c) (by_header o fits q) = absurd (no_reader r c o.known)
refused_same {r = r} {s} (by_header o fits p) (by_book q) = absurd (never s q o.assigned)
refused_same {r = r} {s} (by_header o fits p) (by_class q d) = absurd (no_reader s d o.known)
refused_same {room} {export = export} {last} {r} {s} (by_header p x y) (by_header {after = after} q z w) =
    let moved = subst (λ (v : Opened). OpenedSays v export last room.columns (said_columns (Err s)) after) (opens_unique q p) w in
    let e = (columns_unique {r = Err r} {s = Err s} y moved).answer in
    cc

not_kept : {room : LentRoom} {book class export : List ℕ} {last : Bool} {r : Refusal} {k : List Bool} → RefusedFirst room book class export last r
    → KeptIn room book class export last k → ⊥
not_kept {r = r} (by_book p) q = never r p q.opens.assigned
not_kept {r = r} (by_class p c) q = no_reader r c q.opens.known
not_kept {room} {export = export} {last} {r} (by_header {after = after} p x y) q =
    let moved = subst (λ (v : Opened). OpenedSays v export last room.columns (said_columns (Err r)) after) (opens_unique p q.opens) y in
    let e = (columns_unique {r = Err r} {s = Ok (Some q.count)} moved q.says).answer in
    let z : ◌≡◌ {A = ℕ} 0 1 = cc in
    omega arith

-- One thing only is left of an export.
pub record SameLeft (x y : List ℕ) (v w : Verdict) : Type 0 where
  pub text : x ≡ y
  pub verdict : v ≡ w

same_outcome : {o : Outcome} {x y : List ℕ} {v w : Verdict} → o ≡ record { text = x; verdict = v } → o ≡ record { text = y; verdict = w } → SameLeft x y v w
same_outcome e f = record { text = ap (λ (o : Outcome). o.text) (sym e ∙ f); verdict = ap (λ (o : Outcome). o.verdict) (sym e ∙ f) }

pub left_unique : {room : LentRoom} {book class export x y : List ℕ} {v w : Verdict} → LeftOf room book class export x v → LeftOf room book class export y w → SameLeft x y v w
left_unique (refused_first p) (refused_first q) = record { text = refl; verdict = ap refused (refused_same p q) }
left_unique (refused_first p) (stripped q f) = absurd (not_kept p q)
left_unique (stripped p e) (refused_first q) = absurd (not_kept q p)
left_unique {export = export} (stripped p e) (stripped q f) =
    same_outcome e (ap (λ (k : List Bool). stripped_from k 1 export) (kept_unique p q) ∙ f)

-- Whatever runs there are over the pieces of one export, they have one outcome, however it was cut for each.
pub runs_unique : {room : LentRoom} {book class : List ℕ} {pieces pieces_too : List (List ℕ)} {x y : List ℕ} {v w : Verdict} → all_of pieces ≡ all_of pieces_too
    → Runs room book class [] pieces x v → Runs room book class [] pieces_too y w → SameLeft x y v w
runs_unique {room} {book} {class} {x = x} {v = v} e p q = left_unique (subst (λ (z : List ℕ). LeftOf room book class z x v) e (runs_leave p)) (runs_leave q)

-- "Accepted exports that differ only in columns held back give the same bytes."
pub held_back_same : {room : LentRoom} {book class a b x y : List ℕ} → DifferHeldBack room book class a b → LeftOf room book class a x accepted
    → LeftOf room book class b y accepted → x ≡ y
held_back_same {a = a} {b} d (stripped p e) (stripped q f) =
    sym (ap (λ (o : Outcome). o.text) e)
    ∙ ap (λ (k : List Bool). (stripped_from k 1 a).text) (kept_unique p d.first)
    ∙ held_back_leaves_no_trace d.kept d.kept_too 1 1 a b d.apart
    ∙ ap (λ (k : List Bool). (stripped_from k 1 b).text) (kept_unique d.second q)
    ∙ ap (λ (o : Outcome). o.text) f

-- So do runs on them, however each was cut.
pub runs_hold_back : {room : LentRoom} {book class : List ℕ} {pieces pieces_too : List (List ℕ)} {x y : List ℕ}
    → DifferHeldBack room book class (all_of pieces) (all_of pieces_too) → Runs room book class [] pieces x accepted → Runs room book class [] pieces_too y accepted → x ≡ y
runs_hold_back d p q = held_back_same d (runs_leave p) (runs_leave q)
