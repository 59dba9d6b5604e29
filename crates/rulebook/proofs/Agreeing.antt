-- Texts that agree in a part are the texts of tables that agree in it; the texts of such tables, where they are not too long, agree in it; and their lines are the same but
-- for classes. It rests on reading and writing undoing each other.
-- Assumes nothing.
use mathlib.Core.Path.{◌≡◌, refl, sym, subst, ◌∙◌}
use mathlib.Core.List.{List, [], ◌∷◌, ◌++◌, append_assoc}
use Prim.Native.Nat.{ℕ, zero, suc, ◌+◌, ◌*◌, ◌≤◌, ◌<◌}
use native.Mathlib.Omega.{arith}
use lib.ListN.{length, take}
use borrow.Author.Tests.{le-ltb}
use Rattle.std.specs.Prelude.{Ok}
use Rattle.refusals.specs.Sizes.{most_text}
use Rattle.items.specs.Names.{name_room}
use Rattle.items.specs.Table.{name_of}
use Rattle.rules.specs.declared.Head.{Head}
use Rattle.rules.specs.declared.Rule.{Rule}
use Rattle.rules.specs.Record.{by_kind}
use Rattle.rules.specs.Table.{rule_at}
use Rattle.rules.specs.Agreeing.{SameLine, DifferInClasses, TablesAgree}
use Rattle.accepts.specs.Tables.{Tables, SameTables}
use Rattle.accepts.proofs.Counted.{tables_counted, rule_same}
use Rattle.scans.specs.Ascii.{lf, digit1}
use Rattle.keys.specs.Keys.{key_text}
use Rattle.keys.specs.declared.Key.{Key}
use Rattle.tokens.specs.Tokens.{count_text, class_text}
use Rattle.reader.specs.Reading.{read_text, read_whole}
use Rattle.reader.specs.Agreeing.{TextsAgree}
use Rattle.reader.proofs.Books.{book_of_lines, read_tables}
use Rattle.writer.specs.Texts.{pieces, form_line, item_lines, left_text, right_text, rule_key, rule_lines, end_line, book_text}
use Rattle.rulebook.specs.RoundTrip.{Words}
use Rattle.rulebook.specs.Agreeing.{WrittenAlike, SameButClass, same, other_class, SameLines, none, next}
use Rattle.rulebook.proofs.ReadWrite.{read_write}
use Rattle.rulebook.proofs.WriteRead.{Back, write_read}
use Rattle.rulebook.proofs.Counted.{text_counted}

-- A text that is read as a book is the text of its tables, and of the other text's items.
pub texts_written : {p : ℕ} {l m : List ℕ} → TextsAgree p l m → WrittenAlike p l m
texts_written {p} {l} {m} a = record {
  head = a.head;
  head' = a.head';
  items = (read_text l).names;
  rules = (read_text l).words;
  rules' = (read_text m).words;
  tables = read_tables l a.read;
  tables' = tables_counted other (read_tables m a.read');
  agree = a.rules;
  text = sym (read_write l (book_of_lines l a.read));
  text' = sym (text_counted other (read_tables m a.read') ∙ read_write m (book_of_lines m a.read'));
}
  where
    other : SameTables a.head' (read_text m).names (read_text m).words (read_text l).names (read_text m).words
    other = record { items = rw (← a.rules.differ.items) (sym a.items); rules = refl }

-- What was written is read.
written_read : {h : Head} {t w : List ℕ} → Tables h t w → Words w → length (book_text h t w) ≤ most_text → read_whole (book_text h t w) ≡ Ok h
written_read {h} {t} {w} a small short = rw (le-ltb most_text (length (book_text h t w)) short) (write_read a small).answer

-- Tables that agree still do where they are read back.
agree_back : {p : ℕ} {h k : Head} {t w t' w' z u z' u' : List ℕ} → SameTables h t w t' w' → SameTables k z u z' u' → TablesAgree p h w' k u'
    → TablesAgree p h w k u
agree_back {h = h} {k} {w = w} {w' = w'} {u = u} {u' = u'} s s' a = record {
  differ = record {
    items = a.differ.items;
    rules = a.differ.rules;
    lines = λ r l. rw (rule_same h w w' s.rules r l, rule_same k u u' s'.rules r (omega (arith, a.differ.rules))) (a.differ.lines r l);
  };
  classes = λ r l. rw (rule_same h w w' s.rules r l, rule_same k u u' s'.rules r (omega (arith, a.differ.rules))) (a.classes r l);
}

-- The texts of tables that agree in a part agree in it.
pub written_texts : {p : ℕ} {h k : Head} {t w u : List ℕ} → Tables h t w → Tables k t u → Words w → Words u → TablesAgree p h w k u
    → length (book_text h t w) ≤ most_text → length (book_text k t u) ≤ most_text → TextsAgree p (book_text h t w) (book_text k t u)
written_texts {h = h} {k} {t} {w} {u} a b small small' agree short short' = record {
  head = h;
  head' = k;
  read = written_read a small short;
  read' = written_read b small' short';
  items =
      one.tables.items
      ∙ sym
      (subst (λ (n : ℕ). take (n * name_room) (read_text (book_text k t u)).names ≡ take (n * name_room) t) (sym agree.differ.items) two.tables.items);
  rules = agree_back one.tables two.tables agree;
}
  where
    one : Back h t w (read_text (book_text h t w))
    one = write_read a small

    two : Back k t u (read_text (book_text k t u))
    two = write_read b small'

-- The line of a rule, its LF left out; those of two rules that differ only in their class.
abbrev rule_body : List ℕ → Rule → List ℕ
rule_body t x = key_text (rule_key x) ++ left_text t x ++ right_text t x

rule_alike : (t : List ℕ) (x y : Rule) → SameLine x y → SameButClass (rule_body t x) (rule_body t y)
rule_alike t x y s =
    subst (SameButClass (rule_body t x)) (rw (s.kind, s.count, s.left, s.right)) (by_kind_lem x.kind (key_text (rule_key x) ++ left_text t x) (name_of t x.right))
  where
    by_kind_lem : (k : ℕ) (front name : List ℕ)
        → SameButClass (front ++ by_kind k (class_text x.class) (class_text x.class) name) (front ++ by_kind k (class_text y.class) (class_text y.class) name)
    by_kind_lem zero front name = other_class front x.class y.class
    by_kind_lem (suc zero) front name = other_class front x.class y.class
    by_kind_lem (suc (suc k)) front name = same

-- Lines one after the other.
abbrev line : List ℕ → List ℕ
line x = x ++ lf ∷ []

line_alike : (x y : List ℕ) → SameButClass x y → {l m : List ℕ} → SameLines l m → SameLines (line x ++ l) (line y ++ m)
line_alike x y e {l} {m} s = rw (append_assoc x (lf ∷ []) l, append_assoc y (lf ∷ []) m) (next x y e s)

pieces_alike : (f g : ℕ → List ℕ) (k c : ℕ) → ((j : ℕ) → j < k + c → SameButClass (f j) (g j)) → {l m : List ℕ} → SameLines l m
    → SameLines (pieces (λ j. line (f j)) k c ++ l) (pieces (λ j. line (g j)) k c ++ m)
unfolding pieces
pieces_alike f g k zero h s = s
pieces_alike f g k (suc c) h {l} {m} s =
    rw (append_assoc (line (f k)) (pieces (λ j. line (f j)) (suc k) c) l, append_assoc (line (g k)) (pieces (λ j. line (g j)) (suc k) c) m)
    (line_alike (f k) (g k) (h k (omega arith)) (pieces_alike f g (suc k) c (λ j i. h j (omega arith)) s))

regrouped : (a b c c' d : List ℕ) → SameLines (a ++ (b ++ (c ++ d))) (a ++ (b ++ (c' ++ d))) → SameLines (a ++ b ++ c ++ d) (a ++ b ++ c' ++ d)
regrouped a b c c' d s = rw (append_assoc (a ++ b) c d, append_assoc (a ++ b) c' d, append_assoc a b (c ++ d), append_assoc a b (c' ++ d)) s

-- The texts of two books with the same items, whose rules differ only in their classes.
lines_alike : {h k : Head} (t : List ℕ) {w u : List ℕ} → DifferInClasses h w k u → SameLines (book_text h t w) (book_text k t u)
unfolding book_text
lines_alike {h} {k} t {w} {u} s =
    rw (← s.items, ← s.rules)
    (regrouped form_line (item_lines t h.items) (rule_lines t w h.rules) (rule_lines t u h.rules) (end_line count)
    (next (key_text Key.Form ++ digit1 ∷ []) (key_text Key.Form ++ digit1 ∷ []) same
    (pieces_alike item item 0 h.items (λ i l. same)
    (pieces_alike (λ r. rule_body t (rule_at w r)) (λ r. rule_body t (rule_at u r)) 0 h.rules (λ r l. rule_alike t (rule_at w r) (rule_at u r) (s.lines r (omega arith)))
    (next (key_text Key.End ++ count_text count) (key_text Key.End ++ count_text count) same none)))))
  where
    count : ℕ
    count = 1 + h.items + h.rules

    item : ℕ → List ℕ
    item i = key_text Key.Item ++ name_of t i

-- So are texts that agree.
written_lines : {p : ℕ} {l m : List ℕ} → WrittenAlike p l m → SameLines l m
written_lines {m = m} x =
    subst (λ (y : List ℕ). SameLines y m) (sym x.text)
    (subst (SameLines (book_text x.head x.items x.rules)) (sym x.text') (lines_alike x.items x.agree.differ))

pub texts_lines : {p : ℕ} {l m : List ℕ} → TextsAgree p l m → SameLines l m
texts_lines a = written_lines (texts_written a)
