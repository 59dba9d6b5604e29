-- Tables that agree in a part are books that agree in it. It rests on classes agreeing in a part exactly if they have the same value there.
-- Assumes nothing.
use mathlib.Core.Path.{◌≡◌, refl, ◌∙◌, sym}
use mathlib.Core.List.{List}
use Prim.Native.Nat.{ℕ, zero, suc}
use Rattle.classes.specs.Parts.{part}
use Rattle.meaning.specs.Rules as meant
use Rattle.meaning.specs.Rules.{map_rule}
use Rattle.meaning.specs.Parts.{AgreeIn}
use Rattle.meaning.specs.Classes.{class_parts, ClassesAgree}
use Rattle.meaning.proofs.Classes.{agree_part}
use Rattle.rules.specs.declared.Head.{Head}
use Rattle.rules.specs.declared.Rule.{Rule}
use Rattle.rules.specs.Record.{by_kind, meaning_of}
use Rattle.rules.specs.Table.{rule_at, book_of}
use Rattle.rules.specs.Agreeing.{SameLine, TablesAgree}

map_kind : {A B : Type 0} (f : A → B) (k : ℕ) (c g h : meant.Rule A) → map_rule f (by_kind k c g h) ≡ by_kind k (map_rule f c) (map_rule f g) (map_rule f h)
map_kind f zero c g h = refl
map_kind f (suc zero) c g h = refl
map_kind f (suc (suc k)) c g h = refl

-- The same line with classes that agree in part p is the same rule in that part.
rule_agrees : (p : ℕ) (x y : Rule) → SameLine x y → ClassesAgree p x.class y.class → map_rule (part p) (meaning_of x) ≡ map_rule (part p) (meaning_of y)
unfolding meaning_of
rule_agrees p x y s e =
    map_kind (part p) x.kind _ _ _
    ∙ (rw (s.kind, s.count, s.left, s.right, agree_part p x.class y.class e))
    ∙ sym (map_kind (part p) y.kind _ _ _)

pub tables_agree : {p : ℕ} {h : Head} {t : List ℕ} {k : Head} {u : List ℕ} → TablesAgree p h t k u → AgreeIn class_parts class_parts p (book_of h t) (book_of k u)
tables_agree {p} {t = t} {u = u} a = record {
  seen = record {
    items = a.differ.items;
    rules = a.differ.rules;
    each = λ r s. rule_agrees p (rule_at t r) (rule_at u r) (a.differ.lines r s) (a.classes r s);
  };
}
