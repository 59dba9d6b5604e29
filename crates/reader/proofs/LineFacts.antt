-- What a line that is read says of the text: its key, its value and its LF; of a rule the left names, the colon, and what stands behind it. They
-- rest on the definitions of lines, answer by answer.
-- Assumes nothing.
use mathlib.Core.Path.{◌≡◌, refl, subst}
use mathlib.Core.Bool.{Bool, true, false, cond}
use mathlib.Core.List.{List}
use Prim.Native.Nat.{ℕ, zero, suc, ◌+◌, ◌≤◌, ◌<◌}
use native.Mathlib.Numerals.{one-add}
use native.Mathlib.Omega.{arith}
use lib.Dec.{eqb}
use lib.ListN.{drop}
use borrow.Author.Tests.{eqb-true}
use Rattle.std.specs.Prelude.{Option, Some, None}
use Rattle.classes.specs.Class.{lowest}
use Rattle.scans.specs.Ascii.{lf, plus, digit1, colon}
use Rattle.scans.specs.Bytes.{byte_at}
use Rattle.keys.specs.Keys.{key_found, key_at}
use Rattle.keys.specs.declared.Key.{Key}
use Rattle.tokens.specs.declared.Number.{Number}
use Rattle.keys.specs.declared.KeyToken.{KeyToken}
use Rattle.tokens.specs.declared.ClassToken.{ClassToken}
use Rattle.tokens.specs.Tokens.{name_at, count_found, count_at, class_found, class_at}
use Rattle.lines.specs.Left.{left_at}
use Rattle.lines.specs.Values.{unnamed, form_at, item_of, item_at, cap_of, cap_at, floor_of, floor_at, follow_of, follow_at, end_of, end_at, class_behind, with_class, right_behind, with_right, value_at}
use Rattle.lines.specs.Lines.{ended, line_of, line_at}
use Rattle.lines.specs.declared.left.LeftSide.{LeftSide}
use Rattle.lines.specs.declared.value.Value.{Value}
use Rattle.lines.specs.declared.Line.{Line}
use Rattle.lines.proofs.Sides.{left_by}

-- A left side of c names and n bytes: a name, and where there are more a plus sign behind it and the others.
pub record NameThen (more : List ℕ → ℕ → Type 0) (l : List ℕ) (n : ℕ) : Type 0 where
  pub first : ℕ
  pub name : name_at l ≡ Some first
  pub plus : byte_at (drop first l) ≡ plus
  pub rest : ℕ
  pub size : n ≡ first + 1 + rest
  pub others : more (drop (first + 1) l) rest

abbrev pub LeftNames : ℕ → List ℕ → ℕ → Type 0
LeftNames zero l n = ⊥
LeftNames (suc zero) l n = name_at l ≡ Some n
LeftNames (suc (suc c)) l n = NameThen (LeftNames (suc c)) l n

pub names_some : (c : ℕ) (l : List ℕ) (n : ℕ) → LeftNames c l n → 1 ≤ c
names_some zero l n h = absurd h
names_some (suc c) l n h = omega arith

pub left_names : (l : List ℕ) (x : LeftSide) → left_at l ≡ Some x → LeftNames x.names l x.len
left_names = left_by (λ l c n. LeftNames c l n) (λ l n e. e) more
  where
    more : (l : List ℕ) (n c k : ℕ) → name_at l ≡ Some n → byte_at (drop n l) ≡ plus → LeftNames c (drop (n + 1) l) k
        → LeftNames (1 + c) l (n + 1 + k)
    more l n zero k e f g = absurd g
    more l n (suc c) k e f g = rw (one-add (suc c)) (record { first = n; name = e; plus = f; rest = k; size = refl; others = g })

-- What stands behind the colon: a class, or a name.
pub record ClassTail (l : List ℕ) (v : Value) : Type 0 where
  pub width : ℕ
  pub class : class_at (drop (v.left + 1) l) ≡ class_found v.class width
  pub size : v.len ≡ v.left + 1 + width
  pub right : v.right ≡ 0

pub record NameTail (l : List ℕ) (v : Value) : Type 0 where
  pub name : name_at (drop (v.left + 1) l) ≡ Some v.right
  pub size : v.len ≡ v.left + 1 + v.right
  pub class : v.class ≡ lowest

-- The value of a rule of the kind: a cap is 0, a floor 1, a follow 2.
pub record RuleValue (kind : ℕ) (l : List ℕ) (v : Value) : Type 0 where
  pub known : kind ≤ 2
  pub left : LeftNames v.names l v.left
  pub colon : byte_at (drop v.left l) ≡ colon
  pub single : kind ≡ 0 → v.names ≡ 1
  pub classed : kind < 2 → ClassTail l v
  pub named : kind ≡ 2 → NameTail l v

abbrev ValueSays : (List ℕ → Value → Type 0) → List ℕ → Option Value → Type 0
ValueSays P l None = Unit
ValueSays P l (Some v) = P l v

class_says : (kind names n : ℕ) (l : List ℕ) → kind < 2 → (kind ≡ 0 → names ≡ 1) → LeftNames names l n → ValueSays (RuleValue kind) l (with_class names n l)
unfolding with_class
class_says kind names n l h s left = signed (eqb (byte_at (drop n l)) colon) refl
  where
    behind : byte_at (drop n l) ≡ colon → (x : Option ClassToken) → class_at (drop (n + 1) l) ≡ x → ValueSays (RuleValue kind) l (class_behind names n x)
    behind d None e = tt
    behind d (Some x) e = record {
      known = omega arith;
      left = left;
      colon = d;
      single = s;
      classed = λ z. record { width = x.len; class = e; size = refl; right = refl };
      named = λ z. absurd (omega arith);
    }

    signed : (b : Bool) → eqb (byte_at (drop n l)) colon ≡ b → ValueSays (RuleValue kind) l (cond b (class_behind names n (class_at (drop (n + 1) l))) None)
    signed true d = behind (eqb-true (byte_at (drop n l)) colon d) (class_at (drop (n + 1) l)) refl
    signed false d = tt

right_says : (names n : ℕ) (l : List ℕ) → LeftNames names l n → ValueSays (RuleValue 2) l (with_right names n l)
unfolding with_right
right_says names n l left = signed (eqb (byte_at (drop n l)) colon) refl
  where
    behind : byte_at (drop n l) ≡ colon → (x : Option ℕ) → name_at (drop (n + 1) l) ≡ x → ValueSays (RuleValue 2) l (right_behind names n x)
    behind d None e = tt
    behind d (Some k) e = record {
      known = omega arith;
      left = left;
      colon = d;
      single = λ z. absurd (omega arith);
      classed = λ z. absurd (omega arith);
      named = λ z. record { name = e; size = refl; class = refl };
    }

    signed : (b : Bool) → eqb (byte_at (drop n l)) colon ≡ b → ValueSays (RuleValue 2) l (cond b (right_behind names n (name_at (drop (n + 1) l))) None)
    signed true d = behind (eqb-true (byte_at (drop n l)) colon d) (name_at (drop (n + 1) l)) refl
    signed false d = tt

cap_says : (l : List ℕ) (x : Option ℕ) → name_at l ≡ x → ValueSays (RuleValue 0) l (cap_of l x)
cap_says l None e = tt
cap_says l (Some n) e = class_says 0 1 n l (omega arith) (λ z. refl) e

floor_says : (l : List ℕ) (x : Option LeftSide) → left_at l ≡ x → ValueSays (RuleValue 1) l (floor_of l x)
floor_says l None e = tt
floor_says l (Some x) e = class_says 1 x.names x.len l (omega arith) (λ z. absurd (omega arith)) (left_names l x e)

follow_says : (l : List ℕ) (x : Option LeftSide) → left_at l ≡ x → ValueSays (RuleValue 2) l (follow_of l x)
follow_says l None e = tt
follow_says l (Some x) e = right_says x.names x.len l (left_names l x e)

module _ (l : List ℕ) (v : Value) where
  pub cap_value : cap_at l ≡ Some v → RuleValue 0 l v
  cap_value e = subst (ValueSays (RuleValue 0) l) e (cap_says l (name_at l) refl)

  pub floor_value : floor_at l ≡ Some v → RuleValue 1 l v
  floor_value e = subst (ValueSays (RuleValue 1) l) e (floor_says l (left_at l) refl)

  pub follow_value : follow_at l ≡ Some v → RuleValue 2 l v
  follow_value e = subst (ValueSays (RuleValue 2) l) e (follow_says l (left_at l) refl)

-- The values of form, of an item and of the end.
pub record FormValue (l : List ℕ) (v : Value) : Type 0 where
  pub one : byte_at l ≡ digit1
  pub size : v.len ≡ 1

pub record ItemValue (l : List ℕ) (v : Value) : Type 0 where
  pub name : name_at l ≡ Some v.left
  pub size : v.len ≡ v.left

pub record EndValue (l : List ℕ) (v : Value) : Type 0 where
  pub count : count_at l ≡ count_found v.count v.len

form_says : (l : List ℕ) → ValueSays FormValue l (form_at l)
unfolding form_at
form_says l = says (eqb (byte_at l) digit1) refl
  where
    says : (b : Bool) → eqb (byte_at l) digit1 ≡ b → ValueSays FormValue l (cond b (unnamed 0 1) None)
    says true e = record { one = eqb-true (byte_at l) digit1 e; size = refl }
    says false e = tt

item_says : (l : List ℕ) (x : Option ℕ) → name_at l ≡ x → ValueSays ItemValue l (item_of x)
item_says l None e = tt
item_says l (Some n) e = record { name = e; size = refl }

end_says : (l : List ℕ) (x : Option Number) → count_at l ≡ x → ValueSays EndValue l (end_of x)
end_says l None e = tt
end_says l (Some x) e = record { count = e }

module _ (l : List ℕ) (v : Value) where
  pub form_value : form_at l ≡ Some v → FormValue l v
  form_value e = subst (ValueSays FormValue l) e (form_says l)

  pub item_value : item_at l ≡ Some v → ItemValue l v
  item_value e = subst (ValueSays ItemValue l) e (item_says l (name_at l) refl)

  pub end_value : end_at l ≡ Some v → EndValue l v
  end_value e = subst (ValueSays EndValue l) e (end_says l (count_at l) refl)

-- A line: its key, its value, and LF behind them.
pub record LineParts (l : List ℕ) (x : Line) : Type 0 where
  pub key : key_at l ≡ key_found x.key x.from
  pub value : value_at x.key (drop x.from l) ≡ Some x.value
  pub last : byte_at (drop (x.from + x.value.len) l) ≡ lf

abbrev PartsSay : List ℕ → Option Line → Type 0
PartsSay l None = Unit
PartsSay l (Some x) = LineParts l x

ended_says : (l : List ℕ) (k : Key) (n : ℕ) (y : Option Value) → key_at l ≡ key_found k n → value_at k (drop n l) ≡ y → PartsSay l (ended l k n y)
ended_says l k n None e f = tt
ended_says l k n (Some v) e f = says (eqb (byte_at (drop (n + v.len) l)) lf) refl
  where
    says : (b : Bool) → eqb (byte_at (drop (n + v.len) l)) lf ≡ b
        → PartsSay l (cond b (Some (record { key = k; from = n; value = v })) None)
    says true d = record { key = e; value = f; last = eqb-true (byte_at (drop (n + v.len) l)) lf d }
    says false d = tt

parts_say : (l : List ℕ) (y : Option KeyToken) → key_at l ≡ y → PartsSay l (line_of l y)
parts_say l None e = tt
parts_say l (Some x) e = ended_says l x.key x.len (value_at x.key (drop x.len l)) e refl

pub line_parts : (l : List ℕ) (x : Line) → line_at l ≡ Some x → LineParts l x
line_parts l x e = subst (PartsSay l) e (parts_say l (key_at l) refl)
