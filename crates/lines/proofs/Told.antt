-- What reading a value and a line answers, one law for each answer that the code can give. They rest on the laws of the tokens, of places and of
-- the left side.
-- Assumes nothing.
use mathlib.Core.Path.{◌≡◌, refl, sym, subst}
use mathlib.Core.Bool.{Bool, true, false, cond}
use mathlib.Core.List.{List}
use Prim.Native.Nat.{ℕ, ◌+◌, ◌-◌, ◌≤◌, ◌<◌}
use native.Mathlib.Nat.{le_refl}
use native.Mathlib.Omega.{arith}
use lib.Dec.{eqb}
use lib.ListN.{length, take, drop, length-drop}
use lib.Seq.{length-take-le}
use borrow.Author.Tests.{eqb-true}
use Rattle.std.specs.Prelude.{Option, Some, None}
use Rattle.items.specs.Names.{name_room}
use Rattle.items.proofs.Names.{name_spelled}
use Rattle.scans.specs.Ascii.{lf, digit1, colon}
use Rattle.scans.specs.Bytes.{byte_at}
use Rattle.scans.proofs.Places.{byte_inside}
use Rattle.keys.specs.Keys.{key_at}
use Rattle.keys.specs.declared.Key.{Key}
use Rattle.keys.specs.declared.KeyToken.{KeyToken}
use Rattle.keys.proofs.KeyTexts.{key_some, key_is_text}
use Rattle.tokens.specs.Tokens.{name_at, count_at, class_at}
use Rattle.tokens.specs.declared.Number.{Number}
use Rattle.tokens.specs.declared.ClassToken.{ClassToken}
use Rattle.tokens.proofs.Tokens.{name_is_name, class_is_text, count_is_text}
use Rattle.lines.specs.declared.left.LeftSide.{LeftSide}
use Rattle.lines.specs.declared.value.Value.{Value}
use Rattle.lines.specs.declared.Line.{Line}
use Rattle.lines.specs.Left.{left_at}
use Rattle.lines.specs.Values.{unnamed, form_at, item_of, cap_of, floor_of, follow_of, end_of, value_at, class_behind, with_class, right_behind, with_right}
use Rattle.lines.specs.Lines.{ended, line_of, line_at, line_len}
use Rattle.lines.proofs.Sides.{name_stands, left_stands}

-- A name, a left side and a class that are read stand within the text.
pub name_ends : (s : List ℕ) (at : ℕ) {n : ℕ} → Some n ≡ name_at (drop at s) → at + n ≤ length s
name_ends s at {n} e = (name_stands s at n (sym e)).within

pub left_ends : (s : List ℕ) (at : ℕ) {x : LeftSide} → Some x ≡ left_at (drop at s) → at + x.len ≤ length s
left_ends s at {x} e = (left_stands s at x (sym e)).within

pub class_ends : (s : List ℕ) (at : ℕ) {x : ClassToken} → Some x ≡ class_at (drop at s) → x.len ≤ length s - at
class_ends s at {x} e = omega (arith, (class_is_text (drop at s) x (sym e)).within, length-drop at s)

-- A value that is read stands within the text, and its left side within it.
pub record ValueHere (l : List ℕ) (v : Value) : Type 0 where
  pub within : v.len ≤ length l
  pub left : v.left ≤ v.len

abbrev pub ValueSays : List ℕ → Option Value → Type 0
ValueSays l None = Unit
ValueSays l (Some v) = ValueHere l v

form_says : (l : List ℕ) → ValueSays l (form_at l)
unfolding form_at
form_says l = says (eqb (byte_at l) digit1) refl
  where
    says : (b : Bool) → eqb (byte_at l) digit1 ≡ b → ValueSays l (cond b (unnamed 0 1) None)
    says true e = record { within = byte_inside l 0 (omega (arith, eqb-true (byte_at l) digit1 e)); left = omega arith }
    says false e = tt

item_says : (l : List ℕ) (x : Option ℕ) → name_at l ≡ x → ValueSays l (item_of x)
item_says l None e = tt
item_says l (Some n) e = record { within = (name_is_name l n e).within; left = le_refl n }

end_says : (l : List ℕ) (x : Option Number) → count_at l ≡ x → ValueSays l (end_of x)
end_says l None e = tt
end_says l (Some x) e = record { within = (count_is_text l x e).within; left = omega arith }

behind_says : (l : List ℕ) (n : ℕ) (x : Option Value) → (n < length l → ValueSays l x)
    → ValueSays l (cond (eqb (byte_at (drop n l)) colon) x None)
behind_says l n x f = says (eqb (byte_at (drop n l)) colon) refl
  where
    says : (b : Bool) → eqb (byte_at (drop n l)) colon ≡ b → ValueSays l (cond b x None)
    says true e = f (byte_inside l n (omega (arith, eqb-true (byte_at (drop n l)) colon e)))
    says false e = tt

class_says : (names n : ℕ) (l : List ℕ) → ValueSays l (with_class names n l)
unfolding with_class
class_says names n l = behind_says l n (class_behind names n (class_at (drop (n + 1) l))) (λ h. says h (class_at (drop (n + 1) l)) refl)
  where
    says : n < length l → (x : Option ClassToken) → class_at (drop (n + 1) l) ≡ x → ValueSays l (class_behind names n x)
    says h None e = tt
    says h (Some x) e = record { within = omega (arith, (class_is_text (drop (n + 1) l) x e).within, length-drop (n + 1) l); left = omega arith }

right_says : (names n : ℕ) (l : List ℕ) → ValueSays l (with_right names n l)
unfolding with_right
right_says names n l = behind_says l n (right_behind names n (name_at (drop (n + 1) l))) (λ h. says h (name_at (drop (n + 1) l)) refl)
  where
    says : n < length l → (x : Option ℕ) → name_at (drop (n + 1) l) ≡ x → ValueSays l (right_behind names n x)
    says h None e = tt
    says h (Some k) e = record { within = omega (arith, (name_is_name (drop (n + 1) l) k e).within, length-drop (n + 1) l); left = omega arith }

cap_says : (l : List ℕ) (x : Option ℕ) → ValueSays l (cap_of l x)
cap_says l None = tt
cap_says l (Some n) = class_says 1 n l

floor_says : (l : List ℕ) (x : Option LeftSide) → ValueSays l (floor_of l x)
floor_says l None = tt
floor_says l (Some x) = class_says x.names x.len l

follow_says : (l : List ℕ) (x : Option LeftSide) → ValueSays l (follow_of l x)
follow_says l None = tt
follow_says l (Some x) = right_says x.names x.len l

value_says : (k : Key) (l : List ℕ) → ValueSays l (value_at k l)
value_says Key.Form l = form_says l
value_says Key.Item l = item_says l (name_at l) refl
value_says Key.Cap l = cap_says l (name_at l)
value_says Key.Floor l = floor_says l (left_at l)
value_says Key.Follow l = follow_says l (left_at l)
value_says Key.End l = end_says l (count_at l) refl

pub value_here : (k : Key) (l : List ℕ) (v : Value) → value_at k l ≡ Some v → ValueHere l v
value_here k l v e = subst (ValueSays l) e (value_says k l)

-- The name of an item has at most 16 bytes.
abbrev IsBad : Option Value → Type 0
IsBad None = Unit
IsBad (Some v) = ⊥

abbrev LeftFew : Option Value → Type 0
LeftFew None = Unit
LeftFew (Some v) = v.left ≤ name_room

item_few : (l : List ℕ) (v : Value) (x : Option ℕ) → name_at l ≡ x → item_of x ≡ Some v → v.left ≤ name_room
item_few l v None e f = absurd (bad f)
  where
    bad : None ≡ Some v → ⊥
    bad f = subst (λ (y : Option Value). IsBad y) f tt
item_few l v (Some n) e f = subst (λ (y : Option Value). LeftFew y) f most
  where
    most : n ≤ name_room
    most =
        let here = name_is_name l n e in
        omega (arith, (name_spelled (take n l) here.name).most, length-take-le n l here.within)

value_few : (k : Key) (l : List ℕ) (v : Value) → value_at k l ≡ Some v → k ≡ Key.Item → v.left ≤ name_room
value_few k l v e f = item_few l v (name_at l) refl (rw f at e)

-- A key and a value that are read stand within the text.
pub key_ends : (s : List ℕ) (at : ℕ) {x : KeyToken} → Some x ≡ key_at (drop at s) → at + x.len ≤ length s
key_ends s at {x} e =
    let here = key_is_text (drop at s) x.key x.len (sym e) in
    omega (arith, here.size, key_some x.key, here.begins.within, length-drop at s)

pub value_ends : (k : Key) (s : List ℕ) (at : ℕ) {v : Value} → Some v ≡ value_at k (drop at s) → v.len ≤ length s - at
value_ends k s at {v} e = omega (arith, (value_here k (drop at s) v (sym e)).within, length-drop at s)

-- What a line that is read says: it has a byte and stands within the text, and its left side within it.
pub record LineHere (l : List ℕ) (x : Line) : Type 0 where
  pub some : 1 ≤ line_len x
  pub within : line_len x ≤ length l
  pub left : x.from + x.value.left < line_len x
  pub name : x.key ≡ Key.Item → x.value.left ≤ name_room

abbrev pub LineSays : List ℕ → Option Line → Type 0
LineSays l None = Unit
LineSays l (Some x) = LineHere l x

ended_says : (l : List ℕ) (k : Key) (n : ℕ) (y : Option Value) → value_at k (drop n l) ≡ y → LineSays l (ended l k n y)
ended_says l k n None e = tt
ended_says l k n (Some v) e = says (eqb (byte_at (drop (n + v.len) l)) lf) refl
  where
    says : (b : Bool) → eqb (byte_at (drop (n + v.len) l)) lf ≡ b
        → LineSays l (cond b (Some (record { key = k; from = n; value = v })) None)
    says false f = tt
    says true f = record {
      some = omega arith;
      within = omega (arith, byte_inside l (n + v.len) (omega (arith, eqb-true (byte_at (drop (n + v.len) l)) lf f)));
      left = omega (arith, (value_here k (drop n l) v e).left);
      name = value_few k (drop n l) v e;
    }

line_says : (l : List ℕ) (x : Option KeyToken) → LineSays l (line_of l x)
line_says l None = tt
line_says l (Some x) = ended_says l x.key x.len (value_at x.key (drop x.len l)) refl

pub line_here : (l : List ℕ) (x : Line) → line_at l ≡ Some x → LineHere l x
line_here l x e = subst (LineSays l) e (line_says l (key_at l))
