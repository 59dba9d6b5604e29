-- The tokens there and back: what is written of a token reads back, and what is read is what would be written. They rest on the laws of runs
-- and of numbers in digits.
-- Assumes nothing.
use mathlib.Core.Path.{◌≡◌, refl, sym, ap, ◌∙◌, subst}
use mathlib.Core.Bool.{Bool, true, false, cond, ◌&&◌}
use mathlib.Core.List.{List, ◌∷◌, ◌++◌, append_assoc}
use Prim.Native.Nat.{ℕ, ◌+◌, ◌-◌, ◌^◌, ◌≤◌, ◌<◌}
use native.Mathlib.Nat.{add-zero, le_refl}
use native.Mathlib.Decide.{dec_lt}
use native.Mathlib.Numerals.{add-one}
use native.Mathlib.Omega.{arith}
use lib.Dec.{ltb, eqb}
use lib.ListN.{length, take, drop, replicate, get_or-append, length-append, length-drop}
use lib.Seq.{length-take-le, get_or-take, take_at, drop_at, take-add, drop-cons, drop-drop, get_or-drop}
use borrow.Author.Tests.{lt-ltb, le-ltb, eq-eqb, ne_eqb, ltb-false, eqb-true}
use Rattle.std.specs.Prelude.{Option, Some, None}
use Rattle.laws.proofs.Bools.{true_not_false}
use Rattle.classes.specs.Class.{top_level, class_of, IsClass, lowest, highest}
use Rattle.classes.specs.declared.Class.{Class}
use Rattle.items.specs.Names.{name_room, is_name}
use Rattle.items.proofs.Names.{spelled_name, name_spelled}
use Rattle.scans.specs.Ascii.{slash, digit0, lower_f}
use Rattle.scans.specs.Bytes.{byte_at, name_byte, decimal_byte, hex_byte, run_len}
use Rattle.scans.proofs.Runs.{run_no, run_le, run_at, run_all, run_append, run_take}
use Rattle.tokens.specs.Numbers.{digit, value_of, digits_of, count_digits, decimal_len, decimal_of}
use Rattle.tokens.specs.Tokens.{name_of_run, name_at, leading_zero, count_found, decimal_of_run, decimal_at, count_at, count_text, level_digits, mark_digits, behind_level, class_found, class_after, class_at, class_text}
use Rattle.tokens.specs.declared.Number.{Number}
use Rattle.tokens.specs.declared.ClassToken.{ClassToken}
use Rattle.tokens.proofs.Values.{DecimalLen, decimal, hex, digits_length, digits_run, value_digits, digits_value, value_fits, high_first, first_high, decimal_len_lem, decimal_has, decimal_short}

-- Names. What a name's length says: the bytes are a name.
pub record NameHere (l : List ℕ) (n : ℕ) : Type 0 where
  pub within : n ≤ length l
  pub name : is_name (take n l) ≡ true

abbrev pub NameSays : List ℕ → Option ℕ → Type 0
NameSays l (Some n) = NameHere l n
NameSays l None = Unit

pub name_says : (l : List ℕ) → NameSays l (name_at l)
unfolding name_of_run
name_says l = says (ltb n 1) refl (ltb name_room n) refl
  where
    n : ℕ
    n = run_len name_byte l

    says : (a : Bool) → ltb n 1 ≡ a → (b : Bool) → ltb name_room n ≡ b → NameSays l (cond a None (cond b None (Some n)))
    says true d b e = tt
    says false d true e = tt
    says false d false e = record {
      within = run_le name_byte l;
      name =
          spelled_name
          (record {
            least = rw long (ltb-false n 1 d);
            most = rw long (ltb-false name_room n e);
            bytes = λ k h. rw (get_or-take n l k 0 (rw long at h)) (run_at name_byte l k (rw long at h));
          });
    }
      where
        long : length (take n l) ≡ n
        long = length-take-le n l (run_le name_byte l)

-- What is read is a name.
pub name_is_name : (l : List ℕ) (n : ℕ) → name_at l ≡ Some n → NameHere l n
name_is_name l n e = subst (NameSays l) e (name_says l)

-- A name reads back where what follows it begins with no byte of a name.
pub name_reads : (x rest : List ℕ) → is_name x ≡ true → run_len name_byte rest ≡ 0 → name_at (x ++ rest) ≡ Some (length x)
unfolding name_of_run
name_reads x rest e z =
    let s = name_spelled x e in
    let n : run_len name_byte (x ++ rest) ≡ length x = omega (arith, run_append name_byte x rest (run_all name_byte x s.bytes)) in
    rw (n, le-ltb (length x) 1 s.least, le-ltb name_room (length x) s.most)

-- Numbers in decimal. What a number says: its digits are those that would be written.
pub record DecimalHere (most : ℕ) (l : List ℕ) (x : Number) : Type 0 where
  pub within : x.len ≤ length l
  pub short : x.len ≤ most
  pub digits : DecimalLen x.value x.len
  pub text : take x.len l ≡ decimal_of x.value

abbrev pub DecimalSays : ℕ → List ℕ → Option Number → Type 0
DecimalSays most l (Some x) = DecimalHere most l x
DecimalSays most l None = Unit

leading_zero_lem : (l : List ℕ) (n : ℕ) → leading_zero l n ≡ false → 1 < n → byte_at l ≡ digit0 → ⊥
unfolding leading_zero
leading_zero_lem l n e h z = true_not_false (rw (lt-ltb 1 n h, eq-eqb (byte_at l) digit0 z)) e

pub decimal_says : (most : ℕ) (l : List ℕ) → most ≤ count_digits → DecimalSays most l (decimal_at most l)
unfolding decimal_of_run
decimal_says most l m = says (ltb n 1) refl (ltb most n) refl (leading_zero l n) refl
  where
    n : ℕ
    n = run_len decimal_byte l

    x : List ℕ
    x = take n l

    long : length x ≡ n
    long = length-take-le n l (run_le decimal_byte l)

    all : run_len decimal_byte x ≡ length x
    all = run_take decimal_byte l n (le_refl n) ∙ sym long

    says : (a : Bool) → ltb n 1 ≡ a → (b : Bool) → ltb most n ≡ b → (c : Bool) → leading_zero l n ≡ c
        → DecimalSays most l (cond a None (cond b None (cond c None (count_found (value_of 10 x) n))))
    says true d b e c f = tt
    says false d true e c f = tt
    says false d false e true f = tt
    says false d false e false f = record {
      within = run_le decimal_byte l;
      short = ltb-false most n e;
      digits = digits;
      text = sym (digits_value decimal x all) ∙ ap (λ (k : ℕ). digits_of 10 k (value_of 10 x)) (long ∙ sym (decimal_len_lem n (value_of 10 x) digits));
    }
      where
        first : byte_at x ≡ byte_at l
        first = get_or-take n l 0 0 (ltb-false n 1 d)

        digits : DecimalLen (value_of 10 x) n
        digits = record {
          least = ltb-false n 1 d;
          most = omega (arith, ltb-false most n e);
          below = rw long at (value_fits decimal x all);
          above = λ h. rw long at (high_first decimal x all (rw long h) (λ z. leading_zero_lem l n f h (sym first ∙ z)));
        }

-- What is read is what would be written.
pub decimal_is_text : (most : ℕ) (l : List ℕ) (x : Number) → most ≤ count_digits → decimal_at most l ≡ Some x → DecimalHere most l x
decimal_is_text most l x m e = subst (DecimalSays most l) e (decimal_says most l m)

-- What is written reads back where what follows it begins with no digit.
pub decimal_reads : (most v : ℕ) (rest : List ℕ) → v < 10 ^ count_digits → decimal_len v ≤ most → run_len decimal_byte rest ≡ 0
    → decimal_at most (decimal_of v ++ rest) ≡ count_found v (decimal_len v)
unfolding decimal_of_run leading_zero
decimal_reads most v rest h m z =
    rw (run, le-ltb k 1 d.least, le-ltb most k m, zeroless (dec_lt 1 k), take_at x rest k long, value_digits decimal k v d.below)
  where
    k : ℕ
    k = decimal_len v

    d : DecimalLen v k
    d = decimal_has v h

    x : List ℕ
    x = decimal_of v

    long : length x ≡ k
    long = digits_length 10 k v

    all : run_len decimal_byte x ≡ length x
    all = digits_run decimal k v ∙ sym long

    run : run_len decimal_byte (x ++ rest) ≡ k
    run = omega (arith, long, run_append decimal_byte x rest all)

    zeroless : Dec (1 < k) → (ltb 1 k && eqb (byte_at (x ++ rest)) digit0) ≡ false
    zeroless (no n) = rw (le-ltb 1 k (omega arith))
    zeroless (yes g) =
        rw (
          lt-ltb 1 k g,
          get_or-append x rest 0 0 (omega (arith, long)),
          ne_eqb (byte_at x) digit0
              (first_high decimal x all (rw long g) (rw (long, value_digits decimal k v d.below) (d.above g))),
        )

-- Counts.
pub count_is_text : (l : List ℕ) (x : Number) → count_at l ≡ Some x → DecimalHere count_digits l x
count_is_text l x e = decimal_is_text count_digits l x (omega arith) e

pub count_reads : (v : ℕ) (rest : List ℕ) → v < 10 ^ count_digits → run_len decimal_byte rest ≡ 0
    → count_at (count_text v ++ rest) ≡ count_found v (length (count_text v))
count_reads v rest h z =
    decimal_reads count_digits v rest h (decimal_has v h).most z ∙ ap (count_found v) (sym (digits_length 10 (decimal_len v) v))

-- Classes. What a class says: its bytes are those that would be written.
pub record ClassHere (l : List ℕ) (x : ClassToken) : Type 0 where
  pub within : x.len ≤ length l
  pub class : IsClass x.class
  pub text : take x.len l ≡ class_text x.class

abbrev pub ClassSays : List ℕ → Option ClassToken → Type 0
ClassSays l (Some x) = ClassHere l x
ClassSays l None = Unit

pub class_says : (l : List ℕ) → ClassSays l (class_at l)
unfolding class_after
class_says l = after (decimal_at level_digits l) (decimal_says level_digits l (omega arith))
  where
    after : (r : Option Number) → DecimalSays level_digits l r → ClassSays l (class_after l r)
    after None d = tt
    after (Some x) d =
        says (ltb top_level x.value) refl (eqb (byte_at (drop x.len l)) slash) refl (eqb (run_len hex_byte rest) mark_digits) refl
      where
        rest : List ℕ
        rest = drop (x.len + 1) l

        marks : List ℕ
        marks = take mark_digits rest

        says : (a : Bool) → ltb top_level x.value ≡ a → (b : Bool) → eqb (byte_at (drop x.len l)) slash ≡ b
            → (c : Bool) → eqb (run_len hex_byte rest) mark_digits ≡ c
            → ClassSays l
            (cond a None
            (cond b (cond c (class_found (class_of x.value (value_of 16 marks)) (x.len + behind_level)) None) None))
        says true e b f c g = tt
        says false e false f c g = tt
        says false e true f false g = tt
        says false e true f true g = record {
          within = omega (arith, room);
          class = record { level = ltb-false top_level x.value e; marks = rw long at (value_fits hex marks all) };
          text = take-add x.len behind_level l ∙ rw (d.text, behind, digits);
        }
          where
            run : run_len hex_byte rest ≡ mark_digits
            run = eqb-true (run_len hex_byte rest) mark_digits g

            room : mark_digits ≤ length l - (x.len + 1)
            room = omega (arith, run, run_le hex_byte rest, length-drop (x.len + 1) l)

            long : length marks ≡ mark_digits
            long = length-take-le mark_digits rest (omega (arith, run, run_le hex_byte rest))

            all : run_len hex_byte marks ≡ length marks
            all = run_take hex_byte rest mark_digits (omega (arith, run)) ∙ sym long

            behind : drop x.len l ≡ slash ∷ rest
            behind =
                drop-cons l x.len 0 (omega (arith, room))
                ∙ rw (← add-one x.len, ← add-zero x.len, ← get_or-drop x.len l 0 0, eqb-true (byte_at (drop x.len l)) slash f)

            digits : digits_of 16 mark_digits (value_of 16 marks) ≡ marks
            digits = rw long at (digits_value hex marks all)

-- What is read is what would be written.
pub class_is_text : (l : List ℕ) (x : ClassToken) → class_at l ≡ Some x → ClassHere l x
class_is_text l x e = subst (ClassSays l) e (class_says l)

pub class_length : (c : Class) → length (class_text c) ≡ decimal_len c.level + behind_level
class_length c =
    rw length-append (omega (arith, digits_length 10 (decimal_len c.level) c.level, digits_length 16 mark_digits c.marks))

slash_no_digit : decimal_byte slash ≡ false
unfolding decimal_byte
slash_no_digit = refl

-- What is written reads back where what follows it begins with no hex digit.
pub class_reads : (c : Class) (rest : List ℕ) → IsClass c → run_len hex_byte rest ≡ 0
    → class_at (class_text c ++ rest) ≡ class_found c (length (class_text c))
unfolding class_after
class_reads c rest h z =
    rw (append_assoc x (slash ∷ hexes) rest, level, le-ltb top_level c.level h.level, drop_at x after k long, ← drop-drop 1 k (x ++ after))
    (rw (drop_at x after k long, run, take_at hexes rest mark_digits wide, value_digits hex mark_digits c.marks h.marks)
    (ap (class_found c) (sym (class_length c))))
  where
    k : ℕ
    k = decimal_len c.level

    x : List ℕ
    x = decimal_of c.level

    hexes : List ℕ
    hexes = digits_of 16 mark_digits c.marks

    wide : length hexes ≡ mark_digits
    wide = digits_length 16 mark_digits c.marks

    after : List ℕ
    after = slash ∷ (hexes ++ rest)

    long : length x ≡ k
    long = digits_length 10 k c.level

    level : decimal_at level_digits (x ++ after) ≡ count_found c.level k
    level =
        decimal_reads level_digits c.level after (omega (arith, h.level)) (decimal_short c.level (omega (arith, h.level)))
        (run_no decimal_byte slash (hexes ++ rest) slash_no_digit)

    run : run_len hex_byte (hexes ++ rest) ≡ mark_digits
    run = omega (arith, wide, run_append hex_byte hexes rest (digits_run hex mark_digits c.marks ∙ sym wide))

-- "The lowest class is 0/0000000000000000 and the highest 15/ffffffffffffffff."
pub lowest_text : class_text lowest ≡ digit0 ∷ slash ∷ replicate mark_digits digit0
unfolding decimal_len digits_of digit
lowest_text = refl

pub highest_text : class_text highest ≡ digit 1 ∷ digit 5 ∷ slash ∷ replicate mark_digits lower_f
unfolding decimal_len digits_of digit
highest_text = refl
