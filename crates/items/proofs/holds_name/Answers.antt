-- `holds_name` meets its contract: an entry is a name exactly if the bytes before its first zero byte are one and the others are zero.
-- Assumes nothing.
use mathlib.Core.Path.{◌≡◌, sym, ap, ◌∙◌}
use mathlib.Core.Bool.{Bool, true, false}
use mathlib.Core.List.{List}
use Prim.Native.Nat.{ℕ, ◌+◌, ◌-◌, ◌*◌}
use native.Mathlib.Omega.{arith}
use lib.ListN.{take, drop}
use borrow.Author.Rules.{rules}
use Rattle.laws.specs.Tells.{Tells}
use Rattle.laws.proofs.Bools.{true_not_false}
use Rattle.laws.proofs.Tells.{tells_no}
use Rattle.items.specs.Names.{name_room, is_name}
use Rattle.items.specs.Table.{name_len, name_of, ZerosFrom, NameAt}
use Rattle.items.proofs.Names.{name_spelled, spelled_name}
use Rattle.items.proofs.Table.{name_len_inside, named_len, named_spelled, spelled_named, named_rest}
use Rattle.items.proofs.holds_name.Goals as goal

-- The part that is lent is the bytes before the first zero byte.
part_is_name : (t : List ℕ) (i len : ℕ) → len ≡ name_len t i → take (i * name_room + len - i * name_room) (drop (i * name_room) t) ≡ name_of t i
part_is_name t i len e = let n : i * name_room + len - i * name_room ≡ name_len t i = omega arith in rw n

module _ (t : List ℕ) (i len : ℕ) (r : Bool) (e : len ≡ name_len t i) (q : r ≡ is_name (take (i * name_room + len - i * name_room) (drop (i * name_room) t))) where
  name_answer : is_name (name_of t i) ≡ r
  name_answer = ap is_name (sym (part_is_name t i len e)) ∙ sym q

  other_bytes : r ≡ false → Tells (NameAt t i) r
  other_bytes f = rw f (tells_no (λ h. true_not_false (spelled_name (named_spelled h)) (name_answer ∙ f)))

  rest_tells : {s : Bool} → r ≡ true → Tells (ZerosFrom t i len) s → Tells (NameAt t i) s
  rest_tells f z = record {
    holds = λ g. spelled_named t i (name_spelled (name_of t i) (name_answer ∙ f)) (rw e at (z.holds g));
    fails = λ g h. z.fails g (rw e (named_rest h));
  }

no_bytes : (t : List ℕ) (i len : ℕ) → len ≡ name_len t i → len ≡ 0 → Tells (NameAt t i) false
no_bytes t i len e h = tells_no (λ g. omega (arith, named_len g, g.least))

pub returns-then-len-eq0 : goal.returns-then-len-eq0
returns-then-len-eq0 c = search (no_bytes, rules)

pub overflow_mul-at : goal.overflow_mul-at
overflow_mul-at c = omega (arith, name_len_inside c.args.items.now c.args.i)

pub overflow_add-at : goal.overflow_add-at
overflow_add-at c = omega (arith, name_len_inside c.args.items.now c.args.i)

pub slice_bounds-is_name-end : goal.slice_bounds-is_name-end
slice_bounds-is_name-end c = omega (arith, name_len_inside c.args.items.now c.args.i)

pub returns-then-is_name : goal.returns-then-is_name
returns-then-is_name c = search (rest_tells, rules)

pub returns-else-is_name : goal.returns-else-is_name
returns-else-is_name c = search (other_bytes, rules)
