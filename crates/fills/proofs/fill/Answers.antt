-- `fill` meets its contract: a read into the room behind what is held adds the bytes that it took from the input. Assumes nothing.
use Rattle.std.proofs.Common.{◌≡◌, ℕ, ◌+◌, ◌≤◌, List, ◌++◌, length, take, rules, ap, sym, subst, ◌∙◌, length-take-le}
use Rattle.std.proofs.Math.Seq.{take-append-add}
use Rattle.std.proofs.lemmas.List.{take-append-le}
use Rattle.std.specs.Io.KnownBytes.{Consumes}
use Rattle.std.proofs.KnownBytes.{Consumes-trans}
use borrow.Rule.Slice.PartMut.{put_mid, post_of}
use Rattle.fills.proofs.fill.Goals as goal

held_more : (a k n : ℕ) (xs ys : List ℕ) → a ≤ length xs → n ≤ length ys → take a xs ++ take n ys ≡ take (a + n) (put_mid a k xs ys)
held_more a k n xs ys within fits =
    ap (λ l. take a xs ++ l) (sym (take-append-le n ys (post_of a k xs) fits)) ∙ sym (take-append-add (take a xs) (ys ++ post_of a k xs) n)
    ∙ ap (λ m. take (m + n) (put_mid a k xs ys)) (length-take-le a xs within)

pub loop-have-preserved : goal.loop-have-preserved
loop-have-preserved g c = record {
  within = search rules;
  bytes =
      subst (Consumes _ _) (held_more _ _ _ _ _ c.loop-have.invariant.within c.in_ok-n.ensures.bound.0)
      (Consumes-trans _ _ _ _ _ c.loop-have.invariant.bytes c.in_ok-n.ensures.bytes.0);
}
