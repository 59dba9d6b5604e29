-- Texts that agree in a part: whatever they are read as, its tables agree.
-- Assumes nothing.
use mathlib.Core.Path.{◌≡◌, subst}
use mathlib.Core.List.{List}
use Prim.Native.Nat.{ℕ}
use Rattle.std.specs.Prelude.{Ok}
use Rattle.rules.specs.declared.Head.{Head}
use Rattle.rules.specs.Agreeing.{TablesAgree}
use Rattle.reader.specs.Reading.{read_text, read_whole}
use Rattle.reader.specs.Agreeing.{TextsAgree}
use Rattle.reader.proofs.Unique.{same_head}

pub texts_agree : {p : ℕ} {l m : List ℕ} {h k : Head} → TextsAgree p l m → read_whole l ≡ Ok h → read_whole m ≡ Ok k
    → TablesAgree p h (read_text l).words k (read_text m).words
texts_agree {p} {l} {m} {h} a e f =
    subst (λ (k : Head). TablesAgree p h (read_text l).words k (read_text m).words) (same_head f a.read')
    (subst (λ (h : Head). TablesAgree p h (read_text l).words a.head' (read_text m).words) (same_head e a.read) a.rules)
