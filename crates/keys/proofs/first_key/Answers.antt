-- `first_key` meets its contract: the library's search over the keys. Assumes nothing.
use Rattle.std.proofs.Common.{◌∙◌, drop, rules, tests}
use Rattle.std.proofs.lemmas.Iterator.{YieldsList-from_slice}
use Rattle.std.proofs.lemmas.Iterator.Search.{find_from_yields_List}
use Rattle.keys.specs.Keys.{key_text, every_key, starts_with}
use Rattle.keys.proofs.first_key.Goals as goal

pub returns : goal.returns
returns c =
    c.copied.ensures
    ∙ find_from_yields_List (λ k. starts_with (key_text k) (drop c.args.at c.args.s.now)) _ _ _ c.find.ensures.ran (YieldsList-from_slice every_key cc)
    (λ x b q k. search (rules, tests))
