use Rattle.std.proofs.Common.{is_some, rules, tests, ◌∙◌}
use Rattle.std.proofs.lemmas.Iterator.{YieldsList-from_slice}
use Rattle.std.proofs.lemmas.Iterator.Search.{all_from_yields_List}
use Rattle.toml.specs.Data.{as_integer}
use Rattle.toml.specs.View.{view}
use Rattle.toml.specs.declared.value.Value.{Value}
use Rattle.ng_settings.proofs.NumberLemmas.{all_whole}
use Rattle.ng_settings.proofs.numbers.are_whole.Goals as goal

pub returns : goal.returns
returns c =
    all_from_yields_List (λ (v : Value). is_some (as_integer (view v))) _ _ c.all.result c.all.ensures.ran
    (YieldsList-from_slice c.args.array.now.items cc) (λ x b q k. search (rules, tests))
    ∙ all_whole c.args.array.now.items
