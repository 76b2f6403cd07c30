use Rattle.std.proofs.Common.{false, pos, rules, tests, ◌∙◌}
use Rattle.std.proofs.lemmas.Iterator.{YieldsList-from_slice}
use Rattle.std.proofs.lemmas.Iterator.Search.{any_from_yields_List}
use Rattle.std.specs.Option.{option_map_or}
use Rattle.toml.specs.Data.{as_integer}
use Rattle.toml.specs.View.{view}
use Rattle.toml.specs.declared.value.Value.{Value}
use Rattle.ng_settings.specs.Causes.{is_beyond}
use Rattle.ng_settings.proofs.BoundLemmas.{list_beyond}
use Rattle.ng_settings.proofs.limits.is_list_beyond.Goals as goal

pub returns : goal.returns
returns c =
    any_from_yields_List (λ (v : Value). option_map_or (is_beyond (pos 0) (pos 1_000_000_000)) (as_integer (view v))
    false) _ _ c.any.result c.any.ensures.ran (YieldsList-from_slice c.args.lengths.now.items cc)
    (λ x b q k. search (rules, tests))
    ∙ list_beyond (pos 0) (pos 1_000_000_000) c.args.lengths.now.items
