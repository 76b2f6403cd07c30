use Rattle.std.proofs.Common.{◌≡◌, not, String, Global, string_bytes, rules, tests, ◌∙◌}
use Rattle.std.proofs.lemmas.Iterator.Consumers.{YieldsList-from_rest}
use Rattle.std.proofs.lemmas.Iterator.Search.{any_from_yields_List}
use Rattle.std.specs.BTreeMap.{keys}
use Rattle.std.specs.List.{list_any}
use Rattle.ng_settings.specs.Causes.{has_unknown_key}
use Rattle.ng_settings.specs.KeyValues.{is_key}
use Rattle.ng_settings.proofs.NameLemmas.{unknown_in_names}
use Rattle.ng_settings.proofs.key_values.has_unknown_key.Goals as goal

pub returns : goal.returns
unfolding has_unknown_key
returns c =
    let found : c.any.result ≡ list_any (λ (name : String Global). not (is_key (string_bytes name))) (keys c.args.table.now) =
    any_from_yields_List (λ (name : String Global). not (is_key (string_bytes name))) _ _ c.any.result
    c.any.ensures.ran (YieldsList-from_rest _ c.keys.ensures.rest) (λ x b q k. search (rules, tests)) in
    found ∙ unknown_in_names c.args.table.now.entries
