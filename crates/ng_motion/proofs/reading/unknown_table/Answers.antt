use Rattle.std.proofs.Common.{◌≡◌, ap, None, Some, string_bytes, rules, tests, ◌∙◌, sym}
use Rattle.std.specs.Prelude.{option_map}
use Rattle.std.proofs.lemmas.Iterator.Consumers.{YieldsList-from_rest}
use Rattle.std.proofs.lemmas.Iterator.Search.{find_from_yields_List}
use Rattle.std.specs.BTreeMap.{keys}
use Rattle.std.specs.List.{find}
use Rattle.ng_motion.specs.Reading.{unknown_table}
use Rattle.ng_motion.specs.Table.{is_table}
use Rattle.ng_motion.specs.Name.{shown_name}
use Rattle.ng_motion.proofs.NameLemmas.{is_unknown, unknown_in_names}
use Rattle.ng_motion.proofs.reading.unknown_table.Goals as goal

pub returns-in-Some : goal.returns-in-Some
unfolding unknown_table
returns-in-Some c =
    let found : option_map (λ x. x.now) c.find.result ≡ find (is_unknown is_table) (keys c.args.root.now) =
    find_from_yields_List (is_unknown is_table) _ _ c.find.result c.find.ensures.ran (YieldsList-from_rest _ c.keys.ensures.rest) (λ x b q k. search (rules, tests)) in
    let name : option_map (λ x. x.now) c.find.result ≡ Some c.in-Some.name.now = ap (option_map (λ x. x.now)) c.in-Some.is in (
      string_bytes c.in-Some.name.now,
      sym (unknown_in_names is_table c.args.root.now.entries) ∙ ap (option_map string_bytes) (sym found ∙ name),
      c.of.ensures ∙ ap shown_name (c.as_bytes.ensures.value ∙ c.as_str.ensures.value),
    )

pub returns-in-None : goal.returns-in-None
unfolding unknown_table
returns-in-None c =
    let found : option_map (λ x. x.now) c.find.result ≡ find (is_unknown is_table) (keys c.args.root.now) =
    find_from_yields_List (is_unknown is_table) _ _ c.find.result c.find.ensures.ran (YieldsList-from_rest _ c.keys.ensures.rest) (λ x b q k. search (rules, tests)) in
    let none : option_map (λ x. x.now) c.find.result ≡ None = ap (option_map (λ x. x.now)) c.in-None.is in
    sym (unknown_in_names is_table c.args.root.now.entries) ∙ ap (option_map string_bytes) (sym found ∙ none)
