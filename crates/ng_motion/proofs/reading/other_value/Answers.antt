use Rattle.std.proofs.Common.{◌∙◌, rules, tests}
use Rattle.std.proofs.lemmas.Iterator.{YieldsList-from_slice}
use Rattle.std.proofs.lemmas.Iterator.Search.{find_from_yields_List}
use Rattle.toml.specs.Data.{get_member}
use Rattle.toml.specs.View.{table_view}
use Rattle.ng_motion.specs.Table.{is_other, other_value, table_name}
use Rattle.ng_motion.specs.declared.table.TableName.{TableName}
use Rattle.ng_motion.proofs.reading.other_value.Goals as goal

pub returns : goal.returns
unfolding other_value
returns c =
    c.copied.ensures ∙ find_from_yields_List (λ (table : TableName). is_other (get_member (table_name table) (table_view c.args.root.now))) _ _ c.find.result
    c.find.ensures.ran (YieldsList-from_slice _ c.iter.ensures.rest) (λ x b q k. search (rules, tests))
