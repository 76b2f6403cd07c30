use Rattle.std.proofs.Common.{rules, tests}
use Rattle.std.proofs.lemmas.Iterator.{YieldsList-from_slice}
use Rattle.std.proofs.lemmas.Iterator.Search.{any_from_yields_List}
use Rattle.std.specs.Str.{bytes_eq}
use Rattle.ng_motion.specs.Table.{is_table, table_name}
use Rattle.ng_motion.specs.declared.table.TableName.{TableName}
use Rattle.ng_motion.proofs.reading.is_table.Goals as goal

pub returns : goal.returns
unfolding is_table
returns c =
    any_from_yields_List (λ (table : TableName). bytes_eq c.args.name.now (table_name table)) _ _ c.any.result c.any.ensures.ran
    (YieldsList-from_slice _ c.iter.ensures.rest) (λ x b q k. search (rules, tests))
