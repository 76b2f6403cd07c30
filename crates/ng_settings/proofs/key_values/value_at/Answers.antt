use Rattle.std.proofs.Common.{rules}
use Rattle.toml.proofs.Views.{table_get}
use Rattle.ng_settings.proofs.key_values.value_at.Goals as goal

pub returns : goal.returns
returns c = table_get c.get.result c.args.key.now c.args.table.now.entries c.get.ensures.value

pub get-requires : goal.get-requires
get-requires c κs = search rules
