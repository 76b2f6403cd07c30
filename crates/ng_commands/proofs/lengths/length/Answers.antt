use Rattle.std.proofs.Common.{◌∙◌, ap}
use Rattle.std.specs.Result.{result_ok}
use Rattle.ng_commands.proofs.LengthTextLemmas.{length_read, length_unread}
use Rattle.ng_commands.proofs.lengths.length.Goals as goal

pub returns-in-Ok : goal.returns-in-Ok
returns-in-Ok c = length_read c.args.text.now c.in-Ok.number _ _ c.in-Ok.is c.read_number.ensures.value
    c.in-Ok.ensures.reads (c.ok.ensures.value ∙ ap result_ok c.nm_of.ensures.value)

pub returns-in-Err : goal.returns-in-Err
returns-in-Err c = length_unread c.args.text.now _ _ c.in-Err.is c.read_number.ensures.value
