use Rattle.std.proofs.lemmas.Result.{on_err_weaker, on_ok_weaker}
use Rattle.ng_file.proofs.ZeroAppendLemmas.{zeros-begun, zeros-piece}
use Rattle.ng_file.proofs.lengthening.append_piece.Goals as goal

pub returns-clause-whole : goal.returns-clause-whole
returns-clause-whole g c = on_ok_weaker c.append.result (zeros-piece _ _ c.args.count c.requires) c.append.ensures.whole

pub returns-clause-part : goal.returns-clause-part
returns-clause-part g c = on_err_weaker c.append.result (zeros-begun _ _ c.args.count c.requires) c.append.ensures.part
