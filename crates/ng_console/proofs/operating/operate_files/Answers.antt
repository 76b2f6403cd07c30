use Rattle.std.proofs.Common.{Ok}
use Rattle.std.proofs.lemmas.Result.{IfOk-weaker}
use Rattle.ng_console.proofs.operating.operate_files.Goals as goal

pub returns-in-Ok-open_out-clause-run : goal.returns-in-Ok-open_out-clause-run
returns-in-Ok-open_out-clause-run g c =
    IfOk-weaker c.operate_device-status.result.0 _ _
    (λ status operates. (
      Ok c.in-Ok.file,
      (Ok c.in-Ok-open_out.out, (c.operate_device-status.result.1, c.operate_device-status.result.2, operates)),
    ))
    c.operate_device-status.ensures.run
