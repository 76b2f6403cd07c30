use Rattle.std.proofs.Common.{inl}
use Rattle.std.proofs.lemmas.Result.{IfOk-weaker}
use Rattle.ng_console.proofs.format.format_storage.Goals as goal

pub returns-in-Ok-clause-run : goal.returns-in-Ok-clause-run
returns-in-Ok-clause-run g c =
    IfOk-weaker c.format_rig.result _ _
    (λ status h. inl (
      c.in-Ok.rig,
      c.format_rig.new.rig,
      c.sink.result,
      record {
        bytes = c.in-Ok.ensures.bytes;
        sectors = c.in-Ok.ensures.size;
        hands_out = c.in-Ok.ensures.out;
        failures = c.in-Ok.ensures.failures;
        begins = c.in-Ok.ensures.trace;
        honest = c.in-Ok.ensures.honest;
      },
      h,
    ))
    c.format_rig.ensures.run
