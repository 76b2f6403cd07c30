use Rattle.std.proofs.Common.{◌≡◌, ℕ, List, sym, ◌∙◌, ap}
use Rattle.std.proofs.lemmas.Result.{IfOk-weaker}
use Rattle.ng_rig.specs.Trace.{Trace, items, trace_at}
use Rattle.ng_rig.specs.RecordedCalls.{trace_of_calls}
use Rattle.ng_rig.specs.declared.call.Call.{Call}
use Rattle.ng_rig.proofs.TraceLemmas.{trace_at-trace_of_calls}
use Rattle.ng_rig.proofs.memory.MemoryRig.handed.Goals as goal

pub returns : goal.returns
returns g c =
    let first = c.args.self.now.first.items in
    let calls = c.args.self.now.calls.items in
    IfOk-weaker c.items_of.result
    (λ handed. (sectors : List (List ℕ)) → handed.items ≡ items (trace_of_calls sectors c.before-2.result.now))
    (λ handed. handed.items ≡ items (trace_at c.args.n (trace_of_calls first calls)))
    (λ handed h. h first ∙ ap (λ (cs : List Call). items (trace_of_calls first cs)) c.before-2.ensures
    ∙ sym (ap (λ (l : Trace). items l) (trace_at-trace_of_calls c.args.n first calls)))
    c.items_of.ensures
