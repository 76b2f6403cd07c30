use Rattle.std.proofs.Common.{◌++◌, ap, ◌∙◌, Ok, Err}
use Rattle.ng_dry.specs.Dry.{commands_text}
use Rattle.ng_dry.specs.declared.ending.DryFault.{DryFault}
use Rattle.ng_streams.proofs.WaitingLemmas.{FlushSpec-piece}
use Rattle.ng_dry.proofs.output.put_commands.Goals as goal

pub loop-canon-preserved : goal.loop-canon-preserved
loop-canon-preserved g c =
    let so_far = c.loop-canon.invariant in
    let rest = commands_text c.next.new.self in
    FlushSpec-piece {T = Unit {0}} {E = DryFault} _ _ _ _ c.loop-canon.text.items _ rest _ (Ok tt)
    (so_far.0, so_far.1, so_far.2 ∙ ap (λ l. so_far.0 ++ (c.loop-canon.text.items ++ commands_text l)) c.in-Some.ensures) c.in-Ok.ensures

pub returns-in-Err : goal.returns-in-Err
returns-in-Err g c =
    let so_far = c.loop-canon.invariant in
    let rest = commands_text c.next.new.self in
    FlushSpec-piece {T = Unit {0}} _ _ _ _ c.loop-canon.text.items _ rest c.loop-canon.text.items (Err c.in-Err.fault)
    (so_far.0, so_far.1, so_far.2 ∙ ap (λ l. so_far.0 ++ (c.loop-canon.text.items ++ commands_text l)) c.in-Some.ensures) c.in-Err.ensures
