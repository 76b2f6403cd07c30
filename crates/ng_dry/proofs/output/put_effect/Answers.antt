use Rattle.std.proofs.Common.{List, ◌++◌, ap}
use Rattle.ng_canon.specs.Printing.{CanonModel}
use Rattle.ng_dry.specs.Dry.{commands_text}
use Rattle.ng_streams.proofs.WaitingLemmas.{FlushSpec-from}
use Rattle.ng_dry.proofs.output.put_effect.Goals as goal

pub returns-in-Some : goal.returns-in-Some
returns-in-Some g c =
    FlushSpec-from _ _ _ _ _ c.put_move.result (ap (λ (l : List CanonModel). c.args.text.now.items ++ commands_text l) c.in-Some.ensures) c.put_move.ensures
