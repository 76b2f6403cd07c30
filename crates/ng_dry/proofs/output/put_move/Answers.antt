use Rattle.std.proofs.Common.{◌≡◌, ℕ, ℤ, List, [], ◌∷◌, ◌++◌, map, Option, Some, None, ◌∙◌, ap, sym, append-nil, append_assoc}
use Rattle.ng_canon.specs.Printing.{CanonModel, numeric, canonical_text, command_text}
use Rattle.ng_canon.specs.declared.command.CanonicalCommand.{CanonicalCommand}
use Rattle.ng_canon.specs.declared.command.CanonicalCommand.TheVariants.{FeedRate}
use Rattle.ng_dry.specs.Dry.{commands_text}
use Rattle.ng_block.specs.Path.{pace_command}
use Rattle.ng_block.specs.Plan.{feed_commands}
use Rattle.ng_streams.proofs.WaitingLemmas.{FlushSpec-from, FlushSpec-after, FlushSpec-short}
use Rattle.ng_dry.proofs.output.put_move.Goals as goal

abbrev moved : Option ℤ → CanonicalCommand → List CanonModel
moved feed move = map numeric (feed_commands feed ++ move ∷ [])

text-None : (text : List ℕ) (feed : Option ℤ) (move : CanonicalCommand) → feed ≡ None → text ++ commands_text (moved feed move) ≡ text ++ command_text move
unfolding canonical_text
text-None text feed move none =
    ap (λ (f : Option ℤ). text ++ commands_text (moved f move)) none ∙ ap (λ l. text ++ l) (append-nil (command_text move))

text-Some : (text : List ℕ) (feed : Option ℤ) (f : ℤ) (move : CanonicalCommand) → feed ≡ Some f →
    text ++ commands_text (moved feed move) ≡ (text ++ command_text (FeedRate f)) ++ command_text move
unfolding canonical_text
text-Some text feed f move some =
    ap (λ (o : Option ℤ). text ++ commands_text (moved o move)) some
    ∙ ap (λ l. text ++ (command_text (FeedRate f) ++ l)) (append-nil (command_text move))
    ∙ sym (append_assoc text (command_text (FeedRate f)) (command_text move))

pub returns-in-None : goal.returns-in-None
returns-in-None g c =
    let line = c.args.line.now in
    FlushSpec-from _ _ _ _ _ c.put_straight.result
    (text-None c.args.text.now.items c.args.feed_per_min (pace_command line.pace line.end) c.in-None.is) c.put_straight.ensures

pub returns-in-Ok : goal.returns-in-Ok
returns-in-Ok g c =
    let line = c.args.line.now in
    FlushSpec-after {T = Unit {0}} _ _ _ _ _ c.put_command.new.text.items _ _ tt c.put_straight-in-Ok.result
    (text-Some c.args.text.now.items c.args.feed_per_min c.in-Some.feed_per_min (pace_command line.pace line.end) c.in-Some.is)
    c.in-Ok.ensures c.put_straight-in-Ok.ensures

pub returns-in-Err : goal.returns-in-Err
returns-in-Err g c =
    let line = c.args.line.now in
    FlushSpec-short (Unit {0}) (Unit {0}) _ _ _ _ _ c.put_command.new.text.items c.in-Err.fault
    (text-Some c.args.text.now.items c.args.feed_per_min c.in-Some.feed_per_min (pace_command line.pace line.end) c.in-Some.is) c.in-Err.ensures
