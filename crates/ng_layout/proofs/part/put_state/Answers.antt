use Rattle.std.proofs.Common.{arith}
use Rattle.ng_layout.specs.Encoding.{HoldsDecodedState}
use Rattle.ng_layout.specs.Fields.{SameFrom}
use Rattle.ng_layout.specs.Snapshot.{decoded_state_in}
use Rattle.ng_layout.proofs.ByteLemmas.{from-drop}
use Rattle.ng_layout.proofs.PartLemmas.{whole_put, front_put}
use Rattle.ng_layout.proofs.part.put_state.Goals as goal

pub returns-clause-state : goal.returns-clause-state
returns-clause-state g c = let s =
    c.args.stored.now in whole_put (λ old new. HoldsDecodedState s.length (decoded_state_in s) new) 32 480
    c.args.sector.now c.encode.new.bytes (omega (arith, c.told-sector)) c.encode.ensures.holds

pub returns-clause-label : goal.returns-clause-label
returns-clause-label g c = front_put 32 480 c.args.sector.now c.encode.new.bytes (omega (arith, c.told-sector))

pub returns-clause-beyond : goal.returns-clause-beyond
returns-clause-beyond g c =
    from-drop 32 456 _ _ (whole_put (SameFrom 456) 32 480 c.args.sector.now c.encode.new.bytes
    (omega (arith, c.told-sector)) c.encode.ensures.beyond)
