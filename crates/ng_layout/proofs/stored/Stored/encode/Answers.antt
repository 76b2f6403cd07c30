use Rattle.std.proofs.Common.{rules}
use Rattle.ng_layout.specs.Snapshot.{decoded_state_in}
use Rattle.ng_layout.proofs.EncodingLemmas.{holds-as}
use Rattle.ng_layout.proofs.stored.Stored.encode.Goals as goal

pub returns-clause-holds : goal.returns-clause-holds
returns-clause-holds g c = let s = c.args.self.now in holds-as s.length _ (decoded_state_in s) c.encode.new.bytes
    c.encode.ensures.holds (search rules) c.requires.storable.place
