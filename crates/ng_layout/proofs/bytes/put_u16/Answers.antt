use Rattle.std.proofs.Common.{refl, arith}
use Rattle.ng_layout.proofs.ByteLemmas.{put}
use Rattle.ng_layout.proofs.bytes.put_u16.Goals as goal

pub returns : goal.returns
returns c = put 2 c.args.at c.args.x _ c.args.bytes.now _ refl c.requires c.write_u16.ensures (omega arith)
