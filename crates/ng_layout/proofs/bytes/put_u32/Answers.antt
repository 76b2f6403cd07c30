use Rattle.std.proofs.Common.{refl, arith}
use Rattle.ng_layout.proofs.ByteLemmas.{put}
use Rattle.ng_layout.proofs.bytes.put_u32.Goals as goal

pub returns : goal.returns
returns c = put 4 c.args.at c.args.x _ c.args.bytes.now _ refl c.requires c.write_u32.ensures (omega arith)
