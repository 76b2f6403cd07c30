use Rattle.std.proofs.Common.{refl, arith}
use Rattle.ng_layout.proofs.ByteLemmas.{put}
use Rattle.ng_layout.proofs.bytes.put_u64.Goals as goal

pub returns : goal.returns
returns c = put 8 c.args.at c.args.x _ c.args.bytes.now _ refl c.requires c.write_u64.ensures (omega arith)
