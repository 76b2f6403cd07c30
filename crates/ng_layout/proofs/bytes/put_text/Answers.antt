use Rattle.ng_layout.proofs.ByteLemmas.{put-bytes}
use Rattle.ng_layout.proofs.bytes.put_text.Goals as goal

pub returns : goal.returns
returns c = rw c.copy_from_slice.ensures.after (put-bytes 256 c.args.at c.args.bytes.now c.args.text.now c.requires c.told-text)
