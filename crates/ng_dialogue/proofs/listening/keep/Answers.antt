use Rattle.std.proofs.Common.{◌≡◌, ◌≤◌, ◌-◌, min, length, ◌∙◌, arith}
use Rattle.ng_dialogue.proofs.BufferLemmas.{head_front}
use Rattle.ng_dialogue.proofs.listening.keep.Goals as goal

pub returns : goal.returns
returns c =
    let old = c.args.line.now.items in
    let short : length old ≤ 301 = omega (arith, c.len-free.ensures.fits, c.len-free.ensures.value) in
    let count : c.min-head.result ≡ min (length c.args.bytes.now) (301 - length old) = omega (arith, c.min-head.ensures, c.len-free.ensures.value) in
    c.in-Ok.ensures.ok ∙ head_front 301 c.min-head.result old c.args.bytes.now short count
