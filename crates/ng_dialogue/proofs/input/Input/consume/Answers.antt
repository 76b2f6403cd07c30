use Rattle.std.proofs.Common.{◌≡◌, ◌∙◌, ap, drop, slice_range}
use Rattle.ng_dialogue.proofs.BufferLemmas.{drop_range, range_within}
use Rattle.ng_dialogue.proofs.ReaderBytesLemmas.{waiting_is}
use Rattle.ng_dialogue.proofs.input.Input.consume.Goals as goal

pub returns : goal.returns
returns c =
    let i = c.self.inside in
    let bytes : slice_range i.buffer i.start i.end ≡ c.args.self.now.bytes = ap (λ w. w.bytes) c.self.view_is in
    let within = range_within i.buffer c.args.self.now.bytes i.start i.end c.args.count bytes c.self.invariant.0 c.requires in
    waiting_is _ _ _ _ (drop_range i.buffer i.start i.end c.args.count within ∙ ap (drop c.args.count) bytes) (ap (λ w. w.ended) c.self.view_is)
