use Rattle.std.proofs.Common.{◌≡◌, Some, sym, ◌∙◌, ap}
use Rattle.ng_session.specs.BareBlock.{BareBlock, block_on, left_of}
use Rattle.ng_session.specs.Ticking.{opening_on, segment_open}
use Rattle.ng_session.specs.declared.stage.Stage.{Stage}
use Rattle.ng_session.specs.declared.stage.Stage.TheVariants.{ToApproach, OnBlock}
use Rattle.ng_session.proofs.current_block.CurrentBlock.opening.Goals as goal

pub returns-in-ToApproach-clause-half : goal.returns-in-ToApproach-clause-half
returns-in-ToApproach-clause-half c = λ params.
    let stage : c.args.self.now.stage ≡ ToApproach c.in-ToApproach.field-0 = ap (λ (b : BareBlock). b.stage) (sym c.self.view_is) ∙ c.in-ToApproach.is in
    ap Some (c.half_open.ensures.half params) ∙ sym (ap (λ (g : Stage). opening_on (block_on params c.args.self.now) g) stage)

pub returns-in-Some-clause-half : goal.returns-in-Some-clause-half
returns-in-Some-clause-half c = λ params.
    let stage : c.args.self.now.stage ≡ OnBlock = ap (λ (b : BareBlock). b.stage) (sym c.self.view_is) ∙ c.in-OnBlock.is in
    let left = ap (λ (b : BareBlock). b.left) (sym c.self.view_is) ∙ ap (λ o. left_of o c.self.inside.left) c.in-Some.is in
    ap Some (c.half_open-in-Some.ensures.half params)
    ∙ sym (ap (λ (g : Stage). opening_on (block_on params c.args.self.now) g) stage ∙ ap (segment_open (block_on params c.args.self.now)) left)
