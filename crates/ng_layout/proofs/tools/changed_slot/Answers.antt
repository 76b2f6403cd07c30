use Rattle.std.proofs.Common.{◌∙◌, Option, sym, ap}
use Rattle.ng_offsets.specs.Tools.{first_change, with_change}
use Rattle.ng_offsets.specs.declared.tools.SlotChange.{SlotChange}
use Rattle.ng_layout.proofs.ToolTableLemmas.{no-change, slot-there, slot-changes}
use Rattle.ng_layout.proofs.tools.changed_slot.Goals as goal

pub returns-then-has_length : goal.returns-then-has_length
returns-then-has_length c =
    let tools = c.args.tools.now in
    let there = c.has_length.ensures.0 c.if-has_length.true in
    slot-there tools c.in-Some.change (c.requires _ c.in-Some.is).slot there.0 there.1
    ∙ ap (λ (o : Option SlotChange). first_change tools (with_change o tools)) (sym c.in-Some.is)

pub returns-in-None : goal.returns-in-None
returns-in-None c =
    let tools = c.args.tools.now in
    no-change tools ∙ ap (λ (o : Option SlotChange). first_change tools (with_change o tools)) (sym c.in-None.is)

pub returns-else-has_length : goal.returns-else-has_length
returns-else-has_length c =
    let tools = c.args.tools.now in
    slot-changes tools c.in-Some.change (c.requires _ c.in-Some.is).slot
    (λ there. let yes = c.has_length.ensures.1 there in let no = c.if-has_length.false in cc)
    ∙ ap (λ (o : Option SlotChange). first_change tools (with_change o tools)) (sym c.in-Some.is)
