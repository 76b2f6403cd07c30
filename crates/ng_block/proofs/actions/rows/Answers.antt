use Rattle.std.proofs.Common.{refl, [], ◌∙◌, ap, Option, ℤ}
use Rattle.ng_block.specs.declared.action.Action.TheVariants as action
use Rattle.ng_block.specs.Motion.{time_word}
use Rattle.ng_block.proofs.ActionLemmas.{row}
use Rattle.ng_block.proofs.actions.rows.Goals as goal

pub returns : goal.returns
returns c =
    let b = c.args.block.now in
    let shown = c.args.shown.now in
    row action.SpindleSpeed c.s.result _ c.map.result _ _ c.s.ensures c.map.ensures.cases
    (row action.SelectTool c.selected_slot.result _ c.map-2.result _ _ c.selected_slot.ensures c.map-2.ensures.cases
    (row action.ChangeTool c.slot_changed.result _ c.map-3.result _ _ c.slot_changed.ensures c.map-3.ensures.cases
    (row action.Spindle b.m.spindle _ c.map-4.result _ _ refl c.map-4.ensures.cases
    (row action.Coolant b.m.coolant _ c.map-5.result _ _ refl c.map-5.ensures.cases
    (row action.Dwell c.dwell_on.result _ c.map-6.result _ _ c.dwell_on.ensures c.map-6.ensures.cases
    (row action.SelectPlane b.g.plane _ c.map-7.result _ _ refl c.map-7.ensures.cases
    (row action.LengthUnits b.g.unit _ c.map-8.result _ _ refl c.map-8.ensures.cases
    (row action.ToolLength shown.tool_length _ c.map-9.result _ _ refl c.map-9.ensures.cases
    (row action.OriginOffsets shown.system _ c.map-10.result _ _ refl c.map-10.ensures.cases
    (row action.OriginOffsets shown.axis_data _ c.map-11.result _ _ refl c.map-11.ensures.cases
    (row action.InverseTime c.time_word.result _ c.map-12.result [] []
    (c.time_word.ensures ∙ ap (λ (f : Option ℤ). time_word c.args.mode b.movement f) c.f.ensures) c.map-12.ensures.cases refl)))))))))))
