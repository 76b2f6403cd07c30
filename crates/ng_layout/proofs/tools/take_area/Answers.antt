use Rattle.std.proofs.Common.{◌≡◌, ◌+◌, ◌-◌, ◌*◌, arith}
use Rattle.ng_layout.proofs.ToolTableLemmas.{as-table, at-length, lengths-begin, whole-part, no-part}
use Rattle.ng_layout.proofs.tools.take_area.Goals as goal

pub returns-in-Some-clause-takes : goal.returns-in-Some-clause-takes
returns-in-Some-clause-takes c = λ area low high.
    let slots = c.in-Some.slots in
    as-table c.args.first.now area slots c.slots_of.result c.in-Some.is c.slots_of.ensures c.take_lengths.result c.take_lengths.new.tools
    (at-length area (64 * 0 + slots) slots c.take_lengths.result c.take_lengths.new.tools (omega arith)
    (c.take_lengths.ensures.adds area low (lengths-begin area c.args.tools.now c.requires)))

pub returns-then-take_lengths-clause-takes : goal.returns-then-take_lengths-clause-takes
returns-then-take_lengths-clause-takes c = λ area low high.
    let slots = c.in-Some.slots in
    let a = c.take_lengths-in-Some-2 in
    let b = c.take_lengths-then-take_lengths in
    let whole = whole-part area a.result a.new.tools c.if-take_lengths.true (a.ensures.adds area low (lengths-begin area c.args.tools.now c.requires)) in
    let sum : 64 * 1 + (slots - 64) ≡ slots = omega (arith, c.if-slots-le-LENGTHS.false) in
    as-table c.args.first.now area slots c.slots_of.result c.in-Some.is c.slots_of.ensures b.result b.new.tools
    (at-length area (64 * 1 + (slots - 64)) slots b.result b.new.tools sum (b.ensures.adds area high whole))

pub returns-else-take_lengths-clause-takes : goal.returns-else-take_lengths-clause-takes
returns-else-take_lengths-clause-takes c = λ area low high.
    let slots = c.in-Some.slots in
    let a = c.take_lengths-in-Some-2 in
    as-table c.args.first.now area slots c.slots_of.result c.in-Some.is c.slots_of.ensures a.result a.new.tools
    (no-part area a.result a.new.tools a.new.tools slots c.if-take_lengths.false
    (omega (arith, c.if-slots-le-LENGTHS.false))
    (a.ensures.adds area low (lengths-begin area c.args.tools.now c.requires)))
