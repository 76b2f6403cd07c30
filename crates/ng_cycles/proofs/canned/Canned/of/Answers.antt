use Rattle.std.proofs.Common.{◌∙◌, sym, arith, rules}
use Rattle.ng_cycles.specs.Faults.{names_no_axis}
use Rattle.ng_cycles.proofs.ValidCycleLemmas.{valid_far, valid_axis, valid_r, valid_hole, valid_travel, valid_ok, not_true, not_false, some_not_none, lengths_x}
use Rattle.ng_cycles.proofs.canned.Canned.of.Goals as goal

pub returns-in-Err : goal.returns-in-Err
returns-in-Err c = valid_far c.args.words.now c.args.context.now c.args.geometry.now c.in-Err.fault (rw c.over-in_force.ensures at c.in-Err.ensures.found)

pub returns-then-not-names_axis : goal.returns-then-not-names_axis
returns-then-not-names_axis c =
    valid_axis c.args.words.now c.args.context.now c.args.geometry.now c.in-Ok.found (rw c.over-in_force.ensures at c.in-Ok.ensures.found)
    (not_false (names_no_axis c.args.words.now) c.names_axis.result c.names_axis.ensures c.if-not-names_axis.true)

pub returns-in-None : goal.returns-in-None
returns-in-None c =
    let z = some_not_none c.over-in_force.result.z c.is_none.result c.is_none.ensures c.if-is_none.false in
    valid_r c.args.words.now c.args.context.now c.args.geometry.now c.in-Ok.found (rw c.over-in_force.ensures at c.in-Ok.ensures.found)
    (not_true (names_no_axis c.args.words.now) c.names_axis.result c.names_axis.ensures c.if-not-names_axis.false)
    (rw c.over-in_force.ensures at z)
    (sym c.in-None.is ∙ c.lengths.ensures)

pub drill_in-requires-clause-x : goal.drill_in-requires-clause-x
drill_in-requires-clause-x c =
    let f = c.in-Ok.found in
    rw (lengths_x f.x f.y f.heights.r f.heights.z c.in-Some.lengths (sym c.in-Some.is ∙ c.lengths.ensures)) c.in-Ok.ensures.x

pub returns-in-Err-drill_in : goal.returns-in-Err-drill_in
returns-in-Err-drill_in c =
    valid_hole c.args.words.now c.args.context.now c.args.geometry.now c.in-Ok.found c.in-Some.lengths
    c.in-Err-drill_in.fault (rw c.over-in_force.ensures at c.in-Ok.ensures.found)
    (not_true (names_no_axis c.args.words.now) c.names_axis.result c.names_axis.ensures c.if-not-names_axis.false)
    (sym c.in-Some.is ∙ c.lengths.ensures)
    (rw c.over-in_force.ensures at c.in-Err-drill_in.ensures.drill)

pub returns-then-leaves_travel : goal.returns-then-leaves_travel
returns-then-leaves_travel c =
    valid_travel c.args.words.now c.args.context.now c.args.geometry.now c.in-Ok.found c.in-Some.lengths
    c.in-Ok-drill_in.drill (rw c.over-in_force.ensures at c.in-Ok.ensures.found)
    (not_true (names_no_axis c.args.words.now) c.names_axis.result c.names_axis.ensures c.if-not-names_axis.false)
    (sym c.in-Some.is ∙ c.lengths.ensures)
    (rw c.over-in_force.ensures at c.in-Ok-drill_in.ensures.drill)
    (sym c.leaves_travel.ensures.leaves ∙ c.if-leaves_travel.true)

pub returns : goal.returns
returns c =
    valid_ok c.args.words.now c.args.context.now c.args.geometry.now c.in-Ok.found c.in-Some.lengths
    c.in-Ok-drill_in.drill (rw c.over-in_force.ensures at c.in-Ok.ensures.found)
    (not_true (names_no_axis c.args.words.now) c.names_axis.result c.names_axis.ensures c.if-not-names_axis.false)
    (sym c.in-Some.is ∙ c.lengths.ensures)
    (rw c.over-in_force.ensures at c.in-Ok-drill_in.ensures.drill)
    (sym c.leaves_travel.ensures.leaves ∙ c.if-leaves_travel.false)

pub over-in_force-requires : goal.over-in_force-requires
over-in_force-requires c = omega arith

pub optional_lengths_of-requires : goal.optional_lengths_of-requires
optional_lengths_of-requires c = omega arith

pub names_axis-requires : goal.names_axis-requires
names_axis-requires c = omega arith

pub is_none-requires : goal.is_none-requires
is_none-requires c κs = search rules

pub returns-then-is_none : goal.returns-then-is_none
returns-then-is_none c = grind arith

pub lengths-requires : goal.lengths-requires
lengths-requires c = omega arith

pub drill_in-requires-clause-some : goal.drill_in-requires-clause-some
drill_in-requires-clause-some c = omega arith

pub drill_in-requires-clause-y : goal.drill_in-requires-clause-y
drill_in-requires-clause-y c = grind arith

pub leaves_travel-requires : goal.leaves_travel-requires
leaves_travel-requires c = grind arith

pub invariant_of-result : goal.invariant_of-result
invariant_of-result c = grind arith
