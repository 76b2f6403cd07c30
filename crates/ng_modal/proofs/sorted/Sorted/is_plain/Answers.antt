use Rattle.std.proofs.Common.{arith, rules}
use Rattle.ng_modal.proofs.sorted.Sorted.is_plain.Goals as goal

pub h-requires : goal.h-requires
h-requires c = omega arith

pub is_some-requires : goal.is_some-requires
is_some-requires c κs = search rules

pub i-requires : goal.i-requires
i-requires c = omega arith

pub is_some-requires-2 : goal.is_some-requires-2
is_some-requires-2 c κs = search rules

pub j-requires : goal.j-requires
j-requires c = omega arith

pub is_some-requires-3 : goal.is_some-requires-3
is_some-requires-3 c κs = search rules

pub k-requires : goal.k-requires
k-requires c = omega arith

pub is_some-requires-4 : goal.is_some-requires-4
is_some-requires-4 c κs = search rules

pub l-requires : goal.l-requires
l-requires c = omega arith

pub is_some-requires-5 : goal.is_some-requires-5
is_some-requires-5 c κs = search rules

pub p-requires : goal.p-requires
p-requires c = omega arith

pub is_some-requires-6 : goal.is_some-requires-6
is_some-requires-6 c κs = search rules

pub q-requires : goal.q-requires
q-requires c = omega arith

pub is_some-requires-7 : goal.is_some-requires-7
is_some-requires-7 c κs = search rules

pub r-requires : goal.r-requires
r-requires c = omega arith

pub is_some-requires-8 : goal.is_some-requires-8
is_some-requires-8 c κs = search rules

pub s-requires : goal.s-requires
s-requires c = omega arith

pub is_some-requires-9 : goal.is_some-requires-9
is_some-requires-9 c κs = search rules

pub t-requires : goal.t-requires
t-requires c = omega arith

pub is_some-requires-10 : goal.is_some-requires-10
is_some-requires-10 c κs = search rules

pub is_some-requires-11 : goal.is_some-requires-11
is_some-requires-11 c κs = search rules

pub is_some-requires-12 : goal.is_some-requires-12
is_some-requires-12 c κs = search rules

pub is_straight-requires : goal.is_straight-requires
is_straight-requires c = omega arith

pub has_axis-requires : goal.has_axis-requires
has_axis-requires c = omega arith

pub f-requires : goal.f-requires
f-requires c = omega arith

pub is_negative-requires : goal.is_negative-requires
is_negative-requires c = omega arith

pub returns-then-not-is_negative : goal.returns-then-not-is_negative
returns-then-not-is_negative c = grind arith

pub returns-else-not-is_negative : goal.returns-else-not-is_negative
returns-else-not-is_negative c = grind arith
