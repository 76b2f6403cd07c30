-- What lines that are made do to the chords of a path.
use Rattle.std.proofs.Common.{arith, ℕ, ◌+◌, ◌-◌, ◌*◌, ◌/◌, ◌<◌, ◌≤◌, ◌≡◌, ◌⊎◌, inl, inr, ap, subst, List, [], ◌∷◌}
use Rattle.std.proofs.Common.{◌++◌, length, slice_index_or, take, drop, All}
use Rattle.std.proofs.Math.ListN.{get_or-append}
use Rattle.std.proofs.Math.Seq.{get_or-append_right}
use Rattle.std.proofs.lemmas.Bool.{cases_lt}
use Rattle.std.proofs.lemmas.List.{get_or-take, get_or-drop, take-append-le, drop_at, length-append, length-map, map-append, take-append-drop, length-take-le}
use Rattle.std.proofs.lemmas.List.Elements.{All-append, All-weaker, All-take, All-drop}
use Rattle.std.proofs.Math.Nat.{mul-le-mul_left}
use Rattle.ng_canon.specs.declared.item.AxisStep.{AxisStep}
use Rattle.ng_canon.specs.declared.item.Pulse.{Pulse}
use Rattle.ng_pace.specs.declared.limits.Limits.{Limits}
use Rattle.ng_pace.specs.declared.line.Line.{Line}
use Rattle.ng_pace.specs.declared.line.Ramp.{Ramp}
use Rattle.ng_pace.specs.Rest.{either_way}
use Rattle.std.specs.Int.{abs_diff}
use Rattle.ng_pace.specs.declared.slopes.Slopes.{Slopes}
use Rattle.ng_pace.specs.Axes.{IsAlong, IsCorner}
use Rattle.ng_pace.specs.Chord.{Slope, IsSlope, IsSlower, IsNear}
use Rattle.ng_pace.specs.Legs.{Leg, IsLeg, IsChord, IsFarthest, IsFullAt, IsFullAtCorner, IsLongest, IsPaced}
use Rattle.ng_pace.specs.Legs.{IsBehind, IsCornered, IsOnChord, IsOnCorner, IsAlongEitherWay, IsBending, IsTurning, bend_between, step_of, steps_along}
use Rattle.ng_pace.specs.Legs.{slope_along}
use Rattle.ng_pace.specs.Making.{IsWithin}
use Rattle.ng_pace.specs.Passing.{AllowAlong, TakesCorner}
use Rattle.ng_pace.specs.Path.{AreSlopes}
use Rattle.ng_pace.proofs.CapsLemmas.{along_less}
use Rattle.ng_pace.proofs.ConeLemmas.{slope_of-some}
use Rattle.ng_pace.proofs.ExactLemmas.{along-corner}

-- the slope of an axis along some pulses
pub slope-some : (axis : ℕ) (pulses : List Pulse) → 0 < length pulses → IsSlope (slope_along axis pulses)
slope-some axis pulses some = slope_of-some (steps_along axis pulses) (omega (arith, length-map pulses (step_of axis), some))

-- an axis that is near along pulses is near along the first of them
near-front : (slack : ℕ) (slope : Slope) (xs ys : List AxisStep) → IsNear slack slope (xs ++ ys) → IsNear slack slope xs
near-front slack slope xs ys near = λ k within. rw (take-append-le k xs ys within) at (near k (omega (arith, length-append xs ys, within)))

pub chord-front : (slack axis : ℕ) (pulses more : List Pulse) → IsNear slack (slope_along axis (pulses ++ more)) (steps_along axis (pulses ++ more))
    → IsNear slack (slope_along axis (pulses ++ more)) (steps_along axis pulses)
chord-front slack axis pulses more near =
    near-front slack (slope_along axis (pulses ++ more)) (steps_along axis pulses) (steps_along axis more)
    (let e : steps_along axis (pulses ++ more) ≡ steps_along axis pulses ++ steps_along axis more = map-append (step_of axis) pulses more in
    let P : List AxisStep → Type 0 = λ t. IsNear slack (slope_along axis (pulses ++ more)) t in
    subst P e near)

-- what is allowed along a slope up and down
each_way : (limits : Limits) (axis : ℕ) (slope : Slope) (most ramp : ℕ) → IsAlong limits axis (abs_diff slope.up slope.down) slope.over most ramp
    → IsAlongEitherWay limits axis slope most (either_way ramp)
each_way limits axis slope most ramp allowed = record { up = allowed; down = allowed }

-- a line that has no more than is allowed
pub on-chord : (limits : Limits) (stop : ℕ) (slopes : List Slopes) (chord : List Pulse) (most ramp : ℕ) → 0 < length chord → AllowAlong limits slopes most ramp
    → AreSlopes slopes chord → (line : Line) → IsWithin most (either_way ramp) stop line → IsOnChord limits stop chord line
on-chord limits stop slopes chord most ramp some allowed are line within = record {
  ramp = either_way ramp;
  allowed = record {
    x = each_way limits 0 (slope_along 0 chord) line.most ramp
        (along_less limits 0 _ _ most ramp line.most ramp within.most_is (omega arith) (allowed.x (slope_along 0 chord) (slope-some 0 chord some) are.x));
    y = each_way limits 1 (slope_along 1 chord) line.most ramp
        (along_less limits 1 _ _ most ramp line.most ramp within.most_is (omega arith) (allowed.y (slope_along 1 chord) (slope-some 1 chord some) are.y));
    z = each_way limits 2 (slope_along 2 chord) line.most ramp
        (along_less limits 2 _ _ most ramp line.most ramp within.most_is (omega arith) (allowed.z (slope_along 2 chord) (slope-some 2 chord some) are.z));
  };
  within = within.ramp_is;
}

corner-less : (limits : Limits) (axis slope bend over pulses most ramp most' : ℕ) → most' ≤ most → IsCorner limits axis slope bend over pulses most ramp
    → IsCorner limits axis slope bend over pulses most' ramp
corner-less limits axis slope bend over pulses most ramp most' less respected = record {
  accel = let scaled : 2 * bend * most' ≤ 2 * bend * most = mul-le-mul_left (2 * bend) less in omega (arith, respected.accel);
  rate = λ some. let scaled : slope * slope * most' ≤ slope * slope * most = mul-le-mul_left (slope * slope) less in omega (arith, respected.rate some);
}

bending-less : (limits : Limits) (axis : ℕ) (before after : Slope) (bend pulses most ramp most' : ℕ) → most' ≤ most
    → IsBending limits axis before after bend pulses most ramp → IsBending limits axis before after bend pulses most' ramp
bending-less limits axis before after bend pulses most ramp most' less respected = record {
  leaves = corner-less limits axis _ _ _ pulses most ramp most' less respected.leaves;
  enters = corner-less limits axis _ _ _ pulses most ramp most' less respected.enters;
}

one-less : (limits : Limits) (axis : ℕ) (before after : Slope) (bend pulses most ramp most' : ℕ) (Against : Type 0) → most' ≤ most
    → IsBending limits axis before after bend pulses most ramp ⊎ (Against × IsBending limits axis before after 0 pulses most ramp)
    → IsBending limits axis before after bend pulses most' ramp ⊎ (Against × IsBending limits axis before after 0 pulses most' ramp)
one-less limits axis before after bend pulses most ramp most' Against less (inl all) =
    inl (bending-less limits axis before after bend pulses most ramp most' less all)
one-less limits axis before after bend pulses most ramp most' Against less (inr none) =
    inr (none.0, bending-less limits axis before after 0 pulses most ramp most' less none.1)

turning-less : (limits : Limits) (axis : ℕ) (before after : Slope) (pulses most : ℕ) (ramp : Ramp) (most' : ℕ) → most' ≤ most
    → IsTurning limits axis before after pulses most ramp → IsTurning limits axis before after pulses most' ramp
turning-less limits axis before after pulses most ramp most' less respected = record {
  up = one-less limits axis before after (bend_between before after) pulses most ramp.up most' (IsSlower before after) less respected.up;
  down = one-less limits axis before after (bend_between before after) pulses most ramp.down most' (IsSlower after before) less respected.down;
}

pub on-corner : (limits : Limits) (stop : ℕ) (slopes next : List Slopes) (before after : List Pulse) (pulses most : ℕ) (ramp : Ramp) → 0 < length before
    → 0 < length after → TakesCorner limits slopes next pulses most ramp
    → AreSlopes slopes before → AreSlopes next after → (line : Line) → IsWithin most ramp stop line → IsOnCorner limits stop before after pulses line
on-corner limits stop slopes next before after pulses most ramp some some' takes are are' line within = record {
  ramp = ramp;
  allowed = record {
    x = turning-less limits 0 (slope_along 0 before) (slope_along 0 after) pulses most ramp line.most within.most_is
        (takes.bending.x (slope_along 0 before) (slope_along 0 after) (slope-some 0 before some) (slope-some 0 after some') are.x are'.x);
    y = turning-less limits 1 (slope_along 1 before) (slope_along 1 after) pulses most ramp line.most within.most_is
        (takes.bending.y (slope_along 1 before) (slope_along 1 after) (slope-some 1 before some) (slope-some 1 after some') are.y are'.y);
    z = turning-less limits 2 (slope_along 2 before) (slope_along 2 after) pulses most ramp line.most within.most_is
        (takes.bending.z (slope_along 2 before) (slope_along 2 after) (slope-some 2 before some) (slope-some 2 after some') are.z are'.z);
  };
  within = within.ramp_is;
}

-- a line at a corner is a line of the chords on both sides
bend-swapped : (limits : Limits) (axis slope bend over over' pulses most ramp : ℕ) → IsCorner limits axis (slope * over) bend (over * over') pulses most ramp
    → IsCorner limits axis (slope * over) bend (over' * over) pulses most ramp
bend-swapped limits axis slope bend over over' pulses most ramp respected = record {
  accel = omega (arith, respected.accel);
  rate = λ some. omega (arith, respected.rate some);
}

long : (axis : ℕ) (pulses : List Pulse) → 0 < length pulses → 0 < length (steps_along axis pulses)
long axis pulses some = omega (arith, length-map pulses (step_of axis), some)

leaves-along : (limits : Limits) (axis : ℕ) (before after : Slope) (bend pulses most ramp : ℕ) (Against : Type 0) → 0 < after.over → 0 < pulses
    → IsBending limits axis before after bend pulses most ramp ⊎ (Against × IsBending limits axis before after 0 pulses most ramp)
    → IsAlong limits axis (abs_diff before.up before.down) before.over most ramp
leaves-along limits axis before after bend pulses most ramp Against some long (inl all) =
    along-corner limits axis _ bend before.over after.over pulses most ramp some long all.leaves
leaves-along limits axis before after bend pulses most ramp Against some long (inr none) =
    along-corner limits axis _ 0 before.over after.over pulses most ramp some long none.1.leaves

enters-along : (limits : Limits) (axis : ℕ) (before after : Slope) (bend pulses most ramp : ℕ) (Against : Type 0) → 0 < before.over → 0 < pulses
    → IsBending limits axis before after bend pulses most ramp ⊎ (Against × IsBending limits axis before after 0 pulses most ramp)
    → IsAlong limits axis (abs_diff after.up after.down) after.over most ramp
enters-along limits axis before after bend pulses most ramp Against some long (inl all) =
    along-corner limits axis _ bend after.over before.over pulses most ramp some long (bend-swapped limits axis _ _ _ _ pulses most ramp all.enters)
enters-along limits axis before after bend pulses most ramp Against some long (inr none) =
    along-corner limits axis _ 0 after.over before.over pulses most ramp some long (bend-swapped limits axis _ _ _ _ pulses most ramp none.1.enters)

pub leaves-chord : (limits : Limits) (stop : ℕ) (before after : List Pulse) (pulses : ℕ) → 0 < pulses → 0 < length after → (line : Line)
    → IsOnCorner limits stop before after pulses line → IsOnChord limits stop before line
leaves-chord limits stop before after pulses some some' line on = record {
  ramp = on.ramp;
  allowed = record {
    x = record {
      up = leaves-along limits 0 (slope_along 0 before) (slope_along 0 after) _ pulses line.most on.ramp.up _ (long 0 after some') some on.allowed.x.up;
      down = leaves-along limits 0 (slope_along 0 before) (slope_along 0 after) _ pulses line.most on.ramp.down _ (long 0 after some') some on.allowed.x.down;
    };
    y = record {
      up = leaves-along limits 1 (slope_along 1 before) (slope_along 1 after) _ pulses line.most on.ramp.up _ (long 1 after some') some on.allowed.y.up;
      down = leaves-along limits 1 (slope_along 1 before) (slope_along 1 after) _ pulses line.most on.ramp.down _ (long 1 after some') some on.allowed.y.down;
    };
    z = record {
      up = leaves-along limits 2 (slope_along 2 before) (slope_along 2 after) _ pulses line.most on.ramp.up _ (long 2 after some') some on.allowed.z.up;
      down = leaves-along limits 2 (slope_along 2 before) (slope_along 2 after) _ pulses line.most on.ramp.down _ (long 2 after some') some on.allowed.z.down;
    };
  };
  within = on.within;
}

pub enters-chord : (limits : Limits) (stop : ℕ) (before after : List Pulse) (pulses : ℕ) → 0 < pulses → 0 < length before → (line : Line)
    → IsOnCorner limits stop before after pulses line → IsOnChord limits stop after line
enters-chord limits stop before after pulses some some' line on = record {
  ramp = on.ramp;
  allowed = record {
    x = record {
      up = enters-along limits 0 (slope_along 0 before) (slope_along 0 after) _ pulses line.most on.ramp.up _ (long 0 before some') some on.allowed.x.up;
      down = enters-along limits 0 (slope_along 0 before) (slope_along 0 after) _ pulses line.most on.ramp.down _ (long 0 before some') some on.allowed.x.down;
    };
    y = record {
      up = enters-along limits 1 (slope_along 1 before) (slope_along 1 after) _ pulses line.most on.ramp.up _ (long 1 before some') some on.allowed.y.up;
      down = enters-along limits 1 (slope_along 1 before) (slope_along 1 after) _ pulses line.most on.ramp.down _ (long 1 before some') some on.allowed.y.down;
    };
    z = record {
      up = enters-along limits 2 (slope_along 2 before) (slope_along 2 after) _ pulses line.most on.ramp.up _ (long 2 before some') some on.allowed.z.up;
      down = enters-along limits 2 (slope_along 2 before) (slope_along 2 after) _ pulses line.most on.ramp.down _ (long 2 before some') some on.allowed.z.down;
    };
  };
  within = on.within;
}

-- a chord with more lines
behind-more : (limits : Limits) (stop : ℕ) (leg : Leg) (made : List Line) (rest : List Leg) → IsBehind limits stop leg rest
    → IsBehind limits stop (record { pulses = leg.pulses; lines = leg.lines ++ made }) rest
behind-more limits stop leg made [] behind = tt
behind-more limits stop leg made (before ∷ rest) behind = record {
  farthest = behind.farthest;
  pulses = behind.pulses;
  some = behind.some;
  few = behind.few;
  near = behind.near;
  whole = behind.whole;
  begun = omega (arith, length-append leg.lines made, behind.begun);
  leaves = behind.leaves;
  enters = rw (take-append-le ((behind.pulses + 1) / 2) leg.lines made behind.begun) behind.enters;
  known = behind.known;
  others = behind.others;
  all = behind.all;
  enough = behind.enough;
  longest = behind.longest;
  leaves_full = behind.leaves_full;
  enters_full = λ k d short more. rw (get_or-append leg.lines made d k (omega (arith, short, behind.begun))) (behind.enters_full k d short more);
}

full-append : (limits : Limits) (pulses : List Pulse) (lines made : List Line)
    → ((k : ℕ) (d : Line) → k < length lines → limits.half ≤ k → k + limits.half < length pulses → IsFullAt limits pulses k (slice_index_or lines k d))
    → ((k : ℕ) (d : Line) → k < length made → length lines + k + limits.half < length pulses
    → IsFullAt limits pulses (length lines + k) (slice_index_or made k d))
    → (k : ℕ) (d : Line) → k < length (lines ++ made) → limits.half ≤ k → k + limits.half < length pulses
    → IsFullAt limits pulses k (slice_index_or (lines ++ made) k d)
full-append limits pulses lines made old new k d short from to = by_case (cases_lt k (length lines)) where
  by_case : (k < length lines) ⊎ (length lines ≤ k) → IsFullAt limits pulses k (slice_index_or (lines ++ made) k d)
  by_case (inl early) = rw (get_or-append lines made d k early) (old k d early from to)
  by_case (inr late) =
      let at : IsFullAt limits pulses (length lines + (k - length lines)) (slice_index_or made (k - length lines) d)
      = new (k - length lines) d (omega (arith, length-append lines made, short, late)) (omega (arith, late, to)) in
      rw (get_or-append_right lines made k d late)
      (record { known = at.known; others = at.others; all = at.all; its = omega (arith, late, at.its); full = at.full })

pub paced-more : (limits : Limits) (stop : ℕ) (leg : Leg) (made : List Line) (rest : List Leg) → IsPaced limits stop (leg ∷ rest)
    → All (IsOnChord limits stop leg.pulses) made → length leg.lines + length made ≤ length leg.pulses
    → ((k : ℕ) (d : Line) → k < length made → length leg.lines + k + limits.half < length leg.pulses
    → IsFullAt limits leg.pulses (length leg.lines + k) (slice_index_or made k d))
    → IsPaced limits stop (record { pulses = leg.pulses; lines = leg.lines ++ made } ∷ rest)
paced-more limits stop leg made rest paced on few full = (
  record {
    chord = paced.0.chord;
    lines = All-append (IsOnChord limits stop leg.pulses) leg.lines made paced.0.lines on;
    few = omega (arith, length-append leg.lines made, few);
    full = full-append limits leg.pulses leg.lines made paced.0.full full;
  },
  (behind-more limits stop leg made rest paced.1.0, paced.1.1),
)

-- the lines up to the end of a corner: some along the chord before it, and then those at the corner, of which the first half belong to that chord
pub corner-paced : (limits : Limits) (stop : ℕ) (slopes next : List Slopes) (chord : List Pulse) (before : Leg) (rest : List Leg) (first second : List Line)
    (pulses most ramp most' : ℕ) (ramp' : Ramp)
    → IsPaced limits stop (before ∷ rest) → IsChord limits.slack chord → 0 < length before.pulses → 0 < length chord → AreSlopes slopes before.pulses
    → AreSlopes next chord
    → IsFarthest limits.slack before.pulses chord
    → 0 < pulses → pulses ≤ length before.pulses → TakesCorner limits slopes next pulses most' ramp' → AllowAlong limits slopes most ramp → All (IsWithin most (either_way ramp) stop) first
    → All (IsWithin most' ramp' stop) second
    → length before.lines + length first + pulses / 2 ≡ length before.pulses → length second ≡ pulses → (pulses + 1) / 2 ≤ length chord
    → pulses ≤ 2 * limits.half
    → ((k : ℕ) (d : Line) → k < length first → length before.lines + k + limits.half < length before.pulses
    → IsFullAt limits before.pulses (length before.lines + k) (slice_index_or first k d))
    → (known others : List Pulse) → chord ≡ known ++ others → (others ≡ []) ⊎ (4 * limits.half ≤ length known) → 0 < length known
    → IsLongest limits before.pulses known pulses
    → ((k : ℕ) (d : Line) → k < length second → k + 1 < pulses / 2 + length known
    → IsFullAtCorner limits before.pulses known pulses (slice_index_or second k d))
    → IsPaced limits stop (record {
      pulses = chord;
      lines = drop (pulses / 2) second;
    } ∷ (record { pulses = before.pulses; lines = (before.lines ++ first) ++ take (pulses / 2) second } ∷ rest))
corner-paced limits stop slopes next chord before rest first second pulses most ramp most' ramp' paced straight some
    some' are are' farthest long_enough fits takes allowed
    each each' len len' few half full known_pulses others all enough some_known longest full' =
    (leg, (cornered, before_paced))
  where
    on : All (IsOnCorner limits stop before.pulses chord pulses) second
    on = All-weaker (IsWithin most' ramp' stop) (IsOnCorner limits stop before.pulses chord pulses)
        (on-corner limits stop slopes next before.pulses chord pulses most' ramp' some some' takes are are') second each'

    front : length (take (pulses / 2) second) ≡ pulses / 2
    front = length-take-le (pulses / 2) second (omega (arith, len'))

    back : length (drop (pulses / 2) second) + pulses / 2 ≡ pulses
    back = omega (arith, ap length (take-append-drop (pulses / 2) second), length-append (take (pulses / 2) second) (drop (pulses / 2) second), front, len')

    known : length (before.lines ++ first) ≡ length before.pulses - pulses / 2
    known = omega (arith, length-append before.lines first, len)

    before_paced : IsPaced limits stop (record { pulses = before.pulses; lines = (before.lines ++ first) ++ take (pulses / 2) second } ∷ rest)
    before_paced = paced-more limits stop (record { pulses = before.pulses; lines = before.lines ++ first }) (take (pulses / 2) second) rest
        (paced-more limits stop before first rest paced
        (All-weaker (IsWithin most (either_way ramp) stop) (IsOnChord limits stop before.pulses) (on-chord limits stop slopes before.pulses most ramp some allowed are)
        first each) (omega (arith, len)) full)
        (All-take (IsOnChord limits stop before.pulses) (pulses / 2) second
        (All-weaker (IsOnCorner limits stop before.pulses chord pulses) (IsOnChord limits stop before.pulses)
        (leaves-chord limits stop before.pulses chord pulses long_enough some') second on))
        (omega (arith, length-append before.lines first, front, len)) (λ k d short to. absurd (omega (arith, known, len, half, to)))

    leg : IsLeg limits stop (record { pulses = chord; lines = drop (pulses / 2) second })
    leg = record {
      chord = straight;
      lines = All-drop (IsOnChord limits stop chord) (pulses / 2) second
          (All-weaker (IsOnCorner limits stop before.pulses chord pulses) (IsOnChord limits stop chord)
          (enters-chord limits stop before.pulses chord pulses long_enough some) second on);
      few = omega (arith, back, few);
      full = λ k d short from to. absurd (omega (arith, back, half, short, from));
    }

    within : (k : ℕ) → k < (pulses + 1) / 2 → k + 1 < length chord → (others ≡ []) ⊎ (4 * limits.half ≤ length known_pulses) → k + 1 < length known_pulses
    within k short more (inl none) = omega (arith, more, ap length all, length-append known_pulses others, ap length none)
    within k short more (inr long) = omega (arith, short, long, half, long_enough)

    leaving : All (IsFullAtCorner limits before.pulses known_pulses pulses) (take (pulses / 2) second)
    leaving = λ k d short. rw (get_or-take (pulses / 2) second k d (omega (arith, front, short)))
        (full' k d (omega (arith, front, len', short)) (omega (arith, front, short, some_known)))

    cornered : IsCornered limits stop (record { pulses = before.pulses; lines = (before.lines ++ first) ++ take (pulses / 2) second })
        (record { pulses = chord; lines = drop (pulses / 2) second })
    cornered = record {
      farthest = farthest;
      pulses = pulses;
      some = long_enough;
      few = fits;
      near = record {
        x = takes.near.x (slope_along 0 before.pulses) (slope_along 0 chord) (slope-some 0 before.pulses some) (slope-some 0 chord some') are.x are'.x;
        y = takes.near.y (slope_along 1 before.pulses) (slope_along 1 chord) (slope-some 1 before.pulses some) (slope-some 1 chord some') are.y are'.y;
        z = takes.near.z (slope_along 2 before.pulses) (slope_along 2 chord) (slope-some 2 before.pulses some) (slope-some 2 chord some') are.z are'.z;
      };
      whole = omega (arith, length-append (before.lines ++ first) (take (pulses / 2) second), length-append before.lines first, front, len);
      begun = omega (arith, back);
      leaves =
          let cut : drop (length before.pulses - pulses / 2) ((before.lines ++ first) ++ take (pulses / 2) second) ≡ take (pulses / 2) second
          = drop_at (before.lines ++ first) (take (pulses / 2) second) (length before.pulses - pulses / 2) known in
          rw cut (All-take (IsOnCorner limits stop before.pulses chord pulses) (pulses / 2) second on);
      enters = All-take (IsOnCorner limits stop before.pulses chord pulses) ((pulses + 1) / 2) (drop (pulses / 2) second)
          (All-drop (IsOnCorner limits stop before.pulses chord pulses) (pulses / 2) second on);
      known = known_pulses;
      others = others;
      all = all;
      enough = enough;
      longest = longest;
      leaves_full =
          let cut : drop (length before.pulses - pulses / 2) ((before.lines ++ first) ++ take (pulses / 2) second) ≡ take (pulses / 2) second
          = drop_at (before.lines ++ first) (take (pulses / 2) second) (length before.pulses - pulses / 2) known in
          rw cut leaving;
      enters_full = λ k d short more. rw (get_or-drop (pulses / 2) second k d)
          (full' (pulses / 2 + k) d (omega (arith, len', short)) (omega (arith, within k short more enough)));
    }
