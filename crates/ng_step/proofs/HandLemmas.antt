-- The items of a segment, combined.
use Rattle.std.proofs.Common.{arith, ℕ, zero, suc, ◌+◌, ◌*◌, ◌<◌, ◌≡◌, refl, sym, ap, ◌∙◌, ℤ, pos, Bool, true, false, max, List, [], ◌++◌, map, length}
use Rattle.std.proofs.Common.{◌≤◌, ◌^◌}
use Rattle.std.proofs.lemmas.Nat.{mul-le}
use Rattle.std.specs.Prelude.{unsigned_abs, int_le}
use Rattle.ng_canon.specs.declared.segment.Arc.{Arc}
use Rattle.ng_step.specs.declared.quadrant.PlaneStep.{PlaneStep}
use Rattle.ng_step.specs.declared.walk.ArcWalk.{ArcWalk}
use Rattle.ng_step.specs.declared.frame.Frame.{Frame}
use Rattle.ng_step.specs.declared.centred.CentredArc.{CentredArc}
use Rattle.ng_step.specs.Arcs.{larger, IsArc, plane_steps, quadrants_to_walk, net_a as net_a_of, net_b as net_b_of}
use Rattle.ng_step.specs.Arc.{interleaved, arc_pulses, pulses_from}
use Rattle.ng_step.specs.Turned.{spot_of}
use Rattle.ng_step.specs.Private.Sizes.{IsWalkable}
use Rattle.ng_step.proofs.ArcLemmas.{is_arc}
use Rattle.ng_step.proofs.PulseLemmas.{pulses_of}
use Rattle.ng_num.specs.declared.point.Point.{Point}
use Rattle.ng_canon.specs.declared.geometry.Geometry.{Geometry}
use Rattle.ng_canon.specs.declared.pace.Pace.{Pace}
use Rattle.ng_step.specs.declared.steps.AxisSteps.{AxisSteps}
use Rattle.ng_step.specs.declared.steps.Distances.{Distances}
use Rattle.ng_step.specs.Line.{largest, line_pulses, line_from}
use Rattle.ng_step.specs.Periods.{root_up, pulse_us}
use Rattle.ng_step.specs.Hands.{pulse_item, distances, square_between, line_items, centred, is_small, arc_path}
use Rattle.ng_step.specs.Hands.{across, closing, closing_after, arc_total, items_over, large_arc_items, arc_items}

-- if there are no pulses, any period will do
pub items_same : (total time other : ℕ) (pulses : List AxisSteps) → (0 < total → time ≡ other)
    → (total ≡ 0 → pulses ≡ []) → map (pulse_item time) pulses ≡ map (pulse_item other) pulses
items_same zero time other pulses h e = rw (e refl) refl
items_same (suc total) time other pulses h e = rw (h (omega arith)) refl

line_from_none : (n : ℕ) (d : Distances) (left : ℕ) → left ≡ 0 → line_from n d left ≡ []
line_from_none n d zero h = refl
line_from_none n d (suc left) h = absurd (omega arith)

pub line_none : (d : Distances) → largest d ≡ 0 → line_pulses d ≡ []
unfolding line_pulses
line_none d h = line_from_none (largest d) d (largest d) h

line_over : (g : Geometry) (pace : Pace) (d : Distances) (length n us : ℕ) (line : List AxisSteps) → n ≡ largest d
    → (0 < n → us ≡ pulse_us g pace length n) → line ≡ line_pulses d
    → map (pulse_item us) line ≡ map (pulse_item (pulse_us g pace length (largest d))) (line_pulses d)
line_over g pace d length n us line most time pulses = rw pulses (items_same (largest d) us _ (line_pulses d) (rw most at time) (λ none. line_none d none))

pub line_is : (g : Geometry) (pace : Pace) (p q : Point) (d : Distances) (length n us : ℕ) (line : List AxisSteps)
    → d ≡ distances g p q → length ≡ root_up (square_between p q) → n ≡ largest d
    → (0 < n → us ≡ pulse_us g pace length n) → line ≡ line_pulses d → map (pulse_item us) line ≡ line_items g pace p q
unfolding line_items
line_is g pace p q d length n us line is root most time pulses =
    line_over g pace d length n us line most time pulses
    ∙ ap (λ (x : Distances). map (pulse_item (pulse_us g pace length (largest x))) (line_pulses x)) is
    ∙ ap (λ x. map (pulse_item (pulse_us g pace x (largest (distances g p q)))) (line_pulses (distances g p q))) root

-- ---- an arc

pub arc_small : (g : Geometry) (arc : Arc) (c : CentredArc) → c ≡ centred g arc → is_small c.circle ≡ true
    → line_items g arc.pace arc.start arc.end ≡ arc_items g arc
unfolding arc_items
arc_small g arc c is small = let h : is_small (centred g arc).circle ≡ true = ap (λ (x : CentredArc). is_small x.circle) (sym is) ∙ small in rw h refl

pub arc_large : (g : Geometry) (arc : Arc) (c : CentredArc) (d : Distances) → c ≡ centred g arc → is_small c.circle ≡ false → d ≡ distances g arc.start arc.end
    → large_arc_items g arc.pace c d ≡ arc_items g arc
unfolding arc_items
arc_large g arc c d is large far =
    let h : is_small (centred g arc).circle ≡ false = ap (λ (x : CentredArc). is_small x.circle) (sym is) ∙ large in
    ap (λ (x : CentredArc). large_arc_items g arc.pace x d) is ∙ ap (large_arc_items g arc.pace (centred g arc)) far ∙ rw h refl

interleaved_none : (frame : Frame) (n count : ℕ) (forward : Bool) (d : ℕ) (ms : List PlaneStep) (left : ℕ)
    → left ≡ 0 → interleaved frame n count forward d ms left ≡ []
interleaved_none frame n count forward d ms zero h = refl
interleaved_none frame n count forward d ms (suc left) h = absurd (omega arith)

no_pulses : (frame : Frame) (d : Distances) (ms : List PlaneStep) → arc_total frame d ms ≡ 0
    → arc_pulses frame ms (across frame d) ++ line_pulses (closing frame d ms) ≡ []
no_pulses frame d ms h =
    let arc : arc_pulses frame ms (across frame d) ≡ [] = interleaved_none frame _ _ _ _ ms _ (omega arith) in
    let line : line_pulses (closing frame d ms) ≡ [] = line_none (closing frame d ms) (omega arith) in
    rw (arc, line) refl

over : (g : Geometry) (pace : Pace) (frame : Frame) (step us : ℕ) (d : Distances) (ms : List PlaneStep)
    → (0 < arc_total frame d ms → us ≡ pulse_us g pace (arc_total frame d ms * step) (arc_total frame d ms))
    → map (pulse_item us) (arc_pulses frame ms (across frame d) ++ line_pulses (closing frame d ms)) ≡ items_over g pace frame step d ms
over g pace frame step us d ms h = items_same (arc_total frame d ms) us _ _ h (no_pulses frame d ms)

pub path_is : (c : CentredArc) → IsWalkable c → IsArc c.circle c.end (quadrants_to_walk c.start c.end c.from) c.from (arc_path c)
unfolding arc_path plane_steps
path_is c h = is_arc c.circle c.end (unsigned_abs c.start.a + unsigned_abs c.start.b) (quadrants_to_walk c.start c.end c.from) c.from h.arc h.some

-- the total of the pulses, in the code's terms
abbrev code_total : CentredArc → Distances → ℕ → Distances → ℕ
code_total c d steps close = max steps (unsigned_abs (across c.frame d)) + largest close

pub large_is : (g : Geometry) (pace : Pace) (c : CentredArc) (d : Distances) (w : ArcWalk) (quadrants steps : ℕ)
    (net_a net_b : ℤ) (third : ℤ) (close : Distances) (us : ℕ) (arc line : List AxisSteps)
    → IsWalkable c → w.frame ≡ c.frame → w.circle ≡ c.circle → spot_of w ≡ c.from → quadrants ≡ quadrants_to_walk c.start c.end c.from
    → ((ms : List PlaneStep) → IsArc w.circle c.end quadrants (spot_of w) ms → steps ≡ length ms)
    → ((ms : List PlaneStep) → IsArc w.circle c.end quadrants (spot_of w) ms → net_a ≡ net_a_of ms)
    → ((ms : List PlaneStep) → IsArc w.circle c.end quadrants (spot_of w) ms → net_b ≡ net_b_of ms)
    → close ≡ closing_after c.frame d net_a net_b
    → (0 < code_total c d steps close → us ≡ pulse_us g pace (code_total c d steps close * larger c.circle) (code_total c d steps close))
    → third ≡ across c.frame d
    → arc ≡ pulses_from w.frame (max steps (unsigned_abs third)) steps (int_le (pos 0) third) (unsigned_abs third)
    w.circle (spot_of w) (max steps (unsigned_abs third))
    → line ≡ line_pulses close
    → map (pulse_item us) (arc ++ line) ≡ large_arc_items g pace c d
unfolding large_arc_items
large_is g pace c d w quadrants steps net_a net_b third close us arc line h frame circle spot few hs ha hb hc ht h3 harc hline =
    let ms = arc_path c in
    let is : IsArc c.circle c.end (quadrants_to_walk c.start c.end c.from) c.from ms = path_is c h in
    let is' : IsArc w.circle c.end quadrants (spot_of w) ms = rw (circle, spot, few) is in
    let es : steps ≡ length ms = hs ms is' in
    let ec : close ≡ closing c.frame d ms = hc ∙ ap (λ x. closing_after c.frame d x net_b) (ha ms is')
    ∙ ap (closing_after c.frame d (net_a_of ms)) (hb ms is') in
    let pulses : arc ≡ arc_pulses c.frame ms (across c.frame d) = harc
    ∙ rw (frame, h3, es, circle, spot)
    (pulses_of c.frame c.circle c.end (quadrants_to_walk c.start c.end c.from) c.from ms (across c.frame d)
    is) in
    let times : 0 < arc_total c.frame d ms → us ≡ pulse_us g pace (arc_total c.frame d ms * larger c.circle) (arc_total c.frame d ms) = rw (es, ec) at ht in
    rw (pulses, hline, ec) (over g pace c.frame (larger c.circle) us d ms times)

pub time_is : (g : Geometry) (pace : Pace) (us length pulses step total other : ℕ) → pulses ≡ total → step ≡ other
    → length ≡ pulses * step → (0 < pulses → us ≡ pulse_us g pace length pulses)
    → 0 < total → us ≡ pulse_us g pace (total * other) total
time_is g pace us length pulses step total other e f l h some = rw (← e, ← f, ← l) (h (omega arith))

pub total_is : (steps abs most large other : ℕ) (third t : ℤ) → most ≡ max steps abs → abs ≡ unsigned_abs third
    → third ≡ t → large ≡ other → most + large ≡ max steps (unsigned_abs t) + other
total_is steps abs most large other third t e f g h = rw (e, f, g, h) refl

-- an arc's length is bounded by its pulses
pub arc_length_few : (pulses step other : ℕ) → step ≡ other → other ≤ 1_000_000 → pulses * step ≤ pulses * 2 ^ 23
arc_length_few pulses step other e h = mul-le pulses step pulses (2 ^ 23) (omega arith) (omega arith)
