-- A cycle's strokes, one by one.
use Rattle.std.proofs.Common.{ℕ, suc, ◌≡◌, Bool, true, false, List, [], ◌∷◌, ◌++◌, flat_map, refl, ◌∙◌, sym, ap, append_assoc, if◌then◌else◌}
use Rattle.std.specs.Ordering.{int_eq}
use Rattle.ng_canon.specs.declared.pace.Pace.TheVariants as pace
use Rattle.ng_canon.specs.declared.segment.Segment.{Segment}
use Rattle.ng_num.specs.declared.point.Point.{Point}
use Rattle.ng_cycles.specs.declared.drill.Drill.{Drill}
use Rattle.ng_cycles.specs.declared.motion_state.MotionState.{MotionState}
use Rattle.ng_cycles.specs.Strokes.{Stroke, ToR, TraverseTo, numbers_from, coordinate, again, strokes_of, repeat}
use Rattle.ng_cycles.specs.Left.{pecks_after}
use Rattle.ng_cycles.specs.Segments.{traced, after_segment, after_segments, line_to}

-- the point at the hole of a repeat
abbrev pub over : Drill → MotionState → ℕ → MotionState
over d at r = record at { point = record at.point { x = coordinate d.x r; y = coordinate d.y r } }

by_test : (d : Drill) (at : MotionState) (rest : List Stroke) (there : Bool) →
    (let segments : List Segment = if there then [] else line_to pace.Traverse at.point
    (record at.point { z = d.r }) ∷ [] in segments ++ traced d (after_segments at segments) rest)
    ≡ traced d at ((if there then [] else TraverseTo d.r ∷ []) ++ rest)
by_test d at rest true = refl
by_test d at rest false = refl

-- to R, if Z isn't there
pub traced-to_r : (d : Drill) (at : MotionState) (rest : List Stroke) →
    traced d at (ToR ∷ rest) ≡ traced d at ((if int_eq at.point.z d.r then [] else TraverseTo d.r ∷ []) ++ rest)
traced-to_r d at rest = by_test d at rest (int_eq at.point.z d.r)

-- the next repeat
pub traced-repeat : (d : Drill) (at : MotionState) (b n b' m : ℕ) → b' ≡ suc b → n ≡ suc m →
    traced d at (flat_map (repeat d) (numbers_from (suc b) n))
    ≡ line_to pace.Traverse at.point (over d at b').point
    ∷ traced d (over d at b') (((if int_eq at.point.z d.r then [] else TraverseTo d.r ∷ []) ++ strokes_of d d.work)
    ++ flat_map (repeat d) (numbers_from (suc b') m))
traced-repeat d at b n b' m e f =
    let rest = flat_map (repeat d) (numbers_from (suc (suc b)) m) in
    rw (e, f) (ap (λ (segments : List Segment). line_to pace.Traverse at.point (over d at (suc b)).point ∷ segments)
    (by_test d (over d at (suc b)) (strokes_of d d.work ++ rest) (int_eq at.point.z d.r)
    ∙ ap (traced d (over d at (suc b))) (sym (append_assoc (if int_eq at.point.z d.r then [] else TraverseTo d.r ∷ []) (strokes_of d d.work) rest))))

-- the next repeat, in the code's terms
pub across_goes : (d : Drill) (at : MotionState) (b n b' m : ℕ) (end : Point) (segment : Segment)
    (after : MotionState) (left : List Stroke) → b' ≡ suc b → n ≡ suc m →
    end ≡ (over d at b').point →
    left ≡ (if int_eq end.z d.r then [] else TraverseTo d.r ∷ []) ++ strokes_of d d.work →
    segment ≡ line_to pace.Traverse at.point end →
    after ≡ after_segment at segment →
    traced d at (flat_map (repeat d) (numbers_from (suc b) n)) ≡ segment ∷ traced d after (left ++ flat_map (repeat d) (numbers_from (suc b') m))
across_goes d at b n b' m end segment after left e f is_end is_left is_segment is_after =
    rw (is_after, is_segment, is_left, is_end) (traced-repeat d at b n b' m e f)

-- the pecks after one
pub pecks_after-more : (d : Drill) (peck k n m : ℕ) → n ≡ suc m → pecks_after d peck k n ≡ again d peck k ++ pecks_after d peck (suc k) m
pecks_after-more d peck k n m e = rw e refl

pub pecks_after-none : (d : Drill) (peck k n : ℕ) → n ≡ 0 → pecks_after d peck k n ≡ TraverseTo d.clear ∷ []
pecks_after-none d peck k n e = rw e refl
