-- The first fault of a cycle's line, found step by step.
use Rattle.std.proofs.Common.{◌≡◌, ◌∙◌, sym, ap, not, Bool, true, false, int_lt, ℤ, Option, Some, None, Result, Ok, Err, List, [], ◌∷◌, ◌++◌, refl}
use Rattle.std.specs.List.{list_any}
use Rattle.std.specs.Option.{is_none, is_some}
use Rattle.ng_num.proofs.FirstFaultLemmas.{unless_err, unless_ok}
use Rattle.ng_num.specs.declared.fault.Fault.{Fault}
use Rattle.ng_num.specs.declared.fault.Fault.TheVariants.{CycleNoAxis, NoZ, NoR, OutsideTravel}
use Rattle.ng_canon.specs.declared.geometry.Geometry.{Geometry}
use Rattle.ng_offsets.specs.Offsets.{shift_x, shift_y, shift_z}
use Rattle.ng_cycles.specs.declared.drill.HoleAxis.{HoleAxis}
use Rattle.ng_cycles.specs.declared.drill.Drill.{Drill}
use Rattle.ng_cycles.specs.declared.heights.OptionalLengths.{OptionalLengths}
use Rattle.ng_cycles.specs.declared.heights.Lengths.{Lengths}
use Rattle.ng_cycles.specs.declared.words.CycleWords.{CycleWords}
use Rattle.ng_state.specs.declared.kept_words.KeptWords.{KeptWords}
use Rattle.ng_cycles.specs.declared.words.CycleContext.{CycleContext}
use Rattle.ng_state.specs.KeptWords.{in_force}
use Rattle.ng_cycles.specs.Heights.{hole_axis_of, lengths, lengths_in, optional_lengths_of, is_far, far_unless}
use Rattle.ng_num.specs.Causes.{first_fault, unless}
use Rattle.ng_cycles.specs.Faults.{names_no_axis, hole_causes, drill_by, drill_of, lengths_of, leaves_travel, canned_of}
use Rattle.ng_cycles.proofs.CauseListLemmas.{far_err, far_ok, of_far, of_axis, of_r, of_rest, of_hole, of_travel, of_none}
use Rattle.ng_cycles.proofs.CycleWordLemmas.{HasBoth, has_both, lacks_r}

abbrev known : CycleWords → CycleContext → KeptWords
known w s = in_force w.own s.kept

abbrev hole : CycleWords → CycleContext → List (Bool × Fault)
hole w s = hole_causes w s (known w s) (int_lt (drill_of w s).r (drill_of w s).z)

abbrev causes_after_r : CycleWords → CycleContext → Geometry → List (Bool × Fault)
causes_after_r w s g = hole w s ++ ((leaves_travel g (drill_of w s), OutsideTravel) ∷ [])

abbrev far : CycleWords → CycleContext → Bool
far w s = list_any is_far (lengths w (known w s) s)

abbrev IsFound : CycleWords → CycleContext → OptionalLengths → Type 0
IsFound w s f = Ok f ≡ far_unless (lengths w (known w s) s) (optional_lengths_of w (known w s) s)

near : (w : CycleWords) (s : CycleContext) (f : OptionalLengths) → IsFound w s f → far w s ≡ false
near w s f h = (far_ok (lengths w (known w s) s) (optional_lengths_of w (known w s) s) f h).0

is_found : (w : CycleWords) (s : CycleContext) (f : OptionalLengths) → IsFound w s f → f ≡ optional_lengths_of w (known w s) s
is_found w s f h = (far_ok (lengths w (known w s) s) (optional_lengths_of w (known w s) s) f h).1

has : (w : CycleWords) (s : CycleContext) (f : OptionalLengths) (l : Lengths) → IsFound w s f
    → Some l ≡ lengths_in f → HasBoth (known w s).r (known w s).z l (lengths_of w s (known w s))
has w s f l h e =
    let e' : Some l ≡ lengths_in (optional_lengths_of w (known w s) s) = e ∙ ap lengths_in (is_found w s f h) in
    has_both (hole_axis_of s.is_incremental w.x (shift_x s.offsets) s.point.x)
    (hole_axis_of s.is_incremental w.y (shift_y s.offsets) s.point.y) s.is_incremental (known w s).r
    (known w s).z (shift_z s.offsets) s.point.z l e'

pub valid_far : (w : CycleWords) (s : CycleContext) (g : Geometry) (fault : Fault)
    → Err fault ≡ far_unless (lengths w (known w s) s) (optional_lengths_of w (known w s) s)
    → Err fault ≡ canned_of w s g
valid_far w s g fault h =
    let e = far_err (lengths w (known w s) s) (optional_lengths_of w (known w s) s) fault h in
    of_far (far w s) ((names_no_axis w, CycleNoAxis) ∷
    ((is_none (known w s).z, NoZ) ∷ ((is_none (known w s).r, NoR) ∷ causes_after_r w s g))) fault (drill_of w s)
    e.0 e.1

pub valid_axis : (w : CycleWords) (s : CycleContext) (g : Geometry) (f : OptionalLengths) → IsFound w s f
    → names_no_axis w ≡ true → Err CycleNoAxis ≡ canned_of w s g
valid_axis w s g f h a =
    of_axis (far w s) (names_no_axis w) ((is_none (known w s).z, NoZ) ∷ ((is_none (known w s).r, NoR) ∷ causes_after_r w s g)) (drill_of w s) (near w s f h) a

pub valid_r : (w : CycleWords) (s : CycleContext) (g : Geometry) (f : OptionalLengths) → IsFound w s f
    → names_no_axis w ≡ false → is_none (known w s).z ≡ false → None ≡ lengths_in f → Err NoR ≡ canned_of w s g
valid_r w s g f h a z e =
    let e' : None ≡ lengths_in (optional_lengths_of w (known w s) s) = e ∙ ap lengths_in (is_found w s f h) in
    let r = lacks_r (hole_axis_of s.is_incremental w.x (shift_x s.offsets) s.point.x)
    (hole_axis_of s.is_incremental w.y (shift_y s.offsets) s.point.y) s.is_incremental (known w s).r
    (known w s).z (shift_z s.offsets) s.point.z e' z in
    of_r (far w s) (names_no_axis w) (is_none (known w s).z) (is_none (known w s).r) (causes_after_r w s g) (drill_of w s) (near w s f h) a z r

after_words : (w : CycleWords) (s : CycleContext) (g : Geometry) (f : OptionalLengths) (l : Lengths) → IsFound w s f
    → names_no_axis w ≡ false → Some l ≡ lengths_in f → unless (first_fault (causes_after_r w s g)) (drill_of w s)
    ≡ canned_of w s g
after_words w s g f l h a e =
    let b = has w s f l h e in
    of_rest (far w s) (names_no_axis w) (is_none (known w s).z) (is_none (known w s).r) (causes_after_r w s g) (drill_of w s) (near w s f h) a b.has_z b.has_r

abbrev drilled : CycleWords → CycleContext → Lengths → Result Drill Fault
drilled w s l = unless (first_fault (hole_causes w s (known w s) (int_lt l.r l.z))) (drill_by w s (known w s) l)

pub valid_hole : (w : CycleWords) (s : CycleContext) (g : Geometry) (f : OptionalLengths) (l : Lengths)
    (fault : Fault) → IsFound w s f → names_no_axis w ≡ false → Some l ≡ lengths_in f → Err fault ≡ drilled w s l
    → Err fault ≡ canned_of w s g
valid_hole w s g f l fault h a e d =
    let b = has w s f l h e in
    let d' : Err fault ≡ unless (first_fault (hole w s)) (drill_of w s) = d ∙ ap (drilled w s) b.lengths in
    of_hole (hole w s) ((leaves_travel g (drill_of w s), OutsideTravel) ∷ []) fault (drill_of w s)
    (unless_err (first_fault (hole w s)) (drill_of w s) fault (sym d')) ∙ after_words w s g f l h a e

pub valid_travel : (w : CycleWords) (s : CycleContext) (g : Geometry) (f : OptionalLengths) (l : Lengths)
    (d : Drill) → IsFound w s f → names_no_axis w ≡ false → Some l ≡ lengths_in f → Ok d ≡ drilled w s l
    → leaves_travel g d ≡ true → Err OutsideTravel ≡ canned_of w s g
valid_travel w s g f l d h a e m leaves =
    let b = has w s f l h e in
    let m' : Ok d ≡ unless (first_fault (hole w s)) (drill_of w s) = m ∙ ap (drilled w s) b.lengths in
    let o = unless_ok (first_fault (hole w s)) (drill_of w s) d (sym m') in
    of_travel (hole w s) (leaves_travel g (drill_of w s)) (drill_of w s) o.0 (ap (leaves_travel g) o.1 ∙ leaves) ∙ after_words w s g f l h a e

pub valid_ok : (w : CycleWords) (s : CycleContext) (g : Geometry) (f : OptionalLengths) (l : Lengths) (d : Drill)
    → IsFound w s f → names_no_axis w ≡ false → Some l ≡ lengths_in f → Ok d ≡ drilled w s l
    → leaves_travel g d ≡ false → Ok d ≡ canned_of w s g
valid_ok w s g f l d h a e m stays =
    let b = has w s f l h e in
    let m' : Ok d ≡ unless (first_fault (hole w s)) (drill_of w s) = m ∙ ap (drilled w s) b.lengths in
    let o = unless_ok (first_fault (hole w s)) (drill_of w s) d (sym m') in
    let is : Ok d ≡ Ok (drill_of w s) = ap (λ (x : Drill). Ok x) (sym o.1) in
    is ∙ (of_none (hole w s) (leaves_travel g (drill_of w s)) (drill_of w s) o.0 (ap (leaves_travel g) o.1 ∙ stays) ∙ after_words w s g f l h a e)

pub not_true : (b c : Bool) → c ≡ not b → c ≡ true → b ≡ false
not_true true c e f = cc
not_true false c e f = refl

pub not_false : (b c : Bool) → c ≡ not b → c ≡ false → b ≡ true
not_false true c e f = refl
not_false false c e f = cc

pub some_not_none : (o : Option ℤ) (none : Bool) → is_some o ≡ not none → none ≡ false → is_none o ≡ false
some_not_none None true e f = absurd (cc f)
some_not_none None false e f = absurd (cc e)
some_not_none (Some x) none e f = refl

pub lengths_x : (x y : HoleAxis) (r z : Option ℤ) (l : Lengths) → Some l ≡ lengths_in (record { x = x; y = y; heights = record { r = r; z = z } }) → l.x ≡ x
lengths_x x y None z l e = absurd (cc e)
lengths_x x y (Some r) None l e = absurd (cc e)
lengths_x x y (Some r) (Some z) l e =
    let e' : l ≡ record { x = x; y = y; r = r; z = z } = cc e in
    ap (λ (l : Lengths). l.x) e'
