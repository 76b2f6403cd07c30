-- An event that is refused changes nothing.
use Rattle.std.proofs.Common.{◌≡◌, ℕ, Bool, true, false, not, if◌then◌else◌, List, Option, Some, None, Result, Ok, Err, ap}
use Rattle.ng_num.specs.declared.fault.Fault.{Fault}
use Rattle.ng_num.specs.declared.fault.Fault.TheVariants as fault
use Rattle.ng_num.specs.declared.point.Point.{Point}
use Rattle.ng_block.specs.Effects.{Done}
use Rattle.ng_layout.specs.Stored.{HalfModel}
use Rattle.ng_canon.specs.declared.geometry.Geometry.{Geometry}
use Rattle.ng_session.specs.Entries.{done_again}
use Rattle.ng_session.specs.Session.{SessionModel, refuses, is_at_rest}
use Rattle.ng_session.specs.Operator.{resume, resume_half, resume_from, resume_by, resume_refusal, waiting_refusal}
use Rattle.ng_session.specs.Operator.{half_refusal, refusal_of}

by_done : (program : List ℕ) (s : SessionModel) (half : HalfModel) (from : Point) (done : Result Done Fault)
    (f : Fault) → Some f ≡ refusal_of done → resume_by program s half from done ≡ refuses program f s
by_done program s half from (Ok done) f e = cc e
by_done program s half from (Err other) f e = let same : other ≡ f = cc e in ap (λ (x : Fault). refuses program x s) same

by_place : (q : Geometry) (program : List ℕ) (s : SessionModel) (half : HalfModel) (at : Option Point) (f : Fault)
    → Some f ≡ half_refusal q s.stored half at → resume_from q program s half at ≡ refuses program f s
by_place q program s half None f e = let same : fault.PlaceUnknown ≡ f = cc e in ap (λ (x : Fault). refuses program x s) same
by_place q program s half (Some from) f e = by_done program s half from (done_again q s.stored half.text) f e

by_half : (q : Geometry) (program : List ℕ) (s : SessionModel) (half : Option HalfModel) (f : Fault)
    → Some f ≡ waiting_refusal q s.stored half → resume_half q program s half ≡ refuses program f s
by_half q program s None f e = let same : fault.NothingHalfDone ≡ f = cc e in ap (λ (x : Fault). refuses program x s) same
by_half q program s (Some half) f e = by_place q program s half half.at f e

-- a half-done block
pub refused_again : (q : Geometry) (program : List ℕ) (s : SessionModel) (f : Fault) → Some f ≡ resume_refusal q s → resume q program s ≡ refuses program f s
refused_again q program s f e = by (not (is_at_rest s)) e
  where
    by : (b : Bool) → Some f ≡ (if b then Some fault.Busy else waiting_refusal q s.stored s.stored.half)
        → (if b then refuses program fault.Busy s else resume_half q program s s.stored.half) ≡ refuses program f s
    by true e = let same : fault.Busy ≡ f = cc e in ap (λ (x : Fault). refuses program x s) same
    by false e = by_half q program s s.stored.half f e
