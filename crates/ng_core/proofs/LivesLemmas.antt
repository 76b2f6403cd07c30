-- However often power is cut: session by session, each from the image that the one before left.
use Rattle.std.proofs.Common.{◌≡◌, inl, inr, ℕ, ℤ, Option, None, Some, List, [], ◌∷◌, ◌++◌, take, Result, Ok, refl, sym, ◌∙◌, ap, subst, arith}
use Rattle.std.specs.Option.{option_map}
use Rattle.ng_num.specs.declared.fault.Fault.{Fault}
use Rattle.ng_canon.specs.declared.item.Item.{Item}
use Rattle.ng_rig.specs.Trace.{Image}
use Rattle.ng_layout.specs.Stands.{stands_beside, closed, recovered}
use Rattle.ng_layout.specs.Stored.{HalfModel, DurableState}
use Rattle.ng_layout.proofs.ImageLemmas.{modern-beside}
use Rattle.ng_journal.specs.Journal.{StandsFor, StandsBeside}
use Rattle.ng_canon.specs.declared.geometry.Geometry.{Geometry}
use Rattle.ng_session.specs.Cuts.{Nothing_open}
use Rattle.ng_core.specs.Headline.{IsAccounted}
use Rattle.ng_core.specs.Lives.{CutSession, IsCutWithinPowerOn, IsSession, CommittedSession, state_after_session}
use Rattle.ng_core.specs.Lives.{items_of_session, KeepsToFold, SessionKeepsToFold, CutsOfImageHistory}

-- what a session did, in terms of the fold
pub record IsLived (geometry : Geometry) (tools : List ℤ) (x : DurableState) (s : CutSession) : Type 0 where
  pub committed : Option CommittedSession
  pub keeps : SessionKeepsToFold geometry x s committed
  pub stands_for : StandsBeside tools (state_after_session geometry x committed) (items_of_session geometry x committed) s.image s.items

-- the same of one that was cut after power on
pub record IsLivedSince (geometry : Geometry) (tools : List ℤ) (x : DurableState) (s : CutSession) : Type 0 where
  pub committed : CommittedSession
  pub keeps : KeepsToFold geometry x s committed
  pub stands_for : StandsBeside tools (state_after_session geometry x (Some committed)) (items_of_session geometry x (Some committed)) s.image s.items

-- an image that stands for a state by itself also stands for it with this table
read_with : (tools : List ℤ) (standing : DurableState) (given : List Item) (image : Image) (handed : List Item)
    → StandsFor standing given image handed → StandsBeside tools standing given image handed
read_with tools standing given image handed p = record { state = modern-beside tools image p.modern ∙ p.state; written = p.written; handed_is = p.handed_is }

-- if the state was recovered before the cut, the session committed no entry
pub lived_within : (geometry : Geometry) (tools : List ℤ) (x : DurableState) (s : CutSession) → IsCutWithinPowerOn tools x s → IsLived geometry tools x s
lived_within geometry tools x s p = elim p.stands_for [
  | inl before ↦ record { committed = None; keeps = p.acknowledged; stands_for = before }
  | inr after ↦ record {
    committed = Some (record { entries = []; saved = (recovered x).saved; more = [] });
    keeps = record {
      count = 0;
      all = omega (arith, p.acknowledged);
      few = omega arith;
      within = omega arith;
      entries = refl;
      valid = tt;
      follows = Nothing_open;
    };
    stands_for = after;
  }
]

pub lived_since : (geometry : Geometry) (tools : List ℤ) (x : DurableState) (s : CutSession)
    → IsAccounted geometry s.lines (recovered x) [] s.executed s.begun s.acknowledged s.image s.items
    → IsLivedSince geometry tools x s
lived_since geometry tools x s p =
    let committed : CommittedSession = record { entries = take p.count s.executed; saved = p.left.standing.saved; more = p.cut.more } in
    let there : p.left.standing ≡ state_after_session geometry x (Some committed) =
    ap (λ (program : List ℕ). let y : DurableState =
    record { saved = p.left.standing.saved; program = program } in y) p.cut.program in
    record {
      committed = committed;
      keeps = record { count = p.count; all = p.all; few = p.few; within = p.within; entries = refl; valid = p.cut.valid; follows = p.cut.follows };
      stands_for = read_with tools _ _ _ _ (subst (λ (y : DurableState). StandsFor y (items_of_session geometry x (Some committed)) s.image s.items) there
          (subst (λ (given : List Item). StandsFor p.left.standing given s.image s.items) p.cut.items p.stands_for));
    }

lived_after : (geometry : Geometry) (tools : List ℤ) (x : DurableState) (s : CutSession)
    → IsAccounted geometry s.lines (recovered x) [] s.executed s.begun s.acknowledged s.image s.items
    → IsLived geometry tools x s
lived_after geometry tools x s p = let l = lived_since geometry tools x s p in record
    { committed = Some l.committed; keeps = l.keeps; stands_for = l.stands_for }

same_standing : (x y : DurableState) → (let found : Result DurableState Fault = Ok x in found) ≡ Ok y → x ≡ y
same_standing x y is = cc

lived_from : (geometry : Geometry) (tools : List ℤ) (image : Image) (x : DurableState) (s : CutSession)
    → stands_beside tools image ≡ Ok x → IsSession geometry tools image s → IsLived geometry tools x s
lived_from geometry tools image x s state p =
    let same : p.standing ≡ x = same_standing p.standing x (sym p.state ∙ state) in
    subst (λ (y : DurableState). IsLived geometry tools y s) same (elim p.cut [
      | inl within ↦ lived_within geometry tools p.standing s within
      | inr after ↦ lived_after geometry tools p.standing s after
    ])

pub cuts_of_life : CutsOfImageHistory
cuts_of_life geometry tools image x [] state written trace = ([], tt, record { state = state; written = written; handed_is = refl })
cuts_of_life geometry tools image x (s ∷ ss) state written trace =
    let one = lived_from geometry tools image x s state trace.0 in
    let rest = cuts_of_life geometry tools s.image (state_after_session geometry x one.committed) ss one.stands_for.state one.stands_for.written trace.1 in (
      one.committed ∷ rest.0,
      (one.keeps, rest.1),
      record {
        state = rest.2.state;
        written = rest.2.written;
        handed_is = λ i.
            one.stands_for.handed_is i ++ rest.2.handed_is i;
      },
    )

-- ---- power on after power on

closed_again : (o : Option HalfModel) → option_map closed (option_map closed o) ≡ option_map closed o
closed_again None = refl
closed_again (Some half) = refl

pub recovered_again : (x : DurableState) → recovered (recovered x) ≡ recovered x
recovered_again x = ap (λ (o : Option HalfModel). let y : DurableState = record x { saved = record x.saved { half = o } } in y) (closed_again x.saved.half)
