-- A session leaves a large device large, and a small one small: the limit of a program is part of what an image stands for,
-- and no entry changes it.
use Rattle.std.proofs.Common.{◌≡◌, ◌∙◌, refl, sym, ap, Bool, true, false, List, ◌∷◌, Option, Some, None, Result, Ok, Err, arith, ℕ, ℤ, []}
use Rattle.ng_num.specs.declared.fault.Fault.{Fault}
use Rattle.ng_num.specs.declared.point.Point.{Point}
use Rattle.ng_canon.specs.declared.geometry.Geometry.{Geometry}
use Rattle.ng_canon.specs.declared.item.Item.{Item}
use Rattle.ng_rig.specs.Rig.{Device}
use Rattle.ng_rig.specs.Trace.{Image, reads}
use Rattle.ng_block.specs.Effects.{Done}
use Rattle.ng_layout.specs.Areas.{log_first, log_size_of, program_first, program_size, snapshot_first, snapshot_size, tools_first, tools_size}
use Rattle.ng_layout.specs.declared.half.Source.{Source}
use Rattle.ng_layout.specs.declared.header.Format.{Format}
use Rattle.ng_layout.specs.declared.header.Format.TheVariants.{One, Two}
use Rattle.ng_layout.specs.declared.header.Header.{Header}
use Rattle.ng_layout.specs.Header.{program_limit_of}
use Rattle.ng_layout.specs.Log.{ReplayState}
use Rattle.ng_layout.specs.Sectors.{program_text}
use Rattle.ng_layout.specs.Stands.{beside_format, beside_header, durable_state_under, in_force, is_large, standing, stands, stands_beside, stretch}
use Rattle.ng_layout.specs.Stored.{DurableState, HalfModel, StoredModel}
use Rattle.ng_layout.proofs.ImageLemmas.{under}
use Rattle.ng_journal.proofs.FoundStateLemmas.{none_found}
use Rattle.ng_num.specs.declared.fault.Fault.TheVariants.{NotFormatted}
use Rattle.ng_session.specs.Cuts.{UncommittedTail, Nothing_open, Approach_open, Segment_open}
use Rattle.ng_session.specs.Entries.{Entry, Block, Loaded, Referenced, Approached, Abandoned, Tooled, abandoned, reached_by, referenced}
use Rattle.ng_session.specs.Fold.{after, after_all, approach_in, done_in, durable_state_after, durable_state_reached}
use Rattle.ng_session.specs.declared.stage.Approach.{Approach}
use Rattle.ng_core.specs.Lifetime.{DeviceSession, GivenEvents, IsFoundAs, IsLifetime, KeepsToEntries, LifetimeHolds, cut_within, state_found}
use Rattle.ng_core.specs.Lives.{CommittedSession, CutSession, SessionKeepsToFold, state_after_session}

abbrev limit : DurableState → ℕ
limit x = x.saved.program_limit

-- ---- of an image

ok_is : {u v : DurableState} → (let a : Result DurableState Fault = Ok u in a) ≡ Ok v → u ≡ v
ok_is e = cc

no_state : (y : DurableState) (e : Fault) → (let a : Result DurableState Fault = Err e in a) ≡ Ok y → ⊥
no_state y e is = cc

beside-limit : (tools : List ℤ) (format : Format) (s : DurableState) → limit (beside_format tools format s) ≡ limit s
beside-limit tools One s = refl
beside-limit tools Two s = refl

standing-limit : (tools : List ℤ) (h : Header) (most : ℕ) (found : Option ReplayState) (text : List ℕ) (y : DurableState)
    → beside_header tools (Some h) (standing most found text h.length) ≡ Ok y → limit y ≡ most
standing-limit tools h most None text y is = absurd (no_state y _ is)
standing-limit tools h most (Some f) text y is =
    let s : DurableState = record {
      saved = record {
        entries = f.decoded.entries;
        setup = record { params = f.params; modal = f.decoded.modal };
        tools = f.tools;
        place = f.decoded.place;
        length = h.length;
        program_limit = most;
        half = f.decoded.half;
      };
      program = text;
    } in
    ap limit (sym (ok_is is)) ∙ beside-limit tools h.format s

under-limit : (tools : List ℤ) (h : Header) (most : ℕ) (area slots text log : ℕ → List ℕ) (y : DurableState)
    → beside_header tools (Some h) (durable_state_under most h area slots text log) ≡ Ok y → limit y ≡ most
unfolding durable_state_under
under-limit tools h most area slots text log y is = standing-limit tools h most _ (program_text h.length text) y is

pub image-limit : (tools : List ℤ) (image : Image) (y : DurableState) → stands_beside tools image ≡ Ok y → limit y ≡ program_limit_of (is_large image)
unfolding stands_beside
image-limit tools image y is = go (in_force image) refl
  where
    go : (o : Option Header) → in_force image ≡ o → limit y ≡ program_limit_of (is_large image)
    go None none =
        let state : stands image ≡ Ok y = sym (λ i. beside_header tools (none i) (stands image)) ∙ is in
        absurd (no_state y NotFormatted (sym (none_found image None (sym none) refl) ∙ state))
    go (Some h) some =
        under-limit tools h (program_limit_of (is_large image)) (stretch (snapshot_first h.epoch) snapshot_size image)
        (stretch (tools_first h.epoch) tools_size image) (stretch (program_first h.area) (program_size h.area) image)
        (stretch log_first (log_size_of h) image) y
        (sym (λ i. beside_header tools (some i) (under image h some i)) ∙ is)

-- ---- of entries

block-limit : (x : DurableState) (source : Source) (done : Result Done Fault) → limit (durable_state_after x source done) ≡ limit x
block-limit x source (Ok done) = refl
block-limit x source (Err e) = refl

referenced-limit : (x : StoredModel) (point : Point) (half : Option HalfModel) → (referenced x point half).program_limit ≡ x.program_limit
referenced-limit x point None = refl
referenced-limit x point (Some half) = refl

reached-limit : (x : StoredModel) (half : Option HalfModel) (point : Point) → (reached_by x half point).program_limit ≡ x.program_limit
reached-limit x None point = refl
reached-limit x (Some half) point = refl

approach-limit : (x : DurableState) (a : Option Approach) → limit (durable_state_reached x a) ≡ limit x
approach-limit x None = refl
approach-limit x (Some a) = reached-limit x.saved x.saved.half a.to.point

abandoned-limit : (x : StoredModel) (half : Option HalfModel) → (abandoned x half).program_limit ≡ x.program_limit
abandoned-limit x None = refl
abandoned-limit x (Some half) = refl

entry-limit : (geometry : Geometry) (x : DurableState) (entry : Entry) → limit (after geometry x entry) ≡ limit x
entry-limit geometry x (Block source text block_delete) = block-limit x source (done_in geometry x source text block_delete)
entry-limit geometry x (Loaded text) = refl
entry-limit geometry x (Referenced point) = referenced-limit x.saved point x.saved.half
entry-limit geometry x Approached = approach-limit x (approach_in geometry x)
entry-limit geometry x Abandoned = abandoned-limit x.saved x.saved.half
entry-limit geometry x (Tooled slot nm) = refl

entries-limit : (geometry : Geometry) (x : DurableState) (entries : List Entry) → limit (after_all geometry x entries) ≡ limit x
entries-limit geometry x [] = refl
entries-limit geometry x (entry ∷ entries) = entries-limit geometry (after geometry x entry) entries ∙ entry-limit geometry x entry

tail-limit : (geometry : Geometry) (lines : List (List ℕ)) (x : DurableState) (next : List Entry) (saved : StoredModel) (more : List Item)
    → UncommittedTail geometry lines x next saved more → saved.program_limit ≡ limit x
tail-limit geometry lines x next _ _ Nothing_open = refl
tail-limit geometry lines x next _ _ (Approach_open half approach begun left later comes is to whole) = refl
tail-limit geometry lines x next _ _ (Segment_open source text block_delete done before segment rest begun left later comes is split whole) = refl

kept-limit : (geometry : Geometry) (x : DurableState) (s : CutSession) (committed : Option CommittedSession) → SessionKeepsToFold geometry x s committed
    → limit (state_after_session geometry x committed) ≡ limit x
kept-limit geometry x s None keeps = refl
kept-limit geometry x s (Some l) keeps = tail-limit geometry s.lines _ _ l.saved l.more keeps.follows ∙ entries-limit geometry _ l.entries

-- ---- of sessions

large_by : (one other : Bool) → program_limit_of one ≡ program_limit_of other → one ≡ other
large_by true true is = refl
large_by true false is = absurd (omega arith)
large_by false true is = absurd (omega arith)
large_by false false is = refl

-- each session leaves a large device large, and a small one small
abbrev pub StayLarge : {A R : Type 0} → (R → Device) → List (DeviceSession A R) → Type 0
StayLarge seen [] = Unit {0}
StayLarge seen (s ∷ ss) = (is_large s.image ≡ is_large (reads (seen s.rig).trace)) × StayLarge seen ss

found-limit : (is_grown : Bool) (left found : Image) (x : DurableState) → IsFoundAs is_grown left found → limit x ≡ program_limit_of (is_large left)
    → limit (state_found is_grown found x) ≡ program_limit_of (is_large found)
found-limit false left found x same is = is ∙ ap (λ (image : Image). program_limit_of (is_large image)) (sym same)
found-limit true left found x same is = refl

module _ {A R : Type 0} (seen : R → Device) (geometry : Geometry) (tools : List ℤ) where
  session-limit : (s : DeviceSession A R) (given : Option (GivenEvents A R)) (x : DurableState) (committed : Option CommittedSession)
      → KeepsToEntries seen geometry x s given committed → limit (state_after_session geometry x committed) ≡ limit x
  session-limit s None x committed keeps = kept-limit geometry x (cut_within s) committed keeps
  session-limit s (Some g) x None keeps = absurd keeps
  session-limit s (Some g) x (Some l) keeps = kept-limit geometry x _ (Some l) keeps.1

  pub stay-large : (left : Image) (x : DurableState) (life : List (DeviceSession A R)) → limit x ≡ program_limit_of (is_large left)
      → IsLifetime seen geometry left life → LifetimeHolds seen geometry tools x life → StayLarge seen life
  stay-large left x [] is life holds = tt
  stay-large left x (s ∷ ss) is life holds =
      let found = reads (seen s.rig).trace in
      let y = state_found s.is_grown found x in
      let after = state_after_session geometry y holds.0 in
      let one = holds.1.0 in
      let now : limit after ≡ program_limit_of (is_large s.image) = image-limit tools s.image after one.stands_for.state in
      let same = sym now ∙ session-limit s s.given y holds.0 one.entries ∙ found-limit s.is_grown left found x life.0.found is in
      (large_by (is_large s.image) (is_large found) same, stay-large s.image after ss now life.1 holds.1.1)
