-- A lifetime of a device in a file is one of a device, since what each loss of power leaves is a stop.
use Rattle.std.proofs.Common.{◌≡◌, ◌⊎◌, ◌<◌, ◌≤◌, ◌-◌, Bool, true, false, if◌then◌else◌, nat_le, nat_lt, List, ◌∷◌, ◌++◌, length, Option, None, Some, ℕ, ℤ, []}
use Rattle.std.proofs.Common.{Ok, Err, refl, sym, ap, subst, inl, inr, ◌∙◌, arith}
use Rattle.std.proofs.lemmas.Bool.Decides.{nat_tests}
use Rattle.ng_canon.specs.declared.geometry.Geometry.{Geometry}
use Rattle.ng_rig.specs.Continuation.{IsSynced}
use Rattle.ng_rig.specs.Extent.{HasExtent}
use Rattle.ng_rig.specs.Trace.{Image, Trace, Began, reads, items, moment, trace_at, IsStop}
use Rattle.ng_layout.specs.Areas.{is_large_size, large_size}
use Rattle.ng_layout.specs.declared.header.Format.TheVariants.{Two}
use Rattle.ng_layout.specs.Header.{header_at}
use Rattle.ng_layout.specs.Stands.{is_large, IsModern}
use Rattle.ng_layout.proofs.ImageLemmas.{modern-beside}
use Rattle.ng_journal.specs.AtRest.{IsImageUnder}
use Rattle.ng_journal.specs.Formatting.{first_header, fresh_standing}
use Rattle.ng_journal.specs.Recovery.{IsTableOver}
use Rattle.ng_journal.proofs.AtRestLemmas.{at_rest}
use Rattle.ng_core.specs.Lifetime.{DeviceSession, EndsSession, GivenEvents, HasOneTable, IsDeviceSession, IsFoundAs, IsLifetime, KeepsFromFormat, KeepsFromImage}
use Rattle.ng_core.specs.Lifetime.{StopsSession}
use Rattle.ng_core.specs.Power.{PowerOnResult, power_on_rig}
use Rattle.ng_file.specs.Promise.{Promise, IsLeft}
use Rattle.ng_file.specs.Rig.{device_of, sector_count, storage_at}
use Rattle.ng_file.specs.Sectors.{image_of}
use Rattle.ng_file.specs.declared.rig.FileRig.{FileRig}
use Rattle.ng_file.proofs.SectorLemmas.{extent}
use Rattle.ng_console.proofs.DeviceLimitLemmas.{StayLarge, image-limit, stay-large}
use Rattle.ng_console.proofs.HonestDeviceLemmas.{honest-after-all, honest-powered}
use Rattle.ng_console.proofs.LengthenedDeviceLemmas.{is-grown}
use Rattle.ng_console.proofs.SmallAreaLemmas.{format-small, session-small}
use Rattle.ng_console.specs.FileLifetime.{EndsInFile, IsFileLifetime, IsFileSession, KeepsFileFromFormat, KeepsFileFromImage, LosesPower}
use Rattle.ng_console.specs.Lengthening.{IsFoundInFile, NamesSmallAreas, grows}

-- ---- what power on finds

found-as : (is_grown : Bool) (left found : Image) → (is_grown ≡ true → NamesSmallAreas left) → IsFoundInFile is_grown left found → IsFoundAs is_grown left found
found-as false left found small is = is
found-as true left found small is = is-grown left found (small refl) is

-- what is asked of an image before a session, and before the sessions after it
abbrev NamesAreasIf : (is_grown rest : Bool) → Image → Type 0
NamesAreasIf is_grown rest left = (if is_grown then true else rest) ≡ true → is_large left ≡ false → NamesSmallAreas left

small-grown : (is_grown rest : Bool) (left found : Image) → NamesAreasIf is_grown rest left → IsFoundInFile is_grown left found
    → is_grown ≡ true → NamesSmallAreas left
small-grown true rest left found areas is e = areas refl is.small
small-grown false rest left found areas is e = absurd (cc)

small-found : (is_grown rest : Bool) (left found : Image) → NamesAreasIf is_grown rest left → rest ≡ true → IsFoundInFile is_grown left found
    → is_large found ≡ false → NamesSmallAreas found
small-found false rest left found areas more is small =
    subst (λ (image : Image). NamesSmallAreas image) (sym is) (areas more (subst (λ (image : Image). is_large image ≡ false) is small))
small-found true rest left found areas more is small = λ k lt.
    subst (λ (c : List ℕ). (header_at Two c).area ≤ 1) (sym (is.same k (omega arith))) (areas refl is.small k lt)

-- a device that reads as a small one has fewer sectors than a large one
few-sectors : (count : ℕ) (image : Image) → HasExtent count image → is_large image ≡ false → is_large_size count ≡ false
few-sectors count image extents small = elim (side (large_size - 1) count) [
  | inl within ↦ absurd (none (length (image (large_size - 1))) (extents.within (large_size - 1) within) small)
  | inr past ↦ below count past
]
  where
    side : (n m : ℕ) → (n < m) ⊎ (m ≤ n)
    side n m = grind arith

    none : (n : ℕ) → 0 < n → nat_lt 0 n ≡ false → ⊥
    none n some is = grind (arith, nat_tests)

    below : (n : ℕ) → n ≤ large_size - 1 → nat_le large_size n ≡ false
    below n le = grind (arith, nat_tests)

-- something holds of each session and of what was left before it
abbrev EachBefore : {A R : Type 0} → (Image → DeviceSession A R → Type 0) → Image → List (DeviceSession A R) → Type 0
EachBefore Before left [] = Unit {0}
EachBefore Before left (s ∷ ss) = Before left s × EachBefore Before s.image ss

-- ---- what is left

module _ {S W A E : Type 0} (content : S → Option (List ℕ)) (promise : S → Promise)
    (law : (rig : FileRig S W A) (t : ℕ) (image : Image) → (device_of content promise rig).honest → t ≤ moment (device_of content promise rig).trace
    → IsLeft (sector_count rig) (promise (storage_at t rig)) image
    → IsStop (trace_at t (device_of content promise rig).trace) image (items (trace_at t (device_of content promise rig).trace))) where
  -- what is left is a stop of the session, before which nothing was handed out
  stops : (s : DeviceSession E (FileRig S W A)) (image : Image) (old : Trace) (first : ℕ) (rig : FileRig S W A) → old ≡ Began image → (device_of content promise rig).honest
      → LosesPower content promise s first rig → StopsSession s (items old) first (device_of content promise rig).trace
  stops s image old first rig begins honest loses =
      record {
        from = loses.from;
        until = loses.until;
        stop = ((law rig s.at s.image honest loses.until loses.left).0, ap (λ (t : Trace). items t ++ s.items) begins ∙ loses.handed);
      }

  module _ (s : DeviceSession E (FileRig S W A)) (image : Image) (begins : (device_of content promise s.rig).trace ≡ Began image) where
    within : (device_of content promise (power_on_rig s.answer)).honest → EndsInFile content promise s None → EndsSession (device_of content promise) s None
    within honest loses =
        let old = (device_of content promise s.rig).trace in (
          stops s image old (moment old) (power_on_rig s.answer) begins honest
              (subst (λ (n : ℕ). LosesPower content promise s n (power_on_rig s.answer)) (sym (ap moment begins)) loses),
          inl (subst IsSynced (sym begins) (record { one = λ n c may. may })),
        )

    after : (g : GivenEvents E (FileRig S W A)) → (device_of content promise (power_on_rig s.answer)).honest → EndsInFile content promise s (Some g)
        → EndsSession (device_of content promise) s (Some g)
    after g honest ends =
        let powered : (device_of content promise g.first.journal.rig).honest =
        subst (λ (a : PowerOnResult (FileRig S W A)). (device_of content promise (power_on_rig a)).honest) ends.1 honest in (
          stops s image (device_of content promise s.rig).trace (moment (device_of content promise g.first.journal.rig).trace) g.now.journal.rig begins
              (honest-after-all (device_of content promise) g.events g.replies g.first g.now ends.2.0 powered) ends.0,
          ends.1,
          ends.2,
        )

    given : (g : Option (GivenEvents E (FileRig S W A))) → (device_of content promise (power_on_rig s.answer)).honest → EndsInFile content promise s g
        → EndsSession (device_of content promise) s g
    given None honest ends = within honest ends
    given (Some g) honest ends = after g honest ends

  session : (geometry : Geometry) (left : Image) (s : DeviceSession E (FileRig S W A)) → (s.is_grown ≡ true → NamesSmallAreas left)
      → IsFileSession content promise geometry left s → IsDeviceSession (device_of content promise) geometry left s
  session geometry left s small f =
      let image = image_of (sector_count s.rig) (content f.file) in
      let honest : (device_of content promise s.rig).honest = f.over.honest f.honest f.durable in
      record {
        honest = honest;
        enough = f.enough;
        found = subst (IsFoundAs s.is_grown left) (sym (ap reads f.over.begins)) (found-as s.is_grown left image small f.found);
        geometry_is = f.geometry_is;
        powers = f.powers;
        ends = given s image f.over.begins s.given (honest-powered (device_of content promise) s.settings s.rig s.answer f.powers honest) f.ends;
      }

  -- what the headers of a small device name stays so
  small-after : (geometry : Geometry) (left : Image) (s : DeviceSession E (FileRig S W A)) (rest : Bool) → NamesAreasIf s.is_grown rest left
      → IsFileSession content promise geometry left s → IsDeviceSession (device_of content promise) geometry left s
      → is_large s.image ≡ is_large (reads (device_of content promise s.rig).trace) → rest ≡ true → is_large s.image ≡ false → NamesSmallAreas s.image
  small-after geometry left s rest areas f d stays more small =
      let image = image_of (sector_count s.rig) (content f.file) in
      let found : is_large image ≡ false = ap (λ (trace : Trace). is_large (reads trace)) (sym f.over.begins) ∙ sym stays ∙ small in
      let extents : HasExtent (sector_count s.rig) image = subst (HasExtent (sector_count s.rig)) (ap reads f.over.begins) (extent d.honest.1.0) in
      session-small (device_of content promise) s image f.over.begins (small-found s.is_grown rest left image areas more f.found found) d.honest
      (few-sectors (sector_count s.rig) image extents found) f.enough f.powers d.ends

  -- From what is known of any such sessions, that each leaves a large device large and a small one small.
  pub lifetime : (Before : Image → DeviceSession E (FileRig S W A) → Type 0) (geometry : Geometry) (left : Image) (life : List (DeviceSession E (FileRig S W A)))
      → ((more : List (DeviceSession E (FileRig S W A))) → EachBefore Before left more → IsLifetime (device_of content promise) geometry left more
      → StayLarge (device_of content promise) more)
      → EachBefore Before left life → (grows life ≡ true → is_large left ≡ false → NamesSmallAreas left) → IsFileLifetime content promise geometry left life
      → IsLifetime (device_of content promise) geometry left life
  lifetime Before geometry left [] stay before areas in_files = tt
  lifetime Before geometry left (s ∷ ss) stay before areas in_files =
      let d = session geometry left s (small-grown s.is_grown (grows ss) left (image_of (sector_count s.rig) (content in_files.0.file)) areas in_files.0.found) in_files.0 in
      let stays = (stay (s ∷ []) (before.0, tt) (d, tt)).0 in (
        d,
        lifetime Before geometry s.image ss (λ more each is. (stay (s ∷ more) (before.0, each) (d, is)).1) before.1
            (small-after geometry left s (grows ss) areas in_files.0 d stays) in_files.1,
      )

  -- ---- the laws

  each-table : (tools : List ℤ) (left : Image) (life : List (DeviceSession E (FileRig S W A))) → HasOneTable tools left life
      → EachBefore (λ image s. IsTableOver s.settings.tools tools image) left life
  each-table tools left [] table = tt
  each-table tools left (s ∷ ss) table = (table.0, each-table tools s.image ss table.1)

  one-table : (tools : List ℤ) (left : Image) (life : List (DeviceSession E (FileRig S W A)))
      → EachBefore (λ image s. IsTableOver s.settings.tools tools image) left life → HasOneTable tools left life
  one-table tools left [] each = tt
  one-table tools left (s ∷ ss) each = (each.0, one-table tools s.image ss each.1)

  any-before : (left : Image) (life : List (DeviceSession E (FileRig S W A))) → EachBefore (λ image s. Unit {0}) left life
  any-before left [] = tt
  any-before left (s ∷ ss) = (tt, any-before s.image ss)

  pub from-image : KeepsFromImage E (device_of {W = W} {A = A} content promise) → KeepsFileFromImage W A E content promise
  from-image holds geometry tools left x life stands written table areas in_files =
      let seen = device_of {W = W} {A = A} content promise in
      let stay = λ (more : List (DeviceSession E (FileRig S W A))) (each : EachBefore (λ image s. IsTableOver s.settings.tools tools image) left more)
      (is : IsLifetime seen geometry left more). stay-large seen geometry tools left x more (image-limit tools left x stands) is
      (holds geometry tools left x more stands written (one-table tools left more each) is) in
      holds geometry tools left x life stands written table
      (lifetime (λ image s. IsTableOver s.settings.tools tools image) geometry left life stay (each-table tools left life table) areas in_files)

  pub from-format : KeepsFromFormat E (device_of {W = W} {A = A} content promise) → KeepsFileFromFormat W A E content promise
  from-format holds (Err e) most old new f = tt
  from-format holds (Ok v) most old new f = λ geometry tools life in_files.
      let seen = device_of {W = W} {A = A} content promise in
      let r : IsImageUnder new first_header (fresh_standing most) = at_rest new first_header (fresh_standing most) f.at in
      let m : IsModern (reads new) = record { header = first_header; force = r.force; format = refl } in
      let limit = image-limit tools (reads new) (fresh_standing most) (modern-beside tools (reads new) m ∙ r.stands_for) in
      let stay = λ (more : List (DeviceSession E (FileRig S W A))) (each : EachBefore (λ image s. Unit {0}) (reads new) more)
      (is : IsLifetime seen geometry (reads new) more). stay-large seen geometry tools (reads new) (fresh_standing most) more limit is
      (holds (Ok v) most old new f geometry tools more is) in
      holds (Ok v) most old new f geometry tools life
      (lifetime (λ image s. Unit {0}) geometry (reads new) life stay (any-before (reads new) life) (λ grown small. format-small (Ok v) most old new f) in_files)
