-- The exits of power on: a sync, what is found, a checkpoint of the recovered state, and over format 1 one more in
-- format 2.
use Rattle.std.proofs.Common.{◌≡◌, inl, inr, ⊎_elim, ℕ, ◌+◌, ◌<◌, ◌≤◌, List, ℤ, Some, Result, Ok, Err, refl, sym, ◌∙◌, ap, subst, arith}
use Rattle.std.specs.Option.{option_map}
use Rattle.ng_num.specs.declared.fault.Fault.{Fault}
use Rattle.ng_num.specs.declared.fault.Fault.TheVariants.{CountersUsed}
use Rattle.ng_canon.specs.declared.item.Item.{Item}
use Rattle.ng_rig.specs.Trace.{Image, Trace, Synced, reads, items}
use Rattle.ng_rig.specs.Continuation.{IsContinuation, IsSynced}
use Rattle.ng_rig.specs.Only.{WritesOnly}
use Rattle.ng_rig.proofs.ContinuationLemmas.{joined, weaker, stays, on_sync, is_synced}
use Rattle.ng_rig.proofs.WritesOnlyLemmas.{only_more, only_none, only_synced, only_wider}
use Rattle.ng_layout.specs.declared.header.Format.{Format}
use Rattle.ng_layout.specs.declared.header.Format.TheVariants.{One, Two}
use Rattle.ng_layout.specs.declared.header.Header.{Header}
use Rattle.ng_layout.specs.Limits.{greatest_count}
use Rattle.ng_layout.specs.Stands.{in_force, stands, stands_beside, beside_header, beside_format, saved_beside, recovered, closed, IsWritten}
use Rattle.ng_layout.specs.Stored.{StoredModel, DurableState}
use Rattle.ng_layout.proofs.ImageLemmas.{force-within}
use Rattle.ng_journal.specs.Private.CheckpointSteps.{FitsDevice, IsOwnImage, IsBegun, IsEitherUnder, MayFollow}
use Rattle.ng_journal.specs.Private.CheckpointSteps.{WritesState, StoresState, beside, CheckpointSpec}
use Rattle.ng_journal.specs.AtRest.{BelongsTo, IsLaidOut, next_header}
use Rattle.ng_journal.specs.Recovery.{recovered_of, epochs_for, HasCause, BelongsToNext, BelongsToMigration, Renews, IsEitherBeside}
use Rattle.ng_journal.specs.Journal.{StandsBeside}
use Rattle.ng_journal.specs.Private.RecoverySteps.{StandsUnder, IsRead, RestoreSpec, ModernizeSpec, StoresModern, BelongsToModern, modern_by}

-- what an image stands for with a table, given the header in force
pub beside-under : (tools : List ℤ) (image : Image) (h : Header) → in_force image ≡ Some h
    → stands_beside tools image ≡ beside_header tools (Some h) (stands image)
unfolding stands_beside
beside-under tools image h is = λ i. beside_header tools (is i) (stands image)

-- adding a table and recovering can be done in either order
recovered-beside : (tools : List ℤ) (f : Format) (x : DurableState) → recovered (beside_format tools f x) ≡ beside_format tools f (recovered x)
recovered-beside tools One x = refl
recovered-beside tools Two x = refl

module _ (tools : List ℤ) where
  abbrev Same : Trace → Image → List Item → Type 0
  Same old = IsEitherBeside tools (stands_beside tools (reads old)) (recovered_of (stands_beside tools (reads old))) (items old)

  synced_stops : (old : Trace) → IsWritten (reads old) → IsContinuation old (Synced old) (Same old)
  synced_stops old written = on_sync old (Same old) (λ image handed s.
      let same : image ≡ reads old = λ i n. s.0 n i in
      record { state = inl (ap (stands_beside tools) same); written = subst IsWritten (sym same) written; handed_is = s.1 })

  -- no call writes nothing, and a sync neither
  pub none_renews : (trace : Trace) → Renews tools trace trace
  none_renews trace = record {
    middle = trace;
    first = only_none (BelongsToNext (reads trace)) trace;
    second = only_none (BelongsToMigration tools (reads trace)) trace;
    between = inl refl;
  }

  sync_renews : (old new : Trace) → new ≡ Synced old → Renews tools old new
  sync_renews old new is =
      subst (λ (l : Trace). Renews tools old l) (sym is) (record {
        middle = Synced old;
        first = only_synced (BelongsToNext (reads old)) old old (only_none (BelongsToNext (reads old)) old);
        second = only_none (BelongsToMigration tools (reads old)) (Synced old);
        between = inl refl;
      })

  -- the first sync failed
  unsynced : {E : Type 0} (e : E) (saved : StoredModel) (old : Trace) → RestoreSpec tools (Err e) saved old old
  unsynced e saved old = record {
    outcome = tt;
    refused = tt;
    renews = none_renews old;
    laid = tt;
    synced = tt;
    keeps = λ written. record { stops = stays old (Same old); ready = tt };
  }

  pub exit_unsynced : {E : Type 0} (e : E) (saved : StoredModel) (old new : Trace) → new ≡ old → RestoreSpec tools (Err e) saved old new
  exit_unsynced e saved old new same = subst (λ (l : Trace). RestoreSpec tools (Err e) saved old l) (sym same) (unsynced e saved old)

  -- nothing but the sync was done, and a read failed
  pub exit_failed : {E : Type 0} (e : E) (saved : StoredModel) (old new : Trace) → new ≡ Synced old → RestoreSpec tools (Err e) saved old new
  exit_failed e saved old new is = record {
    outcome = tt;
    refused = tt;
    renews = sync_renews old new is;
    laid = tt;
    synced = tt;
    keeps = λ written. record { stops = subst (λ (l : Trace). IsContinuation old l (Same old)) (sym is) (synced_stops old written); ready = tt };
  }

  -- or there is a reason why nothing is recovered
  pub exit_refused : {E : Type 0} (fault : Fault) (saved : StoredModel) (old new : Trace) → new ≡ Synced old
      → HasCause fault (reads old) → RestoreSpec {E = E} tools (Ok (Err fault)) saved old new
  exit_refused fault saved old new is cause = record {
    outcome = cause;
    refused = is;
    renews = sync_renews old new is;
    laid = tt;
    synced = tt;
    keeps = λ written. record { stops = subst (λ (l : Trace). IsContinuation old l (Same old)) (sym is) (synced_stops old written); ready = tt };
  }

  pub exit_found : {E : Type 0} (answer : Result Header Fault) (fault : Fault) (saved : StoredModel)
      (old mid new : Trace) → answer ≡ Err fault → mid ≡ Synced old → new ≡ mid → IsRead saved (reads mid) answer
      → RestoreSpec {E = E} tools (Ok (Err fault)) saved old new
  exit_found answer fault saved old mid new refused is same read =
      exit_refused fault saved old new (same ∙ is)
      (subst (λ (l : Trace). HasCause fault (reads l)) is
      (subst (λ (a : Result Header Fault). IsRead saved (reads mid) a) refused read))

under : (answer : Result Header Fault) (header : Header) (saved : StoredModel) (image : Image) → answer ≡ Ok header
    → IsRead saved image answer → StandsUnder header saved image
under answer header saved image is read = subst (λ (a : Result Header Fault). IsRead saved image a) is read

-- what was found, for a device that hasn't changed
pub found_under : (answer : Result Header Fault) (header : Header) (saved : StoredModel) (mid now : Trace)
    → answer ≡ Ok header → now ≡ mid → IsRead saved (reads mid) answer → StandsUnder header saved (reads now)
found_under answer header saved mid now sound same read = under answer header saved (reads now) sound
    (subst (λ (l : Trace). IsRead saved (reads l) answer) (sym same) read)

pub exit_used : {E : Type 0} (tools : List ℤ) (answer : Result Header Fault) (header : Header) (saved : StoredModel)
    (old mid new : Trace) → answer ≡ Ok header → mid ≡ Synced old → new ≡ mid → IsRead saved (reads mid) answer
    → greatest_count < header.epoch + epochs_for header.format → RestoreSpec {E = E} tools (Ok (Err CountersUsed))
    saved old new
exit_used tools answer header saved old mid new sound is same read last =
    let u = under answer header saved (reads mid) sound read in
    exit_refused tools CountersUsed saved old new (same ∙ is)
    (subst (λ (l : Trace). HasCause CountersUsed (reads l)) is
    (record {
      header = header;
      force = u.force;
      last = last;
      standing = beside saved header.area (reads mid);
      sound = u.state;
    }))

-- the header of the epoch after this one's, in the same area
abbrev Next : Header → StoredModel → Header
Next header saved = next_header header header.area saved.length

abbrev closed_of : StoredModel → StoredModel
closed_of s = record s { half = option_map closed s.half }

-- the next header is that one
pub next_is : (header next : Header) (found saved : StoredModel) (image : Image) → StandsUnder header found image
    → saved ≡ closed_of found → next ≡ next_header header header.area header.length → next ≡ Next header saved
next_is header next found saved image u closed_is is =
    let long : saved.length ≡ header.length = ap (λ (s : StoredModel). s.length) closed_is ∙ u.long in
    is ∙ ap (next_header header header.area) (sym long)

-- If a power on finds the epochs that it needs, at least one is left.
pub one_more : (header : Header) → header.epoch + epochs_for header.format ≤ greatest_count → header.epoch < greatest_count
one_more header room = let one = by header.format in omega arith
  where
    by : (f : Format) → 1 ≤ epochs_for f
    by One = omega arith
    by Two = omega arith

-- The contract of a checkpoint under it.
abbrev pub Promised : {T E : Type 0} → Result T E → Header → StoredModel → Trace → Trace → Type 0
Promised result next saved now new = (header : Header) → IsOwnImage now header → next.epoch ≡ header.epoch + 1
    → MayFollow next header (reads now) → FitsDevice (reads now) next saved
    → CheckpointSpec result header next saved now new

-- ---- what was found under a header, and the recovered state

module _ (tools : List ℤ) (header : Header) (found saved : StoredModel) (old now : Trace) (is : now ≡ Synced old)
    (u : StandsUnder header found (reads now)) (closed_is : saved ≡ closed_of found)
    (more : header.epoch < greatest_count) where
  abbrev standing : DurableState
  standing = beside saved header.area (reads now)

  was : in_force (reads old) ≡ Some header
  was = subst (λ (l : Trace). in_force (reads l) ≡ Some header) is u.force

  raw : stands (reads old) ≡ Ok (beside found header.area (reads now))
  raw = ap (λ (l : Trace). stands (reads l)) (sym is) ∙ u.state

  -- the recovered state, by itself and with the table
  recovered_is : recovered_of (stands (reads old)) ≡ Ok standing
  recovered_is = ap recovered_of raw ∙ ap (λ (s : StoredModel). Ok (beside s header.area (reads now))) (sym closed_is)

  before_is : stands_beside tools (reads old) ≡ beside_header tools (Some header) (stands (reads now))
  before_is = beside-under tools (reads old) header was ∙ ap (λ (l : Trace). beside_header tools (Some header) (stands (reads l))) (sym is)

  pub target_is : recovered_of (stands_beside tools (reads old)) ≡ Ok (beside_format tools header.format standing)
  target_is =
      ap recovered_of (beside-under tools (reads old) header was)
      ∙ ap (λ (x : Result DurableState Fault). recovered_of (beside_header tools (Some header) x)) raw
      ∙ ap (λ (x : DurableState). Ok x) (recovered-beside tools header.format (beside found header.area (reads now)))
      ∙ ap (λ (s : StoredModel). Ok (beside_format tools header.format (beside s header.area (reads now)))) (sym closed_is)

  own_on : IsWritten (reads old) → IsOwnImage now header
  own_on written = record {
    synced = subst IsSynced (sym is) (is_synced old);
    force = u.force;
    written =
        subst (λ (l : Trace). IsWritten (reads l)) (sym is) written;
  }

  -- and it fits the device under the next epoch
  fits : FitsDevice (reads now) (Next header saved) saved
  fits =
      let w = force-within (reads now) header u.force in
      let long : saved.length ≡ header.length = ap (λ (s : StoredModel). s.length) closed_is ∙ u.long in
      record {
        valid = record {
          counted = omega arith;
          few = omega arith;
          area = w.area;
          length =
              omega (arith, long, w.length);
        };
        program_limit = ap (λ (s : StoredModel). s.program_limit) closed_is ∙ u.program_limit;
      }

  done_by : {T E : Type 0} (result : Result T E) (next : Header) (new : Trace) → next ≡ Next header saved
      → IsWritten (reads old) → Promised result next saved now new
      → CheckpointSpec result header (Next header saved) saved now new
  done_by result next new is_next written c =
      subst (λ (h : Header). CheckpointSpec result header h saved now new) is_next
      (c header (own_on written) (ap (λ (h : Header). h.epoch) is_next)
      (inl (ap (λ (h : Header). h.format) is_next))
      (subst (λ (h : Header). FitsDevice (reads now) h saved) (sym is_next) fits))

  -- each stop of the checkpoint, with the table
  through : {T E : Type 0} (result : Result T E) (new : Trace) → IsWritten (reads old)
      → CheckpointSpec result header (Next header saved) saved now new → IsContinuation old new (Same tools old)
  through result new written c =
      joined old now new (Same tools old) (subst (λ (l : Trace). IsContinuation old l (Same tools old)) (sym is) (synced_stops tools old written))
      (weaker now new (IsEitherUnder header (Next header saved) (stands (reads now)) (Ok standing) (items now)) (Same tools old) c.stops
      (λ image handed p. record {
        state = ⊎_elim
            (λ b. inl (beside-under tools image header b.0 ∙ ap (beside_header tools (Some header)) b.1 ∙ sym before_is))
            (λ a. inr (beside-under tools image (Next header saved) a.0 ∙ ap (beside_header tools (Some (Next header saved))) a.1 ∙ sym target_is))
            p.state;
        written = p.written;
        handed_is = p.handed_is ∙ ap items is;
      }))

  -- what a checkpoint writes of what was found is the recovered state
  rewritten : (next : Header) (new : Trace) → next ≡ Next header saved → WritesState next saved now new → WritesOnly (BelongsToNext (reads old)) old new
  rewritten next new is_next writes =
      let w = subst (λ (h : Header). WritesState h saved now new) is_next writes in
      only_more (BelongsToNext (reads old)) old now new
      (subst (λ (l : Trace). WritesOnly (BelongsToNext (reads old)) old l) (sym is)
      (only_synced (BelongsToNext (reads old)) old old (only_none (BelongsToNext (reads old)) old)))
      (only_wider (λ n bytes. BelongsTo (Next header saved) saved n bytes) (BelongsToNext (reads old)) now new
      (λ n bytes own. record { header = header; force = was; standing = standing; is = recovered_is; said = own }) w)

  renewed : (next : Header) (new : Trace) → next ≡ Next header saved → WritesState next saved now new → Renews tools old new
  renewed next new is_next writes =
      record { middle = new; first = rewritten next new is_next writes; second = only_none (BelongsToMigration tools (reads old)) new; between = inl refl }

  -- and so is what is written then in format 2, once all of it is there
  renewed_again : {T E : Type 0} (v : T) (next : Header) (mid new : Trace) → next ≡ Next header saved
      → StoresState {E = E} (Ok v) next saved now mid
      → WritesOnly (λ n bytes. BelongsToModern tools next saved n bytes) mid new → Renews tools old new
  renewed_again v next mid new is_next stores modern =
      let w = subst (λ (h : Header). WritesOnly (λ n bytes. BelongsToModern tools h saved n bytes) mid new) is_next modern in
      record {
        middle = mid;
        first = rewritten next mid is_next stores.writes;
        second = only_wider (λ n bytes. BelongsToModern tools (Next header saved) saved n bytes) (BelongsToMigration tools (reads old)) mid new
            (λ n bytes own. record { header = header; force = was; standing = standing; is = recovered_is; said = own }) w;
        between = inr (record {
          laid = record {
            header = header;
            force = was;
            standing = standing;
            is = recovered_is;
            said =
                subst (λ (h : Header). IsLaidOut h saved (reads mid)) is_next stores.laid;
          };
          synced = stores.synced;
        });
      }

  pub within : {T E F : Type 0} (e : E) (result : Result T F) (next : Header) (end_state : StoredModel) (new : Trace)
      → next ≡ Next header saved → WritesState next saved now new → Promised result next saved now new
      → RestoreSpec tools (Err e) end_state old new
  within e result next end_state new is_next writes c = record {
    outcome = tt;
    refused = tt;
    renews = renewed next new is_next writes;
    laid = tt;
    synced = tt;
    keeps = λ written. record { stops = through result new written (done_by result next new is_next written c); ready = tt };
  }

  -- what is then made of it in format 2
  module _ {T F : Type 0} (v : T) (next : Header) (mid new : Trace) (is_next : next ≡ Next header saved)
      (stores : StoresState {E = F} (Ok v) next saved now mid) (c : Promised {E = F} (Ok v) next saved now mid)
    where
      abbrev ok : Result T F
      ok = Ok v

      first : IsWritten (reads old) → CheckpointSpec {E = F} (Ok v) header (Next header saved) saved now mid
      first written = done_by ok next mid is_next written c

      again : {G : Type 0} (result : Result Header G) → (written : IsWritten (reads old))
          → ModernizeSpec tools result (Next header saved) standing mid new → IsContinuation old new (Same tools old)
      again result written m =
          joined old mid new (Same tools old) (through ok mid written (first written))
          (weaker mid new (StandsBeside tools (beside_format tools header.format standing) (items mid)) (Same tools old) m.stops
          (λ image handed p. record {
            state = inr (p.state ∙ sym target_is);
            written = p.written;
            handed_is =
                p.handed_is ∙ (first written).items_are ∙ ap items is;
          }))

      abbrev Modern : {G : Type 0} → Result Header G → Type 0
      Modern result = (standing : DurableState) → IsBegun mid next standing → standing.saved ≡ saved → ModernizeSpec tools result next standing mid new

      made : {G : Type 0} (result : Result Header G) → (written : IsWritten (reads old)) → Modern result
          → ModernizeSpec tools result (Next header saved) standing mid new
      made result written m =
          subst (λ (h : Header). ModernizeSpec tools result h standing mid new) is_next
          (m standing (subst (λ (h : Header). IsBegun mid h standing) (sym is_next) (first written).at) refl)

      pub exit_modern : {G E : Type 0} (e : E) (result : Result Header G) (end_state : StoredModel)
          → StoresModern tools result next saved mid new → Modern result → RestoreSpec tools (Err e) end_state old new
      exit_modern e result end_state modern m = record {
        outcome = tt;
        refused = tt;
        renews = renewed_again {E = F} v next mid new is_next stores modern.writes;
        laid = tt;
        synced = tt;
        keeps = λ written. record { stops = again result written (made result written m); ready = tt };
      }

      pub exit_restored : {G E : Type 0} (last : Header) (end_state : StoredModel)
          → StoresModern {E = G} tools (Ok last) next saved mid new → Modern {G = G} (Ok last)
          → last ≡ modern_by next.format next → end_state ≡ saved_beside tools next.format saved
          → RestoreSpec {E = E} tools (Ok (Ok last)) end_state old new
      exit_restored {G = G} last end_state modern m last_is end_state_is =
          let is_end_state : end_state ≡ saved_beside tools header.format saved = end_state_is
          ∙ ap (λ (h : Header). saved_beside tools h.format saved) is_next in
          let is_last : last ≡ modern_by header.format (Next header saved) = last_is ∙ ap (λ (h : Header). modern_by h.format h) is_next in
          let told : Result Header G = Ok last in
          record {
            outcome = (
              record { program = standing.program; is = target_is ∙ (λ i. Ok (record { saved = sym is_end_state i; program = standing.program })) },
              record {
                before = header;
                force = was;
                is = is_last ∙ modern_next header.format header saved.length refl
                    (ap (λ (s : StoredModel). s.length) closed_is ∙ u.long);
              },
            );
            refused = tt;
            renews = renewed_again {E = F} v next mid new is_next stores modern.writes;
            laid = subst (λ (s : StoredModel). IsLaidOut last s (reads new)) (sym end_state_is) (modern.laid stores.laid);
            synced = modern.synced stores.synced;
            keeps = λ written.
                let d = made told written m in
                record {
                  stops = again told written d;
                  ready = record { standing = beside_format tools header.format standing; at = d.at; is = target_is; saved_is = is_end_state };
                };
          }
        where
          modern_next : (f : Format) (h : Header) (length : ℕ) → h.format ≡ f → length ≡ h.length
              → modern_by f (next_header h h.area length) ≡ record h { format = Two; epoch = h.epoch + epochs_for f }
          modern_next One h length is long = let epoch : h.epoch + 1 + 1 ≡ h.epoch + 2 = omega arith in λ i.
              record { format = Two; epoch = epoch i; area = h.area; length = long i }
          modern_next Two h length is long = λ i. record { format = is i; epoch = h.epoch + 1; area = h.area; length = long i }
