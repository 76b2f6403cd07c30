-- Histories of a device in terms of its images (own): sessions one after another, each from the image that the one
-- before left; and which stops of a device are such sessions. An image of format 1 is read with a tool table, which
-- power on takes from the settings.
use Rattle.std.specs.Prelude.{◌≡◌, ◌⊎◌, ◌≤◌, ◌+◌, ℕ, ℤ, suc, Option, Some, None, List, [], ◌∷◌, ◌++◌, length, take, drop, Ok}
use Rattle.ng_canon.specs.declared.item.Item.{Item}
use Rattle.ng_rig.specs.Rig.{Device}
use Rattle.ng_rig.specs.Trace.{Image, Trace, reads, items, moment, IsStop}
use Rattle.ng_rig.specs.Continuation.{IsSynced}
use Rattle.ng_layout.specs.Stands.{stands_beside, recovered, IsWritten}
use Rattle.ng_layout.specs.Stored.{StoredModel, DurableState}
use Rattle.ng_journal.specs.Journal.{StandsBeside}
use Rattle.ng_canon.specs.declared.geometry.Geometry.{Geometry}
use Rattle.ng_session.specs.Entries.{Entry}
use Rattle.ng_session.specs.Runs.{session_at_power_on, entries_of, under_way, dones, lines_given}
use Rattle.ng_session.specs.Fold.{FollowFold, after_all, items_all}
use Rattle.ng_session.specs.Cuts.{UncommittedTail}
use Rattle.ng_session.specs.declared.event.Event.{Event}
use Rattle.ng_session.specs.declared.reply.Reply.{Reply}
use Rattle.ng_core.specs.Model.{ControllerModel}
use Rattle.ng_core.specs.Moments.{AtEachStop, answered_by}
use Rattle.ng_core.specs.Runs.{tried_events}
use Rattle.ng_core.specs.Power.{PowerOnResult, PowerOnSpecIfHonest}
use Rattle.ng_core.specs.Headline.{IsAccounted, Accounts}

-- ---- a session

-- What is known of a session after power was cut: the lines that its operator gave, the entries that it executed until
-- then or in the event under way, what it had under way then, how many entries were acknowledged, the image that is
-- left, and the items that it handed out.
pub record CutSession : Type 0 where
  pub lines : List (List ℕ)
  pub executed : List Entry
  pub begun : List Entry
  pub acknowledged : ℕ
  pub image : Image
  pub items : List Item

-- Power was cut within power on: the image stands for the state before, or for the recovered state. Nothing was
-- executed, and nothing handed out.
pub record IsCutWithinPowerOn (tools : List ℤ) (x : DurableState) (s : CutSession) : Type 0 where
  pub executed : s.executed ≡ []
  pub acknowledged : s.acknowledged ≡ 0
  pub stands_for : StandsBeside tools x [] s.image s.items ⊎ StandsBeside tools (recovered x) [] s.image s.items

-- A session from an image that stands for a state and that only such a controller wrote. Power was cut within power on
-- or after it. In the second case what is stored and what was handed out is accounted for, from the recovered state.
pub record IsSession (geometry : Geometry) (tools : List ℤ) (image : Image) (s : CutSession) : Type 0 where
  pub standing : DurableState
  pub state : stands_beside tools image ≡ Ok standing
  pub written : IsWritten image
  pub cut : IsCutWithinPowerOn tools standing s ⊎ IsAccounted geometry s.lines (recovered standing) [] s.executed s.begun s.acknowledged s.image s.items

-- ---- a history

-- each session begins with the image that the one before left
abbrev pub IsImageHistory : Geometry → List ℤ → Image → List CutSession → Type 0
IsImageHistory geometry tools image [] = Unit {0}
IsImageHistory geometry tools image (s ∷ ss) = IsSession geometry tools image s × IsImageHistory geometry tools s.image ss

abbrev pub all_items : List CutSession → List Item
all_items [] = []
all_items (s ∷ ss) = s.items ++ all_items ss

abbrev pub last_image : Image → List CutSession → Image
last_image image [] = image
last_image image (s ∷ ss) = last_image s.image ss

-- What a session committed after power on: its entries, and what followed them.
pub record CommittedSession : Type 0 where
  pub entries : List Entry
  pub saved : StoredModel
  pub more : List Item

-- the state after a session; `None` if power was cut within power on
abbrev pub state_after_session : Geometry → DurableState → Option CommittedSession → DurableState
state_after_session geometry x None = x
state_after_session geometry x (Some l) = record { saved = l.saved; program = (after_all geometry (recovered x) l.entries).program }

abbrev pub items_of_session : Geometry → DurableState → Option CommittedSession → List Item
items_of_session geometry x None = []
items_of_session geometry x (Some l) = items_all geometry (recovered x) l.entries ++ l.more

abbrev pub fold_items : Geometry → DurableState → List (Option CommittedSession) → List Item
fold_items geometry x [] = []
fold_items geometry x (l ∷ ls) = items_of_session geometry x l ++ fold_items geometry (state_after_session geometry x l) ls

abbrev pub fold_state : Geometry → DurableState → List (Option CommittedSession) → DurableState
fold_state geometry x [] = x
fold_state geometry x (l ∷ ls) = fold_state geometry (state_after_session geometry x l) ls

-- The first of the executed entries, as many as were acknowledged or one more, and after them what may follow if the
-- others come next.
pub record KeepsToFold (geometry : Geometry) (x : DurableState) (s : CutSession) (l : CommittedSession) : Type 0 where
  pub count : ℕ
  pub all : s.acknowledged ≤ count
  pub few : count ≤ s.acknowledged + 1
  pub within : count ≤ length s.executed
  pub entries : l.entries ≡ take count s.executed
  pub valid : FollowFold geometry s.lines (recovered x) l.entries
  pub follows : UncommittedTail geometry s.lines (after_all geometry (recovered x) l.entries) (drop count (s.executed ++ s.begun)) l.saved l.more

abbrev pub SessionKeepsToFold : Geometry → DurableState → CutSession → Option CommittedSession → Type 0
SessionKeepsToFold geometry x s None = s.acknowledged ≡ 0
SessionKeepsToFold geometry x s (Some l) = KeepsToFold geometry x s l

-- each session keeps to the fold, each from the state after the one before
abbrev pub EachKeepsToFold : Geometry → DurableState → List CutSession → List (Option CommittedSession) → Type 0
EachKeepsToFold geometry x [] [] = Unit {0}
EachKeepsToFold geometry x [] (l ∷ ls) = ⊥
EachKeepsToFold geometry x (s ∷ ss) [] = ⊥
EachKeepsToFold geometry x (s ∷ ss) (l ∷ ls) = SessionKeepsToFold geometry x s l × EachKeepsToFold geometry (state_after_session geometry x l) ss ls

-- However often power is cut: the last image stands for the fold's state, and what was handed out in all sessions is
-- what the fold hands out for each session's entries, with what follows them.
abbrev pub CutsOfImageHistory : Type 0
CutsOfImageHistory = (geometry : Geometry) (tools : List ℤ) (image : Image) (x : DurableState)
    (history : List CutSession) → stands_beside tools image ≡ Ok x → IsWritten image
    → IsImageHistory geometry tools image history →
    (committed : List (Option CommittedSession)) × EachKeepsToFold geometry x history committed
    × StandsBeside tools (fold_state geometry x committed) (fold_items geometry x committed) (last_image image history) (all_items history)

-- ---- which stops are sessions

-- A stop leaves a session from this image, with these lines given, these entries executed and begun, and this many
-- acknowledged; these items were handed out before it.
pub record LeavesSession (geometry : Geometry) (tools : List ℤ) (image : Image) (before : List Item)
    (lines : List (List ℕ)) (executed begun : List Entry) (acknowledged : ℕ) (left : Image) (handed : List Item) :
    Type 0 where
  pub items : List Item
  pub handed_is : handed ≡ before ++ items
  pub session : IsSession geometry tools image
      (record {
        lines = lines;
        executed = executed;
        begun = begun;
        acknowledged = acknowledged;
        image = left;
        items = items;
      })

-- Whatever power on returns, there are two cases for each stop since it began. Either the device could have had that
-- stop at the beginning, with what came before; or it leaves a session from what the device read at the beginning, with
-- no lines given and nothing executed. If the device was synced at the beginning, as after a cut, the second case
-- holds.
abbrev pub SessionsWithinPowerOn : {R : Type 0} → (R → Device) → Type 0
SessionsWithinPowerOn {R} seen = (geometry : Geometry) (tools : List ℤ) (x : DurableState)
    (result : PowerOnResult R) (old new : Trace) → PowerOnSpecIfHonest tools result old new
    → stands_beside tools (reads old) ≡ Ok x → IsWritten (reads old) →
    AtEachStop old new (λ t image handed. IsStop old image handed ⊎ LeavesSession geometry tools (reads old) (items old) [] [] [] 0 image handed)
    × (IsSynced old → AtEachStop old new (λ t. LeavesSession geometry tools (reads old) (items old) [] [] [] 0))

-- A stop at the moment t leaves a session from this image. The entries executed and begun, and the lines, are those of
-- the events answered by then and of the one under way. As many entries were acknowledged as there were replies of Done
-- by then.
abbrev pub LeavesSessionBy : {A R : Type 0} (seen : R → Device) (tools : List ℤ) (image : Image) (x : DurableState)
    (events : List (Event A)) (replies : List Reply) (moments : List ℕ) (first now : ControllerModel R)
    → Accounts seen (recovered x) events replies moments first now → ℕ → Image → List Item → Type 0
LeavesSessionBy seen tools image x events replies moments first now accounts t =
    let n = answered_by t moments in
    let tried = tried_events (take (suc n) events) accounts.passes.answers in
    let scene = session_at_power_on (recovered x) in
    LeavesSession first.geometry tools image (items (seen first.journal.rig).trace)
    (lines_given (take (suc n) events)) (entries_of first.geometry scene tried)
    (under_way first.geometry scene tried) (dones (take n replies))

-- Each stop since power on leaves a session from the image that power on began with.
abbrev pub SessionsAfterPowerOn : {R : Type 0} → Type 0 → (R → Device) → Type 0
SessionsAfterPowerOn {R} A seen = (tools : List ℤ) (image : Image) (x : DurableState) (events : List (Event A))
    (replies : List Reply) (moments : List ℕ) (first now : ControllerModel R)
    (accounts : Accounts seen (recovered x) events replies moments first now)
    → stands_beside tools image ≡ Ok x → IsWritten image
    → AtEachStop (seen first.journal.rig).trace (seen now.journal.rig).trace (LeavesSessionBy seen tools image x events replies moments first now accounts)

-- Power on again with no cut before it: what the device reads then is what a stop of the session before leaves. Each
-- stop since leaves that session, or one from what the device reads then.
abbrev pub SessionsAnew : {R : Type 0} → Type 0 → (R → Device) → Type 0
SessionsAnew {R} A seen = (tools : List ℤ) (image : Image) (x : DurableState) (events : List (Event A))
    (replies : List Reply) (moments : List ℕ) (first now : ControllerModel R)
    (accounts : Accounts seen (recovered x) events replies moments first now)
    (geometry : Geometry) (result : PowerOnResult R) (new : Trace) → stands_beside tools image ≡ Ok x
    → IsWritten image → PowerOnSpecIfHonest tools result (seen now.journal.rig).trace new →
    let old = (seen now.journal.rig).trace in let Leaves = LeavesSessionBy seen tools image x events replies moments first now accounts (moment old) in
    Leaves (reads old) (items old)
    × AtEachStop old new (λ t left handed. Leaves left handed ⊎ LeavesSession geometry tools (reads old) (items old) [] [] [] 0 left handed)
