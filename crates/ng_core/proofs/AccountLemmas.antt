-- What a stop leaves of a history, in terms of the plain interpreter.
use Rattle.std.proofs.Common.{◌≡◌, ⊎_elim, ℕ, zero, suc, Bool, Option, Some, None, List, [], ◌∷◌, ◌++◌, length}
use Rattle.std.proofs.Common.{take, drop, Result, Ok, Err, refl, sym, ◌∙◌, ap, subst, append_assoc, length-append}
use Rattle.std.proofs.Common.{arith}
use Rattle.std.proofs.lemmas.List.{take-append-drop}
use Rattle.std.specs.List.{Contains}
use Rattle.std.proofs.lemmas.List.Elements.{Contains-append_left, Contains-append_right, Contains-append_cases}
use Rattle.ng_num.specs.declared.fault.Fault.{Fault}
use Rattle.ng_num.specs.declared.fault.Fault.TheVariants.{DeviceFailed}
use Rattle.ng_canon.specs.declared.item.Item.{Item}
use Rattle.ng_rig.specs.Rig.{Device}
use Rattle.ng_rig.specs.Trace.{Image, items}
use Rattle.ng_block.specs.Effects.{Done}
use Rattle.ng_layout.specs.Stored.{HalfModel, StoredModel, DurableState}
use Rattle.ng_layout.specs.declared.half.Source.{Source}
use Rattle.ng_layout.specs.declared.half.Source.TheVariants as source
use Rattle.ng_canon.specs.declared.geometry.Geometry.{Geometry}
use Rattle.ng_session.specs.Entries.{Entry, Block, Loaded, Referenced, Approached, Abandoned, Tooled}
use Rattle.ng_session.specs.Fold.{after, IsTextOf, IsBlock, FollowFold}
use Rattle.ng_session.specs.Session.{SessionModel}
use Rattle.ng_session.specs.Runs.{ProgramSession, CrashState, session_at_power_on, leads_to, session_of_transition}
use Rattle.ng_session.specs.Runs.{session_after, entries_of, entry_of, under_way, crash_after, dones, given_by}
use Rattle.ng_session.specs.Runs.{lines_given}
use Rattle.ng_session.specs.Cuts.{UncommittedTail, Nothing_open, Approach_open, Segment_open, IsCut}
use Rattle.ng_session.specs.declared.event.Event.{Event}
use Rattle.ng_session.specs.declared.reply.Reply.{Reply}
use Rattle.ng_session.proofs.CutLemmas.{crash_after_events, cut_later}
use Rattle.ng_core.specs.Model.{ControllerModel}
use Rattle.ng_core.specs.Moments.{answered_by}
use Rattle.ng_core.specs.Runs.{tried_events}
use Rattle.ng_core.specs.Headline.{IsAccounted, IsPast, Accounts}
use Rattle.ng_core.proofs.HistoryLemmas.{History}
use Rattle.ng_core.proofs.ExchangeLemmas.{exchanges_history}
use Rattle.ng_core.proofs.HistoryStopLemmas.{Leads, IsLeftBy, leads, passed}
use Rattle.ng_core.proofs.MomentLemmas.{weaker_said}

-- ---- more lines of the operator

abbrev AreAmong : List (List ℕ) → List (List ℕ) → Type 0
AreAmong lines more = (text : List ℕ) → Contains lines text → Contains more text

module _ (geometry : Geometry) (lines more : List (List ℕ)) (among : AreAmong lines more) where
  more_text : (x : DurableState) (half : Option HalfModel) (from : Source) (text : List ℕ) (block_delete : Bool)
      (done : Done) → IsTextOf lines x half from text block_delete done
      → IsTextOf more x half from text block_delete done
  more_text x None source.Program text block_delete done is = is
  more_text x None source.Mdi text block_delete done is = among text is
  more_text x (Some half) from text block_delete done is = is

  more_block : (x : DurableState) (from : Source) (text : List ℕ) (block_delete : Bool) (done : Done)
      → IsBlock geometry lines x from text block_delete done → IsBlock geometry more x from text block_delete done
  more_block x from text block_delete done is = record { does = is.does; text_is = more_text x x.saved.half from text block_delete done is.text_is }

  more_valid : (x : DurableState) (entries : List Entry) → FollowFold geometry lines x entries → FollowFold geometry more x entries
  more_valid x [] are = tt
  more_valid x (Block from text block_delete ∷ entries) are = (
    (are.0.0, more_block x from text block_delete are.0.0 are.0.1),
    more_valid (after geometry x (Block from text block_delete)) entries are.1,
  )
  more_valid x (Loaded text ∷ entries) are = (are.0, more_valid (after geometry x (Loaded text)) entries are.1)
  more_valid x (Referenced point ∷ entries) are = (are.0, more_valid (after geometry x (Referenced point)) entries are.1)
  more_valid x (Approached ∷ entries) are = (are.0, more_valid (after geometry x Approached) entries are.1)
  more_valid x (Abandoned ∷ entries) are = (are.0, more_valid (after geometry x Abandoned) entries are.1)
  more_valid x (Tooled slot nm ∷ entries) are = (are.0, more_valid (after geometry x (Tooled slot nm)) entries are.1)

  more_follows : (x : DurableState) (next : List Entry) (saved : StoredModel) (given : List Item)
      → UncommittedTail geometry lines x next saved given → UncommittedTail geometry more x next saved given
  more_follows x next _ _ Nothing_open = Nothing_open
  more_follows x next _ _ (Approach_open half approach begun left later comes held way whole) =
      Approach_open half approach begun left later comes held way whole
  more_follows x next _ _ (Segment_open from text block_delete done before segment rest begun left later comes is split whole) =
      Segment_open from text block_delete done before segment rest begun left later comes (more_block x from text block_delete done is) split whole

  more_cut : (x : DurableState) (before : List Item) (entries next : List Entry) (left : CrashState)
      → IsCut geometry lines x before entries next left → IsCut geometry more x before entries next left
  more_cut x before entries next left cut = record {
    valid = more_valid x entries cut.valid;
    program = cut.program;
    more = cut.more;
    items = cut.items;
    follows = more_follows _ next left.standing.saved cut.more cut.follows;
  }

either_line : (front old new : List (List ℕ)) → AreAmong old new → AreAmong (front ++ old) (front ++ new)
either_line front old new among text there =
    ⊎_elim (λ c. Contains-append_left front new text c) (λ c. Contains-append_right front new text (among text c)) (Contains-append_cases front old text there)

-- the lines of the first events
taken_lines : {A : Type 0} (n : ℕ) (events : List (Event A)) → AreAmong (lines_given (take n events)) (lines_given events)
taken_lines zero events text there = absurd (let few = there.1 in omega (arith, few))
taken_lines (suc n) [] text there = there
taken_lines (suc n) (event ∷ events) text there = either_line (given_by event) (lines_given (take n events))
    (lines_given events) (taken_lines n events) text there

-- the lines of the events that were tried
tried_lines : {A : Type 0} (events : List (Event A)) (answers : List (Result Reply Fault))
    → AreAmong (lines_given (tried_events events answers)) (lines_given events)
tried_lines [] answers text there = there
tried_lines (event ∷ events) [] text there = absurd (let few = there.1 in omega (arith, few))
tried_lines (event ∷ events) (Ok r ∷ answers) text there =
    either_line (given_by event) (lines_given (tried_events events answers)) (lines_given events)
    (tried_lines events answers) text there
tried_lines (event ∷ events) (Err DeviceFailed ∷ answers) text there =
    either_line (given_by event) [] (lines_given events) (λ t c. absurd (let few = c.1 in omega (arith, few))) text there
tried_lines (event ∷ events) (Err fault ∷ answers) text there = Contains-append_right (given_by event)
    (lines_given events) text (tried_lines events answers text there)

-- ---- beginnings

take_begun : {X : Type 0} (some rest : List X) → take (length some) (some ++ rest) ≡ some
take_begun [] rest = refl
take_begun {X} (x ∷ some) rest = ap (λ (l : List X). x ∷ l) (take_begun some rest)

drop_begun : {X : Type 0} (some rest last : List X) → drop (length some) ((some ++ rest) ++ last) ≡ rest ++ last
drop_begun [] rest last = refl
drop_begun (x ∷ some) rest last = drop_begun some rest last

entries_more : {A : Type 0} (geometry : Geometry) (scene : ProgramSession) (some rest : List (Event A))
    → entries_of geometry scene (some ++ rest) ≡ entries_of geometry scene some ++ entries_of geometry
    (session_after geometry scene some) rest
entries_more geometry scene [] rest = refl
entries_more geometry scene (event ∷ some) rest =
    let out = leads_to geometry scene event in
    ap (λ (l : List Entry). out.entries ++ l) (entries_more geometry (session_of_transition out) some rest)
    ∙ sym (append_assoc out.entries (entries_of geometry (session_of_transition out) some)
    (entries_of geometry (session_after geometry (session_of_transition out) some) rest))

session_more : {A : Type 0} (geometry : Geometry) (scene : ProgramSession) (some rest : List (Event A))
    → session_after geometry scene (some ++ rest) ≡ session_after geometry (session_after geometry scene some) rest
session_more geometry scene [] rest = refl
session_more geometry scene (event ∷ some) rest = session_more geometry (session_of_transition (leads_to geometry scene event)) some rest

-- ---- a stop

accounted : {A : Type 0} (geometry : Geometry) (x : DurableState) (given : List Item) (events : List (Event A))
    (answers : List (Result Reply Fault)) (replies : List Reply) (n : ℕ) (image : Image) (handed : List Item)
    → IsLeftBy geometry (session_at_power_on x) given events answers replies n image handed
    → let tried = tried_events (take (suc n) events) answers in
    IsAccounted geometry (lines_given (take (suc n) events)) x given
    (entries_of geometry (session_at_power_on x) tried) (under_way geometry (session_at_power_on x) tried)
    (dones (take n replies)) image handed
accounted {A} geometry x given events answers replies n image handed p =
    let scene = session_at_power_on x in
    let lines = lines_given (take (suc n) events) in
    let tried = tried_events (take (suc n) events) answers in
    let some = take p.after.count tried in
    let rest = drop p.after.count tried in
    let there = session_after geometry scene some in
    let entries = entries_of geometry scene some in
    let later = entries_of geometry there rest in
    let last = under_way geometry there rest in
    let executed = entries_of geometry scene tried in
    let cut = crash_after_events A geometry x given some in
    let left = crash_after geometry scene given some in
    let split : some ++ rest ≡ tried = take-append-drop p.after.count tried in
    let first : executed ≡ entries ++ later = ap (λ (l : List (Event A)). entries_of geometry scene l) (sym split) ∙ entries_more geometry scene some rest in
    let ends : under_way geometry scene tried ≡ last =
    ap (λ (s : ProgramSession). entry_of s.session.current)
    (ap (λ (l : List (Event A)). session_after geometry scene l) (sym split)
    ∙ session_more geometry scene some rest) in
    let same : take (length entries) executed ≡ entries = ap (λ (l : List Entry). take (length entries) l) first ∙ take_begun entries later in
    let next : drop (length entries) (executed ++ under_way geometry scene tried) ≡ later ++ last =
    (λ i. drop (length entries) (first i ++ ends i)) ∙ drop_begun entries later last in
    let long : length executed ≡ length (entries ++ later) = ap (λ (l : List Entry). length l) first in
    record {
      count = length entries;
      all = omega (arith, p.all, cut.1);
      few = omega (arith, p.few, cut.1);
      within = omega (arith, long, length-append entries later);
      left = left;
      cut = subst (λ (l : List Entry). IsCut geometry lines x given l (drop (length entries) (executed ++ under_way geometry scene tried)) left) (sym same)
          (subst (λ (l : List Entry). IsCut geometry lines x given entries l left) (sym next)
          (more_cut geometry (lines_given some) lines
          (λ text is. tried_lines (take (suc n) events) answers text (taken_lines p.after.count tried text is))
          x given entries (later ++ last) left
          (cut_later geometry (lines_given some) x given entries there rest left cut.0)));
      stands_for = p.after.stands_for;
    }

from_rest : {A R : Type 0} (seen : R → Device) (x : DurableState) (events : List (Event A)) (replies : List Reply)
    (moments : List ℕ) (first now : ControllerModel R)
    → Leads seen events replies moments first.geometry (session_at_power_on x) (seen first.journal.rig).trace now
    → Accounts seen x events replies moments first now
from_rest seen x events replies moments first now p = record {
  passes = passed seen events replies moments first.geometry (session_at_power_on x) (seen first.journal.rig).trace now p;
  stops = weaker_said (seen first.journal.rig).trace (seen now.journal.rig).trace _ _ p.stops
      (λ t image handed from l. accounted first.geometry x (items (seen first.journal.rig).trace) events p.answers
      replies (answered_by t moments) image handed l);
}

pub accounts : {A R : Type 0} (seen : R → Device) (x : DurableState) (events : List (Event A))
    (replies : List Reply) (moments : List ℕ) (first now : ControllerModel R)
    → (seen first.journal.rig).honest → IsPast seen x events replies moments first now → Accounts seen x events replies moments first now
accounts seen x events replies moments first now h p =
    let history = (exchanges_history seen events replies first now p.exchanges).holds h x.program (λ _. p.began.rests) in
    from_rest seen x events replies moments first now
    (subst (λ (s : SessionModel). Leads seen events replies moments first.geometry
    (record { program = x.program; session = s }) (seen first.journal.rig).trace now) p.began.session
    (leads seen events replies moments x.program first now
    (subst (λ (l : List ℕ). History seen events replies l x.program first now) (sym p.answered) history) p.began.whole p.began.rests))
