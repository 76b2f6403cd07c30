-- The state after a line can be stored if the state before it can be.
use Rattle.std.proofs.Common.{◌≡◌, ℕ, ◌-◌, ◌≤◌, ℤ, Bool, true, false, cond, List, [], ◌∷◌, length, Option, Some}
use Rattle.std.proofs.Common.{None, Result, Ok, Err, refl, sym, ◌∙◌, ap, subst, arith}
use Rattle.std.specs.Prelude.{◌&&◌, MatchResult, OnOk, IfSome}
use Rattle.ng_num.specs.declared.point.Point.{Point}
use Rattle.std.specs.List.{enumerate_from}
use Rattle.std.proofs.lemmas.List.{length-map, length-set}
use Rattle.std.proofs.lemmas.List.FromFn.{length-enumerate_from}
use Rattle.ng_num.specs.declared.fault.Fault.{Fault}
use Rattle.ng_num.specs.declared.fault.Fault.TheVariants.{LineTooLong}
use Rattle.ng_canon.specs.Printing.{CanonModel}
use Rattle.ng_canon.specs.declared.geometry.Geometry.{Geometry}
use Rattle.ng_words.specs.Grammar.{Piece, is_too_long}
use Rattle.ng_words.specs.Start.{is_deletable}
use Rattle.ng_words.specs.Line.{last_comment}
use Rattle.ng_words.specs.Reading.{read}
use Rattle.ng_words.specs.declared.start.LineKind.{LineKind}
use Rattle.ng_params.specs.Params.{with_value}
use Rattle.ng_params.specs.Change.{with_changes}
use Rattle.ng_params.specs.declared.change.Change.{Change}
use Rattle.ng_expr.specs.Settle.{Settled, settled_pieces}
use Rattle.ng_modal.specs.WholeNumbers.{IsAccepted}
use Rattle.ng_num.specs.Causes.{first_fault}
use Rattle.ng_modal.specs.Checking.{checked}
use Rattle.ng_modal.specs.declared.block.Block.{Block}
use Rattle.ng_modal.proofs.AcceptedWordLemmas.{accepted_by}
use Rattle.ng_block.specs.Motion.{feed_of}
use Rattle.ng_block.specs.Cycles.{kept_of}
use Rattle.ng_block.specs.Program.{TermsModel, idle, deleted, executed_unless_deleted, framed, is_end, executed_after, percent_by}
use Rattle.ng_block.specs.Effects.{Done, unless_refused, block_done, executed, executed_pieces, executed_values}
use Rattle.ng_block.specs.Faults.{path_faults}
use Rattle.ng_block.specs.Goal.{Goal, goal_of, path_after_bearings}
use Rattle.ng_block.specs.Remarks.{remark_of}
use Rattle.ng_state.specs.State.{StateModel}
use Rattle.ng_block.specs.declared.effect.ProgramFlow.{ProgramFlow}
use Rattle.ng_block.specs.declared.effect.ProgramFlow.TheVariants.{GoesOn}
use Rattle.ng_layout.specs.Limits.{greatest_slot}
use Rattle.ng_offsets.specs.Tools.{AreTools}
use Rattle.ng_layout.specs.Storable.{IsStorableModalState, IsStorableHalf, IsStorable}
use Rattle.ng_layout.specs.Stored.{HalfModel, StoredModel}
use Rattle.ng_layout.specs.declared.half.Source.{Source}
use Rattle.ng_layout.specs.declared.half.Source.TheVariants.{Program, Mdi}
use Rattle.ng_session.specs.Entries.{place_by, place_after, after_load, after_reference, referenced, after_abandon, abandoned}
use Rattle.ng_session.proofs.StateLimitLemmas.{found, same, block-stands}

-- the state that a line leads to can be stored if the state that it begins with can be
abbrev Keeps : StateModel → Result Done Fault → Type 0
Keeps s does = (done : Done) → does ≡ Ok done → IsStorableModalState s.modal → IsStorableModalState done.setup.modal

unless-refused : {X : Type 0} (o : Option Fault) (answer : Result X Fault) (x : X) → unless_refused o answer ≡ Ok x → answer ≡ Ok x
unless-refused None answer x e = e
unless-refused (Some fault) answer x e = absurd (cc e)

feed-found : (b : Block) (s : StateModel) (assignments : List Change) (tools : List ℤ) (geometry : Geometry)
    (goal : Goal) → goal_of b assignments s tools geometry ≡ Ok goal → feed_of b s.modal ≡ Ok goal.feed_per_min
feed-found b s assignments tools geometry goal e =
    let feed = found (feed_of b s.modal) _ goal e in
    let way = found (path_after_bearings b assignments s tools feed.0 geometry) _ goal feed.2 in
    let kept = found (kept_of b s.modal) _ goal way.2 in
    feed.1 ∙ ap (λ (g : Goal). Ok g.feed_per_min) (same _ goal kept.2)

values-keep : (s : StateModel) (remark : List CanonModel) (values : Settled) (tools : List ℤ) (geometry : Geometry)
    → length tools ≤ greatest_slot → Keeps s (executed_values s remark values tools geometry)
unfolding executed_values
values-keep s remark values tools geometry few done e can =
    let block = found (checked values.words s.modal.modes (length tools)) _ done e in
    let b : Block = block.0 in
    let accepted : IsAccepted b s.modal.modes (length tools) = accepted_by values.words s.modal.modes (length tools) (omega arith) b (Ok tt) block.1 in
    let goal = found (goal_of b values.assignments s tools geometry) _ done block.2 in
    let is : block_done b goal.0 remark s ≡ done = same _ done (unless-refused (first_fault (path_faults goal.0.path geometry)) _ done goal.2) in
    subst (λ (d : Done). IsStorableModalState d.setup.modal) is
    (block-stands b s.modal _ (length tools) goal.0.shown few accepted can (feed-found b s values.assignments tools geometry goal.0 goal.1) refl)

pieces-keep : (s : StateModel) (pieces : List Piece) (tools : List ℤ) (geometry : Geometry)
    → length tools ≤ greatest_slot → Keeps s (executed_pieces s pieces tools geometry)
unfolding executed_pieces
pieces-keep s pieces tools geometry few done e can =
    let values = found (settled_pieces pieces s.params) _ done e in
    values-keep s (remark_of (last_comment pieces)) values.0 tools geometry few done values.2 can

line-keeps : (s : StateModel) (tools : List ℤ) (geometry : Geometry) (text : List ℕ) → length tools ≤ greatest_slot → Keeps s (executed s tools geometry text)
unfolding executed
line-keeps s tools geometry text few done e can =
    let line = found (read text) _ done e in
    pieces-keep s line.0.pieces tools geometry few done line.2 can

idle-keeps : (s : StateModel) (stop : ProgramFlow) → Keeps s (Ok (idle s stop))
idle-keeps s stop done e can = subst (λ (d : Done). IsStorableModalState d.setup.modal) (same (idle s stop) done e) can

alone-keeps : (t : TermsModel) (s : StateModel) (text : List ℕ) → length t.tools ≤ greatest_slot → Keeps s (executed_unless_deleted t s text)
alone-keeps t s text few = by (t.block_delete && is_deletable text)
  where
    long : (b : Bool) → Keeps s (cond b (Err LineTooLong) (Ok (idle s GoesOn)))
    long true done e can = absurd (cc e)
    long false done e can = idle-keeps s GoesOn done e can

    by : (b : Bool) → Keeps s (cond b (deleted s text) (executed s t.tools t.geometry text))
    by true = long (is_too_long text)
    by false = line-keeps s t.tools t.geometry text few

after-keeps : (t : TermsModel) (first : LineKind) (s : StateModel) (text : List ℕ) → length t.tools ≤ greatest_slot → Keeps s (executed_after t first s text)
after-keeps t first s text few = by (percent_by first text)
  where
    by : (o : Option ProgramFlow) → Keeps s (framed o s (executed_unless_deleted t s text))
    by None = alone-keeps t s text few
    by (Some stop) = idle-keeps s stop

stays_storable : {T : Type 0} (r : Result T Fault) (s : StateModel) (does : Result Done Fault) (done : Done) → Keeps s does
    → MatchResult r (λ x. does ≡ Ok done) (λ fault. does ≡ Err fault) → OnOk r (IsStorableModalState s.modal → IsStorableModalState done.setup.modal)
stays_storable (Ok x) s does done keeps e = keeps done e
stays_storable (Err fault) s does done keeps e = tt

-- a line by itself, and one after others
pub alone-stands : {T : Type 0} (r : Result T Fault) (t : TermsModel) (s : StateModel) (text : List ℕ) (done : Done) → length t.tools ≤ greatest_slot
    → MatchResult r (λ x. executed_unless_deleted t s text ≡ Ok done)
    (λ fault. executed_unless_deleted t s text ≡ Err fault)
    → OnOk r (IsStorableModalState s.modal → IsStorableModalState done.setup.modal)
alone-stands r t s text done few = stays_storable r s (executed_unless_deleted t s text) done (alone-keeps t s text few)

pub after-stands : {T : Type 0} (r : Result T Fault) (t : TermsModel) (first : LineKind) (s : StateModel)
    (text : List ℕ) (done : Done) → length t.tools ≤ greatest_slot
    → MatchResult r (λ x. executed_after t first s text ≡ Ok done)
    (λ fault. executed_after t first s text ≡ Err fault)
    → OnOk r (IsStorableModalState s.modal → IsStorableModalState done.setup.modal)
after-stands r t first s text done few = stays_storable r s (executed_after t first s text) done (after-keeps t first s text few)

-- a half-done block
pub again-stands : {T : Type 0} (r : Result T Fault) (s : StateModel) (tools : List ℤ) (geometry : Geometry)
    (text : List ℕ) (done : Done) → length tools ≤ greatest_slot
    → MatchResult r (λ x. executed s tools geometry text ≡ Ok done)
    (λ fault. executed s tools geometry text ≡ Err fault)
    → OnOk r (IsStorableModalState s.modal → IsStorableModalState done.setup.modal)
again-stands r s tools geometry text done few = stays_storable r s (executed s tools geometry text) done (line-keeps s tools geometry text few)

-- ---- what is stored after a block and after a load

pub long-after : (table : List ℤ) (changes : List Change) → length (with_changes table changes) ≡ length table
long-after table [] = refl
long-after table (c ∷ changes) = long-after (with_value table c.index c.value) changes ∙ length-set table (c.index - 1) c.value

pub place-within : (next place limit : ℕ) (source : Source) (stop : ProgramFlow) → next ≤ limit → place ≤ limit → place_after next place source stop ≤ limit
place-within next place limit source stop first second = by (is_end stop) source
  where
    by : (t : Bool) (source : Source) → cond t 0 (place_by next place source) ≤ limit
    by true source = omega arith
    by false Program = first
    by false Mdi = second

pub load_storable : (x : StoredModel) (length_new : ℕ) → IsStorable x → length_new ≤ x.program_limit → IsStorable (after_load x length_new)
load_storable x length_new was short = record {
  table = length-map (enumerate_from 1 x.setup.params) _ ∙ length-enumerate_from 1 x.setup.params ∙ was.table;
  modal = was.modal;
  half = tt;
  place = omega arith;
  program = short;
  program_limit = was.program_limit;
  tools = was.tools;
}

-- with a half-done block in addition
pub half_storable : (x : StoredModel) (half : HalfModel) → IsStorable x → IsStorableHalf half → IsStorable (record x { half = Some half })
half_storable x half was waits = record {
  table = was.table;
  modal = was.modal;
  half = waits;
  place = was.place;
  program = was.program;
  program_limit = was.program_limit;
  tools = was.tools;
}

-- after a reference to a point
pub reference_storable : (x y : StoredModel) (point : Point) → IsStorable x → y ≡ after_reference x point → IsStorable y
reference_storable x y point was is = subst IsStorable (sym is) (by x.half refl)
  where
    by : (o : Option HalfModel) → x.half ≡ o → IsStorable (referenced x point o)
    by None held = record {
      table = was.table;
      modal = record {
        feed = was.modal.feed;
        speed = was.modal.speed;
        selected =
            was.modal.selected;
        held = was.modal.held;
      };
      half = tt;
      place = was.place;
      program = was.program;
      program_limit =
          was.program_limit;
      tools = was.tools;
    }
    by (Some half) held =
        let waits : IsStorableHalf half = subst (λ (o : Option HalfModel). IfSome o IsStorableHalf) held was.half in
        record {
          table = was.table;
          modal = was.modal;
          half =
              record { unknown = λ none. let e : false ≡ true = none in cc; text = waits.text };
          place = was.place;
          program = was.program;
          program_limit = was.program_limit;
          tools = was.tools;
        }

-- after a half-done block is given up
pub abandon_storable : (x y : StoredModel) → IsStorable x → y ≡ after_abandon x → IsStorable y
abandon_storable x y was is = subst IsStorable (sym is) (by x.half)
  where
    by : (o : Option HalfModel) → IsStorable (abandoned x o)
    by None = was
    by (Some half) = record {
      table = was.table;
      modal = record {
        feed = was.modal.feed;
        speed = was.modal.speed;
        selected =
            was.modal.selected;
        held = was.modal.held;
      };
      half = tt;
      place = was.place;
      program = was.program;
      program_limit =
          was.program_limit;
      tools = was.tools;
    }

-- a table with a number of entries
pub tool_storable : (x : StoredModel) (tools : List ℤ) (entries : ℕ) → IsStorable x → AreTools tools
    → IsStorable (record x { entries = entries; tools = tools })
tool_storable x tools entries was few = record {
  table = was.table;
  modal = was.modal;
  half = was.half;
  place =
      was.place;
  program = was.program;
  program_limit = was.program_limit;
  tools = few;
}
