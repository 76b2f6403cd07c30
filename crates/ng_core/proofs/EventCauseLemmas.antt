-- Why an event isn't answered, from why the calls that it makes fail.
use Rattle.std.proofs.Common.{◌≡◌, ◌≤◌, ◌⊎◌, ◌↔◌, inl, inr, ℕ, ℤ, Bool, true, false, not, if◌then◌else◌, ◌||◌, List}
use Rattle.std.proofs.Common.{length, Option, Some, None, Result, Ok, Err, refl, sym, ◌∙◌, ap, subst, IsSomeAnd}
use Rattle.std.specs.Option.{is_some, option_map}
use Rattle.std.specs.Prelude.{IsErrOf}
use Rattle.ng_num.specs.declared.fault.Fault.{Fault}
use Rattle.ng_num.specs.declared.fault.Fault.TheVariants as fault
use Rattle.ng_num.specs.declared.fault.Fault.TheVariants.{DeviceFailed, CountersUsed}
use Rattle.ng_text.specs.Programs.{ProgramLineModel}
use Rattle.ng_layout.specs.Stored.{HalfModel, StoredModel}
use Rattle.ng_layout.specs.declared.half.Source.TheVariants as source
use Rattle.ng_layout.specs.declared.half.Opened.{Opened}
use Rattle.ng_layout.specs.declared.half.Opened.TheVariants as open_part
use Rattle.ng_block.specs.Effects.{Done}
use Rattle.ng_journal.specs.Storing.{Ledger, Storing, Commit, Open, Load, UsesUp}
use Rattle.ng_num.specs.declared.point.Point.{Point}
use Rattle.ng_canon.specs.declared.geometry.Geometry.{Geometry}
use Rattle.ng_session.specs.Entries.{done_of, done_again, after_load, after_reference, after_abandon, after_tool}
use Rattle.ng_session.specs.Session.{CurrentBlockModel, SessionModel, Transition, refuses, is_at_rest}
use Rattle.ng_session.specs.Operator.{load, load_unless, load_refusal, reference, reference_unless, reference_refusal}
use Rattle.ng_session.specs.Operator.{abandon, abandon_unless, abandon_refusal, tool, tool_unless, tool_refusal}
use Rattle.ng_session.specs.Operator.{resume, resume_half, resume_from, resume_by}
use Rattle.ng_session.specs.Ticking.{end, begin, begin_by, opening_of, opening_reply, entry_on, committed}
use Rattle.ng_session.specs.Step.{IsBetweenLines}
use Rattle.ng_session.specs.declared.stage.Stage.{Stage}
use Rattle.ng_session.specs.declared.stage.Stage.TheVariants as stage
use Rattle.ng_core.specs.Causes.{UsesUpCounter, IsCausedBy, stored_for, with_entry}
use Rattle.ng_core.proofs.TickLemmas.{IsDue, opening}

-- a cause stays one for an equal outcome, and if memory and the device are needed in more cases
pub hindered_as : {m n d e : Type 0} (ledger : Ledger) (told wanted : List ℕ → Transition) → (m → n) → (d → e)
    → ((program : List ℕ) → told program ≡ wanted program)
    → (fault : Fault) → IsCausedBy m d ledger told fault → IsCausedBy n e ledger wanted fault
hindered_as ledger told wanted f g same fault (inl short) = inl (short.0, f short.1)
hindered_as ledger told wanted f g same fault (inr (inl used)) =
    inr (inl (
      used.0,
      λ program. subst (λ (o : Transition). UsesUpCounter ledger o) (same program)
          (used.1 program),
    ))
hindered_as ledger told wanted f g same fault (inr (inr lost)) =
    inr (inr (
      lost.0,
      g lost.1,
      λ program used.
          lost.2 program (subst (λ (o : Transition). UsesUpCounter ledger o) (sym (same program)) used),
    ))

-- ---- a call of the journal that stores

differ : (T : Type 0) (e : Fault) → e ≡ DeviceFailed → (let answered : Result T Fault = Err e in IsErrOf answered CountersUsed) → ⊥
differ T e lost used = absurd (let answered : Result T Fault = Err DeviceFailed in let z : answered ≡ Err CountersUsed = (λ i. Err (sym lost i)) ∙ used in cc)

-- the call returns that a counter is used up exactly if what it stores uses one up, and the outcome stores the same
pub hindered_storing : (T : Type 0) (e : Fault) (ledger : Ledger) (told : List ℕ → Transition) (s : Storing) → (e ≡ CountersUsed) ⊎ (e ≡ DeviceFailed)
    → (let answered : Result T Fault = Err e in IsErrOf answered CountersUsed ↔ UsesUp ledger s)
    → ((program : List ℕ) → stored_for (told program) (told program).reply ≡ Some s) → IsCausedBy ⊥ (Unit {0}) ledger told e
hindered_storing T e ledger told s (inl used) iff stores =
    inr (inl (used, λ program. subst (λ (o : Option Storing). IsSomeAnd o (UsesUp ledger)) (sym (stores program)) (iff.0 (λ i. Err (used i)))))
hindered_storing T e ledger told s (inr lost) iff stores =
    inr (inr (lost, tt, λ program used. differ T e lost (iff.1 (subst (λ (o : Option Storing). IsSomeAnd o (UsesUp ledger)) (stores program) used))))

-- the half-done block that is stored when something opens
pub stored_opening : (out : Transition) (n : ℕ) (o : Option Opened) → stored_for out (opening_reply n o) ≡ option_map Open out.next.stored.half
stored_opening out n None = refl
stored_opening out n (Some open_part.Segment) = refl
stored_opening out n (Some open_part.Approach) = refl

pub hindered_opening : (T : Type 0) (e : Fault) (q : Geometry) (s : SessionModel) (ledger : Ledger) (half : HalfModel) → (e ≡ CountersUsed) ⊎ (e ≡ DeviceFailed)
    → (let answered : Result T Fault = Err e in IsErrOf answered CountersUsed ↔ UsesUp ledger (Open half))
    → IsCausedBy ⊥ (Unit {0}) ledger (λ program. opening half program q s) e
hindered_opening T e q s ledger half which iff =
    hindered_storing T e ledger (λ program. opening half program q s) (Open half) which iff
    (λ program. stored_opening (opening half program q s) half.index half.opened)

-- the entry of the current block, or of its approach
entry_commits : (x : StoredModel) (c : CurrentBlockModel) (at : Stage) → with_entry x (entry_on c at) ≡ Commit x
entry_commits x c (stage.ToApproach a) = refl
entry_commits x c (stage.OnApproach a) = refl
entry_commits x c stage.OnBlock = refl

pub stored_end : (q : Geometry) (P : List ℕ) (s : SessionModel) (saved : StoredModel) (due : IsDue s saved)
    → stored_for (end q P s s.current) (end q P s s.current).reply ≡ Some (Commit saved)
stored_end q P s saved due =
    ap (λ (o : Option CurrentBlockModel). stored_for (end q P s o) (end q P s o).reply) due.current
    ∙ ap (λ (x : Storing). Some x) (entry_commits (committed s due.block).stored due.block due.block.stage)
    ∙ ap (λ (x : StoredModel). Some (Commit x)) (sym due.after)

pub hindered_entry : (T : Type 0) (e : Fault) (q : Geometry) (s : SessionModel) (ledger : Ledger)
    (saved : StoredModel) (due : IsDue s saved) → (e ≡ CountersUsed) ⊎ (e ≡ DeviceFailed)
    → (let answered : Result T Fault = Err e in IsErrOf answered CountersUsed ↔ UsesUp ledger (Commit saved))
    → IsCausedBy ⊥ (Unit {0}) ledger (λ program. end q program s s.current) e
hindered_entry T e q s ledger saved due which iff =
    hindered_storing T e ledger (λ program. end q program s s.current) (Commit saved) which iff (λ program. stored_end q program s saved due)

-- the entry of a program
pub hindered_load : (T : Type 0) (e : Fault) (most : ℕ) (s : SessionModel) (saved : StoredModel) (text : List ℕ)
    (ledger : Ledger) → load_refusal s text ≡ None → length text ≤ most → saved ≡ after_load s.stored (length text)
    → (e ≡ CountersUsed) ⊎ (e ≡ DeviceFailed)
    → (let answered : Result T Fault = Err e in IsErrOf answered CountersUsed ↔ ((length text ≤ most) × UsesUp ledger (Load saved)))
    → IsCausedBy (load_refusal s text ≡ None) (load_refusal s text ≡ None) ledger (λ program. load program s text) e
hindered_load T e most s saved text ledger free small is which iff =
    hindered_as ledger (λ program. load program s text) (λ program. load program s text) (λ none. absurd none) (λ u. free) (λ program. refl) e
    (hindered_storing T e ledger (λ program. load program s text) (Load saved) which
    (λ used. (iff.0 used).1, λ u. iff.1 (small, u))
    (λ program. ap (λ (o : Option Fault). stored_for (load_unless program s text o)
    (load_unless program s text o).reply) free ∙ ap (λ (x : StoredModel). Some (Load x)) (sym is)))

-- a reference, a half-done block that is given up, or a tool's length
pub stored_reference : (q : Geometry) (P : List ℕ) (s : SessionModel) (point : Point) → reference_refusal q s point ≡ None
    → stored_for (reference q P s point) (reference q P s point).reply ≡ Some (Commit (after_reference s.stored point))
stored_reference q P s point free = ap (λ (o : Option Fault). stored_for (reference_unless P s point o) (reference_unless P s point o).reply) free

pub stored_abandon : (P : List ℕ) (s : SessionModel) → abandon_refusal s ≡ None
    → stored_for (abandon P s) (abandon P s).reply ≡ Some (Commit (after_abandon s.stored))
stored_abandon P s free = ap (λ (o : Option Fault). stored_for (abandon_unless P s o) (abandon_unless P s o).reply) free

pub stored_tool : (P : List ℕ) (s : SessionModel) (slot : ℕ) (nm : ℤ) → tool_refusal s slot nm ≡ None
    → stored_for (tool P s slot nm) (tool P s slot nm).reply ≡ Some (Commit (after_tool s.stored slot nm))
stored_tool P s slot nm free = ap (λ (o : Option Fault). stored_for (tool_unless P s slot nm o) (tool_unless P s slot nm o).reply) free

-- an entry past the greatest count isn't stored
pub hindered_count : (ledger : Ledger) (told : List ℕ → Transition) (x : StoredModel) (device : Type 0)
    → UsesUp ledger (Commit x)
    → ((program : List ℕ) → stored_for (told program) (told program).reply ≡ Some (Commit x))
    → IsCausedBy ⊥ device ledger told CountersUsed
hindered_count ledger told x device used stores =
    inr (inl (
      refl,
      λ program. subst (λ (o : Option Storing). IsSomeAnd o (UsesUp ledger)) (sym (stores program))
          used,
    ))

-- ---- a session that is busy

pub busy_block : (b : Bool) (o : Option CurrentBlockModel) → is_some o ≡ true → (b || is_some o) ≡ true
busy_block true o block = refl
busy_block false o block = block

-- if a block is current, no line is read
pub busy_unread : (s : SessionModel) → is_some s.current ≡ true → IsBetweenLines s → ⊥
busy_unread s block between = absurd (let z : false ≡ true = ap (λ (o : Option CurrentBlockModel). is_some o) (sym between.0) ∙ block in cc)

pub busy_running : (b c : Bool) → b ≡ true → (b || c) ≡ true
busy_running true c runs = refl
busy_running false c runs = absurd (let z : false ≡ true = runs in cc)

pub some_half : (o : Option CurrentBlockModel) (half : HalfModel) → opening_of o ≡ Some half → is_some o ≡ true
some_half None half is = absurd (let none : Option HalfModel = None in let z : none ≡ Some half = is in cc)
some_half (Some c) half is = refl

-- ---- a line that is begun uses up no counter

unused_by : (P : List ℕ) (s : SessionModel) (line : ProgramLineModel) (done : Result Done Fault) (ledger : Ledger)
    → UsesUpCounter ledger (begin_by P s line done) → ⊥
unused_by P s line (Ok done) ledger used = used
unused_by P s line (Err fault) ledger used = used

pub unused_begin : (q : Geometry) (P : List ℕ) (s : SessionModel) (line : Option ProgramLineModel) (ledger : Ledger)
    → UsesUpCounter ledger (begin q P s line) → ⊥
unused_begin q P s None ledger used = used
unused_begin q P s (Some line) ledger used = unused_by P s line (done_of q P s.stored source.Program line.text s.block_delete) ledger used

-- nor does a half-done block that goes on use one up
unused_again : (P : List ℕ) (s : SessionModel) (half : HalfModel) (from : Point) (done : Result Done Fault)
    (ledger : Ledger) → UsesUpCounter ledger (resume_by P s half from done) → ⊥
unused_again P s half from (Ok done) ledger used = used
unused_again P s half from (Err fault) ledger used = used

unused_from : (q : Geometry) (P : List ℕ) (s : SessionModel) (half : HalfModel) (from : Option Point)
    (ledger : Ledger) → UsesUpCounter ledger (resume_from q P s half from) → ⊥
unused_from q P s half None ledger used = used
unused_from q P s half (Some from) ledger used = unused_again P s half from (done_again q s.stored half.text) ledger used

unused_half : (q : Geometry) (P : List ℕ) (s : SessionModel) (half : Option HalfModel) (ledger : Ledger) → UsesUpCounter ledger (resume_half q P s half) → ⊥
unused_half q P s None ledger used = used
unused_half q P s (Some half) ledger used = unused_from q P s half half.at ledger used

pub unused_resume : (q : Geometry) (P : List ℕ) (s : SessionModel) (ledger : Ledger) → UsesUpCounter ledger (resume q P s) → ⊥
unused_resume q P s ledger used = by (not (is_at_rest s)) used
  where
    by : (b : Bool) → UsesUpCounter ledger (if b then refuses P fault.Busy s else resume_half q P s s.stored.half) → ⊥
    by true used = used
    by false used = unused_half q P s s.stored.half ledger used
