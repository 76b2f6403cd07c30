-- Lines planned one after another.
use Rattle.std.proofs.Common.{◌≡◌, ◌≢◌, ◌⊎◌, inl, inr, ℕ, ◌-◌, ◌==◌, length, Bor, MatchOption, arith, Bool, true, false}
use Rattle.std.proofs.Common.{not, ◌||◌, if◌then◌else◌, List, [], ◌∷◌, ◌++◌, Option, None, Some, Result, Ok, refl}
use Rattle.std.proofs.Common.{sym, ◌∙◌, ap, subst}
use Rattle.std.specs.Prelude.{slice_get}
use Rattle.std.specs.Option.{is_some, option_copied}
use Rattle.ng_block.specs.Program.{executed_after, is_end}
use Rattle.ng_canon.specs.declared.geometry.Geometry.{Geometry}
use Rattle.ng_canon.specs.declared.segment.Segment.{Segment}
use Rattle.ng_layout.specs.Storable.{IsStorable}
use Rattle.ng_layout.specs.Stored.{HalfModel, StoredModel}
use Rattle.ng_words.specs.declared.start.LineKind.{LineKind}
use Rattle.ng_words.specs.declared.start.LineKind.TheVariants.{Blank}
use Rattle.ng_text.specs.LinesBefore.{IsLineBetween}
use Rattle.ng_num.specs.declared.fault.Fault.{Fault}
use Rattle.ng_block.specs.Effects.{Done}
use Rattle.ng_text.specs.Percent.{first_kind}
use Rattle.ng_text.specs.Programs.{ProgramLineModel, lines_before}
use Rattle.ng_layout.specs.declared.half.Source.TheVariants as source
use Rattle.ng_session.specs.declared.event.Event.{Event}
use Rattle.ng_session.specs.declared.event.Event.TheVariants as event
use Rattle.ng_session.specs.declared.reply.Reply.TheVariants as reply
use Rattle.ng_session.specs.Entries.{terms_of, done_of}
use Rattle.ng_session.specs.Session.{CurrentBlockModel, SessionModel, Transition, accepts_load, is_running, is_idle}
use Rattle.ng_session.specs.Session.{answers, begun}
use Rattle.ng_session.specs.Ticking.{begin, begin_by, after_current_block, opened_on, next_opened, opened, handed}
use Rattle.ng_session.specs.Ticking.{committed_on, committed}
use Rattle.ng_session.specs.Step.{step, IsQuiet}
use Rattle.ng_session.specs.BareBlock.{block_on, IsReady}
use Rattle.ng_session.proofs.BareBlockLemmas.{block_storable}
use Rattle.ng_session.specs.Planned.{PlannedModel, KnownModel, IsLineOf, AreLinesOf, Base, IsBegunAhead, base_on}
use Rattle.ng_session.specs.Planned.{base_after, base_of, base_then, base_at_end, ends_at_end, drops_plan}
use Rattle.ng_session.specs.Planned.{IsPlannedOn, ArePlannedOn, IsPlan}
use Rattle.ng_session.specs.declared.stage.Stage.{Stage}
use Rattle.ng_session.specs.declared.stage.Stage.TheVariants as stage

-- ---- one line more

plan_more : (geometry : Geometry) (base : Base) (ps : List PlannedModel) (p : PlannedModel)
    → ArePlannedOn geometry base ps → IsPlannedOn geometry (base_at_end base ps) p → ArePlannedOn geometry base (ps ++ p ∷ [])
plan_more geometry base [] p plan on = (on, tt)
plan_more geometry base (q ∷ ps) p plan on = (plan.0, plan_more geometry (base_then base q) ps p plan.1 on)

lines_more : (program : List ℕ) (ps : List PlannedModel) (p : PlannedModel) → AreLinesOf program ps → IsLineOf program p → AreLinesOf program (ps ++ p ∷ [])
lines_more program [] p lines line = (line, tt)
lines_more program (q ∷ ps) p lines line = (lines.0, lines_more program ps p lines.1 line)

pub end_more : (base : Base) (ps : List PlannedModel) (p : PlannedModel) → base_at_end base (ps ++ p ∷ []) ≡ base_then (base_at_end base ps) p
end_more base [] p = refl
end_more base (q ∷ ps) p = end_more (base_then base q) ps p

pub ends_more : (ends : Bool) (ps : List PlannedModel) (p : PlannedModel) → ends_at_end ends (ps ++ p ∷ []) ≡ is_end p.block.stop
ends_more ends [] p = refl
ends_more ends (q ∷ ps) p = ends_more (is_end q.block.stop) ps p

-- ---- what they are planned on

end_delete : (base : Base) (ps : List PlannedModel) → (base_at_end base ps).block_delete ≡ base.block_delete
end_delete base [] = refl
end_delete base (p ∷ ps) = end_delete (base_then base p) ps

pub end_storable : (geometry : Geometry) (base : Base) (ps : List PlannedModel) → ArePlannedOn geometry base ps
    → IsStorable base.stored → IsStorable (base_at_end base ps).stored
end_storable geometry base [] plan was = was
end_storable geometry base (p ∷ ps) plan was =
    end_storable geometry (base_then base p) ps plan.1 (block_storable base.stored p.block was plan.0.ready)

pub end_length : (base : Base) (ps : List PlannedModel) → (base_at_end base ps).stored.length ≡ base.stored.length
end_length base [] = refl
end_length base (p ∷ ps) = end_length (base_then base p) ps

base_on_length : (x : StoredModel) (c : CurrentBlockModel) (g : Stage) → (base_on x c g).length ≡ x.length
base_on_length x c (stage.ToApproach a) = refl
base_on_length x c (stage.OnApproach a) = refl
base_on_length x c stage.OnBlock = refl

pub base_length : (x : StoredModel) (o : Option CurrentBlockModel) → (base_after x o).length ≡ x.length
base_length x None = refl
base_length x (Some c) = base_on_length x c c.stage

base_on_place : (x : StoredModel) (c : CurrentBlockModel) (g : Stage) → (base_on x c g).place ≡ c.place
base_on_place x c (stage.ToApproach a) = refl
base_on_place x c (stage.OnApproach a) = refl
base_on_place x c stage.OnBlock = refl

pub base_place : (x : StoredModel) (c : CurrentBlockModel) → (base_after x (Some c)).place ≡ c.place
base_place x c = base_on_place x c c.stage

-- ---- the base after a Tick

pub handed_base : (s : SessionModel) → base_of (handed s) ≡ base_of s
handed_base s = by s.current
  where
    by : (o : Option CurrentBlockModel) → base_of (handed (record s { current = o })) ≡ base_of (record s { current = o })
    by None = refl
    by (Some c) = on c.stage
      where
        on : (g : Stage) → base_of (handed (record s { current = Some (record c { stage = g }) })) ≡ base_of
            (record s { current = Some (record c { stage = g }) })
        on (stage.ToApproach a) = refl
        on (stage.OnApproach a) = refl
        on stage.OnBlock = refl

opened_on_base : (geometry : Geometry) (x : StoredModel) (half : HalfModel) (c : CurrentBlockModel) (g : Stage)
    → base_on (record x { half = Some half }) (opened_on geometry (record c { stage = g }) g)
    (opened_on geometry (record c { stage = g }) g).stage ≡ base_on x (record c { stage = g }) g
opened_on_base geometry x half c (stage.ToApproach a) = refl
opened_on_base geometry x half c (stage.OnApproach a) = refl
opened_on_base geometry x half c stage.OnBlock = by c.left
  where
    by : (left : List Segment)
        → base_on (record x { half = Some half }) (next_opened geometry (record c { stage = stage.OnBlock }) left)
        (next_opened geometry (record c { stage = stage.OnBlock }) left).stage ≡ base_on x
        (record c { stage = stage.OnBlock }) stage.OnBlock
    by [] = refl
    by (segment ∷ left) = refl

opened_after_base : (geometry : Geometry) (x : StoredModel) (half : HalfModel) (c : CurrentBlockModel)
    → base_after (record x { half = Some half }) (Some (opened_on geometry c c.stage)) ≡ base_after x (Some c)
opened_after_base geometry x half c = opened_on_base geometry x half c c.stage

pub opened_base : (geometry : Geometry) (s : SessionModel) (half : HalfModel) (c : CurrentBlockModel)
    → s.current ≡ Some c → base_of (opened geometry s half) ≡ base_of s
opened_base geometry s half c is =
    let f : Option CurrentBlockModel → SessionModel = λ o. record s { current = o } in
    let there : base_of (opened geometry (f (Some c)) half) ≡ base_of (f (Some c)) = λ i.
    record { stored = opened_after_base geometry s.stored half c i; block_delete = s.block_delete } in
    let P : Option CurrentBlockModel → Type 0 = λ o. base_of (opened geometry (f o) half) ≡ base_of (f o) in
    subst P (sym is) there

committed_on_base : (s : SessionModel) (c : CurrentBlockModel) (g : Stage)
    → base_of (committed_on s c g) ≡ record { stored = base_on s.stored c g; block_delete = s.block_delete }
committed_on_base s c (stage.ToApproach a) = refl
committed_on_base s c (stage.OnApproach a) = refl
committed_on_base s c stage.OnBlock = refl

pub committed_base : (s : SessionModel) (c : CurrentBlockModel) → s.current ≡ Some c → base_of (committed s c) ≡ base_of s
committed_base s c is =
    committed_on_base s c c.stage
    ∙ (let P : Option CurrentBlockModel
    → Base = λ o. record { stored = base_after s.stored o; block_delete = s.block_delete } in ap P (sym is))

-- ---- the plan after the other events

chosen : (P : Transition → Type 0) (b : Bool) (x y : Transition) → P x → P y → P (if b then x else y)
chosen P true x y p q = p
chosen P false x y p q = q

pub steady_base : {A : Type 0} (geometry : Geometry) (program : List ℕ) (s : SessionModel) (e : Event A) → IsQuiet e
    → drops_plan e ≡ false → base_of (step geometry program s e).next ≡ base_of s
steady_base geometry program s (event.Load text) quiet drops = absurd quiet
steady_base geometry program s event.Start quiet drops =
    let P : Transition → Type 0 = λ o. base_of o.next ≡ base_of s in
    chosen P (not (accepts_load s)) _ _ refl (chosen P (not s.stored.setup.modal.point_known) _ _ refl (chosen P (s.stored.length == 0) _ _ refl refl))
steady_base geometry program s event.Hold quiet drops =
    let P : Transition → Type 0 = λ o. base_of o.next ≡ base_of s in
    chosen P (is_running s.activity || is_some s.current) _ _ refl refl
steady_base geometry program s event.Continue quiet drops =
    let P : Transition → Type 0 = λ o. base_of o.next ≡ base_of s in
    chosen P s.held _ _ refl (chosen P (is_running s.activity || is_some s.current) _ _ refl (chosen P (is_idle s.activity) _ _ refl refl))
steady_base geometry program s (event.Mdi text) quiet drops = absurd (let z : true ≡ false = drops in cc)
steady_base geometry program s (event.Reference point) quiet drops = absurd quiet
steady_base geometry program s event.Resume quiet drops = absurd quiet
steady_base geometry program s event.Abandon quiet drops = absurd quiet
steady_base geometry program s (event.Tool slot nm) quiet drops = absurd quiet
steady_base geometry program s (event.OptionalStop wanted) quiet drops = refl
steady_base geometry program s (event.BlockDelete on) quiet drops = absurd (let z : true ≡ false = drops in cc)
steady_base geometry program s event.Status quiet drops = refl
steady_base geometry program s event.Tick quiet drops = absurd quiet

pub plan_as : (geometry : Geometry) (a b : Base) (ps : List PlannedModel) (x : StoredModel) → b ≡ a → IsPlan geometry a ps x → IsPlan geometry b ps x
plan_as geometry a b ps x same plan = subst (λ (base : Base). IsPlan geometry base ps x) (sym same) plan

pub plan_none : (geometry : Geometry) (base : Base) (ps : List PlannedModel) (x : StoredModel) → ps ≡ [] → IsPlan geometry base ps x
plan_none geometry base ps x none = record {
  lines = subst (λ (l : List PlannedModel). ArePlannedOn geometry base l) (sym none) tt;
  next_is = λ some. absurd (some none);
}

-- a plan that the event doesn't drop stays a plan
pub plan_answered : {A : Type 0} (geometry : Geometry) (program : List ℕ) (s t : SessionModel) (e : Event A)
    (ps : List PlannedModel) (x : StoredModel) → IsQuiet e → (drops_plan e ≡ true → ps ≡ [])
    → t ≡ (step geometry program s e).next → IsPlan geometry (base_of s) ps x → IsPlan geometry (base_of t) ps x
plan_answered {A} geometry program s t e ps x quiet dropped next plan = elim (cases_of (drops_plan e)) [
  | inl drops ↦ plan_none geometry (base_of t) ps x (dropped drops)
  | inr keeps ↦ plan_as geometry (base_of s) (base_of t) ps x (ap base_of next ∙ steady_base geometry program s e quiet keeps) plan
]
  where
    cases_of : (b : Bool) → (b ≡ true) ⊎ (b ≡ false)
    cases_of true = inl refl
    cases_of false = inr refl

-- ---- a line that was planned is begun

pub planned_done : (geometry : Geometry) (program : List ℕ) (s : SessionModel) (p : PlannedModel)
    (on : IsPlannedOn geometry (record { stored = s.stored; block_delete = s.block_delete }) p)
    → p.first ≡ first_kind (lines_before program s.stored.place) → done_of geometry program s.stored source.Program
    p.block.text s.block_delete ≡ Ok on.does
unfolding done_of
planned_done geometry program s p on kind =
    subst (λ (k : LineKind). executed_after (terms_of geometry s.stored.tools s.block_delete) k s.stored.setup
    p.block.text ≡ Ok on.does) kind on.does_is

pub planned_begins : (geometry : Geometry) (program : List ℕ) (s : SessionModel) (p : PlannedModel)
    → IsPlannedOn geometry (record { stored = s.stored; block_delete = s.block_delete }) p
    → p.first ≡ first_kind (lines_before program s.stored.place)
    → answers program reply.Begun (record s { current = Some (block_on s.stored.setup.params p.block) }) ≡ begin geometry program s
    (Some (record { text = p.block.text; next = p.next }))
planned_begins geometry program s p on kind =
    let line : ProgramLineModel = record { text = p.block.text; next = p.next } in
    ap (λ (c : CurrentBlockModel). answers program reply.Begun (let t : SessionModel = record s { current = Some c } in t)) on.begun_is
    ∙ sym (ap (λ (does : Result Done Fault). begin_by program s line does) (planned_done geometry program s p on kind))

-- ---- the last planned line

last_behind : (x : PlannedModel) (xs : List PlannedModel)
    → MatchOption (slice_get (x ∷ xs) (length xs)) ⊥ (λ p. (ps : List PlannedModel) × (x ∷ xs ≡ ps ++ p ∷ []))
last_behind x [] = ([], refl)
last_behind x (y ∷ xs) = behind (slice_get (y ∷ xs) (length xs)) (last_behind y xs)
  where
    behind : (o : Option PlannedModel) → MatchOption o ⊥ (λ p. (ps : List PlannedModel) × (y ∷ xs ≡ ps ++ p ∷ []))
        → MatchOption o ⊥ (λ p. (ps : List PlannedModel) × (x ∷ y ∷ xs ≡ ps ++ p ∷ []))
    behind None none = none
    behind (Some p) parts = (x ∷ parts.0, ap (λ (l : List PlannedModel). x ∷ l) parts.1)

last_of : (xs : List PlannedModel) → MatchOption (slice_get xs (length xs - 1)) (xs ≡ []) (λ p. (ps : List PlannedModel) × (xs ≡ ps ++ p ∷ []))
last_of [] = refl
last_of (x ∷ xs) =
    let P : Option PlannedModel → Type 0 = λ o. MatchOption o (let none : List PlannedModel = [] in x ∷ xs ≡ none)
    (λ p. (ps : List PlannedModel) × (x ∷ xs ≡ ps ++ p ∷ [])) in
    let n : length xs ≡ length (x ∷ xs) - 1 = omega arith in
    subst (λ (k : ℕ). P (slice_get (x ∷ xs) k)) n (wider (slice_get (x ∷ xs) (length xs)) (last_behind x xs))
  where
    wider : (o : Option PlannedModel) → MatchOption o ⊥ (λ p. (ps : List PlannedModel) × (x ∷ xs ≡ ps ++ p ∷ []))
        → MatchOption o (let none : List PlannedModel = [] in x ∷ xs ≡ none) (λ p. (ps : List PlannedModel)
        × (x ∷ xs ≡ ps ++ p ∷ []))
    wider None none = absurd none
    wider (Some p) parts = parts

pub last_copied : (r : Option (Bor PlannedModel)) (xs : List PlannedModel)
    → option_copied r ≡ slice_get xs (length xs - 1)
    → MatchOption r (xs ≡ []) (λ p. (ps : List PlannedModel) × (xs ≡ ps ++ p.now ∷ []))
last_copied r xs is =
    by r (subst (λ (o : Option PlannedModel). MatchOption o (xs ≡ []) (λ p. (ps : List PlannedModel)
    × (xs ≡ ps ++ p ∷ []))) (sym is) (last_of xs))
  where
    by : (r : Option (Bor PlannedModel)) → MatchOption (option_copied r) (xs ≡ []) (λ p. (ps : List PlannedModel)
        × (xs ≡ ps ++ p ∷ [])) → MatchOption r (xs ≡ []) (λ p. (ps : List PlannedModel) × (xs ≡ ps ++ p.now ∷ []))
    by None m = m
    by (Some p) m = m

-- ---- a line is planned

pub planned_by : (geometry : Geometry) (base : Base) (p : PlannedModel) (text : List ℕ) (does : Done)
    → p.place ≡ base.stored.place → (base.stored.place ≡ 0 → p.first ≡ Blank)
    → executed_after (terms_of geometry base.stored.tools base.block_delete) p.first base.stored.setup text ≡ Ok does
    → block_on base.stored.setup.params p.block ≡ begun base.stored source.Program text base.block_delete p.next does
    → IsReady base.stored p.block → IsPlannedOn geometry base p
planned_by geometry base p text does place beginning does_is begun_is ready =
    let read : text ≡ p.block.text = sym (ap (λ (c : CurrentBlockModel). c.text) begun_is) in
    record {
      place = place;
      beginning = λ none. beginning (sym place ∙ none);
      does = does;
      does_is = subst (λ (t : List ℕ). executed_after (terms_of geometry base.stored.tools base.block_delete)
          p.first base.stored.setup t ≡ Ok does) read does_is;
      begun_is = subst (λ (t : List ℕ). block_on base.stored.setup.params p.block
          ≡ begun base.stored source.Program t base.block_delete p.next does) read begun_is;
      ready = ready;
    }

-- the base at the end of the plan
end_base : (base : Base) (ps : List PlannedModel) (x : StoredModel) → x ≡ (base_at_end base ps).stored
    → base_at_end base ps ≡ record { stored = x; block_delete = base.block_delete }
end_base base ps x is = λ i. record { stored = sym is i; block_delete = end_delete base ps i }

-- what the next line is planned on: what is kept while there are lines, and else what comes after the current block
pub found_base : (geometry : Geometry) (base : Base) (old new : KnownModel) → new ≡ record old { base = new.base }
    → IsPlan geometry base old.ahead old.base → (old.ahead ≡ [] → new.base ≡ base.stored) → (old.ahead ≢ [] → new.base ≡ old.base)
    → IsPlan geometry base new.ahead new.base × (new.base ≡ (base_at_end base new.ahead).stored)
found_base geometry base old new known plan first later =
    let same : old.ahead ≡ new.ahead = sym (ap (λ (k : KnownModel). k.ahead) known) in
    let there : new.base ≡ (base_at_end base old.ahead).stored = by old.ahead first later plan.next_is in
    let here : new.base ≡ (base_at_end base new.ahead).stored = there ∙ ap (λ (l : List PlannedModel). (base_at_end base l).stored) same in
    (record { lines = subst (λ (l : List PlannedModel). ArePlannedOn geometry base l) same plan.lines; next_is = λ some. here }, here)
  where
    by : (ps : List PlannedModel) → (ps ≡ [] → new.base ≡ base.stored) → (ps ≢ [] → new.base ≡ old.base)
        → (ps ≢ [] → old.base ≡ (base_at_end base ps).stored) → new.base ≡ (base_at_end base ps).stored
    by [] first later valid = first refl
    by (p ∷ ps) first later valid =
        let some : p ∷ ps ≢ [] = λ e. cc in
        later some ∙ valid some

-- one more line, planned on that, or none
abbrev pub IsOneMore : KnownModel → PlannedModel → KnownModel → Type 0
IsOneMore k p l =
    (l ≡ record k { ahead = k.ahead ++ p ∷ []; base = after_current_block k.base (block_on k.base.setup.params p.block) }) ⊎ (l ≡ k)

pub plan_pushed : (geometry : Geometry) (base : Base) (k l : KnownModel) (p : PlannedModel)
    → IsPlan geometry base k.ahead k.base → k.base ≡ (base_at_end base k.ahead).stored
    → IsPlannedOn geometry (record { stored = k.base; block_delete = base.block_delete }) p → IsOneMore k p l → IsPlan geometry base l.ahead l.base
plan_pushed geometry base k l p plan is on (inl more) =
    let here : base_at_end base k.ahead ≡ record { stored = k.base; block_delete = base.block_delete } = end_base base k.ahead k.base is in
    subst (λ (m : KnownModel). IsPlan geometry base m.ahead m.base) (sym more) (record {
      lines = plan_more geometry base k.ahead p plan.lines (subst (λ (b : Base). IsPlannedOn geometry b p) (sym here) on);
      next_is = λ some. sym (ap (λ (b : Base). b.stored) (end_more base k.ahead p ∙ ap (λ (b : Base). base_then b p) here));
    })
plan_pushed geometry base k l p plan is on (inr same) = subst (λ (m : KnownModel). IsPlan geometry base m.ahead m.base) (sym same) plan

pub lines_pushed : (program : List ℕ) (k l : KnownModel) (p : PlannedModel) (place : ℕ) (first : LineKind)
    (text : List ℕ) (next : ℕ) → AreLinesOf program k.ahead → IsLineBetween program place first text next
    → p.place ≡ place → p.first ≡ first → p.block.text ≡ text → p.next ≡ next → IsOneMore k p l → AreLinesOf program l.ahead
lines_pushed program k l p place first text next lines line a b c d (inl more) =
    let one : IsLineOf program p = subst (λ (n : ℕ). IsLineBetween program n p.first p.block.text p.next) (sym a)
    (subst (λ (k : LineKind). IsLineBetween program place k p.block.text p.next) (sym b)
    (subst (λ (t : List ℕ). IsLineBetween program place first t p.next) (sym c)
    (subst (λ (n : ℕ). IsLineBetween program place first text n) (sym d) line))) in
    subst (λ (m : KnownModel). AreLinesOf program m.ahead) (sym more) (lines_more program k.ahead p lines one)
lines_pushed program k l p place first text next lines line a b c d (inr same) = subst (λ (m : KnownModel). AreLinesOf program m.ahead) (sym same) lines

-- ---- the first planned line is begun

-- with no block, lines are planned on the stored state; the next line is planned on the state after the first
free_base : (s : SessionModel) → s.current ≡ None → base_of s ≡ record { stored = s.stored; block_delete = s.block_delete }
free_base s free = λ i. record { stored = base_after s.stored (free i); block_delete = s.block_delete }

then_base : (s : SessionModel) (p : PlannedModel) → p.block.stage ≡ stage.OnBlock
    → base_of (let t : SessionModel = record s { current = Some (block_on s.stored.setup.params p.block) } in t) ≡ base_then
    (record { stored = s.stored; block_delete = s.block_delete }) p
then_base s p on = λ i. record { stored = base_on s.stored (block_on s.stored.setup.params p.block) (on i); block_delete = s.block_delete }

-- what is left of a plan whose first line is begun
plan_rest : (geometry : Geometry) (base : Base) (ps qs : List PlannedModel) (p : PlannedModel) (x : StoredModel) → ps ≡ p ∷ qs
    → IsPlan geometry base ps x → IsPlannedOn geometry base p × IsPlan geometry (base_then base p) qs x
plan_rest geometry base ps qs p x front plan =
    let lines = subst (λ (l : List PlannedModel). ArePlannedOn geometry base l) front plan.lines in
    let some : ps ≢ [] = λ none. let e : p ∷ qs ≡ [] = sym front ∙ none in cc in
    (lines.0, record { lines = lines.1; next_is = λ rest. plan.next_is some ∙ ap (λ (l : List PlannedModel). (base_at_end base l).stored) front })

pub begun_ahead : (geometry : Geometry) (s t : SessionModel) (known_old known_new : KnownModel) (p : PlannedModel)
    → s.current ≡ None → t ≡ (let u : SessionModel = record s { current = Some (block_on s.stored.setup.params p.block) } in u)
    → known_old.ahead ≡ p ∷ known_new.ahead → known_new ≡ record known_old { ahead = known_new.ahead }
    → IsPlan geometry (base_of s) known_old.ahead known_old.base → IsBegunAhead geometry reply.Begun s t known_old known_new
begun_ahead geometry s t known_old known_new p free next front known plan =
    let here : Base = record { stored = s.stored; block_delete = s.block_delete } in
    let split = plan_rest geometry here known_old.ahead known_new.ahead p known_old.base front
    (plan_as geometry (base_of s) here known_old.ahead known_old.base (sym (free_base s free)) plan) in
    let on : IsPlannedOn geometry here p = split.0 in
    let stage_is : p.block.stage ≡ stage.OnBlock = ap (λ (c : CurrentBlockModel). c.stage) on.begun_is in
    record {
      planned = p;
      front = front;
      before = ap (λ (k : KnownModel). k.before) known;
      place = on.place;
      beginning = on.beginning;
      told_is = λ program kind. ap (λ (o : Transition). o.reply) (planned_begins geometry program s p on kind);
      next = λ program kind. next ∙ ap (λ (o : Transition). o.next) (planned_begins geometry program s p on kind);
      plan = subst (λ (x : StoredModel). IsPlan geometry (base_of t) known_new.ahead x) (sym (ap (λ (k : KnownModel). k.base) known))
          (plan_as geometry (base_then here p) (base_of t) known_new.ahead known_old.base (ap base_of next ∙ then_base s p stage_is) split.1);
    }
