-- What the calls of a stream, one after another, say together.
use Rattle.std.proofs.Common.{arith, ℕ, ◌-◌, max, ◌<◌, ◌≤◌, ◌≡◌, ◌∙◌, ◌⊎◌, inl, inr, refl, sym, ap, Bool, true}
use Rattle.std.proofs.Common.{false, List, [], ◌∷◌, ◌++◌, length, append-nil, append_assoc}
use Rattle.std.specs.Prelude.{Some, None, nat_le, ◌==◌, ◌&&◌, if◌then◌else◌}
use Rattle.std.proofs.lemmas.Bool.Decides.{nat_tests}
use Rattle.ng_pace.specs.declared.line.Line.{Line}
use Rattle.ng_pace.specs.declared.stepping.Given.{Given}
use Rattle.ng_pace.specs.Pacer.{Motion}
use Rattle.ng_pace.specs.Rest.{CanRest}
use Rattle.ng_pace.specs.Stepping.{start_square}
use Rattle.ng_pace.specs.Paced.{IsGiven, Waits, rest_of}
use Rattle.ng_pace.specs.Stream.{Flow, items_of, items_waiting, all_items}
use Rattle.ng_pace.proofs.IntervalLemmas.{own_or_no_sooner}
use Rattle.ng_pace.specs.Run.{Event, put, end, ask, IsRun, items_put, IsPassed, IsPacedBeginning, AsksOnly}
use Rattle.ng_pace.specs.Run.{IsGivenOut, lines_given, HoldsOnly, AreFalling, IsStopped}

-- what is left of a square after a line
left_of : (line : Line) (to start wanted : ℕ) → (rest_of line to start wanted ≡ to) ⊎ ((rest_of line to start wanted ≡ 0) × (to ≤ start_square line.ramp.down start))
left_of line to start wanted = chosen ((wanted == 0) && nat_le to (start_square line.ramp.down start)) refl where
  chosen : (b : Bool) → (wanted == 0) && nat_le to (start_square line.ramp.down start) ≡ b
      → ((if b then 0 else to) ≡ to) ⊎ (((if b then 0 else to) ≡ 0) × (to ≤ start_square line.ramp.down start))
  chosen true is = inr (refl, grind (arith, nat_tests, is))
  chosen false is = inl refl

passed_of : (old new : Motion) (wanted : ℕ) (given : Given) → IsGiven old new wanted given → IsPassed old.start old.percent old.square given new.square
passed_of old new wanted given g = record {
  least = g.least;
  time = g.time;
  rates = own_or_no_sooner old.percent given.line given.from given.to given.ns g.time;
  goes_on = g.goes_on;
  starts = λ rest. (g.hasty.begins rest).holds.starts;
  within = g.within;
  ramp = g.hasty.follows.holds.ramp;
  last = g.hasty.follows.holds.last;
  stops = rw g.left (left_of given.line given.to old.start wanted);
}

pub paced : (old : Flow) (events : List Event) (new : Flow) → IsRun old events new → IsPacedBeginning old events new
paced old [] new run = record { order = append-nil (all_items old) ∙ sym (ap all_items run); passed = ap (λ t. t.motion.square) run }
paced old (put item ∷ rest) new run =
    let later : IsPacedBeginning run.0 rest new = paced run.0 rest new run.1.1 in record {
      order = sym (append_assoc (all_items old) (item ∷ []) (items_put rest)) ∙ sym (ap (λ t. t ++ items_put rest) run.1.0.items) ∙ later.order;
      passed = rw (run.1.0.settles.start, run.1.0.settles.percent, run.1.0.settles.square) at later.passed;
    }
paced old (end ∷ rest) new run =
    let later : IsPacedBeginning run.0 rest new = paced run.0 rest new run.1.1 in record {
      order = sym (ap (λ t. t ++ items_put rest) run.1.0.items) ∙ later.order;
      passed = rw (run.1.0.settles.start, run.1.0.settles.percent, run.1.0.settles.square) at later.passed;
    }
paced old (ask wanted (Some given) ∷ rest) new run =
    let later : IsPacedBeginning run.0 rest new = paced run.0 rest new run.1.1 in record {
      order = ap (λ t. t ++ items_put rest) run.1.0.items ∙ ap (λ t. given.line.item ∷ t) later.order;
      passed = (
        run.0.motion.square,
        (
          passed_of old.motion run.0.motion wanted given run.1.0.given_out,
          rw (run.1.0.given_out.start, run.1.0.given_out.percent) at later.passed,
        ),
      );
    }
paced old (ask wanted None ∷ rest) new run =
    let later : IsPacedBeginning old rest new = paced old rest new run.1 in record { order = later.order; passed = later.passed }

-- where it waits although some motion is wanted, nothing is known
none_known : (old : Motion) (wanted : ℕ) → 0 < wanted → Waits old wanted → old.known ≡ []
none_known old wanted some (inl none) = none
none_known old wanted some (inr rest) = absurd (omega (arith, rest.1))

no_lines : (xs : List Line) → length (items_of xs) ≡ 0 → xs ≡ []
no_lines [] h = refl
no_lines (x ∷ xs) h = absurd (omega arith)

-- nothing is known: nothing is given out, and everything stands still
pub nothing_left : (old : Flow) (events : List Event) (new : Flow) → IsRun old events new → AsksOnly events → old.waiting ≡ [] → old.motion.known ≡ []
    → old.motion.square ≡ 0 → IsGivenOut old events new
nothing_left old [] new run asks none known rest = record {
  all = sym (ap (λ t. items_of t ++ items_waiting old.waiting) known
      ∙ ap items_waiting none);
  rest = ap (λ t. t.motion.square) run ∙ rest;
}
nothing_left old (put item ∷ events) new run asks none known rest = absurd asks
nothing_left old (end ∷ events) new run asks none known rest = absurd asks
nothing_left old (ask wanted (Some given) ∷ events) new run asks none known rest = let more = sym known ∙ run.1.0.given_out.order in cc
nothing_left old (ask wanted None ∷ events) new run asks none known rest = let later : IsGivenOut old events new = nothing_left old events new run.1 asks.1
    none known rest in record { all = later.all; rest = later.rest }

pub all_given : (old : Flow) (events : List Event) (new : Flow) → IsRun old events new → AsksOnly events → old.waiting ≡ []
    → CanRest old.motion.square old.motion.known
    → length (all_items old) ≤ length events → IsGivenOut old events new
all_given old [] new run asks none rests enough =
    let nothing : all_items old ≡ items_of old.motion.known ++ [] = ap (λ t. items_of old.motion.known ++ items_waiting t) none in
    let bare : all_items old ≡ items_of old.motion.known = nothing ∙ append-nil (items_of old.motion.known) in
    let count : length (all_items old) ≡ length (items_of old.motion.known) = ap length bare in
    let known : old.motion.known ≡ [] = no_lines old.motion.known (omega (arith, count, enough)) in
    nothing_left old [] new run asks none known (rw known at rests)
all_given old (put item ∷ events) new run asks none rests enough = absurd asks
all_given old (end ∷ events) new run asks none rests enough = absurd asks
all_given old (ask wanted (Some given) ∷ events) new run asks none rests enough =
    let items : all_items old ≡ given.line.item ∷ all_items run.0 = run.1.0.items in
    let count : length (all_items old) ≡ length (given.line.item ∷ all_items run.0) = ap length items in
    let later : IsGivenOut run.0 events new = all_given run.0 events new run.1.1 asks.1 (run.1.0.waiting ∙ none) run.1.0.given_out.rests
    (omega (arith, count)) in
    record { all = ap (λ t. given.line.item ∷ t) later.all ∙ sym items; rest = later.rest }
all_given old (ask wanted None ∷ events) new run asks none rests enough =
    let known : old.motion.known ≡ [] = none_known old.motion wanted asks.0 run.0 in
    nothing_left old (ask wanted None ∷ events) new run asks none known (rw known at rests)

-- in a hold each line falls by the whole ramp
falls : (old : Flow) (events : List Event) (new : Flow) → IsRun old events new → HoldsOnly events → AreFalling (lines_given events)
falls old [] new run holds = tt
falls old (put item ∷ events) new run holds = absurd holds
falls old (end ∷ events) new run holds = absurd holds
falls old (ask wanted (Some given) ∷ events) new run holds =
    let most : given.to ≤ max wanted (given.from - given.line.ramp.down) = run.1.0.given_out.hasty.follows.holds.is_wanted in
    (omega (arith, most, holds.0), falls run.0 events new run.1.1 holds.1)
falls old (ask wanted None ∷ events) new run holds = falls old events new run.1 holds.1

-- in a hold what rests goes on resting
stays : (old : Flow) (events : List Event) (new : Flow) → IsRun old events new → HoldsOnly events → old.motion.square ≡ 0 → new.motion.square ≡ 0
stays old [] new run holds rest = ap (λ t. t.motion.square) run ∙ rest
stays old (put item ∷ events) new run holds rest = absurd holds
stays old (end ∷ events) new run holds rest = absurd holds
stays old (ask wanted (Some given) ∷ events) new run holds rest = absurd (neither run.1.0.given_out.moves) where
  neither : (0 < old.motion.square) ⊎ (0 < wanted) → ⊥
  neither (inl moves) = omega (arith, moves, rest)
  neither (inr some) = omega (arith, some, holds.0)
stays old (ask wanted None ∷ events) new run holds rest = stays old events new run.1 holds.1 rest

no_line : (square : ℕ) (known : List Line) → length known ≡ 0 → CanRest square known → square ≡ 0
no_line square [] none rests = rests
no_line square (line ∷ rest) none rests = absurd (omega arith)

waits_still : (old : Motion) (wanted : ℕ) → CanRest old.square old.known → Waits old wanted → old.square ≡ 0
waits_still old wanted rests (inl none) = rw none at rests
waits_still old wanted rests (inr still) = still.0

stops : (old : Flow) (events : List Event) (new : Flow) → IsRun old events new → HoldsOnly events → CanRest old.motion.square old.motion.known
    → length old.motion.known ≤ length events → new.motion.square ≡ 0
stops old [] new run holds rests enough = ap (λ t. t.motion.square) run ∙ no_line old.motion.square old.motion.known (omega arith) rests
stops old (put item ∷ events) new run holds rests enough = absurd holds
stops old (end ∷ events) new run holds rests enough = absurd holds
stops old (ask wanted (Some given) ∷ events) new run holds rests enough =
    let count : length old.motion.known ≡ length (given.line ∷ run.0.motion.known) = ap length run.1.0.given_out.order in
    stops run.0 events new run.1.1 holds.1 run.1.0.given_out.rests (omega (arith, count, enough))
stops old (ask wanted None ∷ events) new run holds rests enough = stays old events new run.1 holds.1 (waits_still old.motion wanted rests run.0)

pub stopped : (old : Flow) (events : List Event) (new : Flow) → IsRun old events new → HoldsOnly events → CanRest old.motion.square old.motion.known
    → length old.motion.known ≤ length events → IsStopped events new
stopped old events new run holds rests enough = record { falls = falls old events new run holds; rest = stops old events new run holds rests enough }
