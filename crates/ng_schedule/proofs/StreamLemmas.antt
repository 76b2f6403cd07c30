-- What a stream has given out so far, call by call.
use Rattle.std.proofs.Common.{◌≡◌, ◌∙◌, ◌+◌, ◌-◌, ◌^◌, ◌≤◌, ℕ, List, [], ◌∷◌, ◌++◌, Bool, false, true, IsFalse}
use Rattle.std.proofs.Common.{Some, inl, inr, length, length-append, ap, append_assoc, arith, refl, subst, sym}
use Rattle.std.specs.Prelude.{None}
use Rattle.ng_canon.specs.declared.item.Item.{Item}
use Rattle.ng_pace.specs.declared.limits.Limits.{Limits}
use Rattle.ng_pace.specs.declared.line.Line.{Line}
use Rattle.ng_pace.specs.declared.stepping.Given.{Given}
use Rattle.ng_pace.specs.Calls.{IsEmpty, IsPut, IsEnded, IsFlowGiven}
use Rattle.ng_pace.specs.Stream.{Flow, Timed as Waited, all_items, items_of, items_waiting}
use Rattle.ng_pace.specs.Rest.{CanRest}
use Rattle.ng_pace.specs.Run.{ArePassed, AsksOnly, Event, put, end, ask, IsRun, lines_given}
use Rattle.ng_pace.specs.Start.{start_of}
use Rattle.ng_pace.proofs.PathsLemmas.{keeps-to-paths}
use Rattle.ng_pace.proofs.SpeedRunLemmas.{keeps-acceleration}
use Rattle.ng_pace.proofs.WholeStreamLemmas.{paced}
use Rattle.ng_schedule.specs.Schedule.{ArePaced, AskForMost, AskLate, AskWhereFull, Timed, capacity, times_of}
use Rattle.ng_schedule.specs.Private.Parts.{AskLateSoFar, IsStreamed}

-- events behind others
run_on : (first : Flow) (events more : List Event) (mid last : Flow) → IsRun first events mid → IsRun mid more last → IsRun first (events ++ more) last
run_on first [] more mid last is run = subst (λ (flow : Flow). IsRun flow more last) is run
run_on first (put item ∷ events) more mid last (next, (was_put, before)) run = (next, (was_put, run_on next events more mid last before run))
run_on first (end ∷ events) more mid last (next, (ended, before)) run = (next, (ended, run_on next events more mid last before run))
run_on first (ask wanted (Some given) ∷ events) more mid last (next, (was_given, before)) run = (next, (was_given, run_on next events more mid last before run))
run_on first (ask wanted None ∷ events) more mid last (waits, before) run = (waits, run_on first events more mid last before run)

given_on : (events more : List Event) → lines_given (events ++ more) ≡ lines_given events ++ lines_given more
given_on [] more = refl
given_on (put item ∷ events) more = given_on events more
given_on (end ∷ events) more = given_on events more
given_on (ask wanted (Some given) ∷ events) more = ap (λ l. given ∷ l) (given_on events more)
given_on (ask wanted None ∷ events) more = given_on events more

most_on : (events more : List Event) → AskForMost events → AskForMost more → AskForMost (events ++ more)
most_on [] more none most = most
most_on (put item ∷ events) more before most = most_on events more before most
most_on (end ∷ events) more before most = most_on events more before most
most_on (ask wanted answer ∷ events) more (is_most, before) most = (is_most, most_on events more before most)

times_on : (given more : List Given) → times_of (given ++ more) ≡ times_of given ++ times_of more
times_on [] more = refl
times_on (one ∷ given) more = ap (λ l. (record { item = one.line.item; ns = one.ns }) ∷ l) (times_on given more)

-- more events come where these have led to
full_on : (known : ℕ) (in_vain : Bool) (events more : List Event) (first mid : Flow) → IsRun first events mid → known ≡ length (all_items first)
    → AskWhereFull known in_vain events → ((last : Bool) → AskWhereFull (length (all_items mid)) last more) → AskWhereFull known in_vain (events ++ more)
full_on known in_vain [] more first mid run is so_far then =
    subst (λ (n : ℕ). AskWhereFull n in_vain more) (ap (λ (flow : Flow). length (all_items flow)) run ∙ sym is) (then in_vain)
full_on known in_vain (put item ∷ events) more first mid (next, (was_put, before)) is so_far then =
    full_on (known + 1) false events more next mid before (omega (arith, is, ap length was_put.items, length-append (all_items first) (item ∷ []))) so_far then
full_on known in_vain (end ∷ events) more first mid (next, (ended, before)) is so_far then =
    (so_far.0, full_on known false events more next mid before (omega (arith, is, ap length ended.items)) so_far.1 then)
full_on known in_vain (ask wanted (Some given) ∷ events) more first mid (next, (was_given, before)) is so_far then =
    (so_far.0, full_on (known - 1) false events more next mid before (omega (arith, is, ap length was_given.items)) so_far.1 then)
full_on known in_vain (ask wanted None ∷ events) more first mid (waits, before) is so_far then =
    (so_far.0, full_on known true events more first mid before is so_far.1 then)

asks_on : (events : List Event) (given : Given) → AsksOnly events → AsksOnly (events ++ ask (2 ^ 64 - 1) (Some given) ∷ [])
asks_on [] given asks = (omega arith, tt)
asks_on (put item ∷ events) given asks = absurd asks
asks_on (end ∷ events) given asks = absurd asks
asks_on (ask wanted answer ∷ events) given asks = (asks.0, asks_on events given asks.1)

late_of : (ended : Bool) (events : List Event) → AskLateSoFar ended events → AskLate events
late_of false events late = inl late
late_of true events late = inr late

items_count : (flow : Flow) → length (all_items flow) ≡ length flow.motion.known + length flow.waiting
items_count flow = omega (
  arith,
  length-append (items_of flow.motion.known) (items_waiting flow.waiting),
  lines_count flow.motion.known,
  waiting_count flow.waiting,
) where
  lines_count : (lines : List Line) → length (items_of lines) ≡ length lines
  lines_count [] = refl
  lines_count (line ∷ lines) = omega (arith, lines_count lines)

  waiting_count : (timed : List Waited) → length (items_waiting timed) ≡ length timed
  waiting_count [] = refl
  waiting_count (one ∷ timed) = omega (arith, waiting_count timed)

-- where the end is told, no more fits than before
pub still_full : (old new : Flow) → IsEnded old new → old.motion.capacity ≤ length old.motion.known + length old.waiting
    → new.motion.capacity ≤ length new.motion.known + length new.waiting
still_full old new h full = omega (arith, h.settles.capacity, ap length h.items, items_count old, items_count new, full)

module _ (limits : Limits) where
  -- more events
  goes_on : {ended next : Bool} (timed times : List Timed) (flow new : Flow) (events : List Event)
      → (here : IsStreamed ended limits timed flow) → IsRun flow events new → AskForMost events
      → times ≡ times_of (lines_given events) → AskLateSoFar next (here.events ++ events) → new.motion.percent ≡ flow.motion.percent
      → new.motion.capacity ≡ flow.motion.capacity → CanRest new.motion.square new.motion.known → IsStreamed next limits (timed ++ times) new
  goes_on timed times flow new events here run most times_are late same same_capacity rests =
      record {
        first = here.first;
        events = here.events ++ events;
        empty = here.empty;
        run = run_on here.first here.events events flow new here.run run;
        haste = most_on here.events events here.haste most;
        late = late;
        capacity_is = same_capacity ∙ here.capacity_is;
        times = ap (λ (l : List Timed). l ++ times) here.times ∙ ap (λ (l : List Timed). times_of (lines_given here.events) ++ l) times_are
            ∙ sym (times_on (lines_given here.events) (lines_given events)) ∙ ap times_of (sym (given_on here.events events));
        percent = same ∙ here.percent;
        rests = rests;
      }

  -- nothing is given out
  goes_quietly : {ended next : Bool} (timed : List Timed) (flow new : Flow) (events : List Event)
      → (here : IsStreamed ended limits timed flow) → IsRun flow events new → AskForMost events
      → [] ≡ times_of (lines_given events) → AskLateSoFar next (here.events ++ events) → new.motion.percent ≡ flow.motion.percent
      → new.motion.capacity ≡ flow.motion.capacity → CanRest new.motion.square new.motion.known → IsStreamed next limits timed new
  goes_quietly {ended} {next} timed flow new events here run most none late same same_capacity rests =
      subst (λ (l : List Timed). IsStreamed next limits l new) (none_more timed)
      (goes_on timed [] flow new events here run most none late same same_capacity rests)
    where
      none_more : (l : List Timed) → l ++ [] ≡ l
      none_more [] = refl
      none_more (t ∷ ts) = ap (λ (l : List Timed). t ∷ l) (none_more ts)

  -- so many are known as fit
  is_full : {ended : Bool} (timed : List Timed) (flow : Flow) → (here : IsStreamed ended limits timed flow)
      → flow.motion.capacity ≤ length flow.motion.known + length flow.waiting
      → capacity ≤ length (all_items flow)
  is_full timed flow here full = omega (arith, here.capacity_is, items_count flow, full)

  none_first : (first : Flow) → IsEmpty first limits capacity → 0 ≡ length (all_items first)
  none_first first empty = omega (arith, items_count first, ap length empty.known, ap length empty.waiting)

  pub puts : (timed : List Timed) (flow new : Flow) (item : Item) → IsStreamed false limits timed flow → IsPut flow new item → IsStreamed false limits timed new
  puts timed flow new item here h =
      goes_quietly timed flow new (put item ∷ []) here (new, (h, refl)) tt refl
      (full_on 0 false here.events (put item ∷ []) here.first flow here.run (none_first here.first here.empty) here.late (λ last. tt))
      h.settles.percent h.settles.capacity h.rests

  -- no line has its limits, and no more fit: the end is told
  pub tells : (timed : List Timed) (flow new : Flow) → IsStreamed false limits timed flow → flow.motion.known ≡ []
      → flow.motion.capacity ≤ length flow.motion.known + length flow.waiting → IsEnded flow new → IsStreamed false limits timed new
  tells timed flow new here none full h =
      goes_quietly timed flow new (ask (2 ^ 64 - 1) None ∷ (end ∷ [])) here (inl none, (new, (h, refl))) (refl, tt) refl
      (full_on 0 false here.events (ask (2 ^ 64 - 1) None ∷ (end ∷ [])) here.first flow here.run (none_first here.first here.empty) here.late
      (λ last. (is_full timed flow here full, (refl, tt))))
      h.settles.percent h.settles.capacity h.rests

  -- no more lines come: the end is told
  pub ends : (timed : List Timed) (flow new : Flow) → IsStreamed false limits timed flow → IsEnded flow new → IsStreamed true limits timed new
  ends timed flow new here h =
      goes_quietly timed flow new (end ∷ []) here (new, (h, refl)) tt refl
      (record { before = here.events; rest = []; parts = refl; full = here.late; asks = tt })
      h.settles.percent h.settles.capacity h.rests

  asked : (ended : Bool) (timed : List Timed) (flow : Flow) (given : Given) → (here : IsStreamed ended limits timed flow)
      → (IsFalse ended → flow.motion.capacity ≤ length flow.motion.known + length flow.waiting)
      → AskLateSoFar ended (here.events ++ ask (2 ^ 64 - 1) (Some given) ∷ [])
  asked false timed flow given here full =
      full_on 0 false here.events (ask (2 ^ 64 - 1) (Some given) ∷ []) here.first flow here.run (none_first here.first here.empty) here.late
      (λ last. (is_full timed flow here (full refl), tt))
  asked true timed flow given here full = record {
    before = here.late.before;
    rest = here.late.rest ++ ask (2 ^ 64 - 1) (Some given) ∷ [];
    parts = ap (λ (l : List Event). l ++ ask (2 ^ 64 - 1) (Some given) ∷ []) here.late.parts
        ∙ append_assoc here.late.before (end ∷ here.late.rest) (ask (2 ^ 64 - 1) (Some given) ∷ []);
    full = here.late.full;
    asks = asks_on here.late.rest given here.late.asks;
  }

  pub gives_out : (ended : Bool) (timed : List Timed) (flow new : Flow) (given : Given) → IsStreamed ended limits timed flow
      → (IsFalse ended → flow.motion.capacity ≤ length flow.motion.known + length flow.waiting) → IsFlowGiven flow new (2 ^ 64 - 1) given
      → IsStreamed ended limits (timed ++ (record { item = given.line.item; ns = given.ns }) ∷ []) new
  gives_out ended timed flow new given here full h =
      goes_on timed _ flow new (ask (2 ^ 64 - 1) (Some given) ∷ []) here (new, (h, refl)) (refl, tt) refl (asked ended timed flow given here full)
      h.given_out.percent h.given_out.capacity h.given_out.rests

  -- before the first line
  pub begins : (flow : Flow) → IsEmpty flow limits capacity → IsStreamed false limits [] flow
  begins flow empty =
      record {
        first = flow;
        events = [];
        empty = empty;
        run = refl;
        haste = tt;
        late = tt;
        capacity_is = empty.capacity_is;
        times = refl;
        percent = empty.percent;
        rests = subst (λ (known : List Line). CanRest flow.motion.square known) (sym empty.known) empty.rest;
      }

  -- what the laws of streams say of it
  pub are_paced : {ended : Bool} (timed : List Timed) (flow : Flow) → IsStreamed ended limits timed flow → ArePaced limits timed flow.motion.square
  are_paced {ended} timed flow here =
      let passed = (paced here.first here.events flow here.run).passed in
      record {
        first = here.first;
        events = here.events;
        last = flow;
        empty = here.empty;
        run = here.run;
        haste = here.haste;
        late = late_of ended here.events here.late;
        times = here.times;
        squares = subst (λ (square : ℕ). ArePassed (start_of limits) limits.most_percent square (lines_given here.events) flow.motion.square) here.empty.rest
            (subst (λ (percent : ℕ). ArePassed (start_of limits) percent here.first.motion.square
            (lines_given here.events) flow.motion.square) here.empty.percent
            (subst (λ (start : ℕ). ArePassed start here.first.motion.percent here.first.motion.square
            (lines_given here.events) flow.motion.square) here.empty.start passed));
        speeds = keeps-acceleration here.first limits capacity here.events flow here.empty here.run;
        axes = keeps-to-paths here.first limits capacity here.events flow here.empty here.run;
      }

  -- nothing is known any more: everything stands still
  pub come_to_rest : {ended : Bool} (timed : List Timed) (flow : Flow) → IsStreamed ended limits timed flow → all_items flow ≡ [] → ArePaced limits timed 0
  come_to_rest timed flow here none =
      subst (λ (square : ℕ). ArePaced limits timed square) (still flow.motion.known flow.motion.square none here.rests) (are_paced timed flow here)
    where
      still : (known : List Line) (square : ℕ) → items_of known ++ items_waiting flow.waiting ≡ [] → CanRest square known → square ≡ 0
      still [] square is rests = rests
      still (line ∷ known) square is rests = absurd (cc is)
