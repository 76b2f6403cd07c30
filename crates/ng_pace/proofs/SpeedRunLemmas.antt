-- What the calls of a stream, one after another, say of the rates of its lines.
use Rattle.std.proofs.Common.{arith, ℕ, zero, suc, ◌+◌, ◌*◌, ◌<◌, ◌≤◌, ◌≡◌, ◌∙◌, ◌⊎◌, inl, inr, refl, ap, List, [], ◌∷◌, ◌++◌}
use Rattle.std.specs.Prelude.{Some, None, IsTrue, ◌==◌, ◌&&◌, if◌then◌else◌}
use Rattle.ng_canon.specs.declared.item.Item.{Item}
use Rattle.ng_canon.specs.declared.item.Item.TheVariants.{Pulse, Dwell, Switch}
use Rattle.ng_pace.specs.declared.limits.Limits.{Limits}
use Rattle.ng_pace.specs.declared.line.Line.{Line}
use Rattle.ng_pace.specs.declared.stepping.Given.{Given}
use Rattle.ng_pace.specs.Due.{own_square_of, least_ns}
use Rattle.ng_pace.specs.declared.line.Ramp.{Ramp}
use Rattle.ng_pace.specs.Rest.{IsRamp, CanRest, Stands, StandsBehind}
use Rattle.ng_pace.specs.Interval.{IsRoot, IsTimeOf, time_at}
use Rattle.ng_pace.specs.Pacer.{Motion}
use Rattle.ng_pace.specs.Paced.{IsGiven}
use Rattle.ng_pace.specs.Stream.{Flow, Timed, Settles, AreOwn, timed_lines, full_of, square_behind, no_pulse}
use Rattle.ng_pace.specs.Calls.{IsEmpty, IsPut, IsEnded, IsFlowGiven}
use Rattle.ng_pace.specs.Run.{Event, put, end, ask, IsRun, lines_given}
use Rattle.ng_pace.specs.Speed.{IsPulse, GoesOnFrom, KeepsAcceleration, KeepAcceleration}
use Rattle.ng_pace.proofs.FinalLimitLemmas.{stands-tail}
use Rattle.ng_pace.proofs.SpeedLemmas.{IsAbout, about, is_faster_within, one_root}

-- items wait, each no faster than its own time and that of the one before allow
abbrev WaitOwn : ℕ → ℕ → List Timed → ℕ → Type 0
WaitOwn p before [] behind = before ≡ behind
WaitOwn p before (t ∷ rest) behind = (t.full ≤ full_of p before t.item) × WaitOwn p (square_behind p t.item) rest behind

-- so are lines; behind one after which everything stands still, any may come
abbrev AreNoFaster : ℕ → ℕ → List Line → ℕ → Type 0
AreNoFaster p before [] behind = before ≡ behind
AreNoFaster p before (line ∷ rest) behind = (line.most ≤ full_of p before line.item)
    × ((next : ℕ) × (((next ≡ square_behind p line.item) ⊎ (IsTrue line.last ⊎ Stands line)) × AreNoFaster p next rest behind))

record IsNoFaster (p : ℕ) (flow : Flow) : Type 0 where
  before : ℕ
  behind : ℕ
  known : AreNoFaster p before flow.motion.known behind
  waits : WaitOwn p behind flow.waiting flow.before
  percent : flow.limits.most_percent ≡ p
  motion : flow.motion.percent ≡ p

wait-push : (p before : ℕ) (ts : List Timed) (behind : ℕ) (t : Timed) → t.full ≤ full_of p behind t.item → WaitOwn p before ts behind
    → WaitOwn p before (ts ++ t ∷ []) (square_behind p t.item)
wait-push p before [] behind t own waits = (rw waits own, refl)
wait-push p before (x ∷ xs) behind t own waits = (waits.0, wait-push p (square_behind p x.item) xs behind t own waits.1)

wait-at : (p before : ℕ) (ts : List Timed) (a b : ℕ) → b ≡ a → WaitOwn p before ts a → WaitOwn p before ts b
wait-at p before ts a b same waits = rw same waits

settles-own : (p before : ℕ) (lines : List Line) (waits : List Timed) (behind : ℕ) → AreOwn lines → WaitOwn p before (timed_lines lines ++ waits) behind
    → (mid : ℕ) × (AreNoFaster p before lines mid × WaitOwn p mid waits behind)
settles-own p before [] waits behind own all = (before, (refl, all))
settles-own p before (x ∷ xs) waits behind own all = let later = settles-own p (square_behind p x.item) xs waits behind own.1 all.1 in
    (later.0, ((omega (arith, own.0, all.0), (square_behind p x.item, (inl refl, later.1.0))), later.1.1))

lines-append : (p before : ℕ) (xs ys : List Line) (mid behind : ℕ) → AreNoFaster p before xs mid → AreNoFaster p mid ys behind
    → AreNoFaster p before (xs ++ ys) behind
lines-append p before [] ys mid behind first later = rw first later
lines-append p before (x ∷ xs) ys mid behind first later = (first.0, (first.1.0, (first.1.1.0, lines-append p first.1.0 xs ys mid behind first.1.1.1 later)))

-- behind lines after which everything stands still, any may come
stands-behind : (p before : ℕ) (line : Line) (rest : List Line) (behind other : ℕ) → AreNoFaster p before (line ∷ rest) behind → StandsBehind (line ∷ rest)
    → AreNoFaster p before (line ∷ rest) other
stands-behind p before line [] behind other lines stands = (lines.0, (other, (inr (stands [] line refl), refl)))
stands-behind p before line (x ∷ xs) behind other lines stands =
    (lines.0, (lines.1.0, (lines.1.1.0, stands-behind p lines.1.0 x xs behind other lines.1.1.1 (stands-tail line (line ∷ x ∷ xs) (x ∷ xs) refl stands))))

anew : (p before : ℕ) (lines : List Line) (behind : ℕ) → AreNoFaster p before lines behind → StandsBehind lines
    → (first : ℕ) × AreNoFaster p first lines no_pulse
anew p before [] behind lines stands = (no_pulse, refl)
anew p before (x ∷ xs) behind lines stands = (before, stands-behind p before x xs behind no_pulse lines stands)

-- limits of what waits become final
settled : (p : ℕ) (old mid : Flow) (ts : List Timed) (last : ℕ) → Settles old.motion mid.motion ts mid.waiting → (fed : IsNoFaster p old)
    → WaitOwn p fed.behind ts last → (at : ℕ) × (AreNoFaster p fed.before mid.motion.known at × WaitOwn p at mid.waiting last)
settled p old mid ts last s fed all =
    let made = settles-own p fed.behind s.settled mid.waiting last s.own (rw (← s.order) at all) in
    (made.0, (rw s.known (lines-append p fed.before old.motion.known s.settled fed.behind made.0 fed.known made.1.0), made.1.1))

after-put : (p : ℕ) (old mid : Flow) (item : Item) → IsPut old mid item → IsNoFaster p old → IsNoFaster p mid
after-put p old mid item is fed =
    let t : Timed = record { item = item; full = full_of p old.before item } in
    let settles : Settles old.motion mid.motion (old.waiting ++ t ∷ []) mid.waiting = rw fed.percent at is.settles in
    let all : WaitOwn p fed.behind (old.waiting ++ t ∷ []) (square_behind p item) =
    wait-push p fed.behind old.waiting old.before t (omega arith) fed.waits in
    let made = settled p old mid (old.waiting ++ t ∷ []) (square_behind p item) settles fed all in
    let last : mid.before ≡ square_behind p item = is.before ∙ ap (λ q. square_behind q item) fed.percent in record {
      before = fed.before;
      behind = made.0;
      known = made.1.0;
      waits = wait-at p made.0 mid.waiting (square_behind p item) mid.before last made.1.1;
      percent = ap (λ (l : Limits). l.most_percent) is.limits ∙ fed.percent;
      motion = is.settles.percent ∙ fed.motion;
    }

after-end : (p : ℕ) (old mid : Flow) → IsEnded old mid → IsNoFaster p old → IsNoFaster p mid
after-end p old mid is fed =
    let made = settled p old mid old.waiting old.before (rw is.none is.settles) fed fed.waits in
    let lines = anew p fed.before mid.motion.known made.0 made.1.0 is.stands in record {
      before = lines.0;
      behind = no_pulse;
      known = lines.1;
      waits = rw (is.none, is.before) refl;
      percent = ap (λ (l : Limits). l.most_percent) is.limits ∙ fed.percent;
      motion = is.settles.percent ∙ fed.motion;
    }

-- a line that is given out: neither of its squares is above that of its own time
record IsOwn (p : ℕ) (given : Given) : Type 0 where
  from : given.from ≤ own_square_of p given.line.item
  to : IsPulse given.line.item → given.to ≤ own_square_of p given.line.item
  ramp : IsRamp given.line.ramp given.from given.to
  time : IsTimeOf p given.line given.from given.to given.ns

own_full : (p before : ℕ) (item : Item) → full_of p before item ≤ own_square_of p item
own_full p before (Pulse pulse) = omega arith
own_full p before (Dwell us) = omega arith
own_full p before (Switch outputs) = omega arith

full_before : (p before : ℕ) (item : Item) → full_of p before item ≤ before
full_before p before (Pulse pulse) = omega arith
full_before p before (Dwell us) = omega arith
full_before p before (Switch outputs) = omega arith

own_behind : (p : ℕ) (item : Item) → IsPulse item → square_behind p item ≡ own_square_of p item
own_behind p (Pulse pulse) is = refl
own_behind p (Dwell us) is = absurd is
own_behind p (Switch outputs) is = absurd is

-- the square at the first of some lines
first-within : (p before : ℕ) (regarded others : List Line) (behind square : ℕ) → AreNoFaster p before (regarded ++ others) behind → CanRest square regarded
    → square ≤ before
first-within p before [] others behind square lines rests = omega arith
first-within p before (x ∷ xs) others behind square lines rests = omega (arith, rests.0, lines.0, full_before p before x.item)

given-own : (p before : ℕ) (old new : Motion) (wanted behind : ℕ) (given : Given) → IsGiven old new wanted given → old.percent ≡ p
    → AreNoFaster p before (given.line ∷ new.known) behind → IsOwn p given
given-own p before old new wanted behind given is percent lines = record {
  from = omega (arith, is.within, lines.0, own_full p before given.line.item);
  to = λ pulse. chosen pulse lines.1.1.0;
  ramp = is.hasty.follows.holds.ramp;
  time = rw percent at is.time;
} where
  next : given.to ≤ lines.1.0
  next = first-within p lines.1.0 is.hasty.regarded is.hasty.others behind given.to (rw is.hasty.all at lines.1.1.1) is.hasty.follows.holds.rests

  chosen : IsPulse given.line.item → (lines.1.0 ≡ square_behind p given.line.item) ⊎ (IsTrue given.line.last ⊎ Stands given.line)
      → given.to ≤ own_square_of p given.line.item
  chosen pulse (inl own) = omega (arith, next, own, own_behind p given.line.item pulse)
  chosen pulse (inr (inl last)) = omega (arith, is.hasty.follows.holds.last last)
  chosen pulse (inr (inr stands)) = omega (arith, stands.0, stands.1.0, is.within, is.hasty.follows.holds.ramp.grows)

abbrev AreOwnGiven : ℕ → List Given → Type 0
AreOwnGiven p [] = Unit {0}
AreOwnGiven p (given ∷ rest) = IsOwn p given × AreOwnGiven p rest

on-run : (p : ℕ) (old : Flow) (events : List Event) (new : Flow) → IsNoFaster p old → IsRun old events new → AreOwnGiven p (lines_given events)
on-run p old [] new fed run = tt
on-run p old (put item ∷ events) new fed run = on-run p run.0 events new (after-put p old run.0 item run.1.0 fed) run.1.1
on-run p old (end ∷ events) new fed run = on-run p run.0 events new (after-end p old run.0 run.1.0 fed) run.1.1
on-run p old (ask wanted (Some given) ∷ events) new fed run =
    let gives : IsFlowGiven old run.0 wanted given = run.1.0 in
    let lines : AreNoFaster p fed.before (given.line ∷ run.0.motion.known) fed.behind = rw gives.given_out.order at fed.known in
    let mid : IsNoFaster p run.0 = record {
      before = lines.1.0;
      behind = fed.behind;
      known = lines.1.1.1;
      waits = rw (gives.waiting, gives.before) fed.waits;
      percent = ap (λ (l : Limits). l.most_percent) gives.limits ∙ fed.percent;
      motion = gives.given_out.percent ∙ fed.motion;
    } in
    (given-own p fed.before old.motion run.0.motion wanted fed.behind given gives.given_out fed.motion lines, on-run p run.0 events new mid run.1.1)
on-run p old (ask wanted None ∷ events) new fed run = on-run p old events new fed run.1

some_root : (n r : ℕ) → IsRoot n r → 0 < n → 0 < r
some_root n zero root some = absurd (omega (arith, root.next))
some_root n (suc r) root some = omega arith

line-about : (p : ℕ) (item : Item) (from to n : ℕ) (ramp : Ramp) (x y : ℕ) → IsPulse item → 0 < p → 0 < n → 0 < x + y → IsRoot from x → IsRoot to y → IsRamp ramp from to
    → from ≤ own_square_of p item → to ≤ own_square_of p item
    → n ≡ (if (from == to) && (to == own_square_of p item) then least_ns p item else time_at (least_ns p item) (x + y))
    → IsAbout x n ramp.up ramp.down × IsAbout y n ramp.down ramp.up
line-about p (Pulse pulse) from to n ramp x y is some lasts moves root root_to ramp_is within within_to time =
    about p pulse.period_us from to n ramp x y (record {
      some = some;
      lasts = lasts;
      moves = moves;
      is_root = root;
      is_root_to = root_to;
      ramp_is = ramp_is;
      within = within;
      within_to = within_to;
      time = time;
    })
line-about p (Dwell us) from to n ramp x y is some lasts moves root root_to ramp_is within within_to time = absurd is
line-about p (Switch outputs) from to n ramp x y is some lasts moves root root_to ramp_is within within_to time = absurd is

own-about : (p : ℕ) (given : Given) → 0 < p → (own : IsOwn p given) → IsPulse given.line.item → 0 < given.ns → 0 < own.time.root_from + own.time.root_to
    → IsAbout own.time.root_from given.ns given.line.ramp.up given.line.ramp.down
    × IsAbout own.time.root_to given.ns given.line.ramp.down given.line.ramp.up
own-about p given some own is lasts moves = line-about p given.line.item given.from given.to given.ns given.line.ramp own.time.root_from own.time.root_to is
    some lasts moves own.time.is_root_from own.time.is_root_to own.ramp own.from (own.to is) own.time.time

keeps : (p : ℕ) (given next : Given) → 0 < p → IsOwn p given → IsOwn p next → GoesOnFrom given next → KeepsAcceleration given next
keeps p given next some own own_next on =
    let root : IsRoot given.to own_next.time.root_from = rw on.goes_on at own_next.time.is_root_from in
    let same : own_next.time.root_from ≡ own.time.root_to = one_root given.to own_next.time.root_from own.time.root_to root own.time.is_root_to in
    let moves : 0 < own.time.root_to = some_root given.to own.time.root_to own.time.is_root_to on.moves in
    let first : IsAbout own.time.root_to given.ns given.line.ramp.down given.line.ramp.up = (own-about p given some own on.pulse on.lasts (omega arith)).1 in
    let second : IsAbout own_next.time.root_from next.ns next.line.ramp.up next.line.ramp.down = (own-about p next some own_next on.next_pulse on.next_lasts (omega arith)).0 in
    let later : IsAbout own.time.root_to next.ns next.line.ramp.up next.line.ramp.down = rw same at second in
    let turned : given.line.ramp.up * given.ns + next.line.ramp.up * next.ns ≡ next.line.ramp.up * next.ns + given.line.ramp.up * given.ns
    = omega arith in record {
      gains = rw turned (is_faster_within own.time.root_to next.ns given.ns next.line.ramp.up given.line.ramp.up _ _ later first);
      loses = is_faster_within own.time.root_to given.ns next.ns given.line.ramp.down next.line.ramp.down _ _ first later;
    }

each-keeps : (p : ℕ) (givens : List Given) → 0 < p → AreOwnGiven p givens → KeepAcceleration givens
each-keeps p [] some own = tt
each-keeps p (given ∷ []) some own = tt
each-keeps p (given ∷ next ∷ rest) some own = (keeps p given next some own.0 own.1.0, each-keeps p (next ∷ rest) some own.1)

pub keeps-acceleration : (old : Flow) (limits : Limits) (capacity : ℕ) (events : List Event) (new : Flow) → IsEmpty old limits capacity → IsRun old events new
    → KeepAcceleration (lines_given events)
keeps-acceleration old limits capacity events new empty run =
    let fed : IsNoFaster limits.most_percent old = record {
      before = no_pulse;
      behind = no_pulse;
      known = rw empty.known refl;
      waits = rw (empty.waiting, empty.before) refl;
      percent = ap (λ (l : Limits). l.most_percent) empty.limits_are;
      motion = empty.percent;
    } in
    let some : 0 < limits.most_percent = omega (arith, empty.can_be_met.percent.0) in
    each-keeps limits.most_percent (lines_given events) some (on-run limits.most_percent old events new fed run)
