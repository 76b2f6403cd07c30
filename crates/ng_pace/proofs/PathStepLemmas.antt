-- How far a path comes with each step of the code.
use Rattle.std.proofs.Common.{arith, ℕ, ◌+◌, ◌-◌, ◌*◌, ◌/◌, ◌<◌, ◌≤◌, ◌≡◌, ◌∙◌, ◌⊎◌, inl, inr, min, max, refl, ap}
use Rattle.std.proofs.Common.{sym, subst, List, [], ◌∷◌, ◌++◌, length, slice_index_or, take, drop, All, append-nil}
use Rattle.std.proofs.Common.{append_assoc, true, false, IsTrue, IsFalse}
use Rattle.std.proofs.lemmas.List.{length-append, take-append-drop, length-take-le}
use Rattle.std.proofs.lemmas.List.Elements.{All-weaker, All-nil}
use Rattle.ng_canon.specs.declared.item.AxisStep.{AxisStep}
use Rattle.ng_canon.specs.declared.item.Pulse.{Pulse}
use Rattle.ng_pace.specs.declared.limits.Limits.{Limits}
use Rattle.ng_pace.specs.declared.line.Line.{Line}
use Rattle.ng_pace.specs.declared.line.Ramp.{Ramp}
use Rattle.ng_pace.specs.Rest.{either_way}
use Rattle.ng_pace.specs.declared.slopes.Slopes.{Slopes}
use Rattle.ng_pace.specs.declared.chord.Chord.{Chord}
use Rattle.ng_pace.specs.declared.chord.Waiting.{Waiting}
use Rattle.ng_pace.specs.Pacer.{Motion}
use Rattle.ng_pace.specs.Axes.{EachAxis}
use Rattle.ng_pace.specs.Chord.{Slope, IsSlope, IsNear, IsStraight, slope_of}
use Rattle.ng_pace.specs.Cone.{AreBetween}
use Rattle.ng_pace.specs.Legs.{Leg, IsChord, IsFarthest, IsFullAt, IsFullAtCorner, IsPaced, IsBehind, IsAllowed}
use Rattle.ng_pace.specs.Legs.{IsOnChord, IsOnCorner, steps_along, slope_along, pulses_of, lines_of}
use Rattle.ng_pace.specs.Making.{IsWithin}
use Rattle.ng_pace.specs.Putting.{KeepSoFar}
use Rattle.ng_pace.specs.Passing.{PassesAlong, PassesCorner}
use Rattle.ng_pace.specs.Path.{AreCones, AreReached, AreSlopes, IsOpen, IsGoing, IsPending, IsJoined, IsPath}
use Rattle.ng_pace.specs.Path.{IsClosed, Advances, Reaches, Bends, Finishes, IsBegun, IsBehindFarthest, longer}
use Rattle.ng_pace.specs.Path.{reserve_of}
use Rattle.ng_pace.proofs.ConeLemmas.{near-push}
use Rattle.ng_pace.proofs.CornerLemmas.{full-at-corner, longest}
use Rattle.ng_pace.proofs.ExactLemmas.{full-on}
use Rattle.ng_pace.proofs.PathLemmas.{slope-some, chord-front, on-chord, paced-more, corner-paced}

-- what slopes a chord may get, whatever pulses it still takes
abbrev pub AreAhead : ℕ → List Slopes → List Pulse → Type 0
AreAhead slack slopes pulses = EachAxis (λ axis. (slope : Slope) → IsSlope slope → IsNear slack slope (steps_along axis pulses) → AreBetween slopes axis slope)

pub slopes-ahead : (slack : ℕ) (slopes : List Slopes) (pulses more : List Pulse) → 0 < length pulses → AreAhead slack slopes pulses
    → IsChord slack (pulses ++ more) → AreSlopes slopes (pulses ++ more)
slopes-ahead slack slopes pulses more some ahead chord = record {
  x = ahead.x (slope_along 0 (pulses ++ more)) (slope-some 0 (pulses ++ more) long) (chord-front slack 0 pulses more chord.x);
  y = ahead.y (slope_along 1 (pulses ++ more)) (slope-some 1 (pulses ++ more) long) (chord-front slack 1 pulses more chord.y);
  z = ahead.z (slope_along 2 (pulses ++ more)) (slope-some 2 (pulses ++ more) long) (chord-front slack 2 pulses more chord.z);
} where
  long : 0 < length (pulses ++ more)
  long = omega (arith, length-append pulses more, some)

-- where the next chord has more pulses, the one before goes as far
farthest-more : (slack : ℕ) (chord next more : List Pulse) → 0 < length next → IsFarthest slack chord next → IsFarthest slack chord (next ++ more)
farthest-more slack chord [] more some farthest = absurd (omega (arith, some))
farthest-more slack chord (x ∷ next) more some farthest = λ pulse rest is. let same : x ≡ pulse = cc in farthest pulse next (ap (λ t. t ∷ next) same)

-- along the open chord
pub along-path : (limits : Limits) (stop : ℕ) (chord : Chord) (old new : Motion) (waited waits : List Waiting) (leg : Leg) (rest : List Leg)
    (slopes : List Slopes) (reserve : ℕ)
    → IsGoing limits stop chord (length waited) leg rest → 0 < length leg.pulses → AreAhead limits.slack slopes leg.pulses
    → AreReached limits.slack slopes leg.pulses → reserve_of limits.half (length leg.pulses) ≤ reserve → 0 < reserve
    → PassesAlong limits slopes stop reserve old new waited waits
    → Advances limits stop old new chord (length waits) (pulses_of (leg ∷ rest)) (lines_of (leg ∷ rest))
along-path limits stop chord old new waited waits leg rest slopes reserve going some ahead reached enough one passes = record {
  made = passes.makes.made;
  known = passes.makes.known;
  leg = record { pulses = leg.pulses; lines = leg.lines ++ passes.makes.made };
  rest = rest;
  pulses_are = refl;
  lines_are = sym (append_assoc (lines_of rest) leg.lines passes.makes.made);
  path = inl (record {
    opened = going.opened;
    decided = going.decided;
    paced = λ more straight. paced-more limits stop (longer leg more) passes.makes.made rest (going.paced more straight) (on more straight) (few more)
        (full more);
    waits_are = omega (arith, length-append leg.lines passes.makes.made, passes.makes.rest, going.waits_are);
    reserve = omega (arith, length-append leg.lines passes.makes.made, passes.makes.rest, passes.makes.count_is, going.waits_are, going.reserve, enough);
  });
  some = some;
} where
  few : (more : List Pulse) → length leg.lines + length passes.makes.made ≤ length (leg.pulses ++ more)
  few more = omega (arith, length-append leg.pulses more, passes.makes.rest, going.waits_are)

  full : (more : List Pulse) (k : ℕ) (d : Line) → k < length passes.makes.made → length leg.lines + k + limits.half < length (leg.pulses ++ more)
      → IsFullAt limits (leg.pulses ++ more) (length leg.lines + k) (slice_index_or passes.makes.made k d)
  full more k d short to = record {
    known = leg.pulses;
    others = more;
    all = refl;
    its = omega (arith, passes.makes.rest, going.waits_are, short);
    full = full-on limits leg.pulses slopes passes.most passes.ramp (slice_index_or passes.makes.made k d) reached passes.full
        (passes.makes.full k d short (omega (arith, passes.makes.count_is, short, one)));
  }

  on : (more : List Pulse) → IsChord limits.slack (leg.pulses ++ more) → All (IsOnChord limits stop (leg.pulses ++ more)) passes.makes.made
  on more straight = All-weaker (IsWithin passes.most (either_way passes.ramp) stop) (IsOnChord limits stop (leg.pulses ++ more))
      (on-chord limits stop slopes (leg.pulses ++ more) passes.most passes.ramp (omega (arith, length-append leg.pulses more, some)) passes.allowed
      (slopes-ahead limits.slack slopes leg.pulses more some ahead straight))
      passes.makes.made passes.makes.each

-- how many lines a corner takes
record AreCounts (before first second waits n n' half pulses : ℕ) : Type 0 where
  meets : before + first + pulses / 2 ≡ n'
  all : second ≡ pulses
  few : (pulses + 1) / 2 ≤ n
  left : waits + (pulses - pulses / 2) ≡ n
  reserve : pulses - pulses / 2 + min n (2 * half) / 2 ≤ n

counts : (wait before first left second waits n n' half pulses : ℕ) → wait + before ≡ n + n' → before + min n' (2 * half) / 2 ≡ n' → 0 < n → 0 < n' → 0 < half
    → 0 < pulses → pulses ≤ max 1 n' → pulses ≤ max 1 n → pulses ≤ max 1 (2 * half)
    → first ≡ min (wait - n - pulses / 2) wait → left + first ≡ wait → second ≡ min pulses left → waits + second ≡ left
    → AreCounts before first second waits n n' half pulses
counts wait before first left second waits n n' half pulses a b c d e f g h i j k l m = record {
  meets = omega arith;
  all = omega arith;
  few = omega arith;
  left = omega arith;
  reserve = omega arith;
}

lines-split : (a b f t d s : List Line) → t ++ d ≡ s → (a ++ ((b ++ f) ++ t)) ++ d ≡ ((a ++ b) ++ []) ++ (f ++ s)
lines-split a b f t d s e = rw (← e) (simp (append_assoc, append-nil))

-- a chord behind a corner that isn't decided
pub joined-corner : (limits : Limits) (stop : ℕ) (chord : Chord) (waits : ℕ) (leg : Leg) (rest : List Leg) → IsJoined limits stop chord waits leg rest
    → IsTrue chord.has_corner
joined-corner limits stop chord waits leg [] joined = absurd joined
joined-corner limits stop chord waits leg (before ∷ rest) joined = joined.pending

-- the lines up to the end of a corner, for one way that the chord goes on
corner-lines : (limits : Limits) (stop : ℕ) (chord : Chord) (old new : Motion) (waited waits : List Waiting) (leg before : Leg) (rest : List Leg)
    (next : List Slopes) (pulses : List Pulse)
    → IsPending limits stop chord (length waited) leg before rest → IsChord limits.slack pulses → (others : List Pulse) → pulses ≡ leg.pulses ++ others
    → (others ≡ []) ⊎ (4 * limits.half ≤ length leg.pulses) → AreReached limits.slack next leg.pulses → 0 < length leg.pulses
    → 0 < limits.half → IsFarthest limits.slack before.pulses pulses → AreSlopes next pulses
    → (p : PassesCorner limits chord.before next chord.before_pulses chord.pulses stop old new waited waits)
    → AreCounts (length before.lines) (length p.first.made) (length p.then.made) (length waits) (length leg.pulses) (length before.pulses) limits.half p.pulses
    → IsPaced limits stop (record {
      pulses = pulses;
      lines = drop (p.pulses / 2) p.then.made;
    } ∷ (record {
      pulses = before.pulses;
      lines = (before.lines ++ p.first.made) ++ take (p.pulses / 2) p.then.made;
    } ∷ rest))
corner-lines limits stop chord old new waited waits leg before rest next pulses pending straight others all enough reached some half farthest are p count =
    corner-paced limits stop chord.before next pulses before rest p.first.made p.then.made p.pulses p.before_most p.before_ramp p.most p.ramp pending.paced
    straight pending.some (omega (arith, some, longer_is))
    pending.before_is are farthest p.some (omega (arith, p.before_few, pending.before_count, pending.some)) p.takes p.before_allowed p.first.each p.then.each count.meets count.all (omega (arith, count.few, longer_is))
    (omega (arith, p.half, half)) full leg.pulses others all enough some
    (longest limits before.pulses leg.pulses chord.before next chord.before_pulses chord.pulses p.pulses p.feed
    p.most p.ramp pending.before_reached reached p.full
    pending.before_count pending.opened.count) full' where
      longer_is : length leg.pulses ≤ length pulses
      longer_is = omega (arith, ap length all, length-append leg.pulses others)

      full' : (k : ℕ) (d : Line) → k < length p.then.made → k + 1 < p.pulses / 2 + length leg.pulses
          → IsFullAtCorner limits before.pulses leg.pulses p.pulses (slice_index_or p.then.made k d)
      full' k d short to = full-at-corner limits before.pulses leg.pulses chord.before next chord.before_pulses chord.pulses p.pulses p.feed p.most p.ramp
          pending.before_reached reached p.full (slice_index_or p.then.made k d)
          (p.then.full k d short (omega (arith, p.then.rest, count.all, count.left, to))) (p.feeds k d short)

      full : (k : ℕ) (d : Line) → k < length p.first.made → length before.lines + k + limits.half < length before.pulses
          → IsFullAt limits before.pulses (length before.lines + k) (slice_index_or p.first.made k d)
      full k d short to = record {
        known = before.pulses;
        others = [];
        all = sym (append-nil before.pulses);
        its = omega (arith, to);
        full = full-on limits before.pulses chord.before p.before_most p.before_ramp (slice_index_or p.first.made k d) pending.before_reached p.before_full
            (p.first.full k d short (omega (arith, pending.waits_are, to, half)));
      }

corner-counts : (limits : Limits) (stop : ℕ) (chord : Chord) (old new : Motion) (waited waits : List Waiting) (leg before : Leg) (rest : List Leg)
    (next : List Slopes)
    → IsPending limits stop chord (length waited) leg before rest → 0 < length leg.pulses → 0 < limits.half
    → (p : PassesCorner limits chord.before next chord.before_pulses chord.pulses stop old new waited waits)
    → AreCounts (length before.lines) (length p.first.made) (length p.then.made) (length waits) (length leg.pulses) (length before.pulses) limits.half p.pulses
corner-counts limits stop chord old new waited waits leg before rest next pending some half p =
    counts (length waited) (length before.lines) (length p.first.made) (length p.left) (length p.then.made) (length waits) (length leg.pulses)
    (length before.pulses) limits.half p.pulses
    pending.waits_are pending.reserve some pending.some half p.some (omega (arith, p.before_few, pending.before_count))
    (omega (arith, p.after_few, pending.opened.count)) p.half
    first_is p.first.rest p.then.count_is p.then.rest
  where
    first_is : length p.first.made ≡ min (length waited - length leg.pulses - p.pulses / 2) (length waited)
    first_is = rw (← pending.opened.count) p.first.count_is

known-both : (a b c : Motion) (first second : List Line) → b.known ≡ a.known ++ first → c.known ≡ b.known ++ second → c.known ≡ a.known ++ (first ++ second)
known-both a b c first second e e' = e' ∙ ap (λ t. t ++ second) e ∙ append_assoc a.known first second

corner-split : (leg before : Leg) (rest : List Leg) (f s : List Line) (k : ℕ) → leg.lines ≡ []
    → (lines_of rest ++ ((before.lines ++ f) ++ take k s)) ++ drop k s ≡ ((lines_of rest ++ before.lines) ++ leg.lines) ++ (f ++ s)
corner-split leg before rest f s k none = rw none (lines-split (lines_of rest) before.lines f (take k s) (drop k s) s (take-append-drop k s))

opened-decided : (limits : Limits) (chord chord' : Chord) (pulses : List Pulse) → chord' ≡ record chord { has_corner = false } → IsOpen limits chord pulses
    → IsOpen limits chord' pulses
opened-decided limits chord chord' pulses e is
    = rw e (record { is_open = is.is_open; cones = is.cones; count = is.count; few = is.few; straight = is.straight })

back-length : (k : ℕ) (s : List Line) → k ≤ length s → length (drop k s) + k ≡ length s
back-length k s few = omega (arith, ap length (take-append-drop k s), length-append (take k s) (drop k s), length-take-le k s few)

-- a corner is decided while the chord is open
pub corner-path : (limits : Limits) (stop : ℕ) (chord chord' : Chord) (old new : Motion) (waited waits : List Waiting) (leg before : Leg) (rest : List Leg)
    (next : List Slopes)
    → IsPending limits stop chord (length waited) leg before rest → 0 < length leg.pulses → 0 < limits.half → AreAhead limits.slack next leg.pulses
    → AreReached limits.slack next leg.pulses → 4 * limits.half ≤ chord.pulses
    → PassesCorner limits chord.before next chord.before_pulses chord.pulses stop old new waited waits → chord' ≡ record chord { has_corner = false }
    → Advances limits stop old new chord' (length waits) (pulses_of (leg ∷ (before ∷ rest))) (lines_of (leg ∷ (before ∷ rest)))
corner-path limits stop chord chord' old new waited waits leg before rest next pending some half ahead reached long p e =
    let count : AreCounts (length before.lines) (length p.first.made) (length p.then.made) (length waits) (length leg.pulses) (length before.pulses)
    limits.half p.pulses
    = corner-counts limits stop chord old new waited waits leg before rest next pending some half p in
    let back : length (drop (p.pulses / 2) p.then.made) + p.pulses / 2 ≡ length p.then.made
    = back-length (p.pulses / 2) p.then.made (omega (arith, count.all)) in
    record {
      made = p.first.made ++ p.then.made;
      known = known-both old p.mid new p.first.made p.then.made p.first.known p.then.known;
      leg = record { pulses = leg.pulses; lines = drop (p.pulses / 2) p.then.made };
      rest = record { pulses = before.pulses; lines = (before.lines ++ p.first.made) ++ take (p.pulses / 2) p.then.made } ∷ rest;
      pulses_are = refl;
      lines_are = corner-split leg before rest p.first.made p.then.made (p.pulses / 2) pending.none;
      path = inl (record {
        opened = opened-decided limits chord chord' leg.pulses e pending.opened;
        decided = ap (λ t. t.has_corner) e;
        paced = λ more straight. corner-lines limits stop chord old new waited waits leg before rest next (leg.pulses ++ more) pending straight
            more refl (inr (omega (arith, long, pending.opened.count))) reached some half
            (farthest-more limits.slack before.pulses leg.pulses more some pending.farthest)
            (slopes-ahead limits.slack next leg.pulses more some ahead straight) p count;
        waits_are = omega (arith, back, count.all, count.left);
        reserve = omega (arith, back, count.all, count.reserve);
      });
      some = some;
    }

-- or where it ends
pub corner-reach : (limits : Limits) (stop : ℕ) (chord : Chord) (old new : Motion) (waited waits : List Waiting) (leg before : Leg) (rest : List Leg)
    (next : List Slopes)
    → IsPending limits stop chord (length waited) leg before rest → 0 < length leg.pulses → 0 < limits.half → AreSlopes next leg.pulses
    → AreReached limits.slack next leg.pulses → PassesCorner limits chord.before next chord.before_pulses chord.pulses stop old new waited waits
    → Reaches limits stop old new (length waits) leg.pulses (pulses_of (leg ∷ (before ∷ rest))) (lines_of (leg ∷ (before ∷ rest)))
    × (reserve_of limits.half (length leg.pulses) ≤ length waits)
corner-reach limits stop chord old new waited waits leg before rest next pending some half are reached p =
    let count : AreCounts (length before.lines) (length p.first.made) (length p.then.made) (length waits) (length leg.pulses) (length before.pulses)
    limits.half p.pulses
    = corner-counts limits stop chord old new waited waits leg before rest next pending some half p in
    let back : length (drop (p.pulses / 2) p.then.made) + p.pulses / 2 ≡ length p.then.made
    = back-length (p.pulses / 2) p.then.made (omega (arith, count.all)) in (
      record {
        made = p.first.made ++ p.then.made;
        known = known-both old p.mid new p.first.made p.then.made p.first.known p.then.known;
        last = drop (p.pulses / 2) p.then.made;
        rest = record { pulses = before.pulses; lines = (before.lines ++ p.first.made) ++ take (p.pulses / 2) p.then.made } ∷ rest;
        pulses_are = refl;
        lines_are = corner-split leg before rest p.first.made p.then.made (p.pulses / 2) pending.none;
        paced = corner-lines limits stop chord old new waited waits leg before rest next leg.pulses pending pending.opened.straight []
            (sym (append-nil leg.pulses)) (inl refl) reached some half pending.farthest are p
            count;
        waits_are = omega (arith, back, count.all, count.left);
      },
      omega (arith, count.left, count.reserve),
    )

-- where it was decided before, nothing is made
pub going-reach : (limits : Limits) (stop : ℕ) (chord : Chord) (m : Motion) (waited : List Waiting) (leg : Leg) (rest : List Leg)
    → IsGoing limits stop chord (length waited) leg rest
    → Reaches limits stop m m (length waited) leg.pulses (pulses_of (leg ∷ rest)) (lines_of (leg ∷ rest))
    × (reserve_of limits.half (length leg.pulses) ≤ length waited)
going-reach limits stop chord m waited leg rest going = (
  record {
    made = [];
    known = sym (append-nil m.known);
    last = leg.lines;
    rest = rest;
    pulses_are = refl;
    lines_are = sym (append-nil (lines_of (leg ∷ rest)));
    paced = let P : List Pulse → Type 0 = λ t. IsPaced limits stop (record { pulses = t; lines = leg.lines } ∷ rest) in
        subst P (append-nil leg.pulses) (going.paced [] (rw (append-nil leg.pulses) going.opened.straight));
    waits_are = going.waits_are;
  },
  omega (arith, going.waits_are, going.reserve),
)

-- nothing is made of a path
pub path-stays : (limits : Limits) (stop : ℕ) (chord : Chord) (m : Motion) (waits : ℕ) (leg : Leg) (rest : List Leg)
    → IsPath limits stop chord waits (leg ∷ rest) → 0 < length leg.pulses
    → Advances limits stop m m chord waits (pulses_of (leg ∷ rest)) (lines_of (leg ∷ rest))
path-stays limits stop chord m waits leg rest path some = record {
  made = [];
  known = sym (append-nil m.known);
  leg = leg;
  rest = rest;
  pulses_are = refl;
  lines_are = sym (append-nil (lines_of (leg ∷ rest)));
  path = path;
  some = some;
}

-- the same of a path, by what is known of its corner
pub decide-path : (limits : Limits) (stop : ℕ) (chord chord' : Chord) (old new : Motion) (waited waits : List Waiting) (leg : Leg) (rest : List Leg)
    (next : List Slopes)
    → IsPath limits stop chord (length waited) (leg ∷ rest) → IsTrue chord.has_corner → 0 < length leg.pulses → 0 < limits.half
    → (IsOpen limits chord leg.pulses → AreAhead limits.slack next leg.pulses) → (IsOpen limits chord leg.pulses → AreReached limits.slack next leg.pulses)
    → (IsOpen limits chord leg.pulses → 4 * limits.half ≤ chord.pulses)
    → PassesCorner limits chord.before next chord.before_pulses chord.pulses stop old new waited waits → chord' ≡ record chord { has_corner = false }
    → Advances limits stop old new chord' (length waits) (pulses_of (leg ∷ rest)) (lines_of (leg ∷ rest))
decide-path limits stop chord chord' old new waited waits leg rest next (inl going) has some half ahead reached long p e = absurd (cc (going.decided, has))
decide-path limits stop chord chord' old new waited waits leg [] next (inr joined) has some half ahead reached long p e = absurd joined
decide-path limits stop chord chord' old new waited waits leg (before ∷ rest) next (inr pending) has some half ahead reached long p e =
    corner-path limits stop chord chord' old new waited waits leg before rest next pending some half
    (ahead pending.opened) (reached pending.opened) (long pending.opened) p e

pub reach-path : (limits : Limits) (stop : ℕ) (chord : Chord) (old new : Motion) (waited waits : List Waiting) (leg : Leg) (rest : List Leg)
    (next : List Slopes)
    → IsPath limits stop chord (length waited) (leg ∷ rest) → IsTrue chord.has_corner → 0 < length leg.pulses → 0 < limits.half → AreSlopes next leg.pulses
    → AreReached limits.slack next leg.pulses → PassesCorner limits chord.before next chord.before_pulses chord.pulses stop old new waited waits
    → Reaches limits stop old new (length waits) leg.pulses (pulses_of (leg ∷ rest)) (lines_of (leg ∷ rest))
    × (reserve_of limits.half (length leg.pulses) ≤ length waits)
reach-path limits stop chord old new waited waits leg rest next (inl going) has some half are reached p = absurd (cc (going.decided, has))
reach-path limits stop chord old new waited waits leg [] next (inr joined) has some half are reached p = absurd joined
reach-path limits stop chord old new waited waits leg (before ∷ rest) next (inr pending) has some half are reached p
    = corner-reach limits stop chord old new waited waits leg before rest next pending some half are reached p

pub reached-path : (limits : Limits) (stop : ℕ) (chord : Chord) (m : Motion) (waited : List Waiting) (leg : Leg) (rest : List Leg)
    → IsPath limits stop chord (length waited) (leg ∷ rest) → IsFalse chord.has_corner
    → Reaches limits stop m m (length waited) leg.pulses (pulses_of (leg ∷ rest)) (lines_of (leg ∷ rest))
    × (reserve_of limits.half (length leg.pulses) ≤ length waited)
reached-path limits stop chord m waited leg rest (inl going) has = going-reach limits stop chord m waited leg rest going
reached-path limits stop chord m waited leg [] (inr joined) has = absurd joined
reached-path limits stop chord m waited leg (before ∷ rest) (inr pending) has = absurd (cc (pending.pending, has))

-- a path comes farther in two steps
pub advances-on : (limits : Limits) (stop : ℕ) (a b c : Motion) (chord chord' : Chord) (waits waits' : ℕ) (pulses : List Pulse) (lines : List Line)
    → (first : Advances limits stop a b chord waits pulses lines)
    → Advances limits stop b c chord' waits' (pulses_of (first.leg ∷ first.rest)) (lines_of (first.leg ∷ first.rest))
    → Advances limits stop a c chord' waits' pulses lines
advances-on limits stop a b c chord chord' waits waits' pulses lines first then = record {
  made = first.made ++ then.made;
  known = known-both a b c first.made then.made first.known then.known;
  leg = then.leg;
  rest = then.rest;
  pulses_are = then.pulses_are ∙ first.pulses_are;
  lines_are = then.lines_are ∙ ap (λ t. t ++ then.made) first.lines_are ∙ append_assoc lines first.made then.made;
  path = then.path;
  some = then.some;
}

pub path-opened : (limits : Limits) (stop : ℕ) (chord : Chord) (waits : ℕ) (leg : Leg) (rest : List Leg) → IsPath limits stop chord waits (leg ∷ rest)
    → IsOpen limits chord leg.pulses
path-opened limits stop chord waits leg rest (inl going) = going.opened
path-opened limits stop chord waits leg [] (inr joined) = absurd joined
path-opened limits stop chord waits leg (before ∷ rest) (inr pending) = pending.opened

-- along the last chord, where the path ends
pub along-reach : (limits : Limits) (stop : ℕ) (old mid new : Motion) (waited waits : List Waiting) (chord pulses : List Pulse) (lines : List Line)
    (slopes : List Slopes) (reserve : ℕ)
    → Reaches limits stop old mid (length waited) chord pulses lines → AreSlopes slopes chord → AreReached limits.slack slopes chord → 0 < limits.half
    → 0 < length chord
    → PassesAlong limits slopes stop reserve mid new waited waits → reserve ≤ length waited
    → Reaches limits stop old new (length waits) chord pulses lines × (length waits ≡ reserve)
along-reach limits stop old mid new waited waits chord pulses lines slopes reserve reached are greatest half some passes enough = (
  record {
    made = reached.made ++ passes.makes.made;
    known = known-both old mid new reached.made passes.makes.made reached.known passes.makes.known;
    last = reached.last ++ passes.makes.made;
    rest = reached.rest;
    pulses_are = reached.pulses_are;
    lines_are = sym (append_assoc (lines_of reached.rest) reached.last passes.makes.made) ∙ ap (λ t. t ++ passes.makes.made) reached.lines_are
        ∙ append_assoc lines reached.made passes.makes.made;
    paced = paced-more limits stop (record { pulses = chord; lines = reached.last }) passes.makes.made reached.rest reached.paced
        (All-weaker (IsWithin passes.most (either_way passes.ramp) stop) (IsOnChord limits stop chord)
        (on-chord limits stop slopes chord passes.most passes.ramp some passes.allowed are) passes.makes.made passes.makes.each)
        (omega (arith, reached.waits_are, passes.makes.rest)) full;
    waits_are = omega (arith, length-append reached.last passes.makes.made, reached.waits_are, passes.makes.rest);
  },
  omega (arith, passes.makes.count_is, passes.makes.rest, enough),
) where
  full : (k : ℕ) (d : Line) → k < length passes.makes.made → length reached.last + k + limits.half < length chord
      → IsFullAt limits chord (length reached.last + k) (slice_index_or passes.makes.made k d)
  full k d short to = record {
    known = chord;
    others = [];
    all = sym (append-nil chord);
    its = omega (arith, to);
    full = full-on limits chord slopes passes.most passes.ramp (slice_index_or passes.makes.made k d) greatest passes.full
        (passes.makes.full k d short (omega (arith, reached.waits_are, to, half)));
  }

-- a pulse is taken into the last chord
pub take-path : (limits : Limits) (stop : ℕ) (chord chord' : Chord) (waits : ℕ) (leg : Leg) (rest : List Leg) (pulse : Pulse)
    → IsPath limits stop chord waits (leg ∷ rest)
    → chord' ≡ record chord { pulses = chord'.pulses; cones = chord'.cones } → AreCones limits.slack chord'.cones (leg.pulses ++ pulse ∷ [])
    → chord'.pulses ≡ length leg.pulses + 1
    → IsChord limits.slack (leg.pulses ++ pulse ∷ []) → length leg.pulses < 1048576 → IsBehindFarthest limits.slack rest (leg.pulses ++ pulse ∷ [])
    → IsPath limits stop chord' (waits + 1) (record { pulses = leg.pulses ++ pulse ∷ []; lines = leg.lines } ∷ rest)
take-path limits stop chord chord' waits leg rest pulse path same cones count straight few farthest = by_path rest path farthest where
  opened : IsOpen limits chord leg.pulses → IsOpen limits chord' (leg.pulses ++ pulse ∷ [])
  opened is = record {
    is_open = ap (λ t. t.is_open) same ∙ is.is_open;
    cones = cones;
    count = omega (arith, length-append leg.pulses (pulse ∷ []), count);
    few = omega (arith, length-append leg.pulses (pulse ∷ []), few);
    straight = straight;
  }

  by_path : (rest : List Leg) → IsPath limits stop chord waits (leg ∷ rest) → IsBehindFarthest limits.slack rest (leg.pulses ++ pulse ∷ [])
      → IsPath limits stop chord' (waits + 1) (record { pulses = leg.pulses ++ pulse ∷ []; lines = leg.lines } ∷ rest)
  by_path rest (inl going) far = inl (record {
    opened = opened going.opened;
    decided = ap (λ t. t.has_corner) same ∙ going.decided;
    paced = λ more chord_is. let P : List Pulse → Type 0 = λ t. IsPaced limits stop (record { pulses = t; lines = leg.lines } ∷ rest) in
        subst P (sym (append_assoc leg.pulses (pulse ∷ []) more)) (going.paced (pulse ∷ more) (rw (append_assoc leg.pulses (pulse ∷ []) more) at chord_is));
    waits_are = omega (arith, length-append leg.pulses (pulse ∷ []), going.waits_are);
    reserve = omega (arith, length-append leg.pulses (pulse ∷ []), going.reserve);
  })
  by_path [] (inr joined) far = absurd joined
  by_path (before ∷ older) (inr pending) far = inr (record {
    opened = opened pending.opened;
    pending = ap (λ t. t.has_corner) same ∙ pending.pending;
    none = pending.none;
    paced = pending.paced;
    farthest = far;
    some = pending.some;
    before_reached = rw (ap (λ t. t.before) same) pending.before_reached;
    before_is = rw (ap (λ t. t.before) same) pending.before_is;
    before_count = ap (λ t. t.before_pulses) same ∙ pending.before_count;
    waits_are = omega (arith, length-append leg.pulses (pulse ∷ []), pending.waits_are);
    reserve = pending.reserve;
  })

pub advances-pulses : (limits : Limits) (stop : ℕ) (old new : Motion) (chord : Chord) (waits : ℕ) (leg : Leg) (rest : List Leg) (pulse : Pulse)
    (lines : List Line)
    → Advances limits stop old new chord waits (pulses_of (record { pulses = leg.pulses ++ pulse ∷ []; lines = leg.lines } ∷ rest)) lines
    → Advances limits stop old new chord waits (pulses_of (leg ∷ rest) ++ pulse ∷ []) lines
advances-pulses limits stop old new chord waits leg rest pulse lines a = record {
  made = a.made;
  known = a.known;
  leg = a.leg;
  rest = a.rest;
  pulses_are = a.pulses_are ∙ sym (append_assoc (pulses_of rest) leg.pulses (pulse ∷ []));
  lines_are = a.lines_are;
  path = a.path;
  some = a.some;
}

-- what is allowed where motors go on is allowed where they come to rest
allowed-stop : (P : ℕ → Ramp → Type 0) (stop : ℕ) (line : Line) → IsAllowed P 0 line → IsAllowed P stop line
allowed-stop P stop line is = record { ramp = is.ramp; allowed = is.allowed; within = record { up = is.within.up; down = chosen is.within.down } } where
  chosen : (line.ramp.down ≤ is.ramp.down) ⊎ (IsTrue line.last × (line.ramp.down ≤ is.ramp.down / 256 * 0))
      → (line.ramp.down ≤ is.ramp.down) ⊎ (IsTrue line.last × (line.ramp.down ≤ is.ramp.down / 256 * stop))
  chosen (inl less) = inl less
  chosen (inr last) = inl (omega (arith, last.1))

behind-stop : (limits : Limits) (stop : ℕ) (leg : Leg) (rest : List Leg) → IsBehind limits 0 leg rest → IsBehind limits stop leg rest
behind-stop limits stop leg [] behind = tt
behind-stop limits stop leg (before ∷ rest) behind = record {
  farthest = behind.farthest;
  pulses = behind.pulses;
  some = behind.some;
  few = behind.few;
  near = behind.near;
  whole = behind.whole;
  begun = behind.begun;
  leaves = All-weaker (IsOnCorner limits 0 before.pulses leg.pulses behind.pulses) (IsOnCorner limits stop before.pulses leg.pulses behind.pulses)
      (λ line on. allowed-stop _ stop line on) _ behind.leaves;
  enters = All-weaker (IsOnCorner limits 0 before.pulses leg.pulses behind.pulses) (IsOnCorner limits stop before.pulses leg.pulses behind.pulses)
      (λ line on. allowed-stop _ stop line on) _ behind.enters;
  known = behind.known;
  others = behind.others;
  all = behind.all;
  enough = behind.enough;
  longest = behind.longest;
  leaves_full = behind.leaves_full;
  enters_full = behind.enters_full;
}

pub paced-stop : (limits : Limits) (stop : ℕ) (legs : List Leg) → IsPaced limits 0 legs → IsPaced limits stop legs
paced-stop limits stop [] paced = tt
paced-stop limits stop (leg ∷ rest) paced = (
  record {
    chord = paced.0.chord;
    lines = All-weaker (IsOnChord limits 0 leg.pulses) (IsOnChord limits stop leg.pulses) (λ line on. allowed-stop _ stop line on) leg.lines paced.0.lines;
    few = paced.0.few;
    full = paced.0.full;
  },
  (behind-stop limits stop leg rest paced.1.0, paced-stop limits stop rest paced.1.1),
)

pub path-stop : (limits : Limits) (stop : ℕ) (chord : Chord) (waits : ℕ) (legs : List Leg) → IsPath limits 0 chord waits legs
    → IsPath limits stop chord waits legs
path-stop limits stop chord waits [] path = path
path-stop limits stop chord waits (leg ∷ rest) (inl going) = inl (record {
  opened = going.opened;
  decided = going.decided;
  paced = λ more straight. paced-stop limits stop (longer leg more ∷ rest) (going.paced more straight);
  waits_are = going.waits_are;
  reserve = going.reserve;
})
path-stop limits stop chord waits (leg ∷ []) (inr joined) = absurd joined
path-stop limits stop chord waits (leg ∷ (before ∷ rest)) (inr pending) = inr (record {
  opened = pending.opened;
  pending = pending.pending;
  none = pending.none;
  farthest = pending.farthest;
  paced = paced-stop limits stop (before ∷ rest) pending.paced;
  some = pending.some;
  before_reached = pending.before_reached;
  before_is = pending.before_is;
  before_count = pending.before_count;
  waits_are = pending.waits_are;
  reserve = pending.reserve;
})

-- of all pulses of a path lines were made, if they were of those of its last chord
whole-paced : (limits : Limits) (stop : ℕ) (leg : Leg) (rest : List Leg) → IsPaced limits stop (leg ∷ rest) → length leg.lines ≡ length leg.pulses
    → length (lines_of (leg ∷ rest)) ≡ length (pulses_of (leg ∷ rest))
whole-paced limits stop leg [] paced whole = whole
whole-paced limits stop leg (before ∷ rest) paced whole =
    omega (
      arith,
      length-append (lines_of (before ∷ rest)) leg.lines,
      length-append (pulses_of (before ∷ rest)) leg.pulses,
      whole,
      whole-paced limits stop
          before rest paced.1.1 paced.1.0.whole,
    )

pub finish-reach : (limits : Limits) (stop : ℕ) (old new : Motion) (waits : ℕ) (chord pulses : List Pulse) (lines : List Line)
    → Reaches limits stop old new waits chord pulses lines → waits ≡ 0 → Finishes limits stop old new pulses lines
finish-reach limits stop old new waits chord pulses lines reached none = record {
  made = reached.made;
  known = reached.known;
  legs = record { pulses = chord; lines = reached.last } ∷ reached.rest;
  pulses_are = reached.pulses_are;
  lines_are = reached.lines_are;
  paced = reached.paced;
  whole = whole-paced limits stop (record { pulses = chord; lines = reached.last }) reached.rest reached.paced (omega (arith, reached.waits_are, none));
}

pub finish-none : (limits : Limits) (stop : ℕ) (m : Motion) → Finishes limits stop m m [] []
finish-none limits stop m = record { made = []; known = sym (append-nil m.known); legs = []; pulses_are = refl; lines_are = refl; paced = tt; whole = refl }

pub finish-same : (limits : Limits) (stop : ℕ) (old mid new : Motion) (pulses : List Pulse) (lines : List Line) → Finishes limits stop old mid pulses lines
    → new.known ≡ mid.known → Finishes limits stop old new pulses lines
finish-same limits stop old mid new pulses lines f same = record {
  made = f.made;
  known = same ∙ f.known;
  legs = f.legs;
  pulses_are = f.pulses_are;
  lines_are = f.lines_are;
  paced = f.paced;
  whole = f.whole;
}

-- a chord of one pulse goes straight, and one of none
near-none : (slack : ℕ) (slope : Slope) → IsNear slack slope []
near-none slack slope = λ k none. let is : k ≡ 0 = omega (arith, none) in rw is (omega arith)

pub straight-one : (slack : ℕ) (step : AxisStep) → IsStraight slack (step ∷ [])
straight-one slack step = near-push slack (slope_of (step ∷ [])) [] step (near-none slack (slope_of (step ∷ []))) (omega arith)

pub chord-one : (slack : ℕ) (pulse : Pulse) → IsChord slack (pulse ∷ [])
chord-one slack pulse = record { x = straight-one slack pulse.x; y = straight-one slack pulse.y; z = straight-one slack pulse.z }

pub chord-none : (slack : ℕ) → IsChord slack []
chord-none slack = record { x = near-none slack (slope_of []); y = near-none slack (slope_of []); z = near-none slack (slope_of []) }

-- a chord begins from rest
pub bends-fresh : (limits : Limits) (chord chord' : Chord) (m : Motion) (waits : ℕ) (pulse : Pulse)
    → chord' ≡ record chord { pulses = 0; cones = chord'.cones; is_open = true; has_corner = false } → AreCones limits.slack chord'.cones [] → waits ≡ 0
    → Bends limits m m chord' waits pulse [] []
bends-fresh limits chord chord' m waits pulse same cones none = record {
  made = [];
  known = sym (append-nil m.known);
  leg = record { pulses = []; lines = [] };
  rest = [];
  pulses_are = refl;
  lines_are = refl;
  path = inl (record {
    opened = record {
      is_open = ap (λ t. t.is_open) same;
      cones = cones;
      count = ap (λ t. t.pulses) same;
      few = omega arith;
      straight = chord-none limits.slack;
    };
    decided = ap (λ t. t.has_corner) same;
    paced = λ more straight. (
      record {
        chord = straight;
        lines = All-nil (IsOnChord limits 0 more);
        few = omega arith;
        full =
            λ k d short. absurd (omega (arith, short));
      },
      (tt, tt),
    );
    waits_are = omega (arith, none);
    reserve = omega arith;
  });
  straight = chord-one limits.slack pulse;
  farthest = tt;
  few = omega arith;
}

-- or behind a corner
pub bends-corner : (limits : Limits) (chord chord' : Chord) (old new : Motion) (waits reserve : ℕ) (pulse : Pulse) (last pulses : List Pulse)
    (lines : List Line)
    → Reaches limits 0 old new waits last pulses lines → IsClosed limits.slack chord last waits reserve
    → reserve ≡ reserve_of limits.half (length last) → 0 < length last → IsFarthest limits.slack last (pulse ∷ [])
    → chord' ≡ record chord { pulses = 0; cones = chord'.cones; is_open = true; has_corner = true } → AreCones limits.slack chord'.cones []
    → Bends limits old new chord' waits pulse pulses lines
bends-corner limits chord chord' old new waits reserve pulse last pulses lines reached closed kept_is some farthest same cones = record {
  made = reached.made;
  known = reached.known;
  leg = record { pulses = []; lines = [] };
  rest = record { pulses = last; lines = reached.last } ∷ reached.rest;
  pulses_are = append-nil (pulses_of reached.rest ++ last) ∙ reached.pulses_are;
  lines_are = append-nil (lines_of reached.rest ++ reached.last) ∙ reached.lines_are;
  path = inr (record {
    opened = record {
      is_open = ap (λ t. t.is_open) same;
      cones = cones;
      count = ap (λ t. t.pulses) same;
      few = omega arith;
      straight = chord-none limits.slack;
    };
    pending = ap (λ t. t.has_corner) same;
    none = refl;
    paced = reached.paced;
    farthest = λ pulse rest is. absurd (cc);
    some = some;
    before_reached = rw (ap (λ t. t.before) same) closed.before_reached;
    before_is = rw (ap (λ t. t.before) same) closed.before_is;
    before_count = ap (λ t. t.before_pulses) same ∙ closed.before_count;
    waits_are = omega (arith, reached.waits_are);
    reserve = omega (arith, reached.waits_are, closed.waits_are, kept_is);
  });
  straight = chord-one limits.slack pulse;
  farthest = farthest;
  few = omega arith;
}

-- the chord before the last one goes as far as it can
path-farthest : (limits : Limits) (chord : Chord) (waits : ℕ) (leg : Leg) (rest : List Leg) (more : List Pulse) → IsPath limits 0 chord waits (leg ∷ rest)
    → 0 < length leg.pulses → IsChord limits.slack (leg.pulses ++ more) → IsBehindFarthest limits.slack rest (leg.pulses ++ more)
path-farthest limits chord waits leg [] more path some straight = tt
path-farthest limits chord waits leg (before ∷ rest) more (inl going) some straight = let paced = going.paced more straight in paced.1.0.farthest
path-farthest limits chord waits leg (before ∷ rest) more (inr pending) some straight
    = farthest-more limits.slack before.pulses leg.pulses more some pending.farthest

-- or it goes on
pub bends-none : (limits : Limits) (chord : Chord) (m : Motion) (waits : ℕ) (pulse : Pulse) (leg : Leg) (rest : List Leg)
    → IsPath limits 0 chord waits (leg ∷ rest) → 0 < length leg.pulses → IsChord limits.slack (leg.pulses ++ pulse ∷ []) → length leg.pulses < 1048576
    → Bends limits m m chord waits pulse (pulses_of (leg ∷ rest)) (lines_of (leg ∷ rest))
bends-none limits chord m waits pulse leg rest path some straight few = record {
  made = [];
  known = sym (append-nil m.known);
  leg = leg;
  rest = rest;
  pulses_are = refl;
  lines_are = sym (append-nil (lines_of (leg ∷ rest)));
  path = path;
  straight = straight;
  farthest = path-farthest limits chord waits leg rest (pulse ∷ []) path some straight;
  few = few;
}

-- then the pulse is taken
pub bends-on : (limits : Limits) (old mid new : Motion) (chord chord' : Chord) (waits waits' : ℕ) (pulse : Pulse) (pulses : List Pulse) (lines : List Line)
    → (bent : Bends limits old mid chord waits pulse pulses lines)
    → Advances limits 0 mid new chord' waits' (pulses_of (bent.leg ∷ bent.rest) ++ pulse ∷ []) (lines_of (bent.leg ∷ bent.rest))
    → Advances limits 0 old new chord' waits' (pulses ++ pulse ∷ []) lines
bends-on limits old mid new chord chord' waits waits' pulse pulses lines bent a = record {
  made = bent.made ++ a.made;
  known = known-both old mid new bent.made a.made bent.known a.known;
  leg = a.leg;
  rest = a.rest;
  pulses_are = a.pulses_are ∙ ap (λ t. t ++ pulse ∷ []) bent.pulses_are;
  lines_are = a.lines_are ∙ ap (λ t. t ++ a.made) bent.lines_are ∙ append_assoc lines bent.made a.made;
  path = a.path;
  some = a.some;
}

-- a path whose chord is open has one, and a path whose chord isn't has none
pub closes-path : (limits : Limits) (stop : ℕ) (chord chord' : Chord) (old new : Motion) (waits waits' : ℕ) (legs : List Leg)
    → IsPath limits 0 chord waits legs → IsBegun legs → IsTrue chord.is_open
    → ((leg : Leg) (rest : List Leg) → IsPath limits stop chord waits (leg ∷ rest) → 0 < length leg.pulses → 0 ≤ reserve_of limits.half (length leg.pulses)
    → Reaches limits stop old new waits' leg.pulses (pulses_of (leg ∷ rest)) (lines_of (leg ∷ rest)) × IsClosed limits.slack chord' leg.pulses waits' 0)
    → Finishes limits stop old new (pulses_of legs) (lines_of legs) × (waits' ≡ 0)
closes-path limits stop chord chord' old new waits waits' [] path begun is closes = absurd (cc (path.0, is))
closes-path limits stop chord chord' old new waits waits' (leg ∷ rest) path begun is closes =
    let both : Reaches limits stop old new waits' leg.pulses (pulses_of (leg ∷ rest)) (lines_of (leg ∷ rest))
    × IsClosed limits.slack chord' leg.pulses waits' 0 = closes leg rest (path-stop limits stop chord waits (leg ∷ rest) path) begun (omega arith) in
    (finish-reach limits stop old new waits' leg.pulses (pulses_of (leg ∷ rest)) (lines_of (leg ∷ rest)) both.0 both.1.waits_are, both.1.waits_are)

pub closed-path : (limits : Limits) (stop : ℕ) (chord : Chord) (m : Motion) (waits : ℕ) (legs : List Leg) → IsPath limits 0 chord waits legs
    → IsFalse chord.is_open → Finishes limits stop m m (pulses_of legs) (lines_of legs) × (waits ≡ 0)
closed-path limits stop chord m waits [] path is = (finish-none limits stop m, path.1)
closed-path limits stop chord m waits (leg ∷ rest) path is = let opened : IsOpen limits chord leg.pulses = path-opened limits 0 chord waits leg rest path in
    absurd (cc (opened.is_open, is))

pub fresh-path : (limits : Limits) (chord chord' : Chord) (m : Motion) (waits : ℕ) (pulse : Pulse) (legs : List Leg) → IsPath limits 0 chord waits legs
    → IsFalse chord.is_open
    → chord' ≡ record chord { pulses = 0; cones = chord'.cones; is_open = true; has_corner = false } → AreCones limits.slack chord'.cones []
    → Bends limits m m chord' waits pulse (pulses_of legs) (lines_of legs)
fresh-path limits chord chord' m waits pulse [] path is same cones = bends-fresh limits chord chord' m waits pulse same cones path.1
fresh-path limits chord chord' m waits pulse (leg ∷ rest) path is same cones = let opened : IsOpen limits chord leg.pulses
    = path-opened limits 0 chord waits leg rest path in absurd (cc (opened.is_open, is))

pub bent-path : (limits : Limits) (chord chord' chord'' : Chord) (old new : Motion) (waits waits' reserve : ℕ) (pulse : Pulse) (legs : List Leg)
    → IsPath limits 0 chord waits legs → IsBegun legs → IsTrue chord.is_open → reserve ≡ reserve_of limits.half chord.pulses
    → ((pulses : List Pulse) → AreCones limits.slack chord.cones pulses → chord.pulses ≡ length pulses
    → ¬ (IsChord limits.slack (pulses ++ pulse ∷ []) × (length pulses < 1048576)))
    → ((leg : Leg) (rest : List Leg) → IsPath limits 0 chord waits (leg ∷ rest) → 0 < length leg.pulses → reserve ≤ reserve_of limits.half (length leg.pulses)
    → Reaches limits 0 old new waits' leg.pulses (pulses_of (leg ∷ rest)) (lines_of (leg ∷ rest)) × IsClosed limits.slack chord' leg.pulses waits' reserve)
    → chord'' ≡ record chord' { pulses = 0; cones = chord''.cones; is_open = true; has_corner = true } → AreCones limits.slack chord''.cones []
    → Bends limits old new chord'' waits' pulse (pulses_of legs) (lines_of legs)
bent-path limits chord chord' chord'' old new waits waits' reserve pulse [] path begun is kept_is leaves closes same cones = absurd (cc (path.0, is))
bent-path limits chord chord' chord'' old new waits waits' reserve pulse (leg ∷ rest) path begun is kept_is leaves closes same cones =
    let opened : IsOpen limits chord leg.pulses = path-opened limits 0 chord waits leg rest path in
    let kept_of_leg : reserve ≡ reserve_of limits.half (length leg.pulses) = kept_is ∙ ap (λ t. reserve_of limits.half t) opened.count in
    let both : Reaches limits 0 old new waits' leg.pulses (pulses_of (leg ∷ rest)) (lines_of (leg ∷ rest))
    × IsClosed limits.slack chord' leg.pulses waits' reserve = closes leg rest path begun (omega (arith, kept_of_leg)) in
    bends-corner limits chord' chord'' old new waits' reserve pulse leg.pulses (pulses_of (leg ∷ rest)) (lines_of (leg ∷ rest)) both.0 both.1 kept_of_leg begun
    (λ first others e. let same_pulse : pulse ≡ first = cc in rw (← same_pulse) (leaves leg.pulses opened.cones opened.count)) same cones

pub going-path : (limits : Limits) (chord : Chord) (m : Motion) (waits : ℕ) (pulse : Pulse) (legs : List Leg) → IsPath limits 0 chord waits legs
    → IsBegun legs → IsTrue chord.is_open
    → ((pulses : List Pulse) → AreCones limits.slack chord.cones pulses → chord.pulses ≡ length pulses → IsChord limits.slack (pulses ++ pulse ∷ [])
    × (length pulses < 1048576))
    → Bends limits m m chord waits pulse (pulses_of legs) (lines_of legs)
going-path limits chord m waits pulse [] path begun is stays = absurd (cc (path.0, is))
going-path limits chord m waits pulse (leg ∷ rest) path begun is stays =
    let opened : IsOpen limits chord leg.pulses = path-opened limits 0 chord waits leg rest path in
    let goes : IsChord limits.slack (leg.pulses ++ pulse ∷ []) × (length leg.pulses < 1048576) = stays leg.pulses opened.cones opened.count in
    bends-none limits chord m waits pulse leg rest path begun goes.0 goes.1

-- the lines that were made so far
pub keep-so-far : (limits : Limits) (chord : Chord) (waits : ℕ) (legs : List Leg) → IsPath limits 0 chord waits legs → KeepSoFar limits legs
keep-so-far limits chord waits [] path = tt
keep-so-far limits chord waits (leg ∷ rest) (inl going) =
    inl (let P : List Pulse → Type 0 = λ t. IsPaced limits 0 (record { pulses = t; lines = leg.lines } ∷ rest) in
    subst P (append-nil leg.pulses) (going.paced [] (rw (append-nil leg.pulses) going.opened.straight)))
keep-so-far limits chord waits (leg ∷ []) (inr joined) = absurd joined
keep-so-far limits chord waits (leg ∷ (before ∷ rest)) (inr pending) = inr (pending.none, (pending.opened.straight, pending.paced))
