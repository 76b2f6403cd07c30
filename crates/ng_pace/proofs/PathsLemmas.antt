-- What the calls of a stream, one after another, say of its paths.
use Rattle.std.proofs.Common.{◌≡◌, ◌∙◌, sym, ap, subst, ℕ, List, [], ◌∷◌, ◌++◌, map, length, append-nil, append_assoc, refl}
use Rattle.std.specs.Prelude.{Some, None}
use Rattle.ng_canon.specs.declared.item.Item.{Item}
use Rattle.ng_canon.specs.declared.item.Item.TheVariants.{Pulse, Dwell, Switch}
use Rattle.ng_pace.specs.declared.limits.Limits.{Limits}
use Rattle.ng_pace.specs.declared.line.Line.{Line}
use Rattle.ng_pace.specs.declared.stepping.Given.{Given}
use Rattle.ng_pace.specs.Stream.{Flow, still_line}
use Rattle.ng_pace.specs.Start.{start_of}
use Rattle.ng_pace.specs.Legs.{Leg, pulses_of, lines_of}
use Rattle.ng_pace.specs.Putting.{IsUnderway, Goes, Rests, KeepSoFar}
use Rattle.ng_pace.specs.Calls.{IsEmpty, IsFlowGiven}
use Rattle.ng_pace.specs.Run.{Event, put, end, ask, IsRun, lines_given}
use Rattle.ng_pace.specs.Paths.{Path, lines_on, AreWithinLimits, ArePathsOf, lines_out, KeepsToPaths}
use Rattle.ng_pace.proofs.PathStepLemmas.{keep-so-far}

-- what was made since some chords were underway
record Makes (Q : List Path → List Leg → Type 0) (limits : Limits) (start : ℕ) (old : Flow) (legs : List Leg) (givens : List Given) (new : Flow) : Type 0 where
  made : List Line
  paths : List Path
  last : List Leg
  are_of : Q paths last
  known : lines_out givens ++ new.motion.known ≡ old.motion.known ++ made
  lines : lines_of legs ++ made ≡ lines_on paths ++ lines_of last
  within_limits : AreWithinLimits limits start paths
  limits_are : new.limits ≡ limits
  underway : IsUnderway new last

goes-on : (P Q : List Path → List Leg → Type 0) → ((paths : List Path) (last : List Leg) → P paths last → Q paths last)
    → (limits : Limits) (start : ℕ) (old mid new : Flow) (legs chords : List Leg) (made : List Line) (givens : List Given)
    → mid.motion.known ≡ old.motion.known ++ made → lines_of chords ≡ lines_of legs ++ made → Makes P limits start mid chords givens new
    → Makes Q limits start old legs givens new
goes-on P Q f limits start old mid new legs chords made givens known lines later = record {
  made = made ++ later.made;
  paths = later.paths;
  last = later.last;
  are_of = f later.paths later.last later.are_of;
  known = later.known ∙ ap (λ t. t ++ later.made) known ∙ append_assoc old.motion.known made later.made;
  lines = sym (append_assoc (lines_of legs) made later.made) ∙ ap (λ t. t ++ later.made) (sym lines) ∙ later.lines;
  within_limits = later.within_limits;
  limits_are = later.limits_are;
  underway = later.underway;
}

rests-on : (P Q : List Path → List Leg → Type 0) (limits : Limits) (start : ℕ) (old mid new : Flow) (legs : List Leg) (items : List Item)
    (givens : List Given)
    → old.limits ≡ limits → old.motion.start ≡ start → (r : Rests old mid legs items)
    → ((paths : List Path) (last : List Leg) → P paths last → Q (record { chords = r.chords; stands = items } ∷ paths) last)
    → Makes P limits start mid [] givens new → Makes Q limits start old legs givens new
rests-on P Q limits start old mid new legs items givens same starts r f later = record {
  made = (r.made ++ still) ++ later.made;
  paths = record { chords = r.chords; stands = items } ∷ later.paths;
  last = later.last;
  are_of = f later.paths later.last later.are_of;
  known = later.known ∙ ap (λ t. t ++ later.made) r.known ∙ append_assoc old.motion.known (r.made ++ still) later.made;
  lines = sym (append_assoc (lines_of legs) (r.made ++ still) later.made)
      ∙ ap (λ t. t ++ later.made) (sym (append_assoc (lines_of legs) r.made still) ∙ ap (λ t. t ++ still) (sym r.lines_are))
      ∙ ap (λ t. (lines_of r.chords ++ still) ++ t) later.lines ∙ sym (append_assoc (lines_of r.chords ++ still) (lines_on later.paths) (lines_of later.last));
  within_limits = (record { items = r.items_are; paced = rw (← same, ← starts) r.paced }, later.within_limits);
  limits_are = later.limits_are;
  underway = later.underway;
} where
  still : List Line
  still = map still_line items

given-on : (Q : List Path → List Leg → Type 0) (limits : Limits) (start : ℕ) (old mid new : Flow) (legs : List Leg) (line : Line) (givens : List Given)
    → old.motion.known ≡ line ∷ mid.motion.known → (m : Makes Q limits start mid legs givens new)
    → line ∷ (lines_out givens ++ new.motion.known) ≡ old.motion.known ++ m.made
given-on Q limits start old mid new legs line givens order m = ap (λ t. line ∷ t) m.known ∙ ap (λ t. t ++ m.made) (sym order)

given-underway : (old mid : Flow) (legs : List Leg) → mid.waiting ≡ old.waiting → mid.limits ≡ old.limits → mid.chord ≡ old.chord → IsUnderway old legs
    → IsUnderway mid legs
given-underway old mid legs waiting limits chord underway = record {
  path = rw (waiting, limits, chord) underway.path;
  begun = underway.begun;
  items = rw waiting underway.items;
}

on-paths : (limits : Limits) (start : ℕ) (old : Flow) (events : List Event) (new : Flow) (legs : List Leg) → old.limits ≡ limits → old.motion.start ≡ start
    → IsUnderway old legs → IsRun old events new → Makes (ArePathsOf (pulses_of legs) events) limits start old legs (lines_given events) new
on-paths limits start old [] new legs same starts underway run = record {
  made = [];
  paths = [];
  last = legs;
  are_of = refl;
  known = ap (λ t. t.motion.known) run ∙ sym (append-nil old.motion.known);
  lines = append-nil (lines_of legs);
  within_limits = tt;
  limits_are = ap (λ t. t.limits) run ∙ same;
  underway = rw run underway;
}
on-paths limits start old (put (Pulse pulse) ∷ events) new legs same starts underway run =
    let goes : Goes old run.0 legs pulse = run.1.0.path legs underway in
    goes-on (ArePathsOf (pulses_of goes.chords) events) (ArePathsOf (pulses_of legs) (put (Pulse pulse) ∷ events))
    (λ paths last of. subst (λ t. ArePathsOf t events paths last) goes.pulses_are of) limits start old run.0 new legs goes.chords goes.made
    (lines_given events) goes.known goes.lines_are
    (on-paths limits start run.0 events new goes.chords (run.1.0.limits ∙ same) (run.1.0.settles.start ∙ starts) goes.underway run.1.1)
on-paths limits start old (put (Dwell us) ∷ events) new legs same starts underway run =
    let rests : Rests old run.0 legs (Dwell us ∷ []) = run.1.0.path legs underway in
    rests-on (ArePathsOf [] events) (ArePathsOf (pulses_of legs) (put (Dwell us) ∷ events)) limits start old run.0 new legs (Dwell us ∷ []) (lines_given events)
    same starts rests (λ paths last of. (rests.pulses_are, (refl, of)))
    (on-paths limits start run.0 events new [] (run.1.0.limits ∙ same) (run.1.0.settles.start ∙ starts) rests.underway run.1.1)
on-paths limits start old (put (Switch outputs) ∷ events) new legs same starts underway run =
    let rests : Rests old run.0 legs (Switch outputs ∷ []) = run.1.0.path legs underway in
    rests-on (ArePathsOf [] events) (ArePathsOf (pulses_of legs) (put (Switch outputs) ∷ events)) limits start old run.0 new legs (Switch outputs ∷ [])
    (lines_given events)
    same starts rests (λ paths last of. (rests.pulses_are, (refl, of)))
    (on-paths limits start run.0 events new [] (run.1.0.limits ∙ same) (run.1.0.settles.start ∙ starts) rests.underway run.1.1)
on-paths limits start old (end ∷ events) new legs same starts underway run =
    let rests : Rests old run.0 legs [] = run.1.0.path legs underway in
    rests-on (ArePathsOf [] events) (ArePathsOf (pulses_of legs) (end ∷ events)) limits start old run.0 new legs [] (lines_given events)
    same starts rests (λ paths last of. (rests.pulses_are, (refl, of)))
    (on-paths limits start run.0 events new [] (run.1.0.limits ∙ same) (run.1.0.settles.start ∙ starts) rests.underway run.1.1)
on-paths limits start old (ask wanted (Some given) ∷ events) new legs same starts underway run =
    let gives : IsFlowGiven old run.0 wanted given = run.1.0 in
    let later : Makes (ArePathsOf (pulses_of legs) events) limits start run.0 legs (lines_given events) new = on-paths limits start run.0 events new legs
    (gives.limits ∙ same)
    (gives.given_out.start ∙ starts)
    (given-underway old run.0 legs gives.waiting gives.limits gives.chord underway) run.1.1 in record {
      made = later.made;
      paths = later.paths;
      last = later.last;
      are_of = later.are_of;
      known = given-on (ArePathsOf (pulses_of legs) events) limits start old run.0 new legs given.line (lines_given events) gives.given_out.order later;
      lines = later.lines;
      within_limits = later.within_limits;
      limits_are = later.limits_are;
      underway = later.underway;
    }
on-paths limits start old (ask wanted None ∷ events) new legs same starts underway run =
    let later : Makes (ArePathsOf (pulses_of legs) events) limits start old legs
    (lines_given events) new = on-paths limits start old events new legs same starts underway run.1 in record {
      made = later.made;
      paths = later.paths;
      last = later.last;
      are_of = later.are_of;
      known = later.known;
      lines = later.lines;
      within_limits = later.within_limits;
      limits_are = later.limits_are;
      underway = later.underway;
    }

pub keeps-to-paths : (old : Flow) (limits : Limits) (capacity : ℕ) (events : List Event) (new : Flow) → IsEmpty old limits capacity → IsRun old events new
    → KeepsToPaths limits (start_of limits) events new
keeps-to-paths old limits capacity events new empty run =
    let m : Makes (ArePathsOf [] events) limits (start_of limits) old [] (lines_given events) new = on-paths limits
    (start_of limits) old events new [] empty.limits_are empty.start empty.underway run in
    let so_far : KeepSoFar new.limits m.last = keep-so-far new.limits new.chord (length new.waiting) m.last m.underway.path in record {
      paths = m.paths;
      last = m.last;
      are_of = m.are_of;
      lines = m.known ∙ ap (λ t. t ++ m.made) empty.known ∙ m.lines;
      within_limits = m.within_limits;
      so_far = subst (λ t. KeepSoFar t m.last) m.limits_are so_far;
      items = m.underway.items;
    }
