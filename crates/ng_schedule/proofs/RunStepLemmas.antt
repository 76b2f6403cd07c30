-- Steps of a run over the bytes of its lines.
use Rattle.std.proofs.Common.{◌≡◌, ◌≢◌, ◌∙◌, ◌+◌, ◌≤◌, ◌<◌, ℕ, List, [], ◌∷◌, ◌++◌, Option, Result, length}
use Rattle.std.proofs.Common.{length-append, ap, append_assoc, append-nil, arith, refl, subst, sym, false, true}
use Rattle.std.proofs.Common.{Bool, ◌==◌}
use Rattle.std.proofs.lemmas.Bool.Decides.{nat_tests}
use Rattle.ng_canon.specs.declared.item.Item.{Item}
use Rattle.ng_lines.specs.Lines.{IsItem, item_line}
use Rattle.ng_pace.specs.declared.limits.Limits.{Limits}
use Rattle.ng_pace.specs.Stream.{all_items}
use Rattle.ng_schedule.specs.Schedule.{BeginsNoLine, lines_of}
use Rattle.ng_text.specs.Split.{HasNoNewline}
use Rattle.ng_schedule.specs.Private.Parts.{IsStopped, IsUnderWay, StopSpec, TakeSpec, item_lines}
use Rattle.ng_schedule.specs.declared.ending.Halt.TheVariants as halt
use Rattle.ng_schedule.specs.declared.ending.ScheduleFault.TheVariants as schedule_fault
use Rattle.ng_schedule.specs.declared.ending.Stop.{Stop}
use Rattle.ng_schedule.specs.declared.ending.Stop.TheVariants as stop
use Rattle.ng_schedule.specs.declared.giving.Schedule.{Schedule}
use Rattle.ng_schedule.proofs.ScheduleRunLemmas.{HaltSpec-more}
use Rattle.ng_schedule.proofs.EndedLineLemmas.{other_line, too_long}

abbrev end : List ℕ
end = 10 ∷ []

some_line : (line : List ℕ) → line ++ end ≢ []
some_line line is = omega (arith, length-append line end, ap length is)

module _ {Z : Type 0} where
  -- what is known without the beginning that is kept
  pub without_partial : (limits : Limits) (start w : Option (List ℕ)) (bytes partial : List ℕ) (s : Schedule Z) → IsUnderWay limits start w bytes partial s
      → (front : List ℕ) × IsUnderWay limits start w front [] s × (bytes ≡ front ++ partial)
  without_partial limits start w bytes partial s here =
      let front = lines_of here.timed ++ item_lines (all_items s.stream) in (
        front,
        record {
          timed = here.timed;
          given = here.given;
          streamed = here.streamed;
          lines =
              sym (append-nil front);
          due = here.due;
          number = here.number;
        },
        here.lines,
      )

  -- more of the beginning is kept
  pub keeps_more : (limits : Limits) (start w : Option (List ℕ)) (bytes partial more : List ℕ) (s : Schedule Z)
      → IsUnderWay limits start w bytes partial s → IsUnderWay limits start w (bytes ++ more) (partial ++ more) s
  keeps_more limits start w bytes partial more s here =
      let front = lines_of here.timed ++ item_lines (all_items s.stream) in
      record {
        timed = here.timed;
        given = here.given;
        streamed = here.streamed;
        lines =
            ap (λ l. l ++ more) here.lines ∙ append_assoc front partial more;
        due = here.due;
        number = here.number;
      }

  pub TakeSpec-from : (limits : Limits) (start w : Option (List ℕ)) (bytes other partial left : List ℕ)
      (s : Schedule Z) (r : Result (Unit {0}) Stop) → other ≡ bytes → left ≡ partial
      → TakeSpec limits start w bytes partial s r
      → TakeSpec limits start w other left s r
  TakeSpec-from limits start w bytes other partial left s r bytes_are partial_is h =
      subst (λ (b : List ℕ). TakeSpec limits start w b left s r) (sym bytes_are) (subst (λ (k : List ℕ). TakeSpec limits start w bytes k s r)
      (sym partial_is) h)

  -- the next line is none of an item
  pub stops_at_other : (limits : Limits) (start w : Option (List ℕ)) (bytes line : List ℕ) (s : Schedule Z)
      → IsUnderWay limits start w bytes [] s → HasNoNewline line
      → ((item : Item) → IsItem item → item_line item ≡ line ++ end → ⊥) → IsStopped limits start w (bytes ++ (line ++ end)) s
  stops_at_other limits start w bytes line s here none differs =
      record {
        before = bytes;
        under_way = here;
        rest = line ++ end;
        parts = refl;
        some = some_line line;
        other = λ more. subst BeginsNoLine (sym (append_assoc line end more)) (other_line line more none differs);
      }

  -- the next line is too long
  pub stops_at_long : (limits : Limits) (start w : Option (List ℕ)) (bytes partial line more : List ℕ) (s : Schedule Z)
      → IsUnderWay limits start w bytes partial s → HasNoNewline (partial ++ line) → 128 < length (partial ++ line)
      → IsStopped limits start w (bytes ++ (line ++ more)) s
  stops_at_long limits start w bytes partial line more s here none long =
      let parts = without_partial limits start w bytes partial s here in
      record {
        before = parts.0;
        under_way = parts.1;
        rest = partial ++ (line ++ more);
        parts = ap (λ l. l ++ (line ++ more)) parts.2 ∙ append_assoc parts.0 partial (line ++ more);
        some = λ is. omega (arith, ap length is, length-append partial (line ++ more), length-append line more, length-append partial line, long);
        other = λ later.
            subst BeginsNoLine (sym (ap (λ l. l ++ later) (sym (append_assoc partial line more))
            ∙ append_assoc (partial ++ line) more later))
            (too_long (partial ++ line) (more ++ later) none (omega (arith, long)));
      }

  -- what comes later changes nothing of it
  pub StopSpec-more : (limits : Limits) (start w : Option (List ℕ)) (bytes more : List ℕ) (s : Schedule Z)
      (why : Stop) → StopSpec limits start w bytes s why → StopSpec limits start w (bytes ++ more) s why
  StopSpec-more limits start w bytes more s stop.NotALine h =
      record {
        before = h.before;
        under_way = h.under_way;
        rest = h.rest ++ more;
        parts = ap (λ l. l ++ more) h.parts ∙ append_assoc h.before h.rest more;
        some = λ is. h.some (nothing h.rest is);
        other = λ later. subst BeginsNoLine (sym (append_assoc h.rest more later)) (h.other (more ++ later));
      }
    where
      nothing : (a : List ℕ) → a ++ more ≡ [] → a ≡ []
      nothing [] is = refl
      nothing (c ∷ cs) is = absurd (cc is)
  StopSpec-more limits start w bytes more s (stop.Halted why) h = HaltSpec-more limits start w bytes more s why h

  -- no line is stopped at for limits that can't be met
  pub stops_for_no_limits : (limits : Limits) (start w : Option (List ℕ)) (bytes : List ℕ) (s : Schedule Z) (why : Stop)
      → StopSpec limits start w bytes s why → why ≢ stop.Halted (halt.Fault schedule_fault.Limits)
  stops_for_no_limits limits start w bytes s stop.NotALine h is = cc
  stops_for_no_limits limits start w bytes s (stop.Halted halt.TooLate) h is = cc
  stops_for_no_limits limits start w bytes s (stop.Halted (halt.Fault fault)) h is = h.0 cc

  -- a line that was stopped at is within more bytes
  pub stops_within : (limits : Limits) (start w : Option (List ℕ)) (before taken line after bytes left : List ℕ)
      (s : Schedule Z) (why : Stop) → bytes ≡ taken ++ left → left ≡ line ++ after
      → StopSpec limits start w ((before ++ taken) ++ line) s why → StopSpec limits start w (before ++ bytes) s why
  stops_within limits start w before taken line after bytes left s why all first h =
      subst (λ (b : List ℕ). StopSpec limits start w b s why)
      (append_assoc (before ++ taken) line after ∙ append_assoc before taken (line ++ after)
      ∙ ap (λ l. before ++ (taken ++ l)) (sym first) ∙ ap (λ l. before ++ l) (sym all))
      (StopSpec-more limits start w ((before ++ taken) ++ line) after s why h)

  -- where nothing is kept
  pub with_nothing : (limits : Limits) (start w : Option (List ℕ)) (bytes partial : List ℕ) (s : Schedule Z)
      → partial ≡ [] → IsUnderWay limits start w bytes partial s → IsUnderWay limits start w bytes [] s
  with_nothing limits start w bytes partial s none here = subst (λ (k : List ℕ). IsUnderWay limits start w bytes k s) none here

  -- the next line is taken, where nothing is kept
  pub goes_on : (limits : Limits) (start w : Option (List ℕ)) (before taken line partial : List ℕ) (s : Schedule Z)
      → partial ≡ [] → IsUnderWay limits start w ((before ++ taken) ++ line) [] s
      → IsUnderWay limits start w (before ++ (taken ++ line)) partial s
  goes_on limits start w before taken line partial s none here =
      subst (λ (k : List ℕ). IsUnderWay limits start w (before ++ (taken ++ line)) k s) (sym none)
      (subst (λ (b : List ℕ). IsUnderWay limits start w b [] s) (append_assoc before taken line) here)

-- it doesn't fit
pub too_long_to_fit : (xs ys : List ℕ) → (length xs + length ys ≤ 128 → false ≡ true) → 128 < length (xs ++ ys)
too_long_to_fit xs ys h = let none : ¬ (length xs + length ys ≤ 128) = λ p. let e = h p in absurd cc in simp length-append (omega arith)

pub empty_is : (xs : List ℕ) (t : Bool) → t ≡ (length xs == 0) → t ≡ true → xs ≡ []
empty_is [] t e f = refl
empty_is (x ∷ xs) t e f = absurd (grind (arith, nat_tests))
