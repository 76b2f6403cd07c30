-- How runs end.
use Rattle.std.proofs.Common.{◌≡◌, ◌≢◌, ◌⊎◌, inl, inr, ◌∙◌, ◌+◌, ℕ, List, [], ◌∷◌, ◌++◌, Bool, false, true, ◌==◌}
use Rattle.std.proofs.Common.{Option, None, Some, IfSome, Result, Ok, Err, length, take, ap, ap₂, append_assoc}
use Rattle.std.proofs.Common.{append-nil, refl, subst, sym}
use Rattle.std.specs.Io.KnownBytes.{Appends, Consumes, IsAtEnd}
use Rattle.ng_canon.specs.declared.item.Item.{Item}
use Rattle.ng_lines.specs.Lines.{item_line}
use Rattle.ng_pace.specs.declared.limits.Limits.{Limits}
use Rattle.ng_pace.specs.Calls.{IsEmpty}
use Rattle.ng_pace.specs.Stream.{Timed as Waited, all_items, items_of, items_waiting}
use Rattle.ng_pace.specs.declared.line.Line.{Line}
use Rattle.ng_streams.specs.Waiting.{FlushSpec, Wrote}
use Rattle.ng_schedule.specs.Schedule.{ArePaced, BeginsNoLine, ScheduleSpec, Timed, end_text, lines_of, not_a_line_text}
use Rattle.ng_schedule.specs.Schedule.{capacity, span, timed_text, too_late_text}
use Rattle.ng_schedule.specs.Private.Parts.{HasGiven, IsAt, IsCut, IsTooLate, IsUnderWay, item_lines}
use Rattle.ng_schedule.specs.declared.ending.Shown.{Shown}
use Rattle.ng_schedule.specs.declared.ending.Ended.{Ended}
use Rattle.ng_schedule.specs.declared.ending.Ended.TheVariants.{Done, NotALine, TooLate}
use Rattle.ng_schedule.specs.declared.ending.ScheduleFault.{ScheduleFault}
use Rattle.ng_schedule.specs.declared.giving.Schedule.{Schedule}
use Rattle.ng_schedule.proofs.StreamLemmas.{begins, are_paced, come_to_rest}
use Rattle.ng_streams.proofs.KnownBytesLemmas.{Appends-nil, Appends-trans}

pub ScheduleSpec-from : (limits : Limits) (shown other : Shown) (text same : List ℕ) (old new : Option (List ℕ))
    (r : Result Ended ScheduleFault) → other ≡ shown → same ≡ text
    → ScheduleSpec limits shown text old new r → ScheduleSpec limits other same old new r
ScheduleSpec-from limits shown other text same old new r shown_is text_is h =
    subst (λ (sh : Shown). ScheduleSpec limits sh same old new r) (sym shown_is) (subst (λ (t : List ℕ). ScheduleSpec limits shown t old new r) (sym text_is) h)

abbrev IsLast : Shown → List Timed → List ℕ → Type 0
IsLast shown timed last = (last ≡ [])
    ⊎ ((last ≡ end_text shown (span timed))
    ⊎ ((last ≡ not_a_line_text (length timed + 1)) ⊎ (last ≡ too_late_text (length timed + 1))))

-- all that waited and the last text are written
abbrev AllWritten : Shown → List Timed → List ℕ → Option (List ℕ) → Option (List ℕ) → Type 0
AllWritten shown timed last old new = (written : List ℕ) × Appends old new written × (written ≡ timed_text shown 0 timed ++ last)

all_written : {percent : ℕ} (shown : Shown) (start w v : Option (List ℕ)) (timed : List Timed)
    (text last left : List ℕ) → HasGiven percent shown start w timed text
    → FlushSpec {T = Unit {0}} {E = ScheduleFault} w v (text ++ last) left (Ok tt) → left ≡ [] → AllWritten shown timed last start v
all_written shown start w v timed text last left given flushed none = (
  given.out ++ flushed.0,
  Appends-trans start w v given.out flushed.0 given.written flushed.1,
  sym (ap (λ l. l ++ last) given.waits ∙ append_assoc given.out text last
      ∙ ap (λ l. given.out ++ l) (flushed.2 ∙ ap (λ l. flushed.0 ++ l) none ∙ append-nil flushed.0)),
)

-- a beginning of them is written
broken : (limits : Limits) (shown : Shown) (start w v : Option (List ℕ)) (timed : List Timed) (left : ℕ)
    (text last whole rest : List ℕ) (fault : ScheduleFault) → ArePaced limits timed left
    → HasGiven limits.most_percent shown start w timed text → IsLast shown timed last
    → whole ≡ lines_of timed ++ rest → Wrote w v (text ++ last) → ScheduleSpec limits shown whole start v (Err fault)
broken limits shown start w v timed left text last whole rest fault are given is_last lines wrote = (
  given.out ++ wrote.0,
  Appends-trans start w v given.out wrote.0 given.written wrote.2,
  record {
    timed = timed;
    never_sooner = given.never_sooner;
    paced = inr (left, are);
    rest = rest;
    lines = lines;
    last = last;
    ends = is_last;
    after = wrote.1;
    begins = ap (λ l. l ++ last) given.waits ∙ append_assoc given.out text last ∙ ap (λ l. given.out ++ l) wrote.3
        ∙ sym (append_assoc given.out wrote.0 wrote.1);
  },
)

module _ {Z : Type 0} (limits : Limits) (start w v : Option (List ℕ)) (s : Schedule Z) where
  late_lines : (bytes more : List ℕ) (late : IsTooLate limits start w bytes s)
      → bytes ++ more ≡ lines_of late.timed ++ (item_line late.late.item ++ (late.rest ++ more))
  late_lines bytes more late =
      ap (λ l. l ++ more) late.lines ∙ append_assoc (lines_of late.timed) (item_line late.late.item ++ late.rest)
      more ∙ ap (λ l. lines_of late.timed ++ l) (append_assoc (item_line late.late.item) late.rest more)

  -- the next line would be over too late
  pub late_done : (bytes more left : List ℕ) → IsTooLate limits start w bytes s
      → FlushSpec {T = Unit {0}} {E = ScheduleFault} w v (s.text.items ++ too_late_text s.number) left (Ok tt) → left ≡ []
      → ScheduleSpec limits s.shown (bytes ++ more) start v (Ok (TooLate s.number))
  late_done bytes more left late flushed none =
      let all = all_written s.shown start w v late.timed s.text.items (too_late_text s.number) left late.given flushed none in (
        all.0,
        all.1,
        record {
          timed = late.timed;
          never_sooner = late.given.never_sooner;
          late = late.late;
          least =
              late.least;
          left = late.left;
          paced = late.paced_late;
          rest = late.rest ++ more;
          lines =
              late_lines bytes more late;
          beyond = late.beyond;
          counted = late.number;
          writes = all.2;
        },
      )

  pub late_broken : (bytes more : List ℕ) (fault : ScheduleFault) → IsTooLate limits start w bytes s
      → Wrote w v (s.text.items ++ too_late_text s.number) → ScheduleSpec limits s.shown (bytes ++ more) start v
      (Err fault)
  late_broken bytes more fault late wrote =
      broken limits s.shown start w v late.timed late.before s.text.items (too_late_text s.number) (bytes ++ more) _
      fault late.paced late.given (inr (inr (inr (ap too_late_text late.number)))) (late_lines bytes more late)
      wrote

  whole_lines : (bytes : List ℕ) (here : IsAt true limits start w bytes [] s) → all_items s.stream ≡ [] → bytes ≡ lines_of here.timed
  whole_lines bytes here none =
      here.lines ∙ append-nil (lines_of here.timed ++ item_lines (all_items s.stream))
      ∙ ap (λ (l : List Item). lines_of here.timed ++ item_lines l) none ∙ append-nil (lines_of here.timed)

  -- all lines are given
  pub whole_done : (bytes left : List ℕ) → IsAt true limits start w bytes [] s → all_items s.stream ≡ []
      → FlushSpec {T = Unit {0}} {E = ScheduleFault} w v (s.text.items ++ end_text s.shown s.due_ns) left (Ok tt) → left ≡ []
      → ScheduleSpec limits s.shown bytes start v (Ok Done)
  whole_done bytes left here none flushed empty =
      let all = all_written s.shown start w v here.timed s.text.items (end_text s.shown s.due_ns) left here.given flushed empty in (
        all.0,
        all.1,
        record {
          timed = here.timed;
          never_sooner = here.given.never_sooner;
          paced =
              come_to_rest limits here.timed s.stream here.streamed none;
          lines = whole_lines bytes here none;
          writes =
              all.2 ∙ ap (λ k. timed_text s.shown 0 here.timed ++ end_text s.shown k) here.due;
        },
      )

  pub whole_broken : (bytes : List ℕ) (fault : ScheduleFault) → IsAt true limits start w bytes [] s
      → all_items s.stream ≡ [] → Wrote w v (s.text.items ++ end_text s.shown s.due_ns)
      → ScheduleSpec limits s.shown bytes start v (Err fault)
  whole_broken bytes fault here none wrote =
      broken limits s.shown start w v here.timed _ s.text.items (end_text s.shown s.due_ns) bytes [] fault
      (are_paced limits here.timed s.stream here.streamed) here.given
      (inr (inl (ap (end_text s.shown) here.due))) (whole_lines bytes here none
      ∙ sym (append-nil (lines_of here.timed))) wrote

  -- all lines before another are given
  pub other_done : (bytes rest left : List ℕ) → IsAt true limits start w bytes [] s → all_items s.stream ≡ [] → rest ≢ [] → BeginsNoLine rest
      → FlushSpec {T = Unit {0}} {E = ScheduleFault} w v (s.text.items ++ not_a_line_text s.number) left (Ok tt) → left ≡ []
      → ScheduleSpec limits s.shown (bytes ++ rest) start v (Ok (NotALine s.number))
  other_done bytes rest left here none some other flushed empty =
      let all = all_written s.shown start w v here.timed s.text.items (not_a_line_text s.number) left here.given flushed empty in (
        all.0,
        all.1,
        record {
          timed = here.timed;
          never_sooner = here.given.never_sooner;
          paced =
              come_to_rest limits here.timed s.stream here.streamed none;
          rest = rest;
          lines =
              ap (λ l. l ++ rest) (whole_lines bytes here none);
          some = some;
          other = other;
          counted = here.number;
          writes = all.2;
        },
      )

  pub other_broken : (bytes rest : List ℕ) (fault : ScheduleFault) → IsAt true limits start w bytes [] s
      → all_items s.stream ≡ [] → Wrote w v (s.text.items ++ not_a_line_text s.number)
      → ScheduleSpec limits s.shown (bytes ++ rest) start v (Err fault)
  other_broken bytes rest fault here none wrote =
      broken limits s.shown start w v here.timed _ s.text.items (not_a_line_text s.number) (bytes ++ rest) rest
      fault (are_paced limits here.timed s.stream here.streamed) here.given
      (inr (inr (inl (ap not_a_line_text here.number)))) (ap (λ l. l ++ rest) (whole_lines bytes here none))
      wrote

-- a beginning was written
pub cut_broken : (limits : Limits) (shown : Shown) (start w : Option (List ℕ)) (bytes more : List ℕ)
    (fault : ScheduleFault) → IsCut limits shown start w bytes → ScheduleSpec limits shown (bytes ++ more) start w
    (Err fault)
cut_broken limits shown start w bytes more fault cut = (
  cut.out,
  cut.written,
  record {
    timed = cut.timed;
    never_sooner = cut.never_sooner;
    paced = inr (cut.left, cut.paced);
    rest = cut.rest ++ more;
    lines = ap (λ l. l ++ more) cut.lines ∙ append_assoc (lines_of cut.timed) cut.rest more;
    last = [];
    ends = inl refl;
    after = cut.after;
    begins = append-nil (timed_text shown 0 cut.timed) ∙ cut.begins;
  },
)

-- nothing was written
pub nothing_written : (limits : Limits) (shown : Shown) (r w : Option (List ℕ)) (fault : ScheduleFault)
    → IfSome r (λ text. ScheduleSpec limits shown text w w (Err fault))
nothing_written limits shown None w fault = tt
nothing_written limits shown (Some text) w fault = (
  [],
  Appends-nil w,
  record {
    timed = [];
    never_sooner = tt;
    paced = inl refl;
    rest = text;
    lines = refl;
    last =
        [];
    ends = inl refl;
    after = [];
    begins = refl;
  },
)

-- before the first line
pub begun : {Z : Type 0} (limits : Limits) (w : Option (List ℕ)) (s : Schedule Z) → IsEmpty s.stream limits capacity
    → s.text.items ≡ [] → s.due_ns ≡ 0 → s.number ≡ 1 → IsUnderWay limits w w [] [] s
begun {Z} limits w s none empty due number =
    record {
      timed = [];
      given = record { never_sooner = tt; out = []; written = Appends-nil w; waits = sym empty };
      streamed = begins limits s.stream none;
      lines = sym (append-nil (item_lines (all_items s.stream))
          ∙ ap item_lines (ap₂ (λ (known : List Line) (waiting : List Waited).
          items_of known ++ items_waiting waiting) none.known none.waiting));
      due = due;
      number = number;
    }

-- ---- the bytes of a reader

pub run_stops : (limits : Limits) (r0 r1 w0 w : Option (List ℕ)) (before : List ℕ) (shown : Shown) (r : Result Ended ScheduleFault) → Consumes r0 r1 before
    → ((more : List ℕ) → ScheduleSpec limits shown (before ++ more) w0 w r) → IfSome r0 (λ text. ScheduleSpec limits shown text w0 w r)
run_stops limits None r1 w0 w before shown r p h = tt
run_stops limits (Some x) None w0 w before shown r p h = absurd p
run_stops limits (Some x) (Some y) w0 w before shown r p h = subst (λ (t : List ℕ). ScheduleSpec limits shown t w0 w r) (sym p) (h y)

pub run_ends : (limits : Limits) (r0 r1 r2 w0 w : Option (List ℕ)) (before read : List ℕ) (n : ℕ) (shown : Shown)
    (r : Result Ended ScheduleFault) → Consumes r0 r1 before → Consumes r1 r2 (take n read) → n ≡ 0 → IsAtEnd r2
    → ScheduleSpec limits shown before w0 w r → IfSome r0 (λ text. ScheduleSpec limits shown text w0 w r)
run_ends limits None r1 r2 w0 w before read n shown r p q none at_end h = tt
run_ends limits (Some x) None r2 w0 w before read n shown r p q none at_end h = absurd p
run_ends limits (Some x) (Some y) None w0 w before read n shown r p q none at_end h = absurd q
run_ends limits (Some x) (Some y) (Some z) w0 w before read n shown r p q none at_end h =
    let nothing : y ≡ [] = q ∙ ap₂ (λ (k : ℕ) (t : List ℕ). take k read ++ t) none at_end in
    subst (λ (t : List ℕ). ScheduleSpec limits shown t w0 w r) (sym (p ∙ ap (λ l. before ++ l) nothing ∙ append-nil before)) h

pub not_empty : (xs : List ℕ) (t : Bool) → t ≡ (length xs == 0) → t ≡ false → xs ≢ []
not_empty [] t e f h = cc
not_empty (x ∷ xs) t e f h = cc

-- something is left with more behind it
pub some_more : (rest more : List ℕ) → rest ≢ [] → rest ++ more ≢ []
some_more [] more some is = some refl
some_more (c ∷ cs) more some is = cc
