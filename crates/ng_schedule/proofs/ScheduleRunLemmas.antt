-- Runs, line by line.
use Rattle.std.proofs.Common.{◌≡◌, ◌∙◌, ◌+◌, ◌-◌, ◌^◌, ◌≤◌, ◌<◌, ℕ, List, [], ◌∷◌, ◌++◌, Option, Ok, Bool, true}
use Rattle.std.proofs.Common.{IsFalse, length-append, ap, ap₂, append_assoc, append-nil, arith, refl, subst, sym}
use Rattle.ng_canon.specs.declared.item.Item.{Item}
use Rattle.ng_lines.specs.Lines.{item_line}
use Rattle.ng_pace.specs.declared.limits.Limits.{Limits}
use Rattle.ng_pace.specs.Due.{due_ns, least_ns}
use Rattle.ng_pace.specs.declared.stepping.Given.{Given}
use Rattle.ng_pace.specs.Stream.{all_items}
use Rattle.ng_pace.specs.Calls.{IsPut, IsEnded, IsFlowGiven}
use Rattle.ng_streams.specs.Waiting.{FlushSpec, Wrote}
use Rattle.ng_schedule.specs.Schedule.{AreNeverSooner, Timed, due_text, lines_of, span, timed_text}
use Rattle.ng_schedule.specs.Private.Parts.{HasGiven, HaltSpec, IsAt, IsCut, IsFull, IsStreamed, IsTooLate, IsUnderWay, item_lines}
use Rattle.ng_schedule.specs.declared.ending.Halt.{Halt}
use Rattle.ng_schedule.specs.declared.ending.Halt.TheVariants as halt
use Rattle.ng_schedule.specs.declared.ending.Shown.{Shown}
use Rattle.ng_schedule.specs.declared.ending.ScheduleFault.{ScheduleFault}
use Rattle.ng_schedule.specs.declared.giving.Schedule.{Schedule}
use Rattle.ng_schedule.proofs.StreamLemmas.{are_paced, ends, gives_out, puts, tells}
use Rattle.ng_streams.proofs.KnownBytesLemmas.{Appends-trans}

lines_of-append : (a b : List Timed) → lines_of (a ++ b) ≡ lines_of a ++ lines_of b
lines_of-append [] b = refl
lines_of-append (t ∷ ts) b = ap (λ l. item_line t.item ++ l) (lines_of-append ts b) ∙ sym (append_assoc (item_line t.item) (lines_of ts) (lines_of b))

pub item_lines-append : (a b : List Item) → item_lines (a ++ b) ≡ item_lines a ++ item_lines b
item_lines-append [] b = refl
item_lines-append (i ∷ is) b = ap (λ l. item_line i ++ l) (item_lines-append is b) ∙ sym (append_assoc (item_line i) (item_lines is) (item_lines b))

span-append : (a b : List Timed) → span (a ++ b) ≡ span a + span b
span-append [] b = omega arith
span-append (t ∷ ts) b = omega (arith, span-append ts b)

never_sooner-append : (percent : ℕ) (a b : List Timed) → AreNeverSooner percent a → AreNeverSooner percent b → AreNeverSooner percent (a ++ b)
never_sooner-append percent [] b p q = q
never_sooner-append percent (t ∷ ts) b p q = (p.0, never_sooner-append percent ts b p.1 q)

timed_text-append : (shown : Shown) (due : ℕ) (a b : List Timed) → timed_text shown due (a ++ b) ≡ timed_text shown due a ++ timed_text shown (due + span a) b
timed_text-append shown due [] b = ap (λ k. timed_text shown k b) (omega arith)
timed_text-append shown due (t ∷ ts) b =
    let sum : due + t.ns + span ts ≡ due + (t.ns + span ts) = omega arith in
    ap (λ l. due_text shown due t.item ++ l) (timed_text-append shown (due + t.ns) ts b
    ∙ ap (λ k. timed_text shown (due + t.ns) ts ++ timed_text shown k b) sum)
    ∙ sym (append_assoc (due_text shown due t.item) (timed_text shown (due + t.ns) ts) _)

-- one more line
abbrev with_line : List Timed → Item → ℕ → List Timed
with_line timed item ns = timed ++ record { item = item; ns = ns } ∷ []

lines_with : (timed : List Timed) (item : Item) (ns : ℕ) (more : List ℕ)
    → lines_of (with_line timed item ns) ++ more ≡ lines_of timed ++ (item_line item ++ more)
lines_with timed item ns more =
    ap (λ l. l ++ more) (lines_of-append timed (record { item = item; ns = ns } ∷ []) ∙ ap (λ l. lines_of timed ++ l) (append-nil (item_line item)))
    ∙ append_assoc (lines_of timed) (item_line item) more

text_with : (shown : Shown) (timed : List Timed) (item : Item) (ns : ℕ)
    → timed_text shown 0 (with_line timed item ns) ≡ timed_text shown 0 timed ++ due_text shown (span timed) item
text_with shown timed item ns =
    let zero_sum : 0 + span timed ≡ span timed = omega arith in
    timed_text-append shown 0 timed (record { item = item; ns = ns } ∷ [])
    ∙ ap (λ l. timed_text shown 0 timed ++ l) (append-nil (due_text shown (0 + span timed) item) ∙ ap (λ k. due_text shown k item) zero_sum)

-- the lines that are known, of which the first is taken
known_with : (timed : List Timed) (item : Item) (items : List Item) (partial : List ℕ)
    → (lines_of timed ++ item_lines (item ∷ items)) ++ partial ≡ lines_of
    timed ++ (item_line item ++ (item_lines items ++ partial))
known_with timed item items partial =
    append_assoc (lines_of timed) (item_line item ++ item_lines items) partial
    ∙ ap (λ l. lines_of timed ++ l) (append_assoc (item_line item) (item_lines items) partial)

-- a line was given
pub gives : {Z : Type 0} {ended : Bool} (limits : Limits) (start w v : Option (List ℕ)) (bytes partial : List ℕ)
    (s t : Schedule Z) (g : Given) → IsAt ended limits start w bytes partial s
    → (IsFalse ended → IsFull s) → IsFlowGiven s.stream t.stream (2 ^ 64 - 1) g
    → due_ns s.stream.motion.percent g.line.item ≤ g.ns → t.shown ≡ s.shown → t.due_ns ≡ s.due_ns + g.ns
    → t.number ≡ s.number + 1
    → FlushSpec {T = Unit {0}} {E = ScheduleFault} w v (s.text.items ++ due_text s.shown s.due_ns g.line.item) t.text.items (Ok tt) → IsAt ended limits start v bytes partial t
gives {Z} {ended} limits start w v bytes partial s t g here full h least shown_is due_is number_is flushed =
    let item = g.line.item in
    let ns = g.ns in
    let order = h.items in
    let timed = with_line here.timed item ns in
    record {
      timed = timed;
      given = subst (λ (sh : Shown). HasGiven limits.most_percent sh start v timed t.text.items) (sym shown_is) (record {
        never_sooner = never_sooner-append limits.most_percent here.timed _ here.given.never_sooner (rw here.streamed.percent at least, tt);
        out = here.given.out ++ flushed.0;
        written = Appends-trans start w v here.given.out flushed.0 here.given.written flushed.1;
        waits = text_with s.shown here.timed item ns ∙ ap₂ (λ (a : List ℕ) (k : ℕ). a ++ due_text s.shown k item) here.given.waits (sym here.due)
            ∙ append_assoc here.given.out s.text.items (due_text s.shown s.due_ns item)
            ∙ ap (λ l. here.given.out ++ l) flushed.2
            ∙ sym (append_assoc here.given.out flushed.0 t.text.items);
      });
      streamed = gives_out limits ended here.timed s.stream t.stream g here.streamed full h;
      lines = here.lines ∙ ap (λ (l : List Item). (lines_of here.timed ++ item_lines l) ++ partial) order
          ∙ known_with here.timed item (all_items t.stream) partial
          ∙ sym (lines_with here.timed item ns (item_lines (all_items t.stream) ++ partial))
          ∙ sym (append_assoc (lines_of timed) (item_lines (all_items t.stream)) partial);
      due = omega (arith, due_is, here.due, span-append here.timed (record { item = item; ns = ns } ∷ []));
      number = omega (arith, number_is, here.number, length-append here.timed (record { item = item; ns = ns } ∷ []));
    }

-- the next line would be over too late
pub too_late : {Z : Type 0} {ended : Bool} (limits : Limits) (start w : Option (List ℕ)) (bytes partial : List ℕ)
    (s t : Schedule Z) (g : Given) → IsAt ended limits start w bytes partial s
    → (IsFalse ended → IsFull s) → IsFlowGiven s.stream t.stream (2 ^ 64 - 1) g
    → least_ns s.stream.motion.percent g.line.item ≤ g.ns → 2 ^ 64 - 1 ≤ s.due_ns + g.ns → t.shown ≡ s.shown
    → t.number ≡ s.number → t.text.items ≡ s.text.items
    → IsTooLate limits start w bytes t
too_late {Z} {ended} limits start w bytes partial s t g here full h least beyond shown_is number_is text_is =
    let item = g.line.item in
    let ns = g.ns in
    let order = h.items in
    record {
      timed = here.timed;
      given = subst (λ (sh : Shown). HasGiven limits.most_percent sh start w here.timed t.text.items) (sym shown_is)
          (subst (λ (l : List ℕ). HasGiven limits.most_percent s.shown start w here.timed l) (sym text_is)
          here.given);
      late = record { item = item; ns = ns };
      least = rw here.streamed.percent at least;
      before = s.stream.motion.square;
      paced = are_paced limits here.timed s.stream here.streamed;
      left = t.stream.motion.square;
      paced_late = are_paced limits (with_line here.timed item ns) t.stream (gives_out limits ended here.timed s.stream t.stream g here.streamed full h);
      rest = item_lines (all_items t.stream) ++ partial;
      lines = here.lines ∙ ap (λ (l : List Item). (lines_of here.timed ++ item_lines l) ++ partial) order
          ∙ known_with here.timed item (all_items t.stream) partial;
      beyond = omega (arith, beyond, here.due);
      number = number_is ∙ here.number;
    }

-- nothing more is written
pub cut : {Z : Type 0} {ended : Bool} (limits : Limits) (start w : Option (List ℕ)) (bytes partial : List ℕ)
    (s : Schedule Z) (shown : Shown) → shown ≡ s.shown → IsAt ended limits start w bytes partial s
    → IsCut limits shown start w bytes
cut {Z} {ended} limits start w bytes partial s shown shown_is here =
    subst (λ (sh : Shown). IsCut limits sh start w bytes) (sym shown_is) (record {
      timed = here.timed;
      never_sooner = here.given.never_sooner;
      left = s.stream.motion.square;
      paced = are_paced limits here.timed s.stream here.streamed;
      rest = item_lines (all_items s.stream) ++ partial;
      lines = here.lines ∙ append_assoc (lines_of here.timed) (item_lines (all_items s.stream)) partial;
      out = here.given.out;
      written = here.given.written;
      after = s.text.items;
      begins = here.given.waits;
    })

-- a line was given in part
pub cut_in_line : {Z : Type 0} {ended : Bool} (limits : Limits) (start w v : Option (List ℕ)) (bytes partial : List ℕ)
    (s t : Schedule Z) (g : Given) → IsAt ended limits start w bytes partial s
    → (IsFalse ended → IsFull s) → IsFlowGiven s.stream t.stream (2 ^ 64 - 1) g → due_ns s.stream.motion.percent g.line.item ≤ g.ns → t.shown ≡ s.shown
    → Wrote w v (s.text.items ++ due_text s.shown s.due_ns g.line.item) → IsCut limits t.shown start v bytes
cut_in_line {Z} {ended} limits start w v bytes partial s t g here full h least shown_is wrote =
    let item = g.line.item in
    let ns = g.ns in
    let order = h.items in
    subst (λ (sh : Shown). IsCut limits sh start v bytes) (sym shown_is) (record {
      timed = with_line here.timed item ns;
      never_sooner = never_sooner-append limits.most_percent here.timed _ here.given.never_sooner (rw here.streamed.percent at least, tt);
      left = t.stream.motion.square;
      paced = are_paced limits (with_line here.timed item ns) t.stream (gives_out limits ended here.timed s.stream t.stream g here.streamed full h);
      rest = item_lines (all_items t.stream) ++ partial;
      lines = here.lines ∙ ap (λ (l : List Item). (lines_of here.timed ++ item_lines l) ++ partial) order
          ∙ known_with here.timed item (all_items t.stream) partial
          ∙ sym (lines_with here.timed item ns (item_lines (all_items t.stream) ++ partial));
      out = here.given.out ++ wrote.0;
      written = Appends-trans start w v here.given.out wrote.0 here.given.written wrote.2;
      after = wrote.1;
      begins = text_with s.shown here.timed item ns ∙ ap₂ (λ (a : List ℕ) (k : ℕ). a ++ due_text s.shown k item) here.given.waits (sym here.due)
          ∙ append_assoc here.given.out s.text.items (due_text s.shown s.due_ns item)
          ∙ ap (λ l. here.given.out ++ l) wrote.3 ∙ sym (append_assoc here.given.out wrote.0 wrote.1);
    })

-- a line that is over in time takes no less than it says
pub long_enough : (percent : ℕ) (item : Item) (due ns : ℕ) → least_ns percent item ≤ ns → due + ns < 2 ^ 64 - 1 → due_ns percent item ≤ ns
long_enough percent item due ns least fits = omega (arith, least, fits)

-- nothing of what is known changed
unchanged : {Z : Type 0} {ended next : Bool} (limits : Limits) (start w : Option (List ℕ)) (bytes partial : List ℕ)
    (s t : Schedule Z) → (here : IsAt ended limits start w bytes partial s)
    → IsStreamed next limits here.timed t.stream → IsEnded s.stream t.stream → t.shown ≡ s.shown
    → t.due_ns ≡ s.due_ns → t.number ≡ s.number → t.text.items ≡ s.text.items
    → IsAt next limits start w bytes partial t
unchanged {Z} limits start w bytes partial s t here streamed ended shown_is due_is number_is text_is =
    record {
      timed = here.timed;
      given = subst (λ (sh : Shown). HasGiven limits.most_percent sh start w here.timed t.text.items) (sym shown_is)
          (subst (λ (l : List ℕ). HasGiven limits.most_percent s.shown start w here.timed l) (sym text_is)
          here.given);
      streamed = streamed;
      lines = here.lines ∙ ap (λ (l : List Item). (lines_of here.timed ++ item_lines l) ++ partial) (sym ended.items);
      due = due_is ∙ here.due;
      number = number_is ∙ here.number;
    }

-- no line has its limits, and no more fit: the end is told, and nothing else changed
pub told : {Z : Type 0} (limits : Limits) (start w : Option (List ℕ)) (bytes partial : List ℕ) (s t : Schedule Z)
    → IsUnderWay limits start w bytes partial s → s.stream.motion.known ≡ []
    → IsFull s → IsEnded s.stream t.stream → t.shown ≡ s.shown → t.due_ns ≡ s.due_ns → t.number ≡ s.number
    → t.text.items ≡ s.text.items → IsUnderWay limits start w bytes partial t
told {Z} limits start w bytes partial s t here none full ended shown_is due_is number_is text_is =
    unchanged limits start w bytes partial s t here (tells limits here.timed s.stream t.stream here.streamed none full
    ended) ended shown_is due_is number_is text_is

-- no more lines come, and nothing else changed
pub same_items : {Z : Type 0} (limits : Limits) (start w : Option (List ℕ)) (bytes partial : List ℕ) (s t : Schedule Z)
    → IsUnderWay limits start w bytes partial s
    → IsEnded s.stream t.stream → t.shown ≡ s.shown → t.due_ns ≡ s.due_ns → t.number ≡ s.number
    → t.text.items ≡ s.text.items → IsAt true limits start w bytes partial t
same_items {Z} limits start w bytes partial s t here ended shown_is due_is number_is text_is =
    unchanged limits start w bytes partial s t here (ends limits here.timed s.stream t.stream here.streamed ended) ended shown_is due_is number_is text_is

-- one more item is known
pub takes : {Z : Type 0} (limits : Limits) (start w : Option (List ℕ)) (bytes : List ℕ) (s t : Schedule Z) (item : Item) → IsUnderWay limits start w bytes [] s
    → IsPut s.stream t.stream item → t.shown ≡ s.shown → t.due_ns ≡ s.due_ns → t.number ≡ s.number → t.text.items ≡ s.text.items
    → IsUnderWay limits start w (bytes ++ item_line item) [] t
takes {Z} limits start w bytes s t item here put shown_is due_is number_is text_is =
    let known = item_lines (all_items s.stream) in
    let more : item_lines (all_items t.stream) ≡ known ++ item_line item =
    ap item_lines put.items ∙ item_lines-append (all_items s.stream) (item ∷ []) ∙ ap (λ l. known ++ l) (append-nil (item_line item)) in
    record {
      timed = here.timed;
      given = subst (λ (sh : Shown). HasGiven limits.most_percent sh start w here.timed t.text.items) (sym shown_is)
          (subst (λ (l : List ℕ). HasGiven limits.most_percent s.shown start w here.timed l) (sym text_is)
          here.given);
      streamed = puts limits here.timed s.stream t.stream item here.streamed put;
      lines = ap (λ l. l ++ item_line item) (here.lines ∙ append-nil (lines_of here.timed ++ known)) ∙ append_assoc (lines_of here.timed) known (item_line item)
          ∙ ap (λ l. lines_of here.timed ++ l) (sym more) ∙ sym (append-nil (lines_of here.timed ++ item_lines (all_items t.stream)));
      due = due_is ∙ here.due;
      number = number_is ∙ here.number;
    }

-- what comes later changes nothing of it
pub HaltSpec-more : {Z : Type 0} (limits : Limits) (start w : Option (List ℕ)) (bytes more : List ℕ)
    (s : Schedule Z) (why : Halt) → HaltSpec limits start w bytes s why
    → HaltSpec limits start w (bytes ++ more) s why
HaltSpec-more {Z} limits start w bytes more s halt.TooLate h =
    record {
      timed = h.timed;
      given = h.given;
      late = h.late;
      least = h.least;
      before = h.before;
      paced = h.paced;
      left = h.left;
      paced_late = h.paced_late;
      rest = h.rest ++ more;
      lines = ap (λ l. l ++ more) h.lines ∙ append_assoc (lines_of h.timed) (item_line h.late.item ++ h.rest) more
          ∙ ap (λ l. lines_of h.timed ++ l) (append_assoc (item_line h.late.item) h.rest more);
      beyond = h.beyond;
      number = h.number;
    }
HaltSpec-more {Z} limits start w bytes more s (halt.Fault fault) h =
    (h.0, cut_more h.1)
  where
    cut_more : IsCut limits s.shown start w bytes → IsCut limits s.shown start w (bytes ++ more)
    cut_more before = record {
      timed = before.timed;
      never_sooner = before.never_sooner;
      left = before.left;
      paced = before.paced;
      rest = before.rest ++ more;
      lines = ap (λ l. l ++ more) before.lines ∙ append_assoc (lines_of before.timed) before.rest more;
      out = before.out;
      written = before.written;
      after = before.after;
      begins = before.begins;
    }
