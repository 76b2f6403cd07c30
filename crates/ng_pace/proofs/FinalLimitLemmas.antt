-- Limits that become final keep the items and the motion.
use Rattle.std.proofs.Common.{arith, ℕ, ◌+◌, ◌<◌, ◌≤◌, ◌≡◌, ◌∙◌, inl, inr, refl, ap, sym, List, [], ◌∷◌, ◌++◌, length, get_or, append-nil, append_assoc}
use Rattle.std.specs.Prelude.{Option, Some, None, IfSome, IfNone}
use Rattle.std.proofs.Math.Seq.{get_or-append_seam}
use Rattle.ng_canon.specs.declared.item.Item.{Item}
use Rattle.ng_pace.specs.declared.line.Line.{Line}
use Rattle.ng_pace.specs.declared.chord.Waiting.{Waiting}
use Rattle.ng_pace.specs.declared.chord.Chord.{Chord}
use Rattle.ng_pace.specs.declared.limits.Limits.{Limits}
use Rattle.ng_pace.specs.Pacer.{Motion}
use Rattle.ng_pace.specs.Paced.{IsGiven}
use Rattle.ng_pace.specs.Rest.{CanRest, Stands, StandsBehind, IsMarked}
use Rattle.ng_pace.specs.declared.settling.Ending.{Ending}
use Rattle.ng_pace.specs.Making.{IsEnd, Marks}
use Rattle.ng_pace.specs.declared.stepping.Given.{Given}
use Rattle.ng_pace.specs.Stream.{Flow, items_of, items_waiting, all_items, full_of, Timed, timed_lines, timed_waiting}
use Rattle.ng_pace.specs.Stream.{AreOwn, Settles, Keeps, Adds, IsHeld, still_line, StandsLast}
use Rattle.ng_pace.proofs.RestLemmas.{rest_more}

pub timed_lines-append : (xs ys : List Line) → timed_lines (xs ++ ys) ≡ timed_lines xs ++ timed_lines ys
timed_lines-append [] ys = refl
timed_lines-append (x ∷ xs) ys = ap (λ t. (record { item = x.item; full = x.full }) ∷ t) (timed_lines-append xs ys)

own-append : (xs ys : List Line) → AreOwn xs → AreOwn ys → AreOwn (xs ++ ys)
own-append [] ys a b = b
own-append (x ∷ xs) ys a b = (a.0, own-append xs ys a.1 b)

pub length-timed_waiting : (xs : List Waiting) → length (timed_waiting xs) ≡ length xs
length-timed_waiting [] = refl
length-timed_waiting (x ∷ xs) = omega (arith, length-timed_waiting xs)

timed_waiting-push : (xs : List Waiting) (w : Waiting) → timed_waiting (xs ++ w ∷ []) ≡ timed_waiting xs ++ (record { item = w.item; full = w.feed }) ∷ []
timed_waiting-push [] w = refl
timed_waiting-push (x ∷ xs) w = ap (λ t. (record { item = x.item; full = x.feed }) ∷ t) (timed_waiting-push xs w)

pub settles_none : (m : Motion) (w : List Timed) → Settles m m w w
settles_none m w = record {
  settled = [];
  known = sym
      (append-nil m.known);
  order = refl;
  own = tt;
  square = refl;
  start = refl;
  percent = refl;
  capacity = refl;
}

pub settles_on : {a b c : Motion} {u v w : List Timed} → Settles a b u v → Settles b c v w → Settles a c u w
settles_on {a} {b} {c} {u} {v} {w} first later = record {
  settled = first.settled ++ later.settled;
  known = later.known ∙ ap (λ t. t ++ later.settled) first.known ∙ append_assoc a.known first.settled later.settled;
  order = ap (λ t. t ++ w) (timed_lines-append first.settled later.settled) ∙ append_assoc (timed_lines first.settled) (timed_lines later.settled) w
      ∙ ap (λ t. timed_lines first.settled ++ t) later.order ∙ first.order;
  own = own-append first.settled later.settled first.own later.own;
  square = later.square ∙ first.square;
  start = later.start ∙ first.start;
  percent = later.percent ∙ first.percent;
  capacity = later.capacity ∙ first.capacity;
}

-- one more behind those that wait
pub settles_push : {a b : Motion} {u v : List Timed} → Settles a b u v → (w : List Timed) → Settles a b (u ++ w) (v ++ w)
settles_push {a} {b} {u} {v} first w = record {
  settled = first.settled;
  known = first.known;
  order = sym (append_assoc (timed_lines first.settled) v w) ∙ ap (λ t. t ++ w) first.order;
  own = first.own;
  square = first.square;
  start = first.start;
  percent = first.percent;
  capacity = first.capacity;
}

-- a rest can still be reached
pub settles_rest : {a b : Motion} {u v : List Timed} → Settles a b u v → CanRest a.square a.known → CanRest b.square b.known
settles_rest {a} {b} first rest = rw (first.known, first.square) (rest_more a.known first.settled a.square rest)

pub keeps_itself : (m : Motion) (w : List Waiting) → Keeps m m w w
keeps_itself m w = record { settles = settles_none m (timed_waiting w); count = refl }

pub keeps_on : {a b c : Motion} {u v w : List Waiting} → Keeps a b u v → Keeps b c v w → Keeps a c u w
keeps_on first later = record { settles = settles_on first.settles later.settles; count = later.count ∙ first.count }

length-push : (xs : List Line) (line : Line) → length (xs ++ line ∷ []) ≡ length xs + 1
length-push [] line = refl
length-push (x ∷ xs) line = omega (arith, length-push xs line)

length-waiting-push : (xs : List Waiting) (w : Waiting) → length (xs ++ w ∷ []) ≡ length xs + 1
length-waiting-push [] w = refl
length-waiting-push (x ∷ xs) w = omega (arith, length-waiting-push xs w)

-- a line goes behind those that are known
pub pushed : (old : Motion) (line : Line) (waits : List Timed) → line.most ≤ line.full
    → Settles old (record old { known = old.known ++ line ∷ [] }) ((record { item = line.item; full = line.full }) ∷ waits) waits
pushed old line waits own = record {
  settled = line ∷ [];
  known = refl;
  order = refl;
  own = (own, tt);
  square =
      refl;
  start = refl;
  percent = refl;
  capacity = refl;
}

-- the first item that waits goes behind what is known
pub moved : (old new : Motion) (w : Waiting) (waited rest : List Waiting) (line : Line) → new ≡ record old { known = old.known ++ line ∷ [] }
    → line.item ≡ w.item → line.full ≡ w.feed → line.most ≤ w.feed → waited ≡ w ∷ rest → Keeps old new waited rest
moved old new w waited rest line is item full most first = rw (is, first) (record {
  settles = rw (← item, ← full) (pushed old line (timed_waiting rest) (omega arith));
  count = omega (arith, length-push old.known line);
})

-- a line at which everything stands still goes behind what is known, where nothing waits
pub still_adds : (item : Item) (old mid : Motion) (waited waits : List Waiting) → Keeps old mid waited waits → waits ≡ []
    → Adds old (record mid { known = mid.known ++ still_line item ∷ [] }) waited waits (record { item = item; full = 0 })
still_adds item old mid waited waits keeps none =
    let line : Line = still_line item in
    let timed : Timed = record { item = item; full = 0 } in
    let before : Settles old mid (timed_waiting waited) [] = rw none at keeps.settles in
    rw none (record {
      settles = settles_on (settles_push before (timed ∷ [])) (pushed mid line [] (omega arith));
      count = let count : length mid.known + length waits ≡ length old.known + length waited = keeps.count in
          let nothing : length waits ≡ 0 = ap length none in omega (arith, length-push mid.known line);
    })

-- an item begins to wait
pub pulse_adds : (a b c : Motion) (u v pushed w : List Waiting) (x : Waiting) → Keeps a b u v → pushed ≡ v ++ x ∷ [] → Keeps b c pushed w
    → Adds a c u w (record { item = x.item; full = x.feed })
pulse_adds a b c u v pushed w x first is later =
    let moved_on : Keeps b c (v ++ x ∷ []) w = rw is at later in record {
      settles = settles_on (settles_push first.settles ((record { item = x.item; full = x.feed }) ∷ [])) (rw (timed_waiting-push v x) at moved_on.settles);
      count = omega (arith, moved_on.count, first.count, length-waiting-push v x);
    }

-- nothing waits any more
pub settles_end : {old new : Motion} {waited waits : List Waiting} → Keeps old new waited waits → waits ≡ [] → Settles old new (timed_waiting waited) []
settles_end keeps none = rw none at keeps.settles

pub adds_rest : {old new : Motion} {waited waits : List Waiting} {timed : Timed} → Adds old new waited waits timed → CanRest old.square old.known
    → CanRest new.square new.known
adds_rest adds rest = settles_rest adds.settles rest

pub still_last : (mid new : Motion) (waits : List Waiting) (line : Line) (item : Item) → new ≡ record mid { known = mid.known ++ line ∷ [] }
    → line ≡ still_line item → waits ≡ [] → StandsLast new.known (timed_waiting waits) item
still_last mid new waits line item is same none = record {
  lines = mid.known;
  last = ap (λ t. t.known) is ∙ ap
      (λ t. mid.known ++ t ∷ []) same;
  none = ap timed_waiting none;
}

items_waiting-append : (xs ys : List Timed) → items_waiting (xs ++ ys) ≡ items_waiting xs ++ items_waiting ys
items_waiting-append [] ys = refl
items_waiting-append (x ∷ xs) ys = ap (λ t. x.item ∷ t) (items_waiting-append xs ys)

pub items_of-append : (xs ys : List Line) → items_of (xs ++ ys) ≡ items_of xs ++ items_of ys
items_of-append [] ys = refl
items_of-append (x ∷ xs) ys = ap (λ t. x.item ∷ t) (items_of-append xs ys)

items_waiting-lines : (xs : List Line) → items_waiting (timed_lines xs) ≡ items_of xs
items_waiting-lines [] = refl
items_waiting-lines (x ∷ xs) = ap (λ t. x.item ∷ t) (items_waiting-lines xs)

-- limits that become final leave the items
settled_items : {old new : Motion} {waited waits : List Timed} → Settles old new waited waits
    → items_of new.known ++ items_waiting waits ≡ items_of old.known ++ items_waiting waited
settled_items {old} {new} {waited} {waits} s =
    let settled : items_of s.settled ++ items_waiting waits ≡ items_waiting waited
    = ap (λ t. t ++ items_waiting waits) (sym (items_waiting-lines s.settled)) ∙ sym (items_waiting-append (timed_lines s.settled) waits)
    ∙ ap items_waiting s.order in
    ap (λ t. items_of t ++ items_waiting waits) s.known ∙ ap (λ t. t ++ items_waiting waits) (items_of-append old.known s.settled)
    ∙ append_assoc (items_of old.known) (items_of s.settled) (items_waiting waits) ∙ ap (λ t. items_of old.known ++ t) settled

pub put_items : (old mid : Flow) (item : Item) → Settles old.motion mid.motion
    (old.waiting ++ (record { item = item; full = full_of old.limits.most_percent old.before item }) ∷ [])
    mid.waiting → all_items mid ≡ all_items old ++ item ∷ []
put_items old mid item p =
    settled_items p ∙ ap (λ t. items_of old.motion.known ++ t) (items_waiting-append old.waiting
    ((record { item = item; full = full_of old.limits.most_percent old.before item }) ∷ []))
    ∙ sym (append_assoc (items_of old.motion.known) (items_waiting old.waiting) (item ∷ []))

pub end_items : (old mid : Flow) → Settles old.motion mid.motion old.waiting [] → mid.waiting ≡ [] → all_items mid ≡ all_items old
end_items old mid s none = ap (λ t. items_of mid.motion.known ++ items_waiting t) none ∙ settled_items s

pub given_items : (old mid : Flow) (given : Given) → old.motion.known ≡ given.line ∷ mid.motion.known → mid.waiting ≡ old.waiting
    → all_items old ≡ given.line.item ∷ all_items mid
given_items old mid given order waiting =
    ap (λ t. items_of t ++ items_waiting old.waiting) order ∙ sym (ap (λ t. given.line.item ∷ (items_of mid.motion.known ++ items_waiting t)) waiting)

-- two lists whose last lines are these are the same list
last-same : (xs ys : List Line) (x y : Line) → xs ++ x ∷ [] ≡ ys ++ y ∷ [] → x ≡ y
last-same xs ys x y e =
    let lens : length (xs ++ x ∷ []) ≡ length (ys ++ y ∷ []) = ap length e in
    let same : length xs ≡ length ys = omega (arith, lens, length-push xs x, length-push ys y) in
    sym (get_or-append_seam xs x [] x) ∙ ap (λ t. get_or t (length xs) x) e ∙ ap (λ n. get_or (ys ++ y ∷ []) n x) same ∙ get_or-append_seam ys y [] x

-- everything stands still behind a line that is marked, and behind one at which everything stands still
pub stands-marked : {lines : List Line} → IsMarked lines → StandsBehind lines
stands-marked {lines} is = λ before line e. let same : is.line ≡ line = last-same is.before before is.line line
    (sym is.lines_are ∙ e) in inl (rw (← same) is.marked)

pub stands-last : (lines known : List Line) (line : Line) → known ≡ lines ++ line ∷ [] → Stands line → StandsBehind known
stands-last lines known line is stands = λ before last e. let same : line ≡ last = last-same lines before line last (sym is ∙ e) in inr (rw (← same) stands)

pub stands-tail : (line : Line) (old new : List Line) → old ≡ line ∷ new → StandsBehind old → StandsBehind new
stands-tail line old new is stands = λ before last e. stands (line ∷ before) last (is ∙ ap (λ t. line ∷ t) e)

pub stands-none : {lines : List Line} → lines ≡ [] → StandsBehind lines
stands-none {lines} none = λ before line e. absurd (no_snoc before line (sym none ∙ e)) where
  no_snoc : (before : List Line) (line : Line) → [] ≡ before ++ line ∷ [] → ⊥
  no_snoc [] line e = cc
  no_snoc (x ∷ before) line e = cc

-- where nothing waits, nothing becomes known
pub keeps_none : {old new : Motion} {waited waits : List Waiting} → Keeps old new waited waits → waited ≡ [] → new.known ≡ old.known
keeps_none {old} {new} {waited} {waits} keeps none =
    let order : timed_lines keeps.settles.settled ++ timed_waiting waits ≡ [] = keeps.settles.order ∙ ap timed_waiting none in
    keeps.settles.known ∙ ap (λ t. old.known ++ t) (no-lines keeps.settles.settled (timed_waiting waits) order) ∙ append-nil old.known
  where
    no-lines : (xs : List Line) (ys : List Timed) → timed_lines xs ++ ys ≡ [] → xs ≡ []
    no-lines [] ys e = refl
    no-lines (x ∷ xs) ys e = absurd (cc)

-- a line of what waits at the end is marked
pub marks_on : {ending : Ending} {b c : Motion} {u v w : List Waiting} → Marks ending b.known u v → Keeps b c v w
    → Marks ending c.known v w → Marks ending c.known u w
marks_on {ending} {b} {c} {u} {v} {w} first keeps later = record { marked = λ end some none. by_case v refl end some none } where
  by_case : (xs : List Waiting) → v ≡ xs → IsEnd ending → 0 < length u → w ≡ [] → IsMarked c.known
  by_case [] is end some none = rw (keeps_none keeps is) (first.marked end some is)
  by_case (x ∷ xs) is end some none = later.marked end (let len : length v ≡ length (x ∷ xs) = ap length is in omega (arith, len)) none

pub marks_none : (ending : Ending) (known : List Line) (w : List Waiting) → Marks ending known w w
marks_none ending known w = record { marked = λ end some none. absurd (let len : length w ≡ 0 = ap length none in omega (arith, len, some)) }

-- nothing more is known to come: everything stands still behind what is known
pub end-stands : {ending : Ending} {old new : Motion} {waited waits : List Waiting} → Keeps old new waited waits → (waited ≡ [] → StandsBehind old.known)
    → Marks ending new.known waited waits → IsEnd ending → waits ≡ [] → StandsBehind new.known
end-stands {ending} {old} {new} {waited} {waits} keeps stands marks end none = by_case waited refl where
  by_case : (xs : List Waiting) → waited ≡ xs → StandsBehind new.known
  by_case [] is = rw (keeps_none keeps is) (stands is)
  by_case (x ∷ xs) is = stands-marked (marks.marked end (let len : length waited ≡ length (x ∷ xs) = ap length is in omega (arith, len)) none)

-- a stream whose first line was given out
pub held-next : (old new : Motion) (waiting : List Waiting) (capacity start : ℕ) (limits : Limits) (chord : Chord) (wanted : ℕ) (result : Option Given)
    → IfSome result (λ given. IsGiven old new wanted given) → IfNone result (new ≡ old) → IsHeld old waiting capacity start limits chord
    → IsHeld new waiting capacity start limits chord
held-next old new waiting capacity start limits chord wanted None given same held = rw same held
held-next old new waiting capacity start limits chord wanted (Some given) gives same held =
    let count : length old.known ≡ length (given.line ∷ new.known) = ap length gives.order in record {
      fits = omega (arith, count, held.fits, gives.capacity);
      capacity_is = held.capacity_is ∙ sym gives.capacity;
      start_is = held.start_is ∙ sym gives.start;
      limits_are = held.limits_are;
      rests = gives.rests;
      few = held.few;
      some = held.some;
      stands = λ none. stands-tail given.line old.known new.known gives.order (held.stands none);
    }
