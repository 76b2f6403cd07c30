-- An item that is put into a stream.
use Rattle.std.proofs.Common.{arith, ◌≡◌, ◌∙◌, refl, ap, sym, List, [], ◌∷◌, ◌++◌, map, length, append-nil, append_assoc}
use Rattle.std.proofs.lemmas.List.{append_cancel_left, append_cancel_right, map-append}
use Rattle.ng_canon.specs.declared.item.Item.{Item}
use Rattle.ng_canon.specs.declared.item.Item.TheVariants.{Pulse, Dwell, Switch}
use Rattle.ng_canon.specs.declared.item.Pulse.{Pulse as OnePulse}
use Rattle.ng_pace.specs.declared.line.Line.{Line}
use Rattle.ng_pace.specs.Stream.{Flow, Timed, items_of, items_waiting, all_items, still_line}
use Rattle.ng_pace.specs.Legs.{Leg, pulses_of, lines_of}
use Rattle.ng_pace.specs.Path.{Advances}
use Rattle.ng_pace.specs.Halting.{Halts, Takes}
use Rattle.ng_pace.specs.Putting.{IsUnderway, Goes, Rests, GoesOnWith}
use Rattle.ng_pace.proofs.FinalLimitLemmas.{items_of-append}

-- what is made of what waited, and of what came
made-of : (known : List Line) (made : List Line) (waited waits more : List Item) → items_of (known ++ made) ++ waits ≡ (items_of known ++ waited) ++ more
    → items_of made ++ waits ≡ waited ++ more
made-of known made waited waits more e = append_cancel_left (items_of known) (items_of made ++ waits) (waited ++ more)
    (sym (append_assoc (items_of known) (items_of made) waits) ∙ ap (λ t. t ++ waits) (sym (items_of-append known made)) ∙ e ∙ append_assoc
    (items_of known) waited more)

-- the items of a path
items-more : (lines made : List Line) (waited waits more pulses : List Item) → items_of lines ++ waited ≡ pulses
    → items_of made ++ waits ≡ waited ++ more → items_of (lines ++ made) ++ waits ≡ pulses ++ more
items-more lines made waited waits more pulses before now =
    ap (λ t. t ++ waits) (items_of-append lines made) ∙ append_assoc (items_of lines) (items_of made) waits ∙ ap (λ t. items_of lines ++ t) now
    ∙ sym (append_assoc (items_of lines) waited more) ∙ ap (λ t. t ++ more) before

goes-flow : (old new : Flow) (legs : List Leg) (pulse : OnePulse) → IsUnderway old legs → new.limits ≡ old.limits
    → Advances old.limits 0 old.motion new.motion new.chord (length new.waiting) (pulses_of legs ++ pulse ∷ []) (lines_of legs)
    → all_items new ≡ all_items old ++ Pulse pulse ∷ []
    → Goes old new legs pulse
goes-flow old new legs pulse underway same a items = record {
  made = a.made;
  known = a.known;
  chords = a.leg ∷ a.rest;
  pulses_are = a.pulses_are;
  lines_are = a.lines_are;
  underway = record {
    path = rw same a.path;
    begun = a.some;
    items =
        let made : items_of a.made ++ items_waiting new.waiting ≡ items_waiting old.waiting ++ Pulse pulse ∷ []
        = made-of old.motion.known a.made (items_waiting old.waiting) (items_waiting new.waiting) (Pulse pulse ∷ [])
        (ap (λ t. items_of t ++ items_waiting new.waiting) (sym a.known) ∙ items) in
        ap (λ t. items_of t ++ items_waiting new.waiting) a.lines_are ∙ items-more (lines_of legs) a.made (items_waiting old.waiting)
        (items_waiting new.waiting) (Pulse pulse ∷ []) (map Pulse (pulses_of legs)) underway.items made
        ∙ sym (map-append Pulse (pulses_of legs) (pulse ∷ [])) ∙ ap (λ t. map Pulse t) (sym a.pulses_are);
  };
}

items_of-still : (items : List Item) → items_of (map still_line items) ≡ items
items_of-still [] = refl
items_of-still (item ∷ items) = ap (λ t. item ∷ t) (items_of-still items)

none-waits : (xs : List Timed) → length xs ≡ 0 → xs ≡ []
none-waits [] e = refl
none-waits (x ∷ xs) e = absurd (omega (arith, e))

pub rest-flow : (old new : Flow) (legs : List Leg) (more : List Item) → IsUnderway old legs
    → Halts old.limits old.motion.start old.motion new.motion new.chord (length new.waiting) legs more → all_items new ≡ all_items old ++ more
    → Rests old new legs more
rest-flow old new legs more underway h items = record {
  made = h.finishes.made;
  known = known;
  chords = h.finishes.legs;
  pulses_are = h.finishes.pulses_are;
  lines_are = h.finishes.lines_are;
  items_are = ap items_of h.finishes.lines_are ∙ items_of-append (lines_of legs) h.finishes.made ∙ ap (λ t. items_of (lines_of legs) ++ t) all
      ∙ underway.items ∙ ap (λ t. map Pulse t) (sym h.finishes.pulses_are);
  paced = h.finishes.paced;
  underway = record { path = h.path; begun = tt; items = none };
} where
  known : new.motion.known ≡ old.motion.known ++ (h.finishes.made ++ map still_line more)
  known = h.known ∙ ap (λ t. t ++ map still_line more) h.finishes.known ∙ append_assoc old.motion.known h.finishes.made (map still_line more)

  none : items_waiting new.waiting ≡ []
  none = ap items_waiting (none-waits new.waiting h.path.1)

  both : items_of (h.finishes.made ++ map still_line more) ++ items_waiting new.waiting ≡ items_waiting old.waiting ++ more
  both = made-of old.motion.known (h.finishes.made ++ map still_line more) (items_waiting old.waiting) (items_waiting new.waiting) more
      (ap (λ t. items_of t ++ items_waiting new.waiting) (sym known) ∙ items)

  all : items_of h.finishes.made ≡ items_waiting old.waiting
  all = append_cancel_right (items_of h.finishes.made) (items_waiting old.waiting) more
      (ap (λ t. items_of h.finishes.made ++ t) (sym (items_of-still more)) ∙ sym (items_of-append h.finishes.made (map still_line more)) ∙ sym
      (append-nil (items_of (h.finishes.made ++ map still_line more)))
      ∙ ap (λ t. items_of (h.finishes.made ++ map still_line more) ++ t) (sym none) ∙ both)

pub put-flow : (old new : Flow) (legs : List Leg) (item : Item) → IsUnderway old legs → new.limits ≡ old.limits
    → Takes old.limits old.motion.start old.motion new.motion new.chord (length new.waiting) legs item → all_items new ≡ all_items old ++ item ∷ []
    → GoesOnWith old new legs item
put-flow old new legs (Pulse pulse) underway same takes items = goes-flow old new legs pulse underway same takes items
put-flow old new legs (Dwell us) underway same takes items = rest-flow old new legs (Dwell us ∷ []) underway takes items
put-flow old new legs (Switch outputs) underway same takes items = rest-flow old new legs (Switch outputs ∷ []) underway takes items
