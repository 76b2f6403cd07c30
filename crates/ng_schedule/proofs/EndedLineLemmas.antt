-- Lines and their ends.
use Rattle.std.proofs.Common.{◌≡◌, ◌≢◌, ◌∙◌, ◌+◌, ◌/◌, ◌%◌, ◌^◌, ◌≤◌, ◌<◌, ℕ, ℤ, pos, negsuc, unsigned_abs, Bool}
use Rattle.std.proofs.Common.{true, false, List, [], ◌∷◌, ◌++◌, length, length-append, drop, get_or, ap}
use Rattle.std.proofs.Common.{append_assoc, arith, codes, refl, subst, sym}
use Rattle.std.specs.Fmt.{decimal}
use Rattle.std.specs.Str.{all_ascii_digits}
use Rattle.std.proofs.lemmas.Str.Parse.{tells_all_ascii_digits}
use Rattle.std.proofs.lemmas.Fmt.{digits_decimal, length-decimal-le}
use Rattle.ng_num.specs.Range.{IsCount}
use Rattle.ng_num.specs.Printing.{minus, number_text, six_digits}
use Rattle.ng_canon.specs.declared.item.AxisStep.{AxisStep}
use Rattle.ng_canon.specs.declared.item.AxisStep.TheVariants.{Backward, Still, Forward}
use Rattle.ng_canon.specs.declared.item.Item.{Item}
use Rattle.ng_canon.specs.declared.item.Item.TheVariants.{Pulse, Dwell, Switch}
use Rattle.ng_canon.specs.declared.outputs.Spindle.{Spindle}
use Rattle.ng_canon.specs.declared.outputs.Spindle.TheVariants.{Stopped, Clockwise, Counterclockwise}
use Rattle.ng_canon.specs.declared.outputs.Outputs.{Outputs}
use Rattle.ng_lines.specs.Lines.{IsItem, item_line, slots_text, spindle_text, step_text, truth_digit, spinning_text}
use Rattle.ng_lines.proofs.DigitLemmas.{own}
use Rattle.ng_schedule.specs.Schedule.{BeginsNoLine}
use Rattle.ng_text.specs.Split.{HasNoNewline}

pub HasNoNewline-append : (a b : List ℕ) → HasNoNewline a → HasNoNewline b → HasNoNewline (a ++ b)
HasNoNewline-append [] b p q = q
HasNoNewline-append (c ∷ cs) b p q = (p.0, HasNoNewline-append cs b p.1 q)

-- ---- the line of an item is short, and its only newline is its end

abbrev IsShort : ℕ → List ℕ → Type 0
IsShort n bs = HasNoNewline bs × (length bs ≤ n)

joined : (n m : ℕ) (a b : List ℕ) → IsShort n a → IsShort m b → IsShort (n + m) (a ++ b)
joined n m a b p q = (HasNoNewline-append a b p.0 q.0, omega (arith, length-append a b, p.1, q.1))

other : (c : ℕ) → 11 ≤ c → c ≢ 10
other c large is = omega (arith, large, is)

one_byte : (c : ℕ) → 11 ≤ c → IsShort 1 (c ∷ [])
one_byte c large = ((other c large, tt), omega arith)

digits_no_newline : (ds : List ℕ) → all_ascii_digits ds ≡ true → HasNoNewline ds
digits_no_newline [] h = tt
digits_no_newline (c ∷ cs) h =
    let parts = tells_all_ascii_digits.parts c cs h in
    (other c (omega (arith, parts.0.0)), digits_no_newline cs parts.1)

short_decimal : (n : ℕ) → n < 2 ^ 64 → IsShort 20 (decimal n)
short_decimal n fits = (digits_no_newline (decimal n) (digits_decimal own n fits), length-decimal-le 20 n (omega arith) (omega (arith, fits)) fits)

short_step : (s : AxisStep) → IsShort 2 (step_text s)
short_step Backward = ((other 45 (omega arith), (other 49 (omega arith), tt)), omega arith)
short_step Still = ((other 48 (omega arith), tt), omega arith)
short_step Forward = ((other 49 (omega arith), tt), omega arith)

short_spindle : (s : Spindle) → IsShort 1 (spindle_text s)
short_spindle Stopped = one_byte 48 (omega arith)
short_spindle Clockwise = one_byte 49 (omega arith)
short_spindle Counterclockwise = one_byte 50 (omega arith)

truth_large : (b : Bool) → 11 ≤ truth_digit b
truth_large true = omega arith
truth_large false = omega arith

digit_large : (m : ℕ) → 48 + m % 10 ≢ 10
digit_large m is = omega (arith, is)

short_six : (n : ℕ) → IsShort 6 (six_digits n)
short_six n = (
  (
    digit_large (n / 100_000),
    (
      digit_large (n / 10_000),
      (digit_large (n / 1_000), (digit_large (n / 100), (digit_large (n / 10), (digit_large (n / 1), tt)))),
    ),
  ),
  omega arith,
)

short_minus : (z : ℤ) → IsShort 1 (minus z)
short_minus (pos n) = (tt, omega arith)
short_minus (negsuc n) = one_byte 45 (omega arith)

short_number : (z : ℤ) → IsCount z → IsShort 28 (number_text z)
unfolding number_text
short_number z small =
    let size = unsigned_abs z in
    joined 1 27 (minus z) (decimal (size / 1_000_000) ++ (46 ∷ six_digits size)) (short_minus z)
    (joined 20 7 (decimal (size / 1_000_000)) (46 ∷ six_digits size) (short_decimal (size / 1_000_000) (omega (arith, small)))
    (joined 1 6 (46 ∷ []) (six_digits size) (one_byte 46 (omega arith)) (short_six size)))

short_letter : (c : ℕ) → 11 ≤ c → IsShort 2 (c ∷ 32 ∷ [])
short_letter c large = ((other c large, (other 32 (omega arith), tt)), omega arith)

blank : IsShort 1 (codes " ")
blank = one_byte 32 (omega arith)

abbrev IsInner : Item → List ℕ → Type 0
IsInner item front = (item_line item ≡ front ++ codes "\n") × IsShort 78 front

short_spinning : (o : Outputs) → IsCount o.speed → IsShort 35 (spinning_text o)
short_spinning o small =
    joined 32 3 (spindle_text o.spindle ++ codes " " ++ number_text o.speed ++ (32 ∷ truth_digit o.mist ∷ []))
    ((32 ∷ truth_digit o.flood ∷ 32 ∷ []))
    (joined 30 2 (spindle_text o.spindle ++ codes " " ++ number_text o.speed) ((32 ∷ truth_digit o.mist ∷ []))
    (joined 2 28 (spindle_text o.spindle ++ codes " ") (number_text o.speed)
    (joined 1 1 (spindle_text o.spindle) (codes " ") (short_spindle o.spindle) blank)
    (short_number o.speed small))
    ((other 32 (omega arith), (other (truth_digit o.mist) (truth_large o.mist), tt)), omega arith)) (
      (
        other 32 (omega arith),
        (other (truth_digit o.flood) (truth_large o.flood), (other 32 (omega arith), tt)),
      ),
      omega arith,
    )

short_slots : (o : Outputs) → o.selected_slot < 2 ^ 8 → o.spindle_slot < 2 ^ 8 → IsShort 41 (slots_text o)
short_slots o selected spindle =
    joined 21 20 (decimal o.selected_slot ++ codes " ") (decimal o.spindle_slot)
    (joined 20 1 (decimal o.selected_slot) (codes " ") (short_decimal o.selected_slot (omega (arith, selected)))
    blank) (short_decimal o.spindle_slot (omega (arith, spindle)))

longer : (n m : ℕ) (bs : List ℕ) → n ≤ m → IsShort n bs → IsShort m bs
longer n m bs le p = (p.0, omega (arith, le, p.1))

inner : (item : Item) → IsItem item → (front : List ℕ) × IsInner item front
inner (Pulse p) fits = (
  codes "P " ++ step_text p.x ++ codes " " ++ step_text p.y ++ codes " " ++ step_text p.z ++ codes " " ++ decimal
      p.period_us,
  (
    refl,
    longer 31 78 (codes "P " ++ step_text p.x ++ codes " " ++ step_text p.y ++ codes
        " " ++ step_text p.z ++ codes " " ++ decimal p.period_us) (omega arith)
        (joined 11 20 (codes "P " ++ step_text p.x ++ codes " " ++ step_text p.y ++ codes " " ++ step_text p.z ++ codes
        " ") (decimal p.period_us)
        (joined 10 1 (codes "P " ++ step_text p.x ++ codes " " ++ step_text p.y ++ codes " " ++ step_text p.z)
        (codes " ") (joined 8 2 (codes "P " ++ step_text p.x ++ codes " " ++ step_text p.y ++ codes " ") (step_text p.z)
        (joined 7 1 (codes "P " ++ step_text p.x ++ codes " " ++ step_text p.y) (codes " ")
        (joined 5 2 (codes "P " ++ step_text p.x ++ codes " ") (step_text p.y)
        (joined 4 1 (codes "P " ++ step_text p.x) (codes " ")
        (joined 2 2 (codes "P ") (step_text p.x) (short_letter 80 (omega arith)) (short_step p.x)) blank)
        (short_step p.y)) blank) (short_step p.z)) blank) (short_decimal p.period_us fits)),
  ),
)
inner (Dwell us) fits = (
  codes "D " ++ decimal us,
  (
    refl,
    longer 22 78 (codes "D " ++ decimal us) (omega arith)
        (joined 2 20 (codes "D ") (decimal us) (short_letter 68 (omega arith)) (short_decimal us fits)),
  ),
)
inner (Switch o) fits = (
  codes "S " ++ spinning_text o ++ slots_text o,
  (
    refl,
    joined 37 41 (codes "S " ++ spinning_text o) (slots_text o)
        (joined 2 35 (codes "S ") (spinning_text o) (short_letter 83 (omega arith)) (short_spinning o fits.0))
        (short_slots o fits.1 fits.2),
  ),
)

-- ---- what begins no line

head_is : (a b : ℕ) (x y : List ℕ) → a ∷ x ≡ b ∷ y → a ≡ b
head_is a b x y is = ap (λ (l : List ℕ). get_or l 0 0) is

tail_is : (a b : ℕ) (x y : List ℕ) → a ∷ x ≡ b ∷ y → x ≡ y
tail_is a b x y is = ap (drop 1) is

-- there is one first newline
one_first_newline : (a b x y : List ℕ) → HasNoNewline a → HasNoNewline x → a ++ 10 ∷ b ≡ x ++ 10 ∷ y → a ≡ x
one_first_newline [] b [] y p q is = refl
one_first_newline [] b (c ∷ cs) y p q is = absurd (q.0 (sym (head_is _ _ _ _ is)))
one_first_newline (c ∷ cs) b [] y p q is = absurd (p.0 (head_is _ _ _ _ is))
one_first_newline (c ∷ cs) b (d ∷ ds) y p q is =
    let heads = head_is _ _ _ _ is in
    let tails = one_first_newline cs b ds y p.1 q.1 (tail_is _ _ _ _ is) in
    cc

newline_is_there : (a b : List ℕ) → HasNoNewline (a ++ 10 ∷ b) → ⊥
newline_is_there [] b p = p.0 refl
newline_is_there (c ∷ cs) b p = newline_is_there cs b p.1

-- a newline would be within a text that has none
newline_within : (a b text more : List ℕ) → HasNoNewline text → length a < length text → text ++ more ≡ a ++ 10 ∷ b → ⊥
newline_within a b [] more none short is = omega (arith, short)
newline_within [] b (c ∷ cs) more none short is = none.0 (head_is _ _ _ _ is)
newline_within (d ∷ ds) b (c ∷ cs) more none short is = newline_within ds b cs more none.1 (omega (arith, short)) (tail_is _ _ _ _ is)

-- bytes that begin with an item's line
abbrev at_front : (item : Item) → List ℕ → List ℕ → Type 0
at_front item front after = item_line item ++ after ≡ front ++ 10 ∷ after

line_front : (item : Item) (front after : List ℕ) → item_line item ≡ front ++ codes "\n" → at_front item front after
line_front item front after is = ap (λ l. l ++ after) is ∙ append_assoc front (codes "\n") after

-- a line that is none of an item, whatever follows
pub other_line : (line more : List ℕ) → HasNoNewline line
    → ((item : Item) → IsItem item → item_line item ≡ line ++ codes "\n" → ⊥) → BeginsNoLine (line ++ 10 ∷ more)
other_line line more none differs item after fits is =
    let parts = inner item fits in
    let front_is : parts.0 ≡ line = one_first_newline parts.0 after line more parts.1.1.0 none (sym (line_front item parts.0 after parts.1.0) ∙ sym is) in
    differs item fits (parts.1.0 ∙ ap (λ l. l ++ codes "\n") front_is)

-- a line that is too long, whatever follows
pub too_long : (text more : List ℕ) → HasNoNewline text → 78 < length text → BeginsNoLine (text ++ more)
too_long text more none long item after fits is =
    let parts = inner item fits in
    newline_within parts.0 after text more none (omega (arith, long, parts.1.1.1)) (is ∙ line_front item parts.0 after parts.1.0)

-- a line without an end
pub unended : (text : List ℕ) → HasNoNewline text → BeginsNoLine text
unended text none item after fits is =
    let parts = inner item fits in
    newline_is_there parts.0 after (subst HasNoNewline (is ∙ line_front item parts.0 after parts.1.0) none)
