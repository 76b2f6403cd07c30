-- Taking the bytes of a reader piece by piece.
use Rattle.std.proofs.Common.{◌≡◌, ◌≢◌, ℕ, Bool, true, false, List, [], ◌∷◌, ◌++◌, Option, None, Some, option_map}
use Rattle.std.proofs.Common.{if◌then◌else◌, take, drop, refl, sym, ap, ◌∙◌, subst, append_assoc, append-nil, inl}
use Rattle.std.proofs.Common.{inr}
use Rattle.std.specs.Io.KnownBytes.{Consumes, IsAtEnd, Keeps, prepend_known}
use Rattle.ng_text.specs.Split.{HasNoNewline}
use Rattle.ng_streams.proofs.KnownBytesLemmas.{Consumes-trans}
use Rattle.ng_text.proofs.NewlineLemmas.{HasNoNewline-append}
use Rattle.ng_dialogue.specs.Reading.{TakesLine}
use Rattle.ng_dialogue.specs.Waiting.{EndHolds, Waiting, text_left}

pub waiting_is : (b c : List ℕ) (e f : Bool) → b ≡ c → e ≡ f → (let w : Waiting = record { bytes = b; ended = e } in w) ≡ record { bytes = c; ended = f }
waiting_is b c e f p q = cc

-- if the text continues, what waits comes before what the reader has left
text_on : (w : Waiting) (r : Option (List ℕ)) → w.ended ≡ false → text_left w r ≡ prepend_known w.bytes r
text_on w r e = ap (λ (t : Bool). option_map (λ xs. if t then [] else w.bytes ++ xs) r) e

option_none : (r : Option (List ℕ)) → IsAtEnd (option_map (λ xs. []) r)
option_none None = tt
option_none (Some x) = refl

-- a text that has ended
pub text_over : (w : Waiting) (r : Option (List ℕ)) → w.ended ≡ true → IsAtEnd (text_left w r)
text_over w r e = subst (λ (t : Bool). IsAtEnd (option_map (λ xs. if t then [] else w.bytes ++ xs) r)) (sym e) (option_none r)

-- the fact about the end holds of a text that continues
pub holds_on : (w : Waiting) (r : Option (List ℕ)) → w.ended ≡ false → EndHolds w r
holds_on w r e = λ f. absurd cc

-- ---- what waits after a part was taken

pub left_bytes : (w left : Waiting) (n : ℕ) → left ≡ record w { bytes = drop n w.bytes } → left.bytes ≡ drop n w.bytes
left_bytes w left n e = ap (λ (i : Waiting). i.bytes) e

pub left_on : (w left : Waiting) (n : ℕ) → left ≡ record w { bytes = drop n w.bytes } → w.ended ≡ false → left.ended ≡ false
left_on w left n e f = ap (λ (i : Waiting). i.ended) e ∙ f

pub ended_still : (w now : Waiting) → now ≡ w → w.ended ≡ true → now.ended ≡ true
ended_still w now e f = ap (λ (i : Waiting). i.ended) e ∙ f

-- a text that has ended doesn't continue
pub ended_for_good : {X : Type 0} (w now : Waiting) → now ≡ w → w.ended ≡ true → now.ended ≡ false → X
ended_for_good w now e f g = let still : now.ended ≡ true = ended_still w now e f in absurd cc

-- ---- the text, piece by piece

Keeps-consumes : (a b c : Option (List ℕ)) (w : List ℕ) → Keeps a b → Consumes b c w → Consumes a c w
Keeps-consumes None b c w k q = tt
Keeps-consumes (Some x) None c w k q = absurd k
Keeps-consumes (Some x) (Some y) None w k q = absurd q
Keeps-consumes (Some x) (Some y) (Some z) w k q = sym k ∙ q

Consumes-front : (here front left : List ℕ) (r : Option (List ℕ)) → here ≡ front ++ left → Consumes (prepend_known here r) (prepend_known left r) front
Consumes-front here front left None e = tt
Consumes-front here front left (Some x) e = ap (λ l. l ++ x) e ∙ append_assoc front left x

-- the next bytes that wait are taken
pub step_on : (old now r : Option (List ℕ)) (passed front : List ℕ) (w left : Waiting) → Consumes old now passed
    → Keeps now (text_left w r) → w.ended ≡ false → left.ended ≡ false
    → w.bytes ≡ front ++ left.bytes → Consumes old (text_left left r) (passed ++ front)
step_on old now r passed front w left p k e f parts =
    let head = subst (λ (t : Option (List ℕ)). Keeps now t) (text_on w r e) k in
    let next = prepend_known left.bytes r in
    subst (λ (t : Option (List ℕ)). Consumes old t (passed ++ front)) (sym (text_on left r f))
    (Consumes-trans old now next passed front p
    (Keeps-consumes now (prepend_known w.bytes r) next front head
    (Consumes-front w.bytes front left.bytes r parts)))

-- what was passed and a newline after it are taken
line_taken : (old new : Option (List ℕ)) (most : ℕ) (passed front head : List ℕ)
    → Consumes old new (passed ++ front ++ 10 ∷ []) → HasNoNewline passed → HasNoNewline front
    → head ≡ take most (passed ++ front) → TakesLine most old new head
line_taken None new most passed front head p bare none is = tt
line_taken (Some t) None most passed front head p bare none is = absurd p
line_taken (Some t) (Some x) most passed front head p bare none is =
    (passed ++ front, (HasNoNewline-append passed front bare none, inl (p ∙ append_assoc (passed ++ front) (10 ∷ []) x)), is)

-- a newline is found after what was passed
pub line_ends : (old now r : Option (List ℕ)) (most : ℕ) (passed front rest head : List ℕ) (w left : Waiting)
    → Consumes old now passed → Keeps now (text_left w r) → w.ended ≡ false
    → left.ended ≡ false → HasNoNewline passed → HasNoNewline front → w.bytes ≡ front ++ 10 ∷ rest → left.bytes ≡ rest → head ≡ take most (passed ++ front)
    → TakesLine most old (text_left left r) head
line_ends old now r most passed front rest head w left p k e f bare none parts is_rest is =
    let whole : w.bytes ≡ (front ++ 10 ∷ []) ++ left.bytes = parts ∙ ap (λ l. front ++ 10 ∷ l) (sym is_rest) ∙ sym (append_assoc front (10 ∷ []) left.bytes) in
    let taken = step_on old now r passed (front ++ 10 ∷ []) w left p k e f whole in
    line_taken old (text_left left r) most passed front head
    (subst (λ (l : List ℕ). Consumes old (text_left left r) l) (sym (append_assoc passed front (10 ∷ []))) taken) bare none is

-- the text ends after what was passed: that is the last line
pub last_line : (old now new : Option (List ℕ)) (most : ℕ) (passed head : List ℕ) → Consumes old now passed
    → Keeps now new → IsAtEnd new → HasNoNewline passed → passed ≢ []
    → head ≡ take most passed → TakesLine most old new head
last_line None now new most passed head p k e bare some is = tt
last_line (Some t) None new most passed head p k e bare some is = absurd p
last_line (Some t) (Some n) None most passed head p k e bare some is = absurd k
last_line (Some t) (Some n) (Some x) most passed head p k e bare some is =
    (passed, (bare, inr (p ∙ ap (λ l. passed ++ l) (sym k ∙ e) ∙ append-nil passed, some, e)), is)

-- nothing was taken in between
pub taken_still : (old now new : Option (List ℕ)) (passed : List ℕ) → Consumes old now passed → Keeps now new → Consumes old new passed
taken_still None now new passed p k = tt
taken_still (Some t) None new passed p k = absurd p
taken_still (Some t) (Some n) None passed p k = absurd k
taken_still (Some t) (Some n) (Some x) passed p k = p ∙ ap (λ l. passed ++ l) (sym k)
