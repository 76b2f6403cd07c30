-- What a text asks, order by order.
use Rattle.std.proofs.Common.{◌≡◌, ℕ, List, [], ◌∷◌, ◌++◌, Option, None, Some, Result, Ok, false, refl, sym, ap, ◌∙◌, subst, append-nil}
use Rattle.std.specs.List.{flat_map}
use Rattle.std.proofs.lemmas.List.Concat.{flat_map-append}
use Rattle.ng_dialogue.specs.Hearing.{BeginsWithOrder, TakesOrder}
use Rattle.ng_dialogue.specs.Waiting.{Waiting, text_left}
use Rattle.ng_run.specs.Talks.{AsksAll, Exchange, Hears}

pub one_more : {X Y : Type 0} (f : X → List Y) (xs : List X) (x : X) → flat_map f xs ++ f x ≡ flat_map f (xs ++ x ∷ [])
one_more f xs x = sym (flat_map-append f xs (x ∷ []) ∙ ap (λ l. flat_map f xs ++ l) (append-nil (f x)))

asks_more : {A : Type 0} (text rest next : List ℕ) (talk : List (Exchange A)) (x : Exchange A)
    → AsksAll text talk rest → BeginsWithOrder rest x.order next → AsksAll text (talk ++ x ∷ []) next
asks_more text rest next [] x p q = (next, subst (λ (t : List ℕ). BeginsWithOrder t x.order next) p q, refl)
asks_more text rest next (y ∷ talk) x p q = (p.0, p.1, asks_more p.0 rest next talk x p.2 q)

-- if nothing was read, the whole text is left
pub text_unread : (w : Waiting) (left : Option (List ℕ)) → w ≡ record { bytes = []; ended = false } → text_left w left ≡ left
text_unread w left e = ap (λ (i : Waiting). text_left i left) e ∙ text_unread_at left
  where
    text_unread_at : (left : Option (List ℕ)) → text_left (record { bytes = []; ended = false }) left ≡ left
    text_unread_at None = refl
    text_unread_at (Some xs) = refl

-- if the end is returned, nothing is asked
pub asks_none : {X E : Type 0} (r : Result (Option X) E) (o : Option X) (x : X) → r ≡ Ok None → r ≡ Ok o → o ≡ Some x → ⊥
asks_none r o x p q e = absurd cc

pub hears_none : (A : Type 0) (text : Option (List ℕ)) → Hears {A = A} text [] text
hears_none A None = tt
hears_none A (Some text) = refl

pub hears_more : {A : Type 0} (text rest next : Option (List ℕ)) (talk : List (Exchange A)) (x : Exchange A)
    → Hears text talk rest → TakesOrder rest next (Some x.order) → Hears text (talk ++ x ∷ []) next
hears_more None rest next talk x p q = tt
hears_more (Some text) None next talk x p q = absurd p
hears_more (Some text) (Some rest) None talk x p q = absurd q
hears_more (Some text) (Some rest) (Some next) talk x p q = asks_more text rest next talk x p q
