-- Numbers that rise, and lists without a number in common.
use Rattle.std.proofs.Common.{◌≡◌, ◌≢◌, ◌≤◌, ◌<◌, ◌+◌, ℕ, zero, suc, List, [], ◌∷◌, ◌++◌, Some, length, map, take, drop, get_or, sym, ◌∙◌, ap, subst, arith}
use Rattle.std.specs.Prelude.{All, slice_get}
use Rattle.std.proofs.lemmas.List.{drop_more, drop_all, take_all, append-nil, length-map}
use Rattle.std.proofs.lemmas.List.Elements.{All-nil, All-cons, All-head, All-tail, All-weaker, All-map}
use Rattle.ng_desk.specs.declared.call.Call.{Call}
use Rattle.ng_desk.specs.Calls.{Seated, StandsIn, RiseFrom, Lacks, AreApart, AllApart, Agree, calls_of, lists_of}

-- ---- lists

-- where a loop is
pub here : {X : Type 0} (xs : List X) (i : ℕ) (x : X) → i < length xs → x ≡ get_or xs i x → drop i xs ≡ x ∷ drop (i + 1) xs
here xs i x within is = drop_more xs i x within ∙ ap (λ y. y ∷ drop (i + 1) xs) (sym is)

pub within : {X : Type 0} (xs : List X) (n : ℕ) (x : X) → slice_get xs n ≡ Some x → n < length xs
within [] n x is = cc
within (y ∷ ys) zero x is = omega arith
within (y ∷ ys) (suc n) x is = let rest = within ys n x is in omega (arith, rest)

pub unmapped : {X Y : Type 0} (P : Y → Type 0) (f : X → Y) (xs : List X) → All P (map f xs) → All (λ (x : X). P (f x)) xs
unmapped {X} {Y} P f [] all = All-nil (λ (x : X). P (f x))
unmapped {X} {Y} P f (x ∷ xs) all = All-cons (λ (x : X). P (f x)) x xs (All-head P (f x) (map f xs) all) (unmapped P f xs (All-tail P (f x) (map f xs) all))

-- ---- numbers that rise

pub rise_any : {A : Type 0} (n : ℕ) (calls : List (Call A)) → RiseFrom n calls → RiseFrom 0 calls
rise_any n [] rise = tt
rise_any n (call ∷ calls) rise = (omega arith, rise.1)

-- if they rise from n on, none is below n
rise_above : {A : Type 0} (m n : ℕ) (calls : List (Call A)) → m < n → RiseFrom n calls → Lacks m calls
rise_above {A} m n [] below rise = All-nil (λ (call : Call A). m ≢ call.number)
rise_above {A} m n (call ∷ calls) below rise =
    let least : n ≤ call.number = rise.0 in
    All-cons (λ (call : Call A). m ≢ call.number) call calls (omega (arith, below, least))
    (rise_above m (call.number + 1) calls (omega (arith, below, least)) rise.1)

-- ---- no number in common

apart_more : {A : Type 0} (one : List (Call A)) (found : Call A) (other : List (Call A)) → Lacks found.number one
    → AreApart one other → AreApart one (found ∷ other)
apart_more {A} [] found other lacks apart = All-nil (λ (call : Call A). Lacks call.number (found ∷ other))
apart_more {A} (call ∷ one) found other lacks apart =
    let first = All-head (λ (call : Call A). found.number ≢ call.number) call one lacks in
    All-cons (λ (call : Call A). Lacks call.number (found ∷ other)) call one
    (All-cons (λ (found : Call A). call.number ≢ found.number) found other (λ same. first (sym same))
    (All-head (λ (call : Call A). Lacks call.number other) call one apart))
    (apart_more one found other (All-tail (λ (call : Call A). found.number ≢ call.number) call one lacks)
    (All-tail (λ (call : Call A). Lacks call.number other) call one apart))

pub none_apart : {A : Type 0} (one : List (Call A)) → AreApart one []
none_apart {A} [] = All-nil (λ (call : Call A). Lacks call.number [])
none_apart {A} (call ∷ one) = All-cons (λ (call : Call A). Lacks call.number []) call one
    (All-nil (λ (found : Call A). call.number ≢ found.number)) (none_apart one)

-- the call with the least number of both lists can be left out
abbrev pub Same : {A : Type 0} → List (Call A) → List (Call A) → List (Call A) → List (Call A) → Type 0
Same left right one other = (AreApart left right → AreApart one other) × (AreApart one other → AreApart left right)

left_out : {A : Type 0} (call found : Call A) (one other : List (Call A)) → call.number < found.number
    → RiseFrom 0 (found ∷ other) → Same one (found ∷ other) (call ∷ one) (found ∷ other)
left_out {A} call found one other below rise = (
  λ apart. All-cons (λ (call : Call A). Lacks call.number (found ∷ other)) call one
      (rise_above call.number found.number (found ∷ other) below (omega arith, rise.1)) apart,
  λ apart. All-tail (λ (call : Call A). Lacks call.number (found ∷ other)) call one apart,
)

right_out : {A : Type 0} (call found : Call A) (one other : List (Call A)) → found.number < call.number
    → RiseFrom 0 (call ∷ one) → Same (call ∷ one) other (call ∷ one) (found ∷ other)
right_out {A} call found one other below rise = (
  λ apart. apart_more (call ∷ one) found other (rise_above found.number call.number (call ∷ one) below (omega arith, rise.1)) apart,
  λ apart. All-weaker (λ (call : Call A). Lacks call.number (found ∷ other)) (λ (call : Call A). Lacks call.number other)
      (λ (call : Call A) lacks. All-tail (λ (found : Call A). call.number ≢ found.number) found other lacks) (call ∷ one) apart,
)

in_common : {A : Type 0} (call found : Call A) (one other : List (Call A)) → call.number ≡ found.number → AreApart (call ∷ one) (found ∷ other) → ⊥
in_common {A} call found one other same apart =
    All-head (λ (found : Call A). call.number ≢ found.number) found other (All-head (λ (call : Call A). Lacks call.number (found ∷ other)) call one apart) same

-- the same for lists that begin so
module _ {A : Type 0} (left right : List (Call A)) (call found : Call A) (one other : List (Call A)) (l : left ≡ call ∷ one) (r : right ≡ found ∷ other) where
  pub left_after : call.number < found.number → RiseFrom 0 right → Same one right left right
  left_after below rise =
      subst (λ (x : List (Call A)). Same one right x right) (sym l)
      (subst (λ (y : List (Call A)). Same one y (call ∷ one) y) (sym r)
      (left_out call found one other below (subst (λ (y : List (Call A)). RiseFrom 0 y) r rise)))

  pub right_after : found.number < call.number → RiseFrom 0 left → Same left other left right
  right_after below rise =
      subst (λ (y : List (Call A)). Same left other left y) (sym r)
      (subst (λ (x : List (Call A)). Same x other x (found ∷ other)) (sym l)
      (right_out call found one other below (subst (λ (x : List (Call A)). RiseFrom 0 x) l rise)))

  pub shared : call.number ≡ found.number → AreApart left right → ⊥
  shared same apart = in_common call found one other same
      (subst (λ (x : List (Call A)). AreApart x (found ∷ other)) l
      (subst (λ (y : List (Call A)). AreApart left y) r apart))

-- after the first
pub rise_after : {A : Type 0} (calls : List (Call A)) (call : Call A) (others : List (Call A)) → calls ≡ call ∷ others → RiseFrom 0 calls → RiseFrom 0 others
rise_after {A} calls call others is rise = rise_any (call.number + 1) others (subst (λ (l : List (Call A)). RiseFrom 0 l) is rise).1

-- ---- seats

abbrev IsApartFrom : {A : Type 0} → List (Call A) → List (Seated A) → Type 0
IsApartFrom {A} calls seats = All (λ (s : Seated A). AreApart calls s.calls) seats

module _ {A : Type 0} (seats : List (Seated A)) (first : Seated A) (others : List (Seated A)) (is : seats ≡ first ∷ others) where
  pub first_rises : All (λ (s : Seated A). RiseFrom 0 s.calls) seats → RiseFrom 0 first.calls × All (λ (s : Seated A). RiseFrom 0 s.calls) others
  first_rises rise =
      let all : All (λ (s : Seated A). RiseFrom 0 s.calls) (first ∷ others) =
      subst (λ (l : List (Seated A)). All (λ (s : Seated A). RiseFrom 0 s.calls) l) is rise in
      (All-head (λ (s : Seated A). RiseFrom 0 s.calls) first others all, All-tail (λ (s : Seated A). RiseFrom 0 s.calls) first others all)

  -- if the first has no number in common with the others, it can be left out
  pub apart_more_seats : IsApartFrom first.calls others → AllApart (lists_of others) → AllApart (lists_of seats)
  apart_more_seats apart all = subst (λ (l : List (Seated A)). AllApart (lists_of l)) (sym is) (All-map (AreApart first.calls) calls_of others apart, all)

  pub apart_first : AllApart (lists_of seats) → IsApartFrom first.calls others
  apart_first all = unmapped (AreApart first.calls) calls_of others (subst (λ (l : List (Seated A)). AllApart (lists_of l)) is all).0

  pub apart_others : AllApart (lists_of seats) → AllApart (lists_of others)
  apart_others all = (subst (λ (l : List (Seated A)). AllApart (lists_of l)) is all).1

-- everything, seat by seat
module _ {A : Type 0} (history : List (Call A)) (seats : List (Seated A)) where
  abbrev AllIn : Type 0
  AllIn = All (λ (s : Seated A). All (StandsIn history) s.calls × RiseFrom 0 s.calls) seats

  pub all_rise : AllIn → All (λ (s : Seated A). RiseFrom 0 s.calls) seats
  all_rise all = All-weaker (λ (s : Seated A). All (StandsIn history) s.calls × RiseFrom 0 s.calls)
      (λ (s : Seated A). RiseFrom 0 s.calls) (λ s p. p.1) seats all

  pub agreed : AllIn → AllApart (lists_of seats) → Agree history (lists_of seats)
  agreed all apart = record {
    stand = All-map (All (StandsIn history)) calls_of seats
        (All-weaker (λ (s : Seated A). All (StandsIn history) s.calls × RiseFrom 0 s.calls)
        (λ (s : Seated A). All (StandsIn history) s.calls) (λ s p. p.0) seats all);
    rise = All-map (RiseFrom 0) calls_of seats (all_rise all);
    apart = apart;
  }

  pub all_stand : Agree history (lists_of seats) → AllIn
  all_stand agree =
      let stand = unmapped (All (StandsIn history)) calls_of seats agree.stand in
      let rise = unmapped (RiseFrom 0) calls_of seats agree.rise in
      λ k d within. (stand k d within, rise k d within)

-- what a vector of seats holds after a slice of all of them was changed
pub same_lists : {A : Type 0} (n : ℕ) (old new : List (Seated A)) → length old ≡ n → lists_of new ≡ lists_of old
    → lists_of (take n (new ++ drop (length new) old)) ≡ lists_of old
same_lists {A} n old new size same =
    let long : length new ≡ length old = sym (length-map new calls_of) ∙ ap (λ (l : List (List (Call A))). length l) same ∙ length-map old calls_of in
    let none : drop (length new) old ≡ [] = drop_all (length new) old (omega arith) in
    let whole : take n (new ++ drop (length new) old) ≡ new =
    ap (λ (l : List (Seated A)). take n (new ++ l)) none ∙ ap (λ (l : List (Seated A)). take n l) (append-nil new)
    ∙ take_all n new (omega (arith, long, size)) in
    ap (λ (l : List (Seated A)). lists_of l) whole ∙ same
