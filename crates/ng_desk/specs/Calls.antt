-- Lists of calls, and how those of the seats relate to the history (own).
use Rattle.std.specs.Prelude.{◌≡◌, ◌≢◌, ◌≤◌, ◌+◌, ℕ, List, [], ◌∷◌, map, All, Some, slice_get}
use Rattle.ng_session.specs.declared.event.Event.{Event}
use Rattle.ng_session.specs.declared.reply.Reply.{Reply}
use Rattle.ng_desk.specs.declared.call.Call.{Call}

-- what was given, and the replies
abbrev pub events_of : {A : Type 0} → List (Call A) → List (Event A)
events_of calls = map (λ call. call.event) calls

abbrev pub replies_of : {A : Type 0} → List (Call A) → List Reply
replies_of calls = map (λ call. call.reply) calls

-- the numbers count up from this one
abbrev pub NumberedFrom : {A : Type 0} → ℕ → List (Call A) → Type 0
NumberedFrom number [] = Unit {0}
NumberedFrom number (call ∷ calls) = (call.number ≡ number) × NumberedFrom (number + 1) calls

-- ---- seats

-- a caller's calls, and how many parts of the count of all calls it has
pub record Seated (A : Type 0) : Type 0 where
  pub calls : List (Call A)
  pub parts : ℕ

abbrev pub calls_of : {A : Type 0} → Seated A → List (Call A)
calls_of seat = seat.calls

abbrev pub lists_of : {A : Type 0} → List (Seated A) → List (List (Call A))
lists_of seats = map calls_of seats

-- ---- the history and the seats

-- a call is in the history at its number
abbrev pub StandsIn : {A : Type 0} → List (Call A) → Call A → Type 0
StandsIn history call = slice_get history call.number ≡ Some call

-- the numbers rise, and none is below this one
abbrev pub RiseFrom : {A : Type 0} → ℕ → List (Call A) → Type 0
RiseFrom least [] = Unit {0}
RiseFrom least (call ∷ calls) = (least ≤ call.number) × RiseFrom (call.number + 1) calls

-- no call of a list has this number
abbrev pub Lacks : {A : Type 0} → ℕ → List (Call A) → Type 0
Lacks {A} number calls = All (λ (call : Call A). number ≢ call.number) calls

-- no number is in both lists
abbrev pub AreApart : {A : Type 0} → List (Call A) → List (Call A) → Type 0
AreApart {A} one other = All (λ (call : Call A). Lacks call.number other) one

-- no number is in two of the lists
abbrev pub AllApart : {A : Type 0} → List (List (Call A)) → Type 0
AllApart [] = Unit {0}
AllApart (calls ∷ lists) = All (AreApart calls) lists × AllApart lists

-- Each call of a list is in the history at its number, the numbers of a list rise, and no number is in two lists.
pub record Agree {A : Type 0} (history : List (Call A)) (lists : List (List (Call A))) : Type 0 where
  pub stand : All (All (StandsIn history)) lists
  pub rise : All (RiseFrom 0) lists
  pub apart : AllApart lists
