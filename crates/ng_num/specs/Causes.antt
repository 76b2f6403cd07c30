-- The first fault in a list whose cause holds.
use Rattle.std.specs.Prelude.{◌≡◌, Bool, true, false, if◌then◌else◌, Option, Some, None, List, [], ◌∷◌, ◌++◌, Result, Ok, Err}
use Rattle.ng_num.specs.declared.fault.Fault.{Fault}

-- in a list of pairs of a cause and its fault: the first fault whose cause holds
abbrev pub first_fault : List (Bool × Fault) → Option Fault
first_fault [] = None
first_fault (f ∷ fs) = if f.0 then Some f.1 else first_fault fs

-- the value, unless there is a fault
abbrev pub unless : {X : Type 0} → Option Fault → X → Result X Fault
unless (Some fault) x = Err fault
unless None x = Ok x

-- no cause holds
abbrev pub NoneHolds : List (Bool × Fault) → Type 0
NoneHolds [] = Unit {0}
NoneHolds (f ∷ fs) = (f.0 ≡ false) × NoneHolds fs

-- the cause of a fault holds, and no cause before it does
abbrev pub IsFirstFault : List (Bool × Fault) → Fault → Type 0
IsFirstFault fs fault = (before : List (Bool × Fault)) × (after : List (Bool × Fault)) × (fs ≡ before ++ ((true, fault) ∷ after)) × NoneHolds before
