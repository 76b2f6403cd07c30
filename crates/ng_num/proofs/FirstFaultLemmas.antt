-- The first fault whose cause holds: no cause before it holds. And the first fault of two lists, one after the other.
use Rattle.std.proofs.Common.{◌≡◌, Bool, true, false, List, [], ◌∷◌, ◌++◌, Option, Some, None, Ok, Err, refl, ap}
use Rattle.std.specs.Prelude.{MatchResult}
use Rattle.ng_num.specs.declared.fault.Fault.{Fault}
use Rattle.ng_num.specs.Causes.{first_fault, unless, NoneHolds, IsFirstFault}

pub none_holds : (fs : List (Bool × Fault)) → first_fault fs ≡ None → NoneHolds fs
none_holds [] e = tt
none_holds ((true, fault) ∷ fs) e = absurd (cc e)
none_holds ((false, fault) ∷ fs) e = (refl, none_holds fs e)

pub none_first : (fs : List (Bool × Fault)) → NoneHolds fs → first_fault fs ≡ None
none_first [] h = refl
none_first ((true, fault) ∷ fs) h = absurd (cc h.0)
none_first ((false, fault) ∷ fs) h = none_first fs h.1

-- ---- the first one

pub holds_first : (holds : Bool) (fault : Fault) (others : List (Bool × Fault)) → holds ≡ true → IsFirstFault ((holds, fault) ∷ others) fault
holds_first true fault others h = ([], others, refl, tt)
holds_first false fault others h = absurd (cc h)

pub holds_later : (holds : Bool) (other fault : Fault) (others : List (Bool × Fault)) → holds ≡ false
    → IsFirstFault others fault → IsFirstFault ((holds, other) ∷ others) fault
holds_later true other fault others h first = absurd (cc h)
holds_later false other fault others h first = (
  (false, other) ∷ first.0,
  first.1,
  ap (λ (fs : List (Bool × Fault)). (false, other) ∷ fs) first.2,
  (refl, first.3),
)

pub is_first : (fs : List (Bool × Fault)) (fault : Fault) → first_fault fs ≡ Some fault → IsFirstFault fs fault
is_first [] fault e = absurd (cc e)
is_first ((true, f) ∷ fs) fault e =
    let same : f ≡ fault = cc e in
    ([], fs, ap (λ (g : Fault). (true, g) ∷ fs) same, tt)
is_first ((false, f) ∷ fs) fault e = holds_later false f fault fs refl (is_first fs fault e)

-- the value, if there is no fault
pub first_of : {X : Type 0} (fs : List (Bool × Fault)) (x : X) (found : Option Fault) → first_fault fs ≡ found →
    MatchResult (unless found x) (λ _. NoneHolds fs) (λ fault. IsFirstFault fs fault)
first_of fs x None e = none_holds fs e
first_of fs x (Some fault) e = is_first fs fault e

-- ---- a value, unless there is a fault

pub unless_err : {X : Type 0} (found : Option Fault) (x : X) (fault : Fault) → unless found x ≡ Err fault → found ≡ Some fault
unless_err (Some f) x fault e = cc e
unless_err None x fault e = absurd (cc e)

pub unless_ok : {X : Type 0} (found : Option Fault) (x y : X) → unless found x ≡ Ok y → (found ≡ None) × (x ≡ y)
unless_ok (Some fault) x y e = absurd (cc e)
unless_ok None x y e = (refl, cc e)

-- ---- two lists, one after the other

pub first_some : (front rest : List (Bool × Fault)) (fault : Fault) → first_fault front ≡ Some fault → first_fault (front ++ rest) ≡ Some fault
first_some [] rest fault e = absurd (cc e)
first_some ((true, f) ∷ front) rest fault e = e
first_some ((false, f) ∷ front) rest fault e = first_some front rest fault e

pub first_none : (front rest : List (Bool × Fault)) → first_fault front ≡ None → first_fault (front ++ rest) ≡ first_fault rest
first_none [] rest e = refl
first_none ((true, f) ∷ front) rest e = absurd (cc e)
first_none ((false, f) ∷ front) rest e = first_none front rest e
