-- The first fault of a list of causes, part by part.
use Rattle.std.proofs.Common.{◌≡◌, Bool, true, false, ℤ, ◌||◌, Some, None, Ok, Err, List, [], ◌∷◌, ◌++◌, refl, ◌∙◌, if◌then◌else◌}
use Rattle.std.specs.List.{list_any}
use Rattle.ng_num.specs.declared.fault.Fault.{Fault}
use Rattle.ng_num.specs.declared.fault.Fault.TheVariants.{OutOfRange, CycleNoAxis, NoZ, NoR, RBelowZ, InverseTime, NoFeed, OutsideTravel}
use Rattle.ng_num.specs.Causes.{first_fault, unless}
use Rattle.ng_num.proofs.FirstFaultLemmas.{first_some, first_none}
use Rattle.ng_cycles.specs.Heights.{is_far, far_unless}
use Rattle.ng_cycles.proofs.LastHoleLemmas.{any_append}

by_far : {X : Type 0} (far : Bool) (x : X) (fault : Fault) → Err fault ≡ (if far then Err OutOfRange else Ok x) → (far ≡ true) × (fault ≡ OutOfRange)
by_far true x fault h = (refl, cc h)
by_far false x fault h = absurd (cc h)

pub far_err : {X : Type 0} (ls : List ℤ) (x : X) (fault : Fault) → Err fault ≡ far_unless ls x → (list_any is_far ls ≡ true) × (fault ≡ OutOfRange)
far_err ls x fault h = by_far (list_any is_far ls) x fault h

by_near : {X : Type 0} (far : Bool) (x y : X) → Ok y ≡ (if far then Err OutOfRange else Ok x) → (far ≡ false) × (y ≡ x)
by_near true x y h = absurd (cc h)
by_near false x y h = (refl, cc h)

pub far_ok : {X : Type 0} (ls : List ℤ) (x y : X) → Ok y ≡ far_unless ls x → (list_any is_far ls ≡ false) × (y ≡ x)
far_ok ls x y h = by_near (list_any is_far ls) x y h

or_true : (a b : Bool) → a ≡ true → (a || b) ≡ true
or_true true b e = refl
or_true false b e = absurd (cc e)

pub far_first : (xs ys : List ℤ) → list_any is_far xs ≡ true → list_any is_far (xs ++ ys) ≡ true
far_first xs ys e = any_append xs ys ∙ or_true (list_any is_far xs) (list_any is_far ys) e

pub far_rest : (xs ys : List ℤ) → list_any is_far xs ≡ false → list_any is_far (xs ++ ys) ≡ list_any is_far ys
far_rest xs ys e = any_append xs ys ∙ rw e refl

-- ---- lengths that are checked in order

pub first_far : {X Y : Type 0} (xs ys : List ℤ) (x : X) (y : Y) (fault : Fault) → Err fault ≡ far_unless xs x → Err fault ≡ far_unless (xs ++ ys) y
first_far xs ys x y fault h = let e = far_err xs x fault h in rw (e.1, far_first xs ys e.0) refl

pub same_far : {X Y : Type 0} (xs : List ℤ) (x : X) (y : Y) (fault : Fault) → Err fault ≡ far_unless xs x → Err fault ≡ far_unless xs y
same_far xs x y fault h = let e = far_err xs x fault h in rw (e.1, e.0) refl

pub rest_far : {X Y : Type 0} (xs ys : List ℤ) (x found : X) (y : Y) → Ok found ≡ far_unless xs x → far_unless ys y ≡ far_unless (xs ++ ys) y
rest_far xs ys x found y h = let e = far_ok xs x found h in rw (far_rest xs ys e.0) refl

pub none_far : {X Y : Type 0} (xs : List ℤ) (x found : X) (y : Y) → Ok found ≡ far_unless xs x → Ok y ≡ far_unless xs y
none_far xs x found y h = let e = far_ok xs x found h in rw e.0 refl

-- ---- causes that are checked in order

pub hole_err : {X : Type 0} (below inverse : Bool) (work rest : List (Bool × Fault)) (fault : Fault) (x : X)
    → below ≡ false → inverse ≡ false → first_fault work ≡ Some fault →
    Err fault ≡ unless (first_fault ((below, RBelowZ) ∷ ((inverse, InverseTime) ∷ (work ++ rest)))) x
hole_err below inverse work rest fault x b i f = rw (b, i, first_some work rest fault f) refl

pub hole_unfed : {X : Type 0} (below inverse unfed : Bool) (work : List (Bool × Fault)) (x : X) → below ≡ false
    → inverse ≡ false → first_fault work ≡ None → unfed ≡ true →
    Err NoFeed ≡ unless (first_fault ((below, RBelowZ) ∷ ((inverse, InverseTime) ∷ (work ++ (unfed, NoFeed) ∷ [])))) x
hole_unfed below inverse unfed work x b i f e = rw (b, i, first_none work ((unfed, NoFeed) ∷ []) f, e) refl

pub hole_ok : {X : Type 0} (below inverse unfed : Bool) (work : List (Bool × Fault)) (x y : X) → below ≡ false
    → inverse ≡ false → first_fault work ≡ None → unfed ≡ false → y ≡ x →
    Ok y ≡ unless (first_fault ((below, RBelowZ) ∷ ((inverse, InverseTime) ∷ (work ++ (unfed, NoFeed) ∷ [])))) x
hole_ok below inverse unfed work x y b i f e is = rw (b, i, first_none work ((unfed, NoFeed) ∷ []) f, e, is) refl

pub of_far : {X : Type 0} (far : Bool) (rest : List (Bool × Fault)) (fault : Fault) (x : X) → far ≡ true
    → fault ≡ OutOfRange → Err fault ≡ unless (first_fault ((far, OutOfRange) ∷ rest)) x
of_far far rest fault x f e = rw (f, e) refl

pub of_axis : {X : Type 0} (far axis : Bool) (rest : List (Bool × Fault)) (x : X) → far ≡ false → axis ≡ true
    → Err CycleNoAxis ≡ unless (first_fault ((far, OutOfRange) ∷ ((axis, CycleNoAxis) ∷ rest))) x
of_axis far axis rest x f a = rw (f, a) refl

pub of_z : {X : Type 0} (far axis z : Bool) (rest : List (Bool × Fault)) (x : X) → far ≡ false → axis ≡ false
    → z ≡ true → Err NoZ ≡ unless (first_fault ((far, OutOfRange) ∷ ((axis, CycleNoAxis) ∷ ((z, NoZ) ∷ rest)))) x
of_z far axis z rest x f a h = rw (f, a, h) refl

pub of_r : {X : Type 0} (far axis z r : Bool) (rest : List (Bool × Fault)) (x : X) → far ≡ false → axis ≡ false
    → z ≡ false → r ≡ true
    → Err NoR ≡ unless (first_fault ((far, OutOfRange) ∷ ((axis, CycleNoAxis) ∷ ((z, NoZ) ∷ ((r, NoR) ∷ rest))))) x
of_r far axis z r rest x f a h k = rw (f, a, h, k) refl

pub of_rest : {X : Type 0} (far axis z r : Bool) (rest : List (Bool × Fault)) (x : X) → far ≡ false → axis ≡ false → z ≡ false → r ≡ false →
    unless (first_fault rest) x ≡ unless (first_fault ((far, OutOfRange) ∷ ((axis, CycleNoAxis) ∷ ((z, NoZ) ∷ ((r, NoR) ∷ rest))))) x
of_rest far axis z r rest x f a h k = rw (f, a, h, k) refl

pub of_hole : {X : Type 0} (hole rest : List (Bool × Fault)) (fault : Fault) (x : X) → first_fault hole ≡ Some fault
    → Err fault ≡ unless (first_fault (hole ++ rest)) x
of_hole hole rest fault x e = rw (first_some hole rest fault e) refl

pub of_travel : {X : Type 0} (hole : List (Bool × Fault)) (leaves : Bool) (x : X) → first_fault hole ≡ None
    → leaves ≡ true → Err OutsideTravel ≡ unless (first_fault (hole ++ ((leaves, OutsideTravel) ∷ []))) x
of_travel hole leaves x e l = rw (first_none hole ((leaves, OutsideTravel) ∷ []) e, l) refl

pub of_none : {X : Type 0} (hole : List (Bool × Fault)) (leaves : Bool) (x : X) → first_fault hole ≡ None
    → leaves ≡ false → Ok x ≡ unless (first_fault (hole ++ ((leaves, OutsideTravel) ∷ []))) x
of_none hole leaves x e l = rw (first_none hole ((leaves, OutsideTravel) ∷ []) e, l) refl
