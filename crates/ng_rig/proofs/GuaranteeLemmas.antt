-- Guarantees of calls, one after the other.
use Rattle.ng_rig.specs.Calls.{IfHonest}
use Rattle.ng_rig.specs.Rig.{Device}

pub promised : {a : Device} {F : Type 0} → F → IfHonest a a F
promised fact = record { keeps = λ h. h; back = λ h. h; holds = λ _. fact }

pub onto : {a b c : Device} {F G : Type 0} → (H : Type 0) → IfHonest a b F → IfHonest b c G → (F → G → H) → IfHonest a c H
onto H p q f = record { keeps = λ h. q.keeps (p.keeps h); back = λ h. p.back (q.back h); holds = λ h. f (p.holds h) (q.holds (p.keeps h)) }

pub meaning : {a b : Device} {F G : Type 0} → IfHonest a b F → (F → G) → IfHonest a b G
meaning p f = record { keeps = p.keeps; back = p.back; holds = λ h. f (p.holds h) }
