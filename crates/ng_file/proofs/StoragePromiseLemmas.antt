-- What promises say of several calls, one after another.
use Rattle.std.proofs.Common.{◌≡◌, ◌∙◌, inl, inr, ℕ, List}
use Rattle.ng_file.specs.Promise.{Promise, IfPromised, HoldsNothingNew, MayHoldBesides}

-- a call after which nothing new may stand, and one that puts bytes
pub then_besides : {old between new : Promise} (place from : ℕ) (bytes : List ℕ) → from ≡ place → IfPromised old between (HoldsNothingNew old between)
    → IfPromised between new (MayHoldBesides from bytes between new) → IfPromised old new (MayHoldBesides place bytes old new)
then_besides {old} {between} {new} place from bytes here first second =
    record {
      keeps = λ honest. second.keeps (first.keeps honest);
      back = λ honest. first.back (second.back honest);
      holds = λ honest m at n c may. elim (second.holds (first.keeps honest) m (here ∙ at) n c may) [
        | inl put ↦ inl put
        | inr was ↦ inr (first.holds honest n c was)
      ];
    }

-- a call after which nothing new may stand says as much
pub nothing_besides : {old new : Promise} (place : ℕ) (bytes : List ℕ)
    → IfPromised old new (HoldsNothingNew old new) → IfPromised old new (MayHoldBesides place bytes old new)
nothing_besides place bytes same =
    record { keeps = same.keeps; back = same.back; holds = λ honest m at n c may. inr (same.holds honest n c may) }

-- no call
pub same-promise : (promise : Promise) → IfPromised promise promise (Unit {0})
same-promise promise = record { keeps = λ honest. honest; back = λ honest. honest; holds = λ honest. tt }
