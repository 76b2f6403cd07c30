-- Writing bytes again as they are.
use Rattle.std.proofs.Common.{◌≡◌, ◌∙◌, ℕ, ◌+◌, ◌-◌, ◌≤◌, inl, inr, List, ◌++◌, Option, None, Some, IfSome, Result}
use Rattle.std.proofs.Common.{Ok, Err, OnOk, OnErr, ap, sym, subst, append_assoc, length, length-append}
use Rattle.std.proofs.Common.{length-drop, take, drop, arith}
use Rattle.std.specs.Prelude.{slice_range}
use Rattle.std.proofs.lemmas.List.{take-append-drop}
use Rattle.std.proofs.lemmas.List.Folds.{drop_split}
use Rattle.ng_file.specs.Bytes.{Put, PutInPart, with_bytes}

-- the bytes of a place, put there
again : (place : ℕ) (bytes held : List ℕ) → length bytes ≡ 512 → bytes ≡ slice_range held place (place + 512) → with_bytes place bytes held ≡ held
again place bytes held whole is =
    ap (λ n. take place held ++ bytes ++ drop (place + n) held) whole
    ∙ ap (λ b. take place held ++ b ++ drop (place + 512) held) is
    ∙ append_assoc (take place held) (slice_range held place (place + 512)) (drop (place + 512) held)
    ∙ ap (λ rest. take place held ++ rest) (sym (drop_split held place (place + 512) (omega arith)))
    ∙ take-append-drop place held

-- so they fit
fits : (place : ℕ) (bytes held : List ℕ) → length bytes ≡ 512 → bytes ≡ slice_range held place (place + 512) → place + 512 ≤ length held
fits place bytes held whole is =
    let split : length held - place ≡ 512 + length (drop (place + 512) held) =
    sym (length-drop place held)
    ∙ ap length (drop_split held place (place + 512) (omega arith))
    ∙ length-append (slice_range held place (place + 512)) (drop (place + 512) held)
    ∙ ap (λ n. n + length (drop (place + 512) held)) (sym (ap length is) ∙ whole) in
    omega (arith, split)

put-again : {T E : Type 0} (r : Result T E) (place : ℕ) (bytes held : List ℕ) (new : Option (List ℕ)) → length bytes ≡ 512
    → bytes ≡ slice_range held place (place + 512) → OnOk r (Put place bytes (Some held) new) → OnErr r (PutInPart place bytes (Some held) new)
    → new ≡ Some held
put-again (Ok _) place bytes held new whole is put part = put (fits place bytes held whole is) ∙ ap Some (again place bytes held whole is)
put-again (Err _) place bytes held new whole is put part =
    elim (part (fits place bytes held whole is)) [ inl same ↦ same | inr done ↦ done ∙ ap Some (again place bytes held whole is) ]

-- a write of what was read changes nothing, also where it fails
pub stays-again : {T E : Type 0} (r : Result T E) (place : ℕ) (bytes : List ℕ) (old between new : Option (List ℕ)) → length bytes ≡ 512
    → IfSome old (λ held. bytes ≡ slice_range held place (place + 512)) → between ≡ old → OnOk r (Put place bytes between new)
    → OnErr r (PutInPart place bytes between new) → IfSome old (λ held. new ≡ Some held)
stays-again r place bytes None between new whole is same put part = tt
stays-again r place bytes (Some held) between new whole is same put part =
    put-again r place bytes held new whole is (subst (λ (b : Option (List ℕ)). OnOk r (Put place bytes b new)) same put)
    (subst (λ (b : Option (List ℕ)). OnErr r (PutInPart place bytes b new)) same part)

-- bytes that a call leaves
pub same-first : (first now : Option (List ℕ)) → now ≡ first → IfSome first (λ held. now ≡ Some held)
same-first None now is = tt
same-first (Some held) now is = is

-- and then another
pub same-then : (first mid now : Option (List ℕ)) → IfSome first (λ held. mid ≡ Some held) → IfSome mid (λ held. now ≡ Some held)
    → IfSome first (λ held. now ≡ Some held)
same-then None mid now one other = tt
same-then (Some held) mid now one other = subst (λ (o : Option (List ℕ)). IfSome o (λ held. now ≡ Some held)) one other
