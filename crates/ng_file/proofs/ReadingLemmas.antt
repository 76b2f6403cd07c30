-- What the reads of a device gave: one reading of it after another.
use Rattle.std.proofs.Common.{◌≡◌, ◌≢◌, ◌⊎◌, ◌∙◌, inl, inr, refl, sym, ap, subst, ℕ, zero, suc, ◌+◌, ◌*◌, ◌<◌, ◌≤◌, List, [], ◌∷◌, ◌++◌, Option, None, Some, IfSome}
use Rattle.std.proofs.Common.{append_assoc, add-one, arith}
use Rattle.ng_rig.specs.Memory.{sector_count, trace_of}
use Rattle.ng_rig.specs.Trace.{Image, reads}
use Rattle.ng_rig.specs.declared.memory.MemoryRig.{MemoryRig}
use Rattle.ng_file.specs.Bytes.{sector_of}
use Rattle.ng_file.specs.Copying.{IsReadTwice, reading}

abbrev Given : Type 0
Given = List (ℕ × List ℕ)

same_reading : (n : ℕ) (one other : Image) → ((m : ℕ) → m < n → other m ≡ one m) → reading n other ≡ reading n one
same_reading zero one other same = refl
same_reading (suc n) one other same =
    let rest : reading n other ≡ reading n one = same_reading n one other (λ m lt. same m (omega arith)) in
    let last : other n ≡ one n = same n (omega arith) in
    λ i. rest i ++ (512 * n, last i) ∷ []

-- ---- one more sector is read

below : (n s : ℕ) → n < s + 1 → (n < s) ⊎ (n ≡ s)
below n s lt = grind arith

-- it is what the file has there
pub same_more : (s : ℕ) (first mid : Option (List ℕ)) (now one : Image) → mid ≡ first → ((n : ℕ) → n ≢ s → now n ≡ one n)
    → IfSome first (λ held. (n : ℕ) → n < s → one n ≡ sector_of n held)
    → IfSome mid (λ held. now s ≡ sector_of s held)
    → IfSome first (λ held. (n : ℕ) → n < s + 1 → now n ≡ sector_of n held)
same_more s None mid now one stays others was here = tt
same_more s (Some held) mid now one stays others was here =
    let there : now s ≡ sector_of s held = subst (λ (o : Option (List ℕ)). IfSome o (λ held. now s ≡ sector_of s held)) stays here in
    λ n lt. elim (below n s lt) [
      | inl less ↦ others n (λ e. omega arith) ∙ was n less
      | inr is ↦ subst (λ (k : ℕ). now k ≡ sector_of k held) (sym is) there
    ]

-- it is what was there before
pub equal_more : (s : ℕ) (now one first : Image) → ((n : ℕ) → n ≢ s → now n ≡ one n) → ((n : ℕ) → n < s → one n ≡ first n)
    → ((n : ℕ) → s ≤ n → one n ≡ first n) → now s ≡ one s → (n : ℕ) → n < s + 1 → now n ≡ first n
equal_more s now one first others before after here n lt = elim (below n s lt) [
  | inl less ↦ others n (λ e. omega arith) ∙ before n less
  | inr is ↦ subst (λ (k : ℕ). now k ≡ first k) (sym is) (here ∙ after s (omega arith))
]

pub gives_more : (n : ℕ) (first mid gave : Option Given) (one other : Image) → ((m : ℕ) → m < n → other m ≡ one m)
    → IfSome first (λ before. mid ≡ Some (before ++ reading n one))
    → IfSome mid (λ before. gave ≡ Some (before ++ (512 * n, other n) ∷ []))
    → IfSome first (λ before. gave ≡ Some (before ++ reading (n + 1) other))
gives_more n None mid gave one other same was now = tt
gives_more n (Some before) mid gave one other same was now =
    let item : Given = (512 * n, other n) ∷ [] in
    let there : gave ≡ Some ((before ++ reading n one) ++ item) =
    subst (λ (o : Option Given). IfSome o (λ before. gave ≡ Some (before ++ item))) was now in
    there ∙ ap (λ (l : Given). Some l) (append_assoc before (reading n one) item
    ∙ ap (λ (l : Given). before ++ (l ++ item)) (sym (same_reading n one other same))
    ∙ ap (λ (k : ℕ). before ++ reading k other) (sym (add-one n)))

-- ---- one more reading

pub gives_again : (n count : ℕ) (first mid gave : Option Given) (one other : Image) → count ≡ n
    → IfSome first (λ before. (earlier : Given) × (mid ≡ Some (before ++ (earlier ++ reading n one))))
    → IfSome mid (λ before. gave ≡ Some (before ++ reading count other))
    → IfSome first (λ before. (earlier : Given) × (gave ≡ Some (before ++ (earlier ++ reading n other))))
gives_again n count None mid gave one other same was now = tt
gives_again n count (Some before) mid gave one other same was now =
    let there : gave ≡ Some ((before ++ (was.0 ++ reading n one)) ++ reading count other) =
    subst (λ (o : Option Given). IfSome o (λ before. gave ≡ Some (before ++ reading count other))) was.1 now in (
      was.0 ++ reading n one,
      there ∙ ap (λ (l : Given). Some l) (append_assoc before (was.0 ++ reading n one) (reading count other)
          ∙ ap (λ (k : ℕ). before ++ ((was.0 ++ reading n one) ++ reading k other)) same),
    )

-- one that gave what the one before had given
pub gives_twice : {A : Type 0} (copy : MemoryRig A) (n : ℕ) (first mid gave : Option Given) (one : Image) → sector_count copy ≡ n
    → ((m : ℕ) → m < n → reads (trace_of copy) m ≡ one m)
    → IfSome first (λ before. (earlier : Given) × (mid ≡ Some (before ++ (earlier ++ reading n one))))
    → IfSome mid (λ before. gave ≡ Some (before ++ reading (sector_count copy) (reads (trace_of copy))))
    → IfSome first (λ before. IsReadTwice copy before gave)
gives_twice copy n None mid gave one size same was now = tt
gives_twice copy n (Some before) mid gave one size same was now =
    let last : Given = reading (sector_count copy) (reads (trace_of copy)) in
    let equal : reading n one ≡ last = sym (same_reading n one (reads (trace_of copy)) same) ∙ ap (λ (k : ℕ). reading k (reads (trace_of copy))) (sym size) in
    let there : gave ≡ Some ((before ++ (was.0 ++ reading n one)) ++ last) =
    subst (λ (o : Option Given). IfSome o (λ before. gave ≡ Some (before ++ last))) was.1 now in
    record {
      earlier = was.0;
      is = there ∙ ap (λ (l : Given). Some l) (append_assoc before (was.0 ++ reading n one) last
          ∙ ap (λ (l : Given). before ++ l) (append_assoc was.0 (reading n one) last
          ∙ ap (λ (l : Given). was.0 ++ (l ++ last)) equal));
    }
