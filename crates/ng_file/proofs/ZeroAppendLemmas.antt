-- Lengthening a file with zeros.
use Rattle.std.proofs.Common.{◌≡◌, ◌∙◌, ℕ, ◌+◌, ◌*◌, ◌≤◌, List, ◌++◌, Option, Result, Ok, Err, OnErr, ap, sym, subst, replicate, take, min, arith}
use Rattle.std.proofs.lemmas.List.{length-replicate, replicate-append-replicate, take-replicate, take_min}
use Rattle.std.specs.Io.KnownBytes.{Appends}
use Rattle.ng_file.specs.Bytes.{AppendsBeginning}
use Rattle.ng_streams.proofs.KnownBytesLemmas.{Appends-trans}

abbrev zeros : ℕ → List ℕ
zeros n = replicate n 0

-- one more sector of zeros
pub zeros_more : (k : ℕ) → zeros (512 * k) ++ zeros 512 ≡ zeros (512 * (k + 1))
zeros_more k =
    let sum : 512 * k + 512 ≡ 512 * (k + 1) = omega arith in
    replicate-append-replicate (512 * k) 512 0 ∙ ap zeros sum

-- one more piece
pub zeros-joined : (old between new : Option (List ℕ)) (n m : ℕ) → Appends old between (zeros n)
    → Appends between new (zeros m) → Appends old new (zeros (n + m))
zeros-joined old between new n m first more =
    subst (λ (l : List ℕ). Appends old new l) (replicate-append-replicate n m 0) (Appends-trans old between new (zeros n) (zeros m) first more)

-- this many zeros out of a sector of them
pub zeros-piece : (old new : Option (List ℕ)) (count : ℕ) → count ≤ 512 → Appends old new (take count (zeros 512)) → Appends old new (zeros count)
zeros-piece old new count few appends = subst (λ (l : List ℕ). Appends old new l) (take-replicate count 512 0 few) appends

-- a beginning of zeros
zeros-taken : (n count : ℕ) → take n (zeros count) ≡ zeros (min n count)
zeros-taken n count =
    sym (take_min n (zeros count)) ∙ ap (λ m. take (min n m) (zeros count)) (length-replicate count 0) ∙ take-replicate (min n count) count 0 (omega arith)

-- if a beginning of them is appended, these are zeros
pub zeros-begun : (old new : Option (List ℕ)) (count : ℕ) → count ≤ 512
    → AppendsBeginning old new (take count (zeros 512)) → (n : ℕ) × (n ≤ count) × Appends old new (zeros n)
zeros-begun old new count few (n, appends) =
    let same : take n (take count (zeros 512)) ≡ zeros (min n count) = ap (take n) (take-replicate count 512 0 few) ∙ zeros-taken n count in
    (min n count, omega arith, subst (λ (l : List ℕ). Appends old new l) same appends)

-- a beginning of one more piece, of those that are left
pub zeros-more-begun : (old between new : Option (List ℕ)) (appended piece count : ℕ) → appended + piece ≤ count → Appends old between (zeros appended)
    → (n : ℕ) × (n ≤ piece) × Appends between new (zeros n) → (n : ℕ) × (n ≤ count) × Appends old new (zeros n)
zeros-more-begun old between new appended piece count fits first (n, few, more) =
    (appended + n, omega arith, zeros-joined old between new appended n first more)

-- what holds in any case holds on an error
pub on_err : {T E P : Type 0} (r : Result T E) → P → OnErr r P
on_err (Ok x) p = tt
on_err (Err e) p = p
