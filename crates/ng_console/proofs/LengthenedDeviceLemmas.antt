-- A small device that was lengthened is a grown one, and what `grow` leaves of a file was lengthened.
use Rattle.std.proofs.Common.{◌≡◌, ◌⊎◌, ◌∙◌, inl, inr, refl, sym, ap, ◌+◌, ◌*◌, ◌-◌, ◌<◌, ◌≤◌, ◌==◌, ◌%◌, nat_le, nat_lt, Bool, true, false, ℕ, []}
use Rattle.std.proofs.Common.{if◌then◌else◌, List, ◌++◌, Option, None, Some, IfSome, Result, Ok, Err, OnOk, IfErr, IsErrOf, length, replicate, take, drop}
use Rattle.std.proofs.Common.{length-append, length-drop, arith}
use Rattle.std.specs.Prelude.{◌&&◌, ◌/◌}
use Rattle.std.proofs.lemmas.Bool.Decides.{nat_tests}
use Rattle.std.proofs.lemmas.List.{append-nil, take-append-le, drop-append-le}
use Rattle.ng_num.specs.declared.fault.Fault.{Fault}
use Rattle.ng_num.specs.declared.fault.Fault.TheVariants.{DeviceFailed, NotFormatted}
use Rattle.ng_rig.specs.Trace.{Image}
use Rattle.ng_layout.specs.Areas.{large_size, least_size}
use Rattle.ng_layout.specs.Codes.{format_of}
use Rattle.ng_layout.specs.Decoding.{and_then}
use Rattle.ng_layout.specs.Fields.{number_at}
use Rattle.ng_layout.specs.declared.header.Format.{Format}
use Rattle.ng_layout.specs.declared.header.Format.TheVariants.{Two}
use Rattle.ng_layout.specs.declared.header.Header.{Header}
use Rattle.ng_layout.specs.Header.{header_at, header_by, header_in, is_marked, longest_in}
use Rattle.ng_layout.specs.Limits.{greatest_count}
use Rattle.ng_layout.specs.Stands.{is_large}
use Rattle.ng_journal.specs.Growth.{IsGrown}
use Rattle.ng_file.specs.Bytes.{Lengthened, LengthenedInPart, sector_of}
use Rattle.ng_console.specs.Grow.{GrowsFile, has_header, is_device, large_bytes}
use Rattle.ng_console.specs.Lengthening.{IsLengthened, NamesSmallAreas, StayOrAreLengthened, image_in}

-- ---- its headers

small_area : (n : ℕ) → n ≤ 1 → nat_le n 3 ≡ nat_le n 1
small_area n few = grind (arith, nat_tests)

same-by : (k : ℕ) (c : List ℕ) (h : Header) → h.area ≤ 1 → header_by true k c h ≡ header_by false k c h
same-by k c h few = ap (λ (within : Bool). if is_marked c && (nat_le 1 h.epoch && nat_le h.epoch greatest_count && within && nat_le h.length (longest_in h.area)) && h.epoch % 2 == k
    then Some h else None) (small_area h.area few)

same-header : (large : Bool) (k : ℕ) (c : List ℕ) → (header_at Two c).area ≤ 1 → header_in large k c ≡ header_in false k c
unfolding header_in header_at
same-header false k c few = refl
same-header true k c few = go (format_of (number_at 4 8 c))
  where
    go : (o : Option Format) → and_then o (λ format. header_by true k c (header_at format c)) ≡ and_then o (λ format. header_by false k c (header_at format c))
    go None = refl
    go (Some format) = same-by k c (header_at format c) few

pub is-grown : (old new : Image) → NamesSmallAreas old → IsLengthened old new → IsGrown old new
is-grown old new small l = record { small = l.small; same = l.same; headers = λ k lt. same-header (is_large new) k (old k) (small k lt) }

-- ---- its bytes

outside : (count n : ℕ) (c : List ℕ) → count ≤ n → (if nat_lt n count then c else []) ≡ []
outside count n c past = grind (arith, nat_tests)

inside : (count n : ℕ) (c : List ℕ) → n < count → (if nat_lt n count then c else []) ≡ c
inside count n c within = grind (arith, nat_tests)

-- sectors that are there stay where bytes are appended
sector-stays : (n : ℕ) (held more : List ℕ) → 512 * n + 512 ≤ length held → sector_of n (held ++ more) ≡ sector_of n held
sector-stays n held more fits =
    let rest = length-drop (512 * n) held in
    ap (take (512 * n + 512 - 512 * n)) (drop-append-le (512 * n) held more (omega arith))
    ∙ take-append-le (512 * n + 512 - 512 * n) (drop (512 * n) held) more (omega arith)

both-true : (a b : Bool) → (a && b) ≡ true → a ≡ true
both-true true b is = refl
both-true false b is = is

least : (held : List ℕ) → is_device held ≡ true → 512 * least_size ≤ length held
least held is = at-least (512 * least_size) (length held) (both-true (nat_le (512 * least_size) (length held)) (has_header held) is)
  where
    at-least : (n m : ℕ) → nat_le n m ≡ true → n ≤ m
    at-least n m is = grind (arith, nat_tests)

pub appended : (held more : List ℕ) → is_device held ≡ true → length held < large_bytes → IsLengthened (image_in held) (image_in (held ++ more))
appended held more device few =
    let enough = least held device in
    let long = length-append held more in
    record {
      small = ap (λ (c : List ℕ). nat_lt 0 (length c)) (outside (length held / 512) (large_size - 1) (sector_of (large_size - 1) held) (omega arith));
      same = λ n lt.
          inside (length (held ++ more) / 512) n (sector_of n (held ++ more)) (omega arith)
          ∙ sector-stays n held more (omega arith)
          ∙ sym (inside (length held / 512) n (sector_of n held) (omega arith));
    }

-- ---- what `grow` leaves

-- zeros after the bytes of a device, if it isn't a large one already
zeros-after : (held : List ℕ) (n : ℕ) (new : Option (List ℕ)) → is_device held ≡ true → n ≤ large_bytes - length held
    → new ≡ Some (held ++ replicate n 0) → StayOrAreLengthened (Some held) new
zeros-after held n new device most is = elim (side (length held) large_bytes) [
  | inl few ↦ inr (held ++ replicate n 0, (is, appended held (replicate n 0) device few))
  | inr many ↦
      let none : n ≡ 0 = omega arith in
      inl (is ∙ ap (λ (m : ℕ). Some (held ++ replicate m 0)) none ∙ ap (λ (l : List ℕ). Some l) (append-nil held))
]
  where
    side : (n m : ℕ) → (n < m) ⊎ (m ≤ n)
    side n m = grind arith

abbrev failure : Fault → Result (Unit {0}) Fault
failure fault = Err fault

module _ {S : Type 0} (content lasting : S → Option (List ℕ)) (file_old file_new : S) where
  pub grow-leaves : (old new : Option (List ℕ)) (status : ℕ) → GrowsFile content lasting file_old file_new old new status
      → StayOrAreLengthened (content file_old) (content file_new)
  grow-leaves old new status g = by g.grown (content file_old) g.faults g.device g.lengthened g.unchanged g.failed
    where
      by : (grown : Result (Unit {0}) Fault) (held : Option (List ℕ)) → IfErr grown (λ fault. (fault ≡ NotFormatted) ⊎ (fault ≡ DeviceFailed))
          → OnOk grown (IfSome held (λ bytes. is_device bytes ≡ true)) → OnOk grown (Lengthened large_bytes held (content file_new))
          → (IsErrOf grown NotFormatted → content file_new ≡ held)
          → (IsErrOf grown DeviceFailed → (content file_new ≡ held) ⊎ (IfSome held (λ bytes. is_device bytes ≡ true) × LengthenedInPart large_bytes held (content file_new)))
          → StayOrAreLengthened held (content file_new)
      by grown None faults device whole same part = tt
      by (Ok x) (Some held) faults device whole same part = zeros-after held (large_bytes - length held) (content file_new) device (omega arith) whole
      by (Err fault) (Some held) faults device whole same part = elim faults [
        | inl refused ↦ inl (same (ap failure refused))
        | inr failed ↦ elim (part (ap failure failed)) [
          | inl stays ↦ inl stays
          | inr more ↦ zeros-after held more.1.0 (content file_new) more.0 more.1.1 more.1.2
        ]
      ]
