-- What images stand for if they agree on the sectors that matter, and under a new header.
use Rattle.std.proofs.Common.{◌≡◌, ◌≢◌, ◌⊎◌, inl, inr, ⊎_elim, ℕ, zero, suc, ◌+◌, ◌-◌, ◌%◌, ◌<◌, ◌≤◌, ◌==◌, ◌&&◌}
use Rattle.std.proofs.Common.{nat_lt, nat_le, Bool, true, false, if◌then◌else◌, List, [], Option, Some, None, ℤ}
use Rattle.std.proofs.Common.{Result, Ok, Err, lit≤, refl, sym, ◌∙◌, ap, subst, arith}
use Rattle.std.proofs.lemmas.Bool.{cases_eq}
use Rattle.std.proofs.lemmas.Bool.Decides.{nat_tests}
use Rattle.ng_layout.specs.Fields.{number_at}
use Rattle.ng_layout.specs.Limits.{greatest_count}
use Rattle.ng_layout.specs.Codes.{format_of}
use Rattle.ng_layout.specs.declared.header.Format.{Format}
use Rattle.ng_layout.specs.declared.header.Format.TheVariants.{One, Two}
use Rattle.ng_layout.specs.declared.header.Header.{Header}
use Rattle.ng_layout.specs.Header.{header_at, is_marked, header_by, header_in, longest_in, program_limit_of}
use Rattle.ng_layout.specs.Areas.{log_size, log_size_of, shortest_log, tools_first, tools_size, log_first}
use Rattle.ng_layout.specs.Areas.{snapshot_first, snapshot_size, program_first, program_size, greatest_area}
use Rattle.ng_layout.specs.Log.{PartHeader, LogPosition, is_part, parts_stand, parts_for, with_record, next, after_step, run}
use Rattle.ng_layout.proofs.SpareLemmas.{IsOfOther, IsSpare, SameButSpare, SameButTail}
use Rattle.ng_layout.specs.Decoding.{and_then}
use Rattle.ng_layout.specs.Sectors.{program_text}
use Rattle.ng_layout.specs.Stands.{is_large, stretch, newer, in_force, snapshot, standing, durable_state_under}
use Rattle.ng_layout.specs.Stands.{by_header, stands, stands_beside, beside_header, epoch_in_force, IsModern}
use Rattle.ng_layout.specs.Stands.{IsWritten}
use Rattle.ng_layout.specs.Stored.{DurableState}
use Rattle.ng_num.specs.declared.fault.Fault.{Fault}

abbrev Image : Type 0
Image = ℕ → List ℕ

-- The numbers of a valid header are within their limits.
pub record IsWithin (large : Bool) (k : ℕ) (h : Header) : Type 0 where
  pub counted : 1 ≤ h.epoch
  pub few : h.epoch ≤ greatest_count
  pub area : h.area ≤ greatest_area large
  pub length : h.length ≤ longest_in h.area
  pub here : h.epoch % 2 ≡ k

choice : {X : Type 0} (b : Bool) (x y : X) → (if b then Some x else None) ≡ Some y → (b ≡ true) × (x ≡ y)
choice true x y is = (refl, cc)
choice false x y is = absurd (cc)

within_parts : (k e a l most longest : ℕ) (marked : Bool)
    → (marked && (nat_le 1 e && nat_le e greatest_count && nat_le a most && nat_le l longest) && (e % 2 == k))
    ≡ true → (1 ≤ e) × (e ≤ greatest_count) × (a ≤ most) × (l ≤ longest) × (e % 2 ≡ k)
within_parts k e a l most longest marked is = (
  grind (arith, nat_tests),
  grind (arith, nat_tests),
  grind (arith, nat_tests),
  grind (arith, nat_tests),
  grind (arith, nat_tests),
)

by-within : (large : Bool) (k : ℕ) (sector : List ℕ) (x h : Header) → header_by large k sector x ≡ Some h → IsWithin large k h
by-within large k sector x h is =
    let c = choice _ x h is in
    let p = within_parts k x.epoch x.area x.length (greatest_area large) (longest_in x.area) (is_marked sector) c.0 in
    subst (λ (x : Header). IsWithin large k x) c.1 (record { counted = p.0; few = p.1; area = p.2; length = p.3; here = p.4 })

pub header-within : (large : Bool) (k : ℕ) (sector : List ℕ) (h : Header) → header_in large k sector ≡ Some h → IsWithin large k h
unfolding header_in
header-within large k sector h is = go (format_of (number_at 4 8 sector)) is
  where
    go : (o : Option Format) → and_then o (λ format. header_by large k sector (header_at format sector)) ≡ Some h → IsWithin large k h
    go None none = absurd (cc)
    go (Some format) some = by-within large k sector (header_at format sector) h some

-- the header in force is one of the two, and the other's epoch isn't above its epoch
pub record IsForce (a b : Option Header) (h : Header) : Type 0 where
  pub one : (a ≡ Some h) ⊎ (b ≡ Some h)
  pub first : (x : Header) → a ≡ Some x → x.epoch ≤ h.epoch
  pub second : (x : Header) → b ≡ Some x → x.epoch ≤ h.epoch

newer_cases : (x y h : Header) → (if nat_lt x.epoch y.epoch then Some y else Some x) ≡ Some h
    → ((y ≡ h) × (x.epoch ≤ y.epoch)) ⊎ ((x ≡ h) × (y.epoch ≤ x.epoch))
newer_cases x y h is = elim (cases_lt x.epoch y.epoch) [
  | inl lt ↦ let e : (if nat_lt x.epoch y.epoch then Some y else Some x) ≡ Some y = grind (arith, nat_tests) in inl (inner (sym e ∙ is), omega arith)
  | inr le ↦ let e : (if nat_lt x.epoch y.epoch then Some y else Some x) ≡ Some x = grind (arith, nat_tests) in inr (inner (sym e ∙ is), le)
]
  where
    cases_lt : (m n : ℕ) → (m < n) ⊎ (n ≤ m)
    cases_lt m n = grind arith

    inner : {v w : Header} → Some v ≡ Some w → v ≡ w
    inner p = cc

pub some-is : {x y : Header} → Some x ≡ Some y → x ≡ y
some-is p = cc

pub newer-force : (a b : Option Header) (h : Header) → newer a b ≡ Some h → IsForce a b h
newer-force None b h is = record {
  one = inr is;
  first = λ x none. absurd (cc);
  second = λ x some. let e : x ≡ h =
      some-is (sym some ∙ is) in omega (arith, ap (λ (y : Header). y.epoch) e);
}
newer-force (Some a) None h is =
    record {
      one = inl is;
      first = λ x some. let e : x ≡ h =
          some-is (sym some ∙ is) in omega (arith, ap (λ (y : Header). y.epoch) e);
      second = λ x none. absurd (cc);
    }
newer-force (Some a) (Some b) h is = ⊎_elim
    (λ w. record {
      one = inr (ap (λ (y : Header). Some y) w.0);
      first = λ x some. let e = some-is some in omega (arith, w.1, ap (λ (y : Header). y.epoch) e, ap (λ (y : Header). y.epoch) w.0);
      second = λ x some. let e = some-is some in omega (arith, ap (λ (y : Header). y.epoch) e, ap (λ (y : Header). y.epoch) w.0);
    })
    (λ w. record {
      one = inl (ap (λ (y : Header). Some y) w.0);
      first = λ x some. let e = some-is some in omega (arith, ap (λ (y : Header). y.epoch) e, ap (λ (y : Header). y.epoch) w.0);
      second = λ x some. let e = some-is some in omega (arith, w.1, ap (λ (y : Header). y.epoch) e, ap (λ (y : Header). y.epoch) w.0);
    })
    (newer_cases a b h is)

pub force-within : (image : Image) (h : Header) → in_force image ≡ Some h → IsWithin (is_large image) (h.epoch % 2) h
unfolding in_force
force-within image h is = ⊎_elim (λ p. again 0 (header-within (is_large image) 0 (image 0) h p))
    (λ p. again 1 (header-within (is_large image) 1 (image 1) h p))
    (newer-force (header_in (is_large image) 0 (image 0)) (header_in (is_large image) 1 (image 1)) h is).one
  where
    again : (k : ℕ) → IsWithin (is_large image) k h → IsWithin (is_large image) (h.epoch % 2) h
    again k w = record { counted = w.counted; few = w.few; area = w.area; length = w.length; here = refl }

pub force-same : (image base : Image) → is_large image ≡ is_large base → image 0 ≡ base 0 → image 1 ≡ base 1 → in_force image ≡ in_force base
unfolding in_force
force-same image base large zero_is one_is = λ i. newer (header_in (large i) 0 (zero_is i)) (header_in (large i) 1 (one_is i))

newest-second : (a : Option Header) (new : Header) → ((x : Header) → a ≡ Some x → x.epoch < new.epoch) → newer a (Some new) ≡ Some new
newest-second None new lower = refl
newest-second (Some a) new lower = let lt = lower a refl in grind (arith, nat_tests)

newest-first : (b : Option Header) (new : Header) → ((x : Header) → b ≡ Some x → x.epoch < new.epoch) → newer (Some new) b ≡ Some new
newest-first None new lower = refl
newest-first (Some b) new lower = let lt = lower b refl in grind (arith, nat_tests)

-- a newer header is in force
pub force-next : (image base : Image) (h new : Header) → is_large image ≡ is_large base → in_force base ≡ Some h
    → new.epoch ≡ h.epoch + 1 → header_in (is_large base) (new.epoch % 2) (image (new.epoch % 2)) ≡ Some new
    → ((k : ℕ) → k < 2 → k ≢ new.epoch % 2 → image k ≡ base k) → in_force image ≡ Some new
unfolding in_force
force-next image base h new large is next_epoch written others =
    let f = newer-force (header_in (is_large base) 0 (base 0)) (header_in (is_large base) 1 (base 1)) h is in
    elim (cases_eq (new.epoch % 2) 0) [
      | inl even ↦
          let there : header_in (is_large base) 0 (image 0) ≡ Some new = subst (λ (k : ℕ). header_in (is_large base) k (image k) ≡ Some new) even written in
          let other : image 1 ≡ base 1 = others 1 (omega arith) (λ e. omega arith) in
          (λ i. newer (header_in (large i) 0 (image 0)) (header_in (large i) 1 (other i))) ∙ (λ i. newer (there i) (header_in (is_large base) 1 (base 1)))
          ∙ newest-first (header_in (is_large base) 1 (base 1)) new (λ x some. omega (arith, f.second x some))
      | inr odd ↦
          let one : new.epoch % 2 ≡ 1 = omega arith in
          let there : header_in (is_large base) 1 (image 1) ≡ Some new = subst (λ (k : ℕ). header_in (is_large base) k (image k) ≡ Some new) one written in
          let other : image 0 ≡ base 0 = others 0 (omega arith) (λ e. omega arith) in
          (λ i. newer (header_in (large i) 0 (other i)) (header_in (large i) 1 (image 1))) ∙ (λ i. newer (header_in (is_large base) 0 (base 0)) (there i))
          ∙ newest-second (header_in (is_large base) 0 (base 0)) new (λ x some. omega (arith, f.first x some))
    ]

-- A range of sectors is the same if its sectors are.
pub stretch-same : (first size : ℕ) (image base : Image)
    → ((j : ℕ) → j < size → image (first + j) ≡ base (first + j))
    → stretch first size image ≡ stretch first size base
unfolding stretch
stretch-same first size image base same = λ i n. one n i
  where
    one : (n : ℕ) → (if nat_lt n size then image (first + n) else []) ≡ (if nat_lt n size then base (first + n) else [])
    one n = elim (cases_lt n size) [
      | inl lt ↦ λ i. if nat_lt n size then same n lt i else []
      | inr le ↦ let e : nat_lt n size ≡ false = grind (arith, nat_tests) in rw e refl
    ]
      where
        cases_lt : (m k : ℕ) → (m < k) ⊎ (k ≤ m)
        cases_lt m k = grind arith

pub stretch-at : (first size : ℕ) (image : Image) (n : ℕ) → n < size → stretch first size image n ≡ image (first + n)
unfolding stretch
stretch-at first size image n lt = let e : nat_lt n size ≡ true = grind (arith, nat_tests) in rw e refl

-- the log is at least as long as the shortest one
pub log-short : (f : Format) → 1020 ≤ log_size f
log-short One = lit≤ tt
log-short Two = lit≤ tt

pub log-long : (f : Format) → log_size f ≤ 1024
log-long One = lit≤ tt
log-long Two = lit≤ tt

log_long : (h : Header) → log_size_of h ≤ 1024
log_long h = log-long h.format

-- where the program areas are
pub area-where : (area j : ℕ) → area ≤ 3 → j < program_size area
    → ((174 ≤ program_first area + j) × (program_first area + j < 686))
    ⊎ ((1710 ≤ program_first area + j) × (program_first area + j < 5806))
area-where zero j most lt = inl (omega arith, omega arith)
area-where (suc zero) j most lt = inl (omega arith, omega arith)
area-where (suc (suc zero)) j most lt = inr (omega arith, omega arith)
area-where (suc (suc (suc zero))) j most lt = inr (omega arith, omega arith)
area-where (suc (suc (suc (suc n)))) j most lt = absurd (omega arith)

-- Two of them don't overlap.
pub areas-apart : (a b i j : ℕ) → a ≤ 3 → b ≤ 3 → a ≢ b → i < program_size a → j < program_size b → program_first a + i ≡ program_first b + j → ⊥
areas-apart zero zero i j most few other lt less same = absurd (other refl)
areas-apart zero (suc zero) i j most few other lt less same = absurd (omega arith)
areas-apart zero (suc (suc zero)) i j most few other lt less same = absurd (omega arith)
areas-apart zero (suc (suc (suc zero))) i j most few other lt less same = absurd (omega arith)
areas-apart (suc zero) zero i j most few other lt less same = absurd (omega arith)
areas-apart (suc zero) (suc zero) i j most few other lt less same = absurd (other refl)
areas-apart (suc zero) (suc (suc zero)) i j most few other lt less same = absurd (omega arith)
areas-apart (suc zero) (suc (suc (suc zero))) i j most few other lt less same = absurd (omega arith)
areas-apart (suc (suc zero)) zero i j most few other lt less same = absurd (omega arith)
areas-apart (suc (suc zero)) (suc zero) i j most few other lt less same = absurd (omega arith)
areas-apart (suc (suc zero)) (suc (suc zero)) i j most few other lt less same = absurd (other refl)
areas-apart (suc (suc zero)) (suc (suc (suc zero))) i j most few other lt less same = absurd (omega arith)
areas-apart (suc (suc (suc zero))) zero i j most few other lt less same = absurd (omega arith)
areas-apart (suc (suc (suc zero))) (suc zero) i j most few other lt less same = absurd (omega arith)
areas-apart (suc (suc (suc zero))) (suc (suc zero)) i j most few other lt less same = absurd (omega arith)
areas-apart (suc (suc (suc zero))) (suc (suc (suc zero))) i j most few other lt less same = absurd (other refl)
areas-apart (suc (suc (suc (suc n)))) b i j most few other lt less same = absurd (omega arith)
areas-apart a (suc (suc (suc (suc n)))) i j most few other lt less same = absurd (omega arith)

pub area-most : (large : Bool) → greatest_area large ≤ 3
area-most true = omega arith
area-most false = omega arith

-- a sector of another program area
pub other-where : (area n : ℕ) → IsOfOther area n → ((174 ≤ n) × (n < 686)) ⊎ ((1710 ≤ n) × (n < 5806))
other-where area n other =
    let from = other.among.from in let to = other.among.to in
    let at : n ≡ program_first other.other + (n - program_first other.other) = omega arith in
    subst (λ (m : ℕ). ((174 ≤ m) × (m < 686)) ⊎ ((1710 ≤ m) × (m < 5806))) (sym at)
    (area-where other.other (n - program_first other.other) other.most (omega arith))

-- The sectors that matter aren't spare.
pub header_decides : (h : Header) (n : ℕ) → n < 2 → IsSpare h n → ⊥
header_decides h n lt spare =
    elim spare [
      | inl s ↦ omega (arith, s.from)
      | inr (inl s) ↦ elim (other-where h.area n s)
          [ inl w ↦ omega (arith, w.0) | inr w ↦ omega (arith, w.0) ]
      | inr (inr s) ↦ let from = s.1.from in omega arith
    ]

pub snapshot_decides : (h : Header) (j : ℕ) → j < snapshot_size → IsSpare h (snapshot_first h.epoch + j) → ⊥
snapshot_decides h j lt spare = elim spare [
  | inl s ↦ elim (cases_eq (h.epoch % 2) 0) [ inl even ↦ omega (arith, s.from, s.to) | inr odd ↦ omega (arith, s.from, s.to) ]
  | inr (inl s) ↦ elim (other-where h.area (snapshot_first h.epoch + j) s) [ inl w ↦ omega (arith, w.0) | inr w ↦ omega (arith, w.0) ]
  | inr (inr s) ↦ let from = s.1.from in omega arith
]

pub tools_decide : (h : Header) (j : ℕ) → j < tools_size → IsSpare h (tools_first h.epoch + j) → ⊥
tools_decide h j lt spare = elim spare [
  | inl s ↦ omega (arith, s.to)
  | inr (inl s) ↦ elim (other-where h.area (tools_first h.epoch + j) s) [ inl w ↦ omega (arith, w.1) | inr w ↦ omega (arith, w.0) ]
  | inr (inr s) ↦ let from = s.1.from in let to = s.1.to in elim (cases_eq (h.epoch % 2) 0) [ inl even ↦ omega arith | inr odd ↦ omega arith ]
]

pub program_decides : (h : Header) (j : ℕ) → h.area ≤ 3 → j < program_size h.area → IsSpare h (program_first h.area + j) → ⊥
program_decides h j area lt spare = elim spare [
  | inl s ↦ elim (area-where h.area j area lt) [ inl w ↦ omega (arith, s.to, w.0) | inr w ↦ omega (arith, s.to, w.0) ]
  | inr (inl s) ↦
      let from = s.among.from in let to = s.among.to in
      areas-apart h.area s.other j (program_first h.area + j - program_first s.other) area s.most (λ e. s.apart (sym e)) lt (omega arith) (omega arith)
  | inr (inr s) ↦ let from = s.1.from in let to = s.1.to in elim (area-where h.area j area lt) [
    | inl w ↦ omega (arith, w.1)
    | inr w ↦ elim (cases_eq ((h.epoch + 1) % 2) 0)
        [ inl even ↦ omega (arith, w.0) | inr odd ↦ omega (arith, w.0) ]
  ]
]

pub log_decides : (h : Header) (j : ℕ) → j < log_size_of h → IsSpare h (log_first + j) → ⊥
log_decides h j lt spare = elim spare [
  | inl s ↦ let most = log_long h in omega (arith, s.to)
  | inr (inl s) ↦ let most = log_long h in elim (other-where h.area (log_first + j) s) [ inl w ↦ omega (arith, w.1) | inr w ↦ omega (arith, w.0) ]
  | inr (inr s) ↦ let from = s.1.from in let short : log_size_of h ≡ 1020 = ap log_size s.0 in omega arith
]

pub same-at : (h : Header) (image base : Image) → SameButSpare h image base → (n : ℕ) → (IsSpare h n → ⊥) → image n ≡ base n
same-at h image base same n decides = ⊎_elim (λ spare. absurd (decides spare)) (λ e. e) (same.each n)

pub force-frame : (h : Header) (image base : Image) → SameButSpare h image base → in_force image ≡ in_force base
force-frame h image base same =
    force-same image base same.large (same-at h image base same 0 (header_decides h 0 (omega arith)))
    (same-at h image base same 1 (header_decides h 1 (omega arith)))

pub log-frame : (h : Header) (image base : Image) → SameButSpare h image base → (m : ℕ) → m < log_size_of h → image (log_first + m) ≡ base (log_first + m)
log-frame h image base same m lt = same-at h image base same (log_first + m) (log_decides h m lt)

pub program-frame : (h : Header) (image base : Image) → h.area ≤ 3 → SameButSpare h image base → (m : ℕ)
    → m < program_size h.area → image (program_first h.area + m) ≡ base (program_first h.area + m)
program-frame h image base area same m lt = same-at h image base same (program_first h.area + m) (program_decides h m area lt)

-- what the header in force determines
pub under : (image : Image) (h : Header) → in_force image ≡ Some h
    → stands image ≡ durable_state_under (program_limit_of (is_large image)) h
    (stretch (snapshot_first h.epoch) snapshot_size image) (stretch (tools_first h.epoch) tools_size image)
    (stretch (program_first h.area) (program_size h.area) image) (stretch log_first (log_size_of h) image)
unfolding stands
under image h is = λ i.
    by_header (is i) (λ x. durable_state_under (program_limit_of (is_large image)) x
    (stretch (snapshot_first x.epoch) snapshot_size image) (stretch (tools_first x.epoch) tools_size image)
    (stretch (program_first x.area) (program_size x.area) image) (stretch log_first (log_size_of x) image))

-- If images agree on all sectors but the spare ones, they stand for the same.
pub stands-frame : (h : Header) (image base : Image) → in_force base ≡ Some h → SameButSpare h image base → stands image ≡ stands base
unfolding stands
stands-frame h image base is same =
    let within = force-within base h is in
    let force = force-frame h image base same ∙ is in
    let area = stretch-same (snapshot_first h.epoch) snapshot_size image base
    (λ j lt. same-at h image base same (snapshot_first h.epoch + j) (snapshot_decides h j lt)) in
    let tools = stretch-same (tools_first h.epoch) tools_size image base (λ j lt. same-at h image base same (tools_first h.epoch + j) (tools_decide h j lt)) in
    let text = stretch-same (program_first h.area) (program_size h.area) image base
    (program-frame h image base (omega (arith, within.area, area-most (is_large base))) same) in
    let log = stretch-same log_first (log_size_of h) image base (log-frame h image base same) in
    under image h force
    ∙ (λ i. durable_state_under (program_limit_of (same.large i)) h (area i) (tools i) (text i) (log i))
    ∙ sym (under base h is)

pub written-frame : (h : Header) (image base : Image) → SameButSpare h image base → IsWritten base → IsWritten image
written-frame h image base same written =
    record {
      past = λ m lt. subst (λ (e : ℕ). number_at 8 0 (image (log_first + m)) ≤ e)
          (sym (ap epoch_in_force (force-frame h image base same)))
          (subst (λ (s : List ℕ). number_at 8 0 s ≤ epoch_in_force (in_force base))
          (sym (log-frame h image base same m (let short = log-short h.format in omega arith))) (written.past m lt));
    }

-- A log whose first part is of another epoch holds no record of this one.
first_part : (row : Image) (at : ℕ) (l : PartHeader) (n : ℕ) → number_at 8 0 (row (at + 0)) ≢ l.epoch → parts_stand row at l (suc n) ≡ false
unfolding parts_stand is_part
first_part row at l zero other = let e : (number_at 8 0 (row (at + 0)) == l.epoch) ≡ false = grind (arith, nat_tests) in rw e refl
first_part row at l (suc n) other = let e = first_part row at l n other in rw e (no _)
  where
    no : (b : Bool) → (b && false) ≡ false
    no true = refl
    no false = refl

no_record : (parts p : ℕ) (a b : Bool) (q : LogPosition) → b ≡ false → (if (parts == p) && a && b then Some q else None) ≡ None
no_record parts p a b q is = grind (arith, nat_tests)

pub no-next : (format : Format) (length : ℕ) (row : Image) (epoch : ℕ) (p : LogPosition) → p.at ≡ 0
    → number_at 8 0 (row 0) ≢ epoch → next format length row epoch p ≡ None
unfolding next
no-next format length row epoch p start other =
    let parts = number_at 2 18 (row p.at) in
    let changes = number_at 2 20 (row p.at) in
    let q : LogPosition =
    record {
      at = p.at + parts;
      number = p.number + 1;
      found =
          and_then p.found (λ before. with_record format length row p.at changes before);
    } in
    let stand = parts_stand row p.at (record { epoch = epoch; number = p.number; part = 0; parts = parts; changes = changes }) parts in
    elim (cases_eq parts 0) [
      | inl none ↦ no_parts parts changes (nat_le (p.at + parts) (log_size format)) stand q none
      | inr some ↦ no_record parts (parts_for changes) (nat_le (p.at + parts) (log_size format)) stand q (absent parts some)
    ]
  where
    no_parts : (parts changes : ℕ) (a b : Bool) (q : LogPosition) → parts ≡ 0 → (if (parts == parts_for changes) && a && b then Some q else None) ≡ None
    no_parts parts changes a b q is = grind (arith, nat_tests)

    absent : (parts : ℕ) → parts ≢ 0
        → parts_stand row p.at
        (record {
          epoch = epoch;
          number = p.number;
          part = 0;
          parts = number_at 2 18 (row p.at);
          changes =
              number_at 2 20 (row p.at);
        }) parts ≡ false
    absent zero some = absurd (some refl)
    absent (suc n) some = first_part row p.at _ n (subst (λ (k : ℕ). number_at 8 0 (row (k + 0)) ≢ epoch) (sym start) other)

-- If the log has no record, the image stands for the snapshot and the program.
one-run : (n : ℕ) (format : Format) (length : ℕ) (log : Image) (epoch : ℕ) (p : LogPosition)
    → next format length log epoch p ≡ None → run n format length log epoch p ≡ p
unfolding run
one-run zero format length log epoch p none = refl
one-run (suc n) format length log epoch p none = λ i. after_step (none i) (λ q. run n format length log epoch q) p

pub standing-none : (program_limit : ℕ) (h : Header) (area tools text log : Image) → number_at 8 0 (log 0) ≢ h.epoch
    → durable_state_under program_limit h area tools text log ≡ standing program_limit (snapshot h.format h.length area tools)
    (program_text h.length text) h.length
unfolding durable_state_under
standing-none program_limit h area tools text log other =
    let start : LogPosition = record { at = 0; number = 0; found = snapshot h.format h.length area tools } in
    let none = one-run (log_size_of h) h.format h.length log h.epoch start (no-next h.format h.length log h.epoch start refl other) in
    λ i. standing program_limit (none i).found (program_text h.length text) h.length

-- An image under this header that has no record of its epoch.
pub stands-snapshot : (image : Image) (h : Header) → in_force image ≡ Some h
    → number_at 8 0 (image log_first) ≢ h.epoch → stands image ≡ standing (program_limit_of (is_large image))
    (snapshot h.format h.length (stretch (snapshot_first h.epoch) snapshot_size image)
    (stretch (tools_first h.epoch) tools_size image))
    (program_text h.length (stretch (program_first h.area) (program_size h.area) image)) h.length
stands-snapshot image h is other =
    let first : stretch log_first (log_size_of h) image 0 ≡ image (log_first + 0) =
    stretch-at log_first (log_size_of h) image 0 (let short = log-short h.format in omega arith) in
    under image h is
    ∙ standing-none (program_limit_of (is_large image)) h (stretch (snapshot_first h.epoch) snapshot_size image)
    (stretch (tools_first h.epoch) tools_size image)
    (stretch (program_first h.area) (program_size h.area) image) (stretch log_first (log_size_of h) image)
    (λ e. other (ap (number_at 8 0) (sym first) ∙ e))

-- If an image has no part of an epoch still to come, its log has no record under a newer header.
pub none-of-new : (base : Image) (h : Header) → in_force base ≡ Some h → IsWritten base → (m : ℕ) → m < shortest_log
    → number_at 8 0 (base (log_first + m)) ≤ h.epoch
none-of-new base h is written m lt = subst (λ (e : ℕ). number_at 8 0 (base (log_first + m)) ≤ e) (ap epoch_in_force is) (written.past m lt)

-- and it has no part of an epoch after that
pub written-new : (image base : Image) (h new : Header) → in_force base ≡ Some h → in_force image ≡ Some new
    → h.epoch ≤ new.epoch → IsWritten base
    → ((m : ℕ) → m < shortest_log → image (log_first + m) ≡ base (log_first + m)) → IsWritten image
written-new image base h new is now later written same = record {
  past = λ m lt.
      let e : number_at 8 0 (image (log_first + m)) ≡ number_at 8 0 (base (log_first + m)) = ap (number_at 8 0) (same m lt) in
      let below = none-of-new base h is written m lt in
      subst (λ (x : ℕ). number_at 8 0 (image (log_first + m)) ≤ x) (sym (ap epoch_in_force now)) (omega arith);
}

-- In format 1, if the log has no record, its last sectors don't matter.
no_tools : (f : Format) (length : ℕ) (row area other : Image) → f ≡ One → snapshot f length row area ≡ snapshot f length row other
unfolding snapshot
no_tools One length row area other is = refl
no_tools Two length row area other is = absurd (cc)

module _ (h : Header) (image base : Image) (is : in_force base ≡ Some h) (same : SameButTail h image base) where
  tail-at : (n : ℕ) → (n < 1706) ⊎ (1710 ≤ n) → (IsSpare h n → ⊥) → image n ≡ base n
  tail-at n lt decides =
      elim (same.each n) [
        | inl spare ↦ absurd (decides spare)
        | inr (inl tail) ↦ absurd
            (elim lt [ inl below ↦ omega (arith, tail.from, below) | inr above ↦ omega (arith, tail.to, above) ])
        | inr
            (inr e) ↦ e
      ]

  pub tail-force : in_force image ≡ Some h
  tail-force = force-same image base same.large (tail-at 0 (inl (omega arith)) (header_decides h 0 (omega arith)))
      (tail-at 1 (inl (omega arith)) (header_decides h 1 (omega arith))) ∙ is

  tail-log : (m : ℕ) → m < shortest_log → image (log_first + m) ≡ base (log_first + m)
  tail-log m lt = tail-at (log_first + m) (inl (omega arith)) (log_decides h m (let short = log-short h.format in omega arith))

  pub tail-written : IsWritten base → IsWritten image
  tail-written written = written-new image base h h is tail-force (omega arith) written tail-log

  pub tail-stands : h.format ≡ One → number_at 8 0 (base log_first) ≢ h.epoch → stands image ≡ stands base
  tail-stands one other =
      let most : h.area ≤ 3 = omega (arith, (force-within base h is).area, area-most (is_large base)) in
      let area = stretch-same (snapshot_first h.epoch) snapshot_size image base
      (λ j lt. tail-at (snapshot_first h.epoch + j) (inl (omega arith)) (snapshot_decides h j lt)) in
      let text = stretch-same (program_first h.area) (program_size h.area) image base
      (λ j lt. tail-at (program_first h.area + j)
      (elim (area-where h.area j most lt) [ inl w ↦ inl (omega (arith, w.1)) | inr w ↦ inr w.0 ])
      (program_decides h j most lt)) in
      let tools = no_tools h.format h.length (stretch (snapshot_first h.epoch) snapshot_size base)
      (stretch (tools_first h.epoch) tools_size image) (stretch (tools_first h.epoch) tools_size base) one in
      let first : image log_first ≡ base log_first = tail-log 0 (omega arith) in
      stands-snapshot image h tail-force (λ e. other (ap (number_at 8 0) (sym first) ∙ e))
      ∙ (λ i. standing (program_limit_of (same.large i))
      (snapshot h.format h.length (area i) (stretch (tools_first h.epoch) tools_size image))
      (program_text h.length (text i)) h.length)
      ∙ (λ i. standing (program_limit_of (is_large base)) (tools i) (program_text h.length (stretch (program_first h.area)
      (program_size h.area) base)) h.length)
      ∙ sym (stands-snapshot base h is other)

-- what an image stands for, whatever the table of the settings is
pub modern-beside : (tools : List ℤ) (image : Image) → IsModern image → stands_beside tools image ≡ stands image
unfolding stands_beside
modern-beside tools image m = (λ i. beside_header tools (m.force i) (stands image)) ∙ by (stands image) m.header.format m.format
  where
    by : (x : Result DurableState Fault) (f : Format) → f ≡ Two → beside_header tools (Some (record m.header { format = f })) x ≡ x
    by (Ok s) Two is = refl
    by (Ok s) One is = absurd (cc)
    by (Err e) f is = refl
