-- The parameters of an area, read sector by sector.
use Rattle.std.proofs.Common.{◌≡◌, ℕ, ◌+◌, ◌*◌, ◌<◌, List, ℤ, true, false, sym, ◌∙◌, ap, subst, arith}
use Rattle.ng_rig.specs.Trace.{Trace, Image, reads}
use Rattle.ng_layout.specs.Sectors.{TakesValues, IsBeyond}
use Rattle.ng_layout.proofs.TableLemmas.{TableTo}
use Rattle.ng_layout.specs.Areas.{snapshot_size}
use Rattle.ng_layout.specs.Stands.{stretch}
use Rattle.ng_layout.proofs.ImageLemmas.{stretch-at}
use Rattle.ng_layout.proofs.SnapshotLemmas.{table-more, table-whole, table-beyond}
use Rattle.ng_journal.specs.Private.SnapshotRead.{IsTableOf}

abbrev row_of : ℕ → Image → ℕ → List ℕ
row_of first image = stretch first snapshot_size image

row-at : (first n : ℕ) (image : Image) (bytes : List ℕ) → n < 85 → bytes ≡ image (first + 1 + n) → bytes ≡ row_of first image (1 + n)
row-at first n image bytes lt is =
    let place : first + 1 + n ≡ first + (1 + n) = omega arith in
    is ∙ ap image place ∙ sym (stretch-at first snapshot_size image (1 + n) (omega arith))

-- one more sector
pub pass : (first n : ℕ) (begun now after : Trace) (old new : List ℤ) (bytes : List ℕ) → n < 85 → (now ≡ begun)
    × TableTo old n (row_of first (reads begun)) → (after ≡ now) × (bytes ≡ reads now (first + 1 + n))
    → TakesValues old new (64 * n) bytes → (after ≡ begun) × TableTo new (n + 1) (row_of first (reads begun))
pass first n begun now after old new bytes lt so_far read taken =
    let is : bytes ≡ row_of first (reads begun) (1 + n) = row-at first n (reads begun) bytes lt
    (read.1 ∙ ap (λ (l : Trace). reads l (first + 1 + n)) so_far.0) in (
      read.0 ∙ so_far.0,
      table-more old new n (row_of first (reads begun)) so_far.1 (subst (λ (b : List ℕ). TakesValues old new (64 * n) b) is taken),
    )

pub damaged : (first n : ℕ) (begun now after : Trace) (old new : List ℤ) (bytes : List ℕ) → n < 85 → (now ≡ begun)
    × TableTo old n (row_of first (reads begun)) → (after ≡ now) × (bytes ≡ reads now (first + 1 + n))
    → IsBeyond (64 * n) bytes → (after ≡ begun) × IsTableOf first new (reads begun) false
damaged first n begun now after old new bytes lt so_far read beyond =
    let is : bytes ≡ row_of first (reads begun) (1 + n) = row-at first n (reads begun) bytes lt
    (read.1 ∙ ap (λ (l : Trace). reads l (first + 1 + n)) so_far.0) in (
      read.0 ∙ so_far.0,
      table-beyond n (row_of first (reads begun)) lt (subst (λ (b : List ℕ). IsBeyond (64 * n) b) is beyond),
    )

pub whole : (first n : ℕ) (begun now : Trace) (table : List ℤ) → n ≡ 85 → (now ≡ begun)
    × TableTo table n (row_of first (reads begun)) → (now ≡ begun) × IsTableOf first table (reads begun) true
whole first n begun now table all so_far =
    let w = table-whole table (row_of first (reads begun)) (subst (λ (k : ℕ). TableTo table k (row_of first (reads begun))) all so_far.1) in
    (so_far.0, (w.is, w.counted))
