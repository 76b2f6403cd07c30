-- Whether bytes are a device's, from their length and the two headers.
use Rattle.std.proofs.Common.{◌≡◌, ◌∙◌, ◌≤◌, ◌*◌, sym, ap, ap₂, ℕ, Bool, List, Option, None, Some, IfSome, is_some, length, arith}
use Rattle.std.specs.Prelude.{◌&&◌, nat_le}
use Rattle.std.proofs.lemmas.Bool.{le-leb}
use Rattle.ng_layout.specs.Areas.{least_size}
use Rattle.ng_layout.specs.Header.{header_in}
use Rattle.ng_layout.specs.Stands.{newer}
use Rattle.ng_layout.specs.declared.header.Header.{Header}
use Rattle.ng_file.specs.Bytes.{sector_of}
use Rattle.ng_console.specs.Grow.{has_header, is_device, large_bytes}

-- if there are enough bytes, only the headers matter
pub by_headers : (content : Option (List ℕ)) (n : ℕ) (even odd : Option Header) (found : Bool) → IfSome content (λ held. n ≡ length held) → 512 * least_size ≤ n
    → IfSome content (λ held. even ≡ header_in (nat_le large_bytes n) 0 (sector_of 0 held))
    → IfSome content (λ held. odd ≡ header_in (nat_le large_bytes n) 1 (sector_of 1 held))
    → found ≡ is_some (newer even odd)
    → IfSome content (λ held. found ≡ is_device held)
by_headers None n even odd found is enough first second either = tt
by_headers (Some held) n even odd found is enough first second either =
    either ∙ ap₂ (λ a b. is_some (newer a b)) first second
    ∙ ap (λ (m : ℕ). is_some (newer (header_in (nat_le large_bytes m) 0 (sector_of 0 held)) (header_in (nat_le large_bytes m) 1 (sector_of 1 held)))) is
    ∙ sym (ap (λ b. b && has_header held) (le-leb (512 * least_size) (length held) (omega arith)))
