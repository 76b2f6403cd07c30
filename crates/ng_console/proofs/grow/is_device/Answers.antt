use Rattle.std.proofs.Common.{◌≡◌, ◌∙◌, List, ℕ, Option, IfSome, subst}
use Rattle.std.specs.Prelude.{nat_le}
use Rattle.ng_layout.specs.Header.{header_in}
use Rattle.ng_file.specs.Bytes.{sector_of}
use Rattle.ng_console.specs.Grow.{large_bytes}
use Rattle.ng_console.proofs.DeviceHeaderLemmas.{by_headers}
use Rattle.ng_console.proofs.grow.is_device.Goals as goal

pub returns-clause-value : goal.returns-clause-value
returns-clause-value g c =
    let content : Option (List ℕ) = g.S.Storage.content c.args.file.now in
    let after_length : g.S.Storage.content c.length.new.self ≡ content = c.in_ok-length.ensures.bytes in
    let after_even : g.S.Storage.content c.read_header.new.file ≡ content = c.in_ok-even.ensures.stays ∙ after_length in
    by_headers content c.in_ok-length.length c.in_ok-even.even c.in_ok-odd.odd c.is_either.result c.in_ok-length.ensures.value c.if-length-lt-LEAST_BYTES.false
    (subst (λ (o : Option (List ℕ)).
    IfSome o (λ held. c.in_ok-even.even ≡ header_in (nat_le large_bytes c.in_ok-length.length) 0
    (sector_of 0 held))) after_length c.in_ok-even.ensures.value)
    (subst (λ (o : Option (List ℕ)).
    IfSome o (λ held. c.in_ok-odd.odd ≡ header_in (nat_le large_bytes c.in_ok-length.length) 1
    (sector_of 1 held))) after_even c.in_ok-odd.ensures.value)
    c.is_either.ensures
