use Rattle.std.proofs.Common.{◌∙◌, ap, length, replicate, lit≤, arith}
use Rattle.ng_layout.specs.Stored.{StoredModel}
use Rattle.ng_layout.proofs.ByteLemmas.{number-from, bytes-from}
use Rattle.ng_layout.proofs.SectorLemmas.{bytes-zeros}
use Rattle.ng_layout.proofs.stored.Stored.first_sector.Goals as goal

pub returns : goal.returns
returns g c =
    let s0 = replicate 512 0 in
    let s1 = c.put_u16.new.bytes in
    let s2 = c.encode.new.bytes in
    let e = c.encode.ensures in
    record {
      state = λ first. e.holds;
      slots = λ first. number-from 2 456 456 s1 s2 e.beyond (lit≤ tt) ∙ c.put_u16.ensures.written
          ∙ c.slots.ensures.value ∙ ap (λ (s : StoredModel). length s.tools) c.self.view_is;
      rest = λ first. bytes-from 54 456 458 s1 s2 e.beyond (lit≤ tt)
          ∙ bytes-from 54 458 458 s0 s1 c.put_u16.ensures.beyond (lit≤ tt) ∙ bytes-zeros 54 458 512 (lit≤ tt);
      values = λ i later. absurd (omega arith);
    }
