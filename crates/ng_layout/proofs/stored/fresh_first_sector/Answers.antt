use Rattle.std.proofs.Common.{◌∙◌, replicate, subst, None, lit≤, arith}
use Rattle.ng_state.specs.declared.modal_state.ModalState.{ModalState}
use Rattle.ng_layout.specs.Encoding.{HoldsDecodedState}
use Rattle.ng_layout.proofs.ByteLemmas.{number-from, bytes-from}
use Rattle.ng_layout.proofs.SectorLemmas.{bytes-zeros, number-zeros}
use Rattle.ng_layout.proofs.stored.fresh_first_sector.Goals as goal

pub returns : goal.returns
returns c = λ program_limit.
    let s0 = replicate 512 0 in
    let s1 = c.encode.new.bytes in
    let e = c.encode.ensures in
    record {
      state = λ first. subst
          (λ (m : ModalState). HoldsDecodedState 0 (record { entries = 0; place = 0; modal = m; half = None }) s1)
          c.fresh.ensures (e.holds 0 (lit≤ tt));
      slots = λ first. number-from 2 456 456 s0 s1 e.beyond (lit≤ tt) ∙ number-zeros 2 456 512;
      rest = λ first. bytes-from 54 456 458 s0 s1 e.beyond (lit≤ tt) ∙ bytes-zeros 54 458 512 (lit≤ tt);
      values = λ i later. absurd (omega arith);
    }
