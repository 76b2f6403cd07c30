use Rattle.std.proofs.Common.{◌∙◌, ap}
use Rattle.ng_file.specs.Bytes.{sector_of, with_bytes}
use Rattle.ng_dialogue_tests.proofs.lasting.LastingStorage.write_at.Goals as goal
use Rattle.ng_dialogue_tests.proofs.ByteWriteLemmas.{besides}

pub returns-clause-promised : goal.returns-clause-promised
returns-clause-promised c =
    record {
      keeps = λ honest. honest;
      back = λ honest. honest;
      holds = λ honest m at n content may.
          besides c.args.place c.args.bytes.now c.args.self.now.bytes.items c.told-bytes c.in_ok-begins.ensures.1 m at n content
          (may ∙ ap (sector_of n) (c.put.ensures ∙ ap (λ p. with_bytes p c.args.bytes.now c.args.self.now.bytes.items) c.in_ok-begins.ensures.0));
    }
