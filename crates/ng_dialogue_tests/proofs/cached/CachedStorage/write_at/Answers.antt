use Rattle.std.proofs.Common.{◌∙◌, ◌++◌, ◌∷◌, [], ap, subst}
use Rattle.ng_file.specs.Bytes.{with_bytes}
use Rattle.ng_dialogue_tests.proofs.CacheLemmas.{besides-cached, may_hold}
use Rattle.ng_dialogue_tests.proofs.cached.CachedStorage.write_at.Goals as goal

pub returns-clause-promised : goal.returns-clause-promised
returns-clause-promised c =
    let s = c.args.self.now in
    let held = c.put.ensures.put ∙ ap (λ p. with_bytes p c.args.bytes.now s.bytes.items) c.in_ok-begins.ensures.0 in
    record {
      keeps = λ honest. honest;
      back = λ honest. honest;
      holds = λ honest m at n content may.
          besides-cached c.args.place c.args.bytes.now s.bytes.items s.disk.items s.pending.items c.told-bytes c.in_ok-begins.ensures.1 m at n content
          (subst (λ b. may_hold s.disk.items b (s.pending.items ++ (c.args.place, c.args.bytes.now) ∷ []) n content) held
          (subst (λ p. may_hold s.disk.items c.put.new.held.items p n content) c.in_ok-push.ensures.items may));
    }
