use Rattle.std.proofs.Common.{◌≡◌, ◌<◌, IfSome, Some}
use Rattle.ng_file.specs.WeakPromise.{IfWeaklyPromised, Rewrote}
use Rattle.ng_file.proofs.rewriting.rewrite.Given as goal

abbrev pub invariant-loop-sector : goal.invariant-loop-sector
invariant-loop-sector g l =
    let content = g.S.Storage.content in
    let weak = g.S.Storage.weak_promise in
    record {
      same : IfSome (content l.fn.file) (λ held. content l.file ≡ Some held);
      honest : (g.S.Storage.promise l.fn.file).honest → (g.S.Storage.promise l.file).honest;
      weakly : IfWeaklyPromised (weak l.fn.file) (weak l.file)
          (IfSome (content l.fn.file) (λ held. Rewrote held (weak l.fn.file) (weak l.file) (λ n. n < l.sector)));
    }
