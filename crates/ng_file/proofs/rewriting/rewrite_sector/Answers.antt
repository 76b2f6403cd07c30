use Rattle.std.proofs.Common.{◌≡◌, ◌*◌, length, arith}
use Rattle.std.specs.Prelude.{IsOkAnd}
use Rattle.ng_file.proofs.RewriteLemmas.{stays-again}
use Rattle.ng_file.proofs.WeakPromiseLemmas.{again, nothing, undone}
use Rattle.ng_file.proofs.rewriting.rewrite_sector.Goals as goal

pub returns-clause-same : goal.returns-clause-same
returns-clause-same g c =
    let whole : length c.read_at.new.into ≡ 512 = omega (arith, c.read_at.array_long) in
    stays-again c.write_at.result (c.args.sector * 512) c.read_at.new.into _ _ _ whole c.in_ok-read_at.ensures.value
    c.read_at.ensures.bytes c.write_at.ensures.ok c.write_at.ensures.err

pub returns-in_err-read_at-clause-weakly : goal.returns-in_err-read_at-clause-weakly
returns-in_err-read_at-clause-weakly g c =
    nothing (g.S.Storage.content c.args.file.now) (λ held n. IsOkAnd c.from_residual.result (λ _. n ≡ c.args.sector))
    (λ held n. undone c.from_residual.result (λ _. n ≡ c.args.sector) c.from_residual.ensures.0) c.read_at.ensures.weakly

pub returns-clause-weakly : goal.returns-clause-weakly
returns-clause-weakly g c =
    again c.write_at.result (g.S.Storage.content c.args.file.now) c.args.sector (c.args.sector * 512) c.read_at.new.into (omega arith)
    c.in_ok-read_at.ensures.value c.read_at.ensures.weakly c.write_at.ensures.weakly
