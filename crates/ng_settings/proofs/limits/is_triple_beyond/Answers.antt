use Rattle.std.proofs.Common.{◌≡◌, rules}
use Rattle.ng_settings.specs.Causes.{is_beyond}
use Rattle.ng_settings.proofs.BoundLemmas.{three_beyond}
use Rattle.ng_settings.proofs.limits.is_triple_beyond.Goals as goal

pub returns : goal.returns
returns c =
    let x : c.is_beyond-x.result ≡ is_beyond c.args.least c.args.greatest c.args.numbers.x = search rules in
    let y : c.is_beyond-y.result ≡ is_beyond c.args.least c.args.greatest c.args.numbers.y = search rules in
    let z : c.is_beyond-z.result ≡ is_beyond c.args.least c.args.greatest c.args.numbers.z = search rules in
    rw (x, y, z) (three_beyond c.args.least c.args.greatest c.args.numbers)
