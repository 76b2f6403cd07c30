use Rattle.std.proofs.Common.{◌≡◌, rules, ◌∙◌}
use Rattle.ng_settings.specs.Causes.{is_beyond}
use Rattle.ng_settings.proofs.BoundLemmas.{one_beyond}
use Rattle.ng_settings.proofs.limits.is_single_beyond.Goals as goal

pub returns : goal.returns
returns c =
    let found : c.is_beyond.result ≡ is_beyond c.args.least c.args.greatest c.args.number = search rules in
    found ∙ one_beyond c.args.least c.args.greatest c.args.number
