use Rattle.std.proofs.Common.{◌≡◌, List, [], ◌∷◌, ◌++◌, MatchOption, subst}
use Rattle.ng_session.specs.Planned.{PlannedModel, KnownModel}
use Rattle.ng_session.proofs.PlannedLineLemmas.{last_copied}
use Rattle.ng_session.proofs.known_lines.KnownLines.last.Goals as goal

pub returns : goal.returns
returns g c = subst (λ (k : KnownModel). MatchOption c.back.result (k.ahead ≡ []) (λ p. (ps : List PlannedModel)
    × (k.ahead ≡ ps ++ p.now ∷ []))) c.self.view_is
    (last_copied c.back.result c.self.inside.ahead.items c.back.ensures)
