use Rattle.ng_console.proofs.FileLifetimeLemmas.{from-format, from-image}
use Rattle.ng_console.proofs.LengthenedDeviceLemmas.{grow-leaves}
use Rattle.ng_console.proofs.laws.lifetime_in_files.Goals as goal

pub returns-clause-formatted : goal.returns-clause-formatted
returns-clause-formatted g c = from-format g.S.Storage.content g.S.Storage.promise c.stops.ensures.at c.lifetime.ensures.formatted

pub returns-clause-found : goal.returns-clause-found
returns-clause-found g c = from-image g.S.Storage.content g.S.Storage.promise c.stops.ensures.at c.lifetime.ensures.found

pub returns-clause-grown : goal.returns-clause-grown
returns-clause-grown g c = λ old new out_old out_new status grows. grow-leaves g.S.Storage.content g.S.Storage.lasting old new out_old out_new status grows
