use Rattle.std.proofs.Common.{◌*◌, arith}
use Rattle.ng_file.proofs.sectors.put_at.Goals as goal
use Rattle.ng_file.proofs.StoragePromiseLemmas.{then_besides}

pub returns-clause-promised : goal.returns-clause-promised
returns-clause-promised g c =
    then_besides (512 * c.args.sector) (c.args.sector * 512) c.args.bytes.now (omega arith) c.length.ensures.promised c.write_at.ensures.promised
