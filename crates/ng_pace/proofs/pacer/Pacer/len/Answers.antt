use Rattle.std.proofs.Common.{arith, rules, ◌≡◌, length, deque_len}
use Rattle.ng_pace.proofs.RestLemmas.{length-lines_of}
use Rattle.ng_pace.proofs.pacer.Pacer.len.Goals as goal

pub returns : goal.returns
returns g c =
    let len : deque_len c.self.inside.slots ≡ length c.self.inside.slots.items = search rules in
    rw (← c.self.view_is) (omega (arith, c.len.ensures, len, length-lines_of c.self.inside.slots.items))
