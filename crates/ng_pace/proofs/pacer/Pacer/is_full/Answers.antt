use Rattle.std.proofs.Common.{rules, ap, ◌≡◌, length, deque_len, deque_capacity}
use Rattle.std.specs.Prelude.{nat_le}
use Rattle.ng_pace.proofs.RestLemmas.{length-lines_of}
use Rattle.ng_pace.proofs.pacer.Pacer.is_full.Goals as goal

pub returns : goal.returns
returns g c =
    let len : deque_len c.self.inside.slots ≡ length c.self.inside.slots.items = search rules in
    rw (← c.self.view_is, c.capacity.ensures, c.len.ensures, length-lines_of c.self.inside.slots.items)
    (ap (λ n. nat_le (deque_capacity c.self.inside.slots) n) len)
