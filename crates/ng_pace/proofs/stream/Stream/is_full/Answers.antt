use Rattle.std.proofs.Common.{arith, rules, refl, ◌≡◌, ◌+◌, ◌*◌, ◌<◌, ◌≤◌, length, deque_len}
use Rattle.std.proofs.lemmas.Bool.Decides.{nat_tests}
use Rattle.ng_pace.specs.Stream.{timed_waiting}
use Rattle.ng_pace.proofs.WaitingPulseLemmas.{few-most}
use Rattle.ng_pace.proofs.FinalLimitLemmas.{length-timed_waiting}
use Rattle.ng_pace.proofs.stream.Stream.is_full.Goals as goal

pub returns-clause-full : goal.returns-clause-full
returns-clause-full g c =
    let len : deque_len c.self.inside.waiting ≡ length c.self.inside.waiting.items = search rules in
    let both : c.len.result + c.len-2.result ≡ length c.self.inside.pacer.known + length (timed_waiting c.self.inside.waiting.items)
    = omega (arith, c.len.ensures, c.len-2.ensures, len, length-timed_waiting c.self.inside.waiting.items) in
    rw (← c.self.view_is, c.capacity.ensures, both) refl

pub returns-clause-known : goal.returns-clause-known
returns-clause-known g c = rw (← c.self.view_is) (λ full enough.
    let len : deque_len c.self.inside.waiting ≡ length c.self.inside.waiting.items = search rules in
    let few : length c.self.inside.waiting.items < 5 * c.self.inside.limits.half + 15
    = few-most c.self.inside.limits c.self.inside.shape.chord (length c.self.inside.waiting.items) c.self.invariant.limits_are.half c.self.invariant.few in
    let none : c.self.inside.pacer.capacity ≤ length c.self.inside.pacer.known + length c.self.inside.waiting.items
    = grind (arith, nat_tests, full, c.capacity.ensures, c.len.ensures, c.len-2.ensures, len) in
    omega (arith, few, none, enough))
