use Rattle.std.proofs.Common.{◌≡◌, ◌+◌, [], ◌∷◌, ◌++◌, List, length, ap, sym, ◌∙◌, subst, arith}
use Rattle.std.specs.Prelude.{All}
use Rattle.std.proofs.lemmas.List.{length_push}
use Rattle.std.proofs.lemmas.List.Elements.{All-pop, All-push}
use Rattle.std.specs.Prelude.{Some}
use Rattle.ng_desk.specs.Calls.{Seated}
use Rattle.ng_desk_tests.proofs.memory.call_once.Goals as goal

pub close-controller-requires : goal.close-controller-requires
close-controller-requires g c =
    let P = λ (s : Seated g.row.A.Denot). s.parts ≡ 1 in
    let first = c.in-Ok.made.1.items in
    let rest = c.pop.new.self.items in
    let seat = c.call-reply.new.seat in
    let all : All P first = λ k d within. ap (λ (s : Seated g.row.A.Denot). s.parts) (c.in-Ok.ensures.seats.1 k d within) in
    let popped : first ≡ rest ++ c.in-Some.seat ∷ [] = c.in-Some.ensures.items in
    let pushed : c.push_reserved.new.self.items ≡ rest ++ seat ∷ [] = c.push_reserved.ensures.items in
    let size : length first ≡ length rest + 1 = ap (λ (l : List (Seated g.row.A.Denot)). length l) popped ∙ length_push rest c.in-Some.seat in (
      ap (λ (l : List (Seated g.row.A.Denot)). length l) pushed ∙ omega (arith, length_push rest seat, size, c.in-Ok.ensures.seats.0, c.requires.parts.1),
      subst (λ (l : List (Seated g.row.A.Denot)). All P l) (sym pushed)
          (All-push P rest seat (All-pop P first rest (Some c.in-Some.seat) popped all).0
          c.call-reply.ensures.seat),
    )
