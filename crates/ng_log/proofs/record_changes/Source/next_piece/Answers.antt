use Rattle.std.proofs.Common.{◌∙◌, ℕ, take, drop, sym, ap, arith}
use Rattle.std.proofs.lemmas.List.{take_min, drop_min}
use Rattle.ng_log.specs.RecordChanges.{changes_left}
use Rattle.ng_log.proofs.DifferencePieceLemmas.{taken-piece, taken-rest}
use Rattle.ng_log.proofs.record_changes.Source.next_piece.Goals as goal

pub returns-in-Between-clause-piece : goal.returns-in-Between-clause-piece
returns-in-Between-clause-piece g c =
    taken-piece _ _ _ _ _ c.next_differences-piece.ensures ∙ ap (λ s. take 48 (changes_left s)) (sym c.in-Between.is)

pub returns-in-Between-clause-rest : goal.returns-in-Between-clause-rest
returns-in-Between-clause-rest g c =
    taken-rest _ _ _ _ _ c.next_differences-piece.ensures ∙ ap (λ s. drop 48 (changes_left s)) (sym c.in-Between.is)

pub returns-in-Listed-clause-piece : goal.returns-in-Listed-clause-piece
returns-in-Listed-clause-piece g c =
    let changes = c.in-Listed.changes.now in
    let made = rw c.unwrap.ensures at c.try_from.ensures in
    made.0 ∙ c.split_at.ensures.front ∙ ap (λ (n : ℕ). take n changes) c.min.ensures ∙ take_min 48 changes
    ∙ ap (λ s. take 48 (changes_left s)) (sym c.in-Listed.is)

pub returns-in-Listed-clause-rest : goal.returns-in-Listed-clause-rest
returns-in-Listed-clause-rest g c =
    let changes = c.in-Listed.changes.now in
    c.split_at.ensures.back ∙ ap (λ (n : ℕ). drop n changes) c.min.ensures ∙ drop_min 48 changes
    ∙ ap (λ s. drop 48 (changes_left s)) (sym c.in-Listed.is)

pub next_differences-piece-requires : goal.next_differences-piece-requires
next_differences-piece-requires g c = grind arith

pub min-requires : goal.min-requires
min-requires g c = omega arith

pub split_at-requires : goal.split_at-requires
split_at-requires g c = omega arith

pub try_from-requires : goal.try_from-requires
try_from-requires g c = omega arith

pub unwrap-requires : goal.unwrap-requires
unwrap-requires g c = grind arith

pub returns-in-Between-clause-compared : goal.returns-in-Between-clause-compared
returns-in-Between-clause-compared g c = omega arith

pub returns-in-Listed-clause-compared : goal.returns-in-Listed-clause-compared
returns-in-Listed-clause-compared g c = omega arith
