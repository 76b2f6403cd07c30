use Rattle.std.proofs.lemmas.Grind.{common_steps}
use Rattle.std.proofs.Common.{◌∙◌, length, ap, arith, rules}
use Rattle.ng_layout.specs.Stored.{StoredModel}
use Rattle.ng_session.proofs.BareBlockLemmas.{base_on_long}
use Rattle.ng_session.proofs.known_lines.KnownLines.find_base.Goals as goal

pub invariant_of-self : goal.invariant_of-self
invariant_of-self g c =
    ap (λ (x : StoredModel). length x.setup.params) c.finish_in.ensures
    ∙ base_on_long c.take_over.new.self c.in-Some.block c.in-Some.block.stage
    ∙ ap (λ (x : StoredModel). length x.setup.params) c.take_over.ensures ∙ c.requires.storable.table

pub is_empty-requires : goal.is_empty-requires
is_empty-requires g c κs = search rules

pub returns-then-not-is_empty-clause-known : goal.returns-then-not-is_empty-clause-known
returns-then-not-is_empty-clause-known g c = grind arith

pub returns-then-not-is_empty-clause-first : goal.returns-then-not-is_empty-clause-first
returns-then-not-is_empty-clause-first g c = grind arith

pub returns-then-not-is_empty-clause-later : goal.returns-then-not-is_empty-clause-later
returns-then-not-is_empty-clause-later g c = grind arith

pub take_over-requires-clause-own : goal.take_over-requires-clause-own
take_over-requires-clause-own g c = omega arith

pub take_over-requires-clause-other : goal.take_over-requires-clause-other
take_over-requires-clause-other g c = omega arith

pub finish_in-requires : goal.finish_in-requires
finish_in-requires g c = grind arith

pub invariant_of-self-in_default : goal.invariant_of-self-in_default
invariant_of-self-in_default g c = grind arith

pub returns-in-Some-clause-known : goal.returns-in-Some-clause-known
returns-in-Some-clause-known g c = grind arith

pub returns-in-Some-clause-first : goal.returns-in-Some-clause-first
returns-in-Some-clause-first g c = grind arith

pub returns-in-Some-clause-later : goal.returns-in-Some-clause-later
returns-in-Some-clause-later g c = grind (arith, common_steps)

pub returns-in_default-clause-known : goal.returns-in_default-clause-known
returns-in_default-clause-known g c = grind arith

pub returns-in_default-clause-first : goal.returns-in_default-clause-first
returns-in_default-clause-first g c = grind arith

pub returns-in_default-clause-later : goal.returns-in_default-clause-later
returns-in_default-clause-later g c = grind (arith, common_steps)
