use Rattle.std.proofs.Common.{◌≡◌, ◌≤◌, ◌∙◌, ℕ, Some, None, refl, sym, ap, subst, arith}
use Rattle.ng_params.proofs.DifferenceLemmas.{differences-none}
use Rattle.ng_layout.specs.Limits.{greatest_count}
use Rattle.ng_layout.specs.Stored.{DecodedStateModel}
use Rattle.ng_journal.specs.Journal.{JournalModel}
use Rattle.ng_journal.proofs.StoredChangeLemmas.{opens_as}
use Rattle.ng_journal.proofs.journal.Journal.open_segment.Goals as goal

pub commit_update-requires-clause-settled : goal.commit_update-requires-clause-settled
commit_update-requires-clause-settled g c = record {
  changes = sym (differences-none c.args.self.now.saved.setup.params);
  slot = λ change is. absurd (let none : None ≡ Some change = is in cc);
}

pub returns-clause-fails : goal.returns-clause-fails
returns-clause-fails g c =
    let saved_is = ap (λ (v : JournalModel g.row.R.Denot). v.saved.entries) c.self.view_is in
    let few = subst (λ (n : ℕ). n ≤ greatest_count) saved_is c.self.invariant.count in
    let count = ap (λ (d : DecodedStateModel). d.entries) c.decoded_with-decoded.ensures ∙ saved_is in
    opens_as c.commit_update.result c.args.half.now _ c.args.self.now c.commit_update.new.self few count refl
    c.commit_update.ensures.fails

pub copy-requires : goal.copy-requires
copy-requires g c = omega arith

pub decoded_with-decoded-requires : goal.decoded_with-decoded-requires
decoded_with-decoded-requires g c κs = grind arith

pub slice_bounds-commit_update-end : goal.slice_bounds-commit_update-end
slice_bounds-commit_update-end g c = omega arith

pub commit_update-requires-clause-whole : goal.commit_update-requires-clause-whole
commit_update-requires-clause-whole g c = grind arith

pub commit_update-requires-clause-storable : goal.commit_update-requires-clause-storable
commit_update-requires-clause-storable g c = grind arith

pub returns-clause-stores : goal.returns-clause-stores
returns-clause-stores g c = grind arith

pub returns-clause-keeps : goal.returns-clause-keeps
returns-clause-keeps g c = grind arith

pub returns-clause-call : goal.returns-clause-call
returns-clause-call g c = grind arith
