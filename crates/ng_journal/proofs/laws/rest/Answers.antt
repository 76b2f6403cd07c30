use Rattle.ng_journal.proofs.AtRestLemmas.{at_rest, rests_alone}
use Rattle.ng_journal.proofs.laws.rest.Goals as goal

pub returns : goal.returns
returns c = record {
  alone = λ trace header standing image handed at since. rests_alone trace header standing image handed at since;
  at_end = λ trace header standing end at. at_rest trace header standing at;
}
