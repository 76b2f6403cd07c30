use Rattle.std.proofs.Common.{ap, refl, ◌∙◌}
use Rattle.ng_rig.proofs.GuaranteeLemmas.{promised, meaning}
use Rattle.ng_rig.specs.Trace.{reads}
use Rattle.ng_layout.specs.Stored.{StoredModel}
use Rattle.ng_log.proofs.LogScanLemmas.{no_state, exit_all}
use Rattle.ng_log.proofs.scanning.take_record.Goals as goal

pub returns-in-None-clause-read : goal.returns-in-None-clause-read
returns-in-None-clause-read g c =
    promised (record {
      same = refl;
      right = λ there. no_state c.args.header.format c.args.header.length c.args.at c.args.changes c.args.stored.now
          c.args.stored.now (reads (g.R.Rig.seen c.args.rig.now).trace) c.args.first.now
          c.decoded_state_of_part.result there c.decoded_state_of_part.ensures.value c.in-None.is;
    })

pub returns-then-is_whole-clause-read : goal.returns-then-is_whole-clause-read
returns-then-is_whole-clause-read g c =
    let tools_are = ap (λ s. s.tools) c.stored-inside.view_is ∙ ap (λ (s : StoredModel). s.tools) c.stored.view_is in
    let params_are = ap (λ s. s.state.params) c.stored-inside.view_is ∙ ap (λ (s : StoredModel). s.setup.params) c.stored.view_is in
    meaning c.in_ok-is_whole-in-Some.ensures.read (λ q. record {
      same = q.same;
      right = λ there. exit_all c.args.header.format c.args.header.length c.args.at c.args.changes c.args.stored.now
          c.take_decoded_state.new.self (reads (g.R.Rig.seen c.args.rig.now).trace) c.args.first.now
          c.decoded_state_of_part.result there c.decoded_state_of_part.ensures.value c.in-Some.decoded c.in-Some.is
          _ c.take_all_changes.new.table _ c.take_slot.new.tools _ c.in_ok-is_whole-in-Some.is_whole
          c.take_slot.result c.if-is_whole.true c.if-not-take_slot.false params_are tools_are q.right
          c.take_slot.ensures.makes c.take_decoded_state.ensures;
    })
