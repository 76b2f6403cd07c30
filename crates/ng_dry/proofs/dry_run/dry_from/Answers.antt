use Rattle.std.proofs.Common.{arith, [], ◌≡◌, ap, ◌<◌, ◌≤◌, ◌++◌, length-take, take, length, rules}
use Rattle.ng_block.specs.Program.{TermsModel}
use Rattle.ng_dry.specs.Dry.{output_from}
use Rattle.ng_dry.specs.declared.ending.DryFault.TheVariants.{Memory}
use Rattle.ng_dry.specs.Private.Parts.{DryRunModel, rest_of}
use Rattle.ng_dry.proofs.CloseLemmas.{Consumes-none, run_end, run_breaks, run_ends, run_goes, run_none, run_stops, Goes-begun}
use Rattle.ng_streams.proofs.KnownBytesLemmas.{Consumes-nil, Consumes-trans}
use Rattle.ng_dry.proofs.dry_run.dry_from.Goals as goal

pub returns-in-Err : goal.returns-in-Err
returns-in-Err g c =
    let terms : TermsModel = record { block_delete = c.args.block_delete; tools = c.args.tools.now; geometry = c.args.geometry.now } in
    run_none _ _ (output_from terms c.args.state) Memory

pub returns-in-Err-read : goal.returns-in-Err-read
returns-in-Err-read g c =
    let terms : TermsModel = record { block_delete = c.args.block_delete; tools = c.args.tools.now; geometry = c.args.geometry.now } in
    run_stops _ _ _ _ _ _ (output_from terms c.args.state) c.loop-pass.splitter.run c.loop-pass.splitter.partial.items
    c.break_off.result c.loop-pass.invariant.0.1 c.loop-pass.invariant.0.2 c.break_off.ensures

pub returns-in-Ok-eq0 : goal.returns-in-Ok-eq0
returns-in-Ok-eq0 g c =
    let terms : TermsModel = record { block_delete = c.args.block_delete; tools = c.args.tools.now; geometry = c.args.geometry.now } in
    let r = c.in-Ok-eq0.ensures.bytes in
    let has_bytes : 0 < length c.read.new.buf = omega arith in
    run_end _ _ _ _ _ _ _ (output_from terms c.args.state)
    (λ more. rest_of c.loop-pass.splitter.run c.loop-pass.splitter.partial.items more) _ c.loop-pass.invariant.0.1
    (Consumes-none _ _ _ _ c.in-Ok-eq0.field-0-test r.0) (r.1 c.in-Ok-eq0.field-0-test has_bytes) c.loop-pass.invariant.0.2 c.close.ensures

pub returns-in-Ok-Some : goal.returns-in-Ok-Some
returns-in-Ok-Some g c =
    let terms : TermsModel = record { block_delete = c.args.block_delete; tools = c.args.tools.now; geometry = c.args.geometry.now } in
    let r = c.in-Ok-read.ensures.bytes in
    run_ends _ _ _ _ _ _ _ _ (output_from terms c.args.state)
    (λ more. rest_of c.loop-pass.splitter.run c.loop-pass.splitter.partial.items more) c.in-Ok-Some.ended
    c.loop-pass.invariant.0.1 r.0 c.loop-pass.invariant.0.2
    (rw c.in-Ok-Some.field-0-is at c.in-Ok-Some.ensures.step)

pub returns-in-Err-take : goal.returns-in-Err-take
returns-in-Err-take g c =
    let terms : TermsModel = record { block_delete = c.args.block_delete; tools = c.args.tools.now; geometry = c.args.geometry.now } in
    let r = c.in-Ok-read.ensures.bytes in
    run_breaks _ _ _ _ _ _ _ _ (output_from terms c.args.state)
    (λ more. rest_of c.loop-pass.splitter.run c.loop-pass.splitter.partial.items more) c.in-Err-take.fault
    c.loop-pass.invariant.0.1 r.0 c.loop-pass.invariant.0.2 c.in-Err-take.ensures.step

pub loop-pass-preserved : goal.loop-pass-preserved
loop-pass-preserved g c =
    let terms : TermsModel = record { block_delete = c.args.block_delete; tools = c.args.tools.now; geometry = c.args.geometry.now } in
    let r = c.in-Ok-read.ensures.bytes in
    let so_far = c.loop-pass.invariant.0 in
    let bytes = take c.in-Ok-read.n c.read.new.buf in
    let taken : length bytes ≤ 8192 = simp length-take (omega arith) in (
      (
        so_far.0 ++ bytes,
        Consumes-trans _ _ _ _ _ so_far.1 r.0,
        run_goes _ _ _ so_far.0 bytes (output_from terms c.args.state)
            (λ more. rest_of c.loop-pass.splitter.run c.loop-pass.splitter.partial.items more)
            (λ more. rest_of c.take.new.self.run c.take.new.self.partial.items more) so_far.2
            (rw c.in-Ok-None.field-0-is at c.in-Ok-None.ensures.step),
      ),
      c.take.ensures.partial,
      omega (arith, c.take.ensures.number, taken),
    )

pub returns : goal.returns
returns g c =
    let terms : TermsModel = record { block_delete = c.args.block_delete; tools = c.args.tools.now; geometry = c.args.geometry.now } in
    run_stops _ _ _ _ _ _ (output_from terms c.args.state) c.loop-pass.splitter.run c.loop-pass.splitter.partial.items
    c.break_off-2.result c.loop-pass.invariant.0.1 c.loop-pass.invariant.0.2 c.break_off-2.ensures

pub loop-pass-init : goal.loop-pass-init
loop-pass-init g c =
    let terms : TermsModel = record { block_delete = c.args.block_delete; tools = c.args.tools.now; geometry = c.args.geometry.now } in
    let first : c.in-Ok.run'.number ≡ 1 = ap (λ (p : DryRunModel). p.number) c.in-Ok.ensures in
    (([], Consumes-nil _, Goes-begun _ terms _ _ _ c.in-Ok.ensures c.new-2.ensures), rw c.new-2.ensures tt, omega (arith, first))

pub new-requires : goal.new-requires
new-requires g c κs = grind arith

pub new-requires-2 : goal.new-requires-2
new-requires-2 g c = omega arith

pub slice_bounds-read-end : goal.slice_bounds-read-end
slice_bounds-read-end g c = omega arith

pub read-requires : goal.read-requires
read-requires g c κs = grind arith

pub break_off-requires : goal.break_off-requires
break_off-requires g c κs = grind arith

pub drop-splitter-requires : goal.drop-splitter-requires
drop-splitter-requires g c κs = search rules

pub drop-splitter-requires-in-Err-read : goal.drop-splitter-requires-in-Err-read
drop-splitter-requires-in-Err-read g c κs = search rules

pub close-requires-clause-partial : goal.close-requires-clause-partial
close-requires-clause-partial g c = grind arith

pub close-requires-clause-number : goal.close-requires-clause-number
close-requires-clause-number g c = omega arith

pub drop-splitter-requires-in-Ok-eq0 : goal.drop-splitter-requires-in-Ok-eq0
drop-splitter-requires-in-Ok-eq0 g c κs = search rules

pub drop-splitter-requires-in-Ok-eq0-2 : goal.drop-splitter-requires-in-Ok-eq0-2
drop-splitter-requires-in-Ok-eq0-2 g c κs = search rules

pub slice_bounds-buffer-end : goal.slice_bounds-buffer-end
slice_bounds-buffer-end g c = grind arith

pub slice_bounds-take-end : goal.slice_bounds-take-end
slice_bounds-take-end g c = grind arith

pub take-requires-clause-partial : goal.take-requires-clause-partial
take-requires-clause-partial g c = grind arith

pub take-requires-clause-number : goal.take-requires-clause-number
take-requires-clause-number g c = grind arith

pub drop-splitter-requires-in-Ok-Some : goal.drop-splitter-requires-in-Ok-Some
drop-splitter-requires-in-Ok-Some g c κs = search rules

pub drop-splitter-requires-in-Ok-Some-2 : goal.drop-splitter-requires-in-Ok-Some-2
drop-splitter-requires-in-Ok-Some-2 g c κs = search rules

pub drop-splitter-requires-in-Err-take : goal.drop-splitter-requires-in-Err-take
drop-splitter-requires-in-Err-take g c κs = search rules

pub drop-splitter-requires-in-Err-take-2 : goal.drop-splitter-requires-in-Err-take-2
drop-splitter-requires-in-Err-take-2 g c κs = search rules

pub loop-pass-smaller : goal.loop-pass-smaller
loop-pass-smaller g c = omega arith

pub break_off-requires-2 : goal.break_off-requires-2
break_off-requires-2 g c κs = grind arith

pub drop-splitter-requires-2 : goal.drop-splitter-requires-2
drop-splitter-requires-2 g c κs = search rules

pub drop-splitter-requires-3 : goal.drop-splitter-requires-3
drop-splitter-requires-3 g c κs = search rules
