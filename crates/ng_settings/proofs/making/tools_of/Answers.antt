use Rattle.std.proofs.lemmas.Grind.{common_steps}
use Rattle.std.proofs.Common.{◌≡◌, ◌<◌, ◌+◌, pos, length, sym, rules, arith, append_assoc, length-append, to_z, of_z, w64, ◌∙◌}
use Rattle.ng_settings.proofs.BoundLemmas.{head_within}
use Rattle.ng_settings.proofs.LengthLemmas.{numbers_from, with_number, with_other}
use Rattle.ng_settings.proofs.making.tools_of.Goals as goal
use Rattle.ng_settings.proofs.making.tools_of.Goals.{in-Some+else-slots-eq-SLOTS, in_default}

pub tool_length-requires : goal.tool_length-requires
tool_length-requires c =
    let vs = c.args.lengths.now.items in
    let i = c.loop-value.value-index in
    let n = c.in-Some.nm in
    let lt : i < length vs = omega arith in
    let here = with_number vs i c.value-item.result n lt (rw c.deref-value-items.ensures.value at c.value-item.is) (sym c.in-Some.ensures) in
    let within = head_within (pos 0) (pos 1_000_000_000) n (numbers_from (i + 1) vs) (rw here at c.loop-value.invariant.within) in
    let same : to_z w64 (of_z w64 n) ≡ n = search rules in
    rw same within.0

pub loop-value-preserved : goal.loop-value-preserved
loop-value-preserved c =
    let vs = c.args.lengths.now.items in
    let i = c.loop-value.value-index in
    let lt : i < length vs = omega arith in
    let at = rw c.deref-value-items.ensures.value at c.value-item.is in
    let before = c.loop-value.invariant in
    elim c.match-as_integer.branch [
      | in-Some+else-slots-eq-SLOTS w ↦
          (let n = w.in-Some.nm in
          let here = with_number vs i c.value-item.result n lt at (sym w.in-Some.ensures) in
          let pushed : w.tool_length.result ≡ n = search rules in
          let fits : length c.loop-value.tools < 128 = omega arith in
          rw (w.tools-is, w.push.ensures, pushed)
          (record {
            within = (head_within (pos 0) (pos 1_000_000_000) n (numbers_from (i + 1) vs) (rw here at before.within)).1;
            so_far = before.so_far ∙ rw (here, append_assoc);
            fits = simp length-append (omega arith);
          }))
      | in_default w ↦
          (let here = with_other vs i c.value-item.result lt at (sym w.in_default.ensures) in
          rw w.tools-is
          (record {
            within = rw (← here) before.within;
            so_far = rw (← here) before.so_far;
            fits = before.fits;
          }))
    ]

pub new-tools-requires : goal.new-tools-requires
new-tools-requires c = omega arith

pub deref-value-items-requires : goal.deref-value-items-requires
deref-value-items-requires c κs = search rules

pub loop-value-init : goal.loop-value-init
loop-value-init c = grind arith

pub offset_bounds-value-items-value-index : goal.offset_bounds-value-items-value-index
offset_bounds-value-items-value-index c = omega arith

pub bounds-value-items-value-index : goal.bounds-value-items-value-index
bounds-value-items-value-index c = omega arith

pub as_integer-requires : goal.as_integer-requires
as_integer-requires c = omega arith

pub slots-requires : goal.slots-requires
slots-requires c = omega arith

pub returns-then-slots-eq-SLOTS : goal.returns-then-slots-eq-SLOTS
returns-then-slots-eq-SLOTS c = grind (arith, common_steps)

pub push-requires-clause-fits : goal.push-requires-clause-fits
push-requires-clause-fits c = omega arith

pub push-requires-clause-tool : goal.push-requires-clause-tool
push-requires-clause-tool c = grind arith

pub loop-value-smaller : goal.loop-value-smaller
loop-value-smaller c = omega arith

pub returns : goal.returns
returns c = grind (arith, common_steps)
