use Rattle.std.proofs.Common.{◌≡◌, ◌∙◌, ℕ, List, Option, None, Some, IfSome, subst}
use Rattle.ng_console.proofs.SettlingLemmas.{settled-device}
use Rattle.ng_console.proofs.operating.settle.Goals as goal

-- bytes that a look, a write of the same and a sync leave
stays : (content mid after now : Option (List ℕ)) → mid ≡ content → IfSome mid (λ held. after ≡ Some held) → now ≡ after
    → IfSome content (λ held. now ≡ Some held)
stays None mid after now same again synced = tt
stays (Some held) mid after now same again synced = synced ∙ subst (λ (o : Option (List ℕ)). IfSome o (λ held. after ≡ Some held)) same again

pub returns-clause-weakly : goal.returns-clause-weakly
returns-clause-weakly g c =
    let content = g.S.Storage.content in
    let old = content c.args.device.now in
    let mid = content c.is_device.new.file in
    let after = content c.rewrite.new.file in
    let now = content c.sync-2.new.self in
    settled-device c.sync-2.result old mid now c.is_device.ensures.stays
    (stays old mid after now c.is_device.ensures.stays c.rewrite.ensures.same c.sync-2.ensures.bytes) c.in_ok-is_device.ensures.weakly
    c.in_ok-rewrite.ensures.weakly c.sync-2.ensures.weakly
