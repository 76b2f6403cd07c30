use Rattle.std.proofs.Common.{◌≡◌, ℕ, List, sym, ◌∙◌, ap, subst, take}
use Rattle.std.proofs.lemmas.Result.{IfOk-weaker}
use Rattle.ng_rig.specs.Trace.{Trace, Began, IsStop, reads, items, trace_at}
use Rattle.ng_rig.specs.RecordedCalls.{contents, trace_of_calls}
use Rattle.ng_rig.specs.Stops.{durable_image}
use Rattle.ng_rig.specs.Memory.{trace_of}
use Rattle.ng_rig.specs.declared.call.Call.{Call}
use Rattle.ng_rig.proofs.TraceLemmas.{trace_at-trace_of_calls}
use Rattle.ng_rig.proofs.ReplayLemmas.{within_take}
use Rattle.ng_rig.proofs.ReachableStopLemmas.{reached_at, stop-durable_image}
use Rattle.ng_rig.proofs.memory.MemoryRig.stopped.Goals as goal

-- the image that is left, in terms of the trace at the moment
left : (first was : List (List ℕ)) (calls part : List Call) (n : ℕ) (keep : List ℕ) (image : ℕ → List ℕ)
    → was ≡ first → part ≡ take n calls → image ≡ durable_image (trace_of_calls was part) keep
    → image ≡ durable_image (trace_at n (trace_of_calls first calls)) keep
left first was calls part n keep image e p is =
    is ∙ ap (λ (s : List (List ℕ)). durable_image (trace_of_calls s part) keep) e
    ∙ ap (λ (cs : List Call). durable_image (trace_of_calls first cs) keep) p
    ∙ sym (ap (λ (l : Trace). durable_image l keep) (trace_at-trace_of_calls n first calls))

pub stop_image-requires : goal.stop_image-requires
stop_image-requires g c = rw (c.deref.ensures.value, c.before-2.ensures) (within_take _ _ c.args.n c.args.self.now.within)

pub holding-requires : goal.holding-requires
holding-requires g c = c.in_ok-image.ensures.whole (rw c.deref.ensures.value c.args.self.now.first_whole)

pub returns-in_err-image-clause-every : goal.returns-in_err-image-clause-every
returns-in_err-image-clause-every g c = reached_at c.args.n c.args.self.now.first.items c.args.self.now.calls.items c.args.self.now.within

pub returns-clause-exact : goal.returns-clause-exact
returns-clause-exact g c =
    let first = c.args.self.now.first.items in
    let calls = c.args.self.now.calls.items in
    let e = left first _ calls _ c.args.n c.args.keep.now _ c.deref.ensures.value c.before-2.ensures c.in_ok-image.ensures.image in
    IfOk-weaker c.holding.result (λ rig. trace_of rig ≡ Began (contents c.in_ok-image.image.items))
    (λ rig. trace_of rig ≡ Began (durable_image (trace_at c.args.n (trace_of_calls first calls)) c.args.keep.now))
    (λ rig h. h ∙ ap (λ (image : ℕ → List ℕ). Began image) e)
    c.holding.ensures.trace

pub returns-clause-only : goal.returns-clause-only
returns-clause-only g c =
    let first = c.args.self.now.first.items in
    let calls = c.args.self.now.calls.items in
    let L = trace_at c.args.n (trace_of_calls first calls) in
    let e = left first _ calls _ c.args.n c.args.keep.now _ c.deref.ensures.value c.before-2.ensures c.in_ok-image.ensures.image in
    IfOk-weaker c.holding.result (λ rig. trace_of rig ≡ Began (contents c.in_ok-image.image.items)) (λ rig. IsStop L (reads (trace_of rig)) (items L))
    (λ rig h. subst (λ (image : ℕ → List ℕ). IsStop L image (items L)) (sym (ap (λ (l : Trace). reads l) h ∙ e)) (stop-durable_image L c.args.keep.now))
    c.holding.ensures.trace

pub returns-clause-every : goal.returns-clause-every
returns-clause-every g c = reached_at c.args.n c.args.self.now.first.items c.args.self.now.calls.items c.args.self.now.within
