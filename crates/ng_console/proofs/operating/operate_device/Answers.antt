use Rattle.std.proofs.Common.{◌≡◌, ◌∙◌, Bool, true, false, ℕ, List, Option, None, Some, Result, Ok, Err, OnOk, IfSome, inl, inr, refl, sym, subst}
use Rattle.std.specs.Prelude.{IfErr}
use Rattle.std.specs.Result.{is_err}
use Rattle.std.proofs.lemmas.Result.{IfOk-weaker}
use Rattle.ng_console.specs.Operating.{LeavesFilesAlone}
use Rattle.ng_console.proofs.operating.operate_device.Goals as goal

-- what holds of a success, if it isn't an error
good : {T E P : Type 0} (r : Result T E) (b : Bool) → b ≡ is_err r → b ≡ false → OnOk r P → P
good (Ok x) b is not_one p = p
good (Err e) b is not_one p = let both : true ≡ false = sym is ∙ not_one in absurd (cc both)

-- what holds in any case
anyway : {T E P : Type 0} (r : Result T E) → P → IfErr r (λ e. P)
anyway (Ok v) p = tt
anyway (Err e) p = p

-- bytes that stayed twice
twice : (old between new : Option (List ℕ)) → IfSome old (λ held. between ≡ Some held) → IfSome between (λ held. new ≡ Some held)
    → IfSome old (λ held. new ≡ Some held)
twice None between new first second = tt
twice (Some held) between new first second = subst (λ (o : Option (List ℕ)). IfSome o (λ held. new ≡ Some held)) first second

alone-twice : {S O E T : Type 0} (r : Result T E) (content : S → Option (List ℕ)) (device settled left : S) (out out_left : O)
    → IfSome (content device) (λ held. content settled ≡ Some held)
    → IfErr r (λ e. LeavesFilesAlone content settled left out out_left) → IfErr r (λ e. LeavesFilesAlone content device left out out_left)
alone-twice (Ok v) content device settled left out out_left same alone = tt
alone-twice (Err e) content device settled left out out_left same alone =
    record { same = twice (content device) (content settled) (content left) same alone.same; out_is = alone.out_is }

pub returns-then-is_err-clause-run : goal.returns-then-is_err-clause-run
returns-then-is_err-clause-run g c =
    IfOk-weaker c.refuse_device.result _ _ (λ status refused. inr (refused, record { same = c.settle.ensures.same; out_is = refl })) c.refuse_device.ensures.run

pub returns-then-is_err-clause-failed : goal.returns-then-is_err-clause-failed
returns-then-is_err-clause-failed g c = anyway c.refuse_device.result (record { same = c.settle.ensures.same; out_is = refl })

pub returns-clause-run : goal.returns-clause-run
returns-clause-run g c =
    IfOk-weaker c.operate_settled.result.0 _ _
    (λ status operates. inl (
      c.settle.new.device,
      record {
        same = c.settle.ensures.same;
        lasts = good c.settle.result c.is_err.result c.is_err.ensures.value c.if-is_err.false c.settle.ensures.lasts;
        honest = λ honest. (
          c.settle.ensures.honest honest,
          good c.settle.result c.is_err.result c.is_err.ensures.value c.if-is_err.false (c.settle.ensures.durable honest),
        );
        weakly = record {
          keeps = c.settle.ensures.weakly.keeps;
          back = c.settle.ensures.weakly.back;
          holds = λ honest.
              good c.settle.result c.is_err.result c.is_err.ensures.value c.if-is_err.false (c.settle.ensures.weakly.holds honest);
        };
      },
      operates,
    ))
    c.operate_settled.ensures.run

pub returns-clause-failed : goal.returns-clause-failed
returns-clause-failed g c =
    alone-twice c.operate_settled.result.0 g.S.Storage.content c.args.device c.settle.new.device c.operate_settled.result.1 c.args.out
    c.operate_settled.result.2 c.settle.ensures.same c.operate_settled.ensures.failed
