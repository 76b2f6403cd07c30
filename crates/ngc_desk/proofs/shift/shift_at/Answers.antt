use Rattle.std.proofs.Common.{◌≡◌, ◌∙◌, ◌++◌, [], Global, List, length, take, drop, ap, sym, subst, arith}
use Rattle.std.specs.Prelude.{All}
use Rattle.std.proofs.lemmas.List.{drop_all, take_all, append-nil}
use Rattle.ng_desk.specs.Calls.{Seated}
use Rattle.ngc_desk.proofs.shift.shift_at.Goals as goal

pub work-requires-after_bounds : goal.work-requires-after_bounds
work-requires-after_bounds g c =
    let fact : All (λ (s : Seated Global). s.parts ≡ 1) c.as_mut_slice.result.now =
    subst (λ (l : List (Seated Global)). All (λ (s : Seated Global). s.parts ≡ 1) l) (sym c.as_mut_slice.ensures.value)
    (λ k d within. ap (λ (s : Seated Global). s.parts) (c.in-Ok.ensures.seats.1 k d within)) in
    λ lives bounds. fact

pub close-controller-requires : goal.close-controller-requires
close-controller-requires g c =
    let n = c.in-Ok.made.1.len in
    let first = c.in-Ok.made.1.items in
    let last = c.work.new.seats in
    let lent : length last ≡ length first = c.work.auto.seats ∙ ap (λ (l : List (Seated Global)). length l) c.as_mut_slice.ensures.value in
    let none : drop (length last) first ≡ [] = drop_all (length last) first (omega (arith, lent)) in
    let whole : take n (last ++ drop (length last) first) ≡ last =
    ap (λ (l : List (Seated Global)). take n (last ++ l)) none
    ∙ ap (λ (l : List (Seated Global)). take n l) (append-nil last)
    ∙ take_all n last (omega (arith, lent, c.in-Ok.made.1.ok.0)) in (
      ap (λ (l : List (Seated Global)). length l) whole ∙ omega (arith, lent, c.in-Ok.ensures.seats.0, c.requires.parts.1),
      subst (λ (l : List (Seated Global)). All (λ (s : Seated Global). s.parts ≡ 1) l) (sym whole) c.work.ensures,
    )
