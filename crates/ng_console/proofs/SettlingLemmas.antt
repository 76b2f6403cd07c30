-- What is durable once a device was settled, where a sync that failed may have forgotten what it couldn't write.
use Rattle.std.proofs.Common.{◌≡◌, ◌⊎◌, ◌∙◌, inl, inr, refl, sym, subst, ℕ, zero, suc, ◌+◌, ◌<◌, ◌≤◌, ◌-◌, nat_lt}
use Rattle.std.proofs.Common.{if◌then◌else◌, List, [], Option, None, Some, IfSome, Result, Ok, Err, OnOk, length, arith}
use Rattle.std.specs.Prelude.{◌/◌}
use Rattle.std.proofs.lemmas.Bool.Decides.{nat_tests}
use Rattle.ng_rig.specs.Trace.{Image}
use Rattle.ng_layout.specs.Areas.{large_size, log_first, log_size_of, program_first, program_size, snapshot_first, snapshot_size}
use Rattle.ng_layout.specs.Areas.{tools_first, tools_size}
use Rattle.ng_layout.specs.Header.{program_limit_of}
use Rattle.ng_layout.specs.Stands.{durable_state_under, in_force, is_large, stands, stretch}
use Rattle.ng_layout.specs.declared.header.Header.{Header}
use Rattle.ng_layout.proofs.ImageLemmas.{area-most, force-same, force-within, log-long, stretch-same, under}
use Rattle.ng_journal.proofs.FoundStateLemmas.{none_found}
use Rattle.ng_file.specs.Bytes.{sector_of}
use Rattle.ng_file.specs.Promise.{IsLeft}
use Rattle.ng_file.specs.WeakPromise.{HoldsNothingMore, IfWeaklyPromised, IsFirstOrLast, Rewrote, SyncsTheRest, WeakPromise}
use Rattle.ng_console.specs.Lengthening.{image_in}
use Rattle.ng_console.specs.Settling.{LeavesWhatStands, SettlesTheRest}

-- ---- what stands

-- an image stands for what its sectors that a large device has stand for
module _ (one other : Image) (same : (n : ℕ) → n < large_size → one n ≡ other n) where
  large-same : is_large one ≡ is_large other
  large-same = λ i. nat_lt 0 (length (same (large_size - 1) (omega arith) i))

  force-read : in_force one ≡ in_force other
  force-read = force-same one other large-same (same 0 (omega arith)) (same 1 (omega arith))

  row-same : (first size : ℕ) → first + size ≤ 5806 → stretch first size one ≡ stretch first size other
  row-same first size within = stretch-same first size one other (λ j lt. same (first + j) (omega arith))

  program-same : (area : ℕ) → area ≤ 3 → stretch (program_first area) (program_size area) one ≡ stretch (program_first area) (program_size area) other
  program-same zero few = row-same (program_first 0) (program_size 0) (omega arith)
  program-same (suc zero) few = row-same (program_first 1) (program_size 1) (omega arith)
  program-same (suc (suc zero)) few = row-same (program_first 2) (program_size 2) (omega arith)
  program-same (suc (suc (suc zero))) few = row-same (program_first 3) (program_size 3) (omega arith)
  program-same (suc (suc (suc (suc n)))) few = absurd (omega arith)

  under-header : (h : Header) → in_force other ≡ Some h → stands one ≡ stands other
  under-header h is =
      let most : h.area ≤ 3 = omega (arith, (force-within other h is).area, area-most (is_large other)) in
      let area = row-same (snapshot_first h.epoch) snapshot_size (omega arith) in
      let tools = row-same (tools_first h.epoch) tools_size (omega arith) in
      let text = program-same h.area most in
      let log = row-same log_first (log_size_of h) (omega (arith, log-long h.format)) in
      under one h (force-read ∙ is)
      ∙ (λ i. durable_state_under (program_limit_of (large-same i)) h (area i) (tools i) (text i) (log i))
      ∙ sym (under other h is)

  stands-same : (o : Option Header) → in_force other ≡ o → stands one ≡ stands other
  stands-same None none = none_found one None (sym (force-read ∙ none)) refl ∙ sym (none_found other None (sym none) refl)
  stands-same (Some h) some = under-header h some

inside : (count n : ℕ) (c : List ℕ) → n < count → (if nat_lt n count then c else []) ≡ c
inside count n c within = grind (arith, nat_tests)

outside : (count n : ℕ) (c : List ℕ) → count ≤ n → (if nat_lt n count then c else []) ≡ []
outside count n c past = grind (arith, nat_tests)

-- each image that is left agrees with the bytes on them
left-same : (held : List ℕ) (promise : WeakPromise)
    → ((n : ℕ) (c : List ℕ) → IsFirstOrLast large_size held n → promise.may_hold n c → c ≡ sector_of n held) → (image : Image)
    → IsLeft (length held / 512) (record { honest = promise.honest; may_hold = promise.may_hold }) image
    → (n : ℕ) → n < large_size → image n ≡ image_in held n
left-same held promise first image left n lt = elim (side n (length held / 512)) [
  | inl within ↦ first n (image n) (inl (lt, within)) (left.within n within) ∙ sym (inside (length held / 512) n (sector_of n held) within)
  | inr past ↦ left.past n past ∙ sym (outside (length held / 512) n (sector_of n held) past)
]
  where
    side : (n m : ℕ) → (n < m) ⊎ (m ≤ n)
    side n m = grind arith

leaves-what-stands : (held : List ℕ) (promise : WeakPromise)
    → ((n : ℕ) (c : List ℕ) → IsFirstOrLast large_size held n → promise.may_hold n c → c ≡ sector_of n held) → LeavesWhatStands held promise
leaves-what-stands held promise first image left =
    let same : (n : ℕ) → n < large_size → image n ≡ image_in held n = left-same held promise first image left in
    record {
      header = force-read image (image_in held) same;
      state = stands-same image (image_in held) same (in_force (image_in held)) refl;
    }

-- ---- the calls

-- the sectors of a device were written again, and it was synced
pub settled-device : {T E : Type 0} (r : Result T E) (content mid now : Option (List ℕ)) {old between again new : WeakPromise} → mid ≡ content
    → IfSome content (λ held. now ≡ Some held) → IfWeaklyPromised old between (HoldsNothingMore old between)
    → IfWeaklyPromised between again (IfSome mid (λ held. Rewrote held between again (IsFirstOrLast large_size held)))
    → IfWeaklyPromised again new (SyncsTheRest r now again new)
    → IfWeaklyPromised old new (OnOk r (IfSome content (λ held. SettlesTheRest held old new)))
settled-device {T} {E} r content mid now {old} {between} {again} {new} same is looked rewrote synced =
    record {
      keeps = λ honest. synced.keeps (rewrote.keeps (looked.keeps honest));
      back = λ honest. looked.back (rewrote.back (synced.back honest));
      holds = λ honest.
          each r content same is (looked.holds honest) (rewrote.holds (looked.keeps honest)) (synced.holds (rewrote.keeps (looked.keeps honest)));
    }
  where
    each : (r : Result T E) (content : Option (List ℕ)) → mid ≡ content → IfSome content (λ held. now ≡ Some held) → HoldsNothingMore old between
        → IfSome mid (λ held. Rewrote held between again (IsFirstOrLast large_size held)) → SyncsTheRest r now again new
        → OnOk r (IfSome content (λ held. SettlesTheRest held old new))
    each (Err e) content same is m rewrote y = tt
    each (Ok x) None same is m rewrote y = tt
    each (Ok x) (Some held) same is m rewrote y =
        let w : Rewrote held between again (IsFirstOrLast large_size held) =
        subst (λ (o : Option (List ℕ)). IfSome o (λ held. Rewrote held between again (IsFirstOrLast large_size held))) same rewrote in
        let durable : (n : ℕ) (c : List ℕ) → (again.forgets n → ⊥) → new.may_hold n c → c ≡ sector_of n held =
        subst (λ (o : Option (List ℕ)). IfSome o (λ held. (n : ℕ) (c : List ℕ) → (again.forgets n → ⊥) → new.may_hold n c → c ≡ sector_of n held)) is y.durable in
        let first : (n : ℕ) (c : List ℕ) → IsFirstOrLast large_size held n → new.may_hold n c → c ≡ sector_of n held =
        λ n c is may. durable n c (λ still. w.anew n is still) may in
        record {
          holds = λ n c may. elim (w.holds n c (y.holds n c may)) [ inl read ↦ inl read | inr was ↦ inr (m.holds n c was) ];
          others = λ n c kept may. durable n c (λ still. kept (m.forgets n (w.forgets n still))) may;
          device = λ device. first;
          anew = λ device n is still. w.anew n is (y.forgets n still);
          leaves = λ device. leaves-what-stands held new first;
        }
