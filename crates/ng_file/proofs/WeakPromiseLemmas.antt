-- Sectors that are written again, one after another.
use Rattle.std.proofs.Common.{◌≡◌, ◌⊎◌, inl, inr, ℕ, ◌+◌, ◌-◌, ◌*◌, ◌<◌, List, Option, None, Some, Result, Ok, Err, OnOk, IfSome, IsErr, IsOkAnd}
use Rattle.std.proofs.Common.{sym, ◌∙◌, ap, subst, length, arith}
use Rattle.std.specs.Prelude.{◌/◌, min, slice_range}
use Rattle.ng_file.specs.WeakPromise.{HoldsNothingMore, IfWeaklyPromised, IsFirstOrLast, PutsAnew, Rewrote, WeakPromise}

-- one call after another, where what is known of the second is so if the first was honest
both : {old between new : WeakPromise} {first second fact : Type 0} → IfWeaklyPromised old between first → IfWeaklyPromised between new second
    → (first → second → fact) → IfWeaklyPromised old new fact
both a b so =
    record {
      keeps = λ honest. b.keeps (a.keeps honest);
      back = λ honest. a.back (b.back honest);
      holds = λ honest. so (a.holds honest) (b.holds (a.keeps honest));
    }

-- what a call that failed would have done
pub undone : {T E : Type 0} (r : Result T E) (P : T → Type 0) → IsErr r → IsOkAnd r P → ⊥
undone (Ok x) P bad done = absurd (cc bad)
undone (Err e) P bad done = done

-- a call that writes nothing
pub nothing : {old new : WeakPromise} (content : Option (List ℕ)) (these : List ℕ → ℕ → Type 0) → ((held : List ℕ) (n : ℕ) → these held n → ⊥)
    → IfWeaklyPromised old new (HoldsNothingMore old new)
    → IfWeaklyPromised old new (IfSome content (λ held. Rewrote held old new (these held)))
nothing {old} {new} content these none call = record { keeps = call.keeps; back = call.back; holds = λ honest. each content (call.holds honest) }
  where
    each : (content : Option (List ℕ)) → HoldsNothingMore old new → IfSome content (λ held. Rewrote held old new (these held))
    each None more = tt
    each (Some held) more =
        record { holds = λ n c may. inr (more.holds n c may); forgets = more.forgets; anew = λ n is. absurd (none held n is) }

-- a sector that is written isn't forgotten
written : {T E : Type 0} (r : Result T E) (new : WeakPromise) (sector place : ℕ) → place ≡ 512 * sector
    → OnOk r ((m : ℕ) → place ≡ 512 * m → new.forgets m → ⊥) → (n : ℕ) → IsOkAnd r (λ _. n ≡ sector) → new.forgets n → ⊥
written (Ok _) new sector place here anew n is = anew n (here ∙ ap (λ (k : ℕ). 512 * k) (sym is))
written (Err _) new sector place here anew n is = absurd is

-- a read, and a write of what it returned
again-at : {T E : Type 0} (r : Result T E) (old between new : WeakPromise) (content : Option (List ℕ)) (sector place : ℕ) (bytes : List ℕ) → place ≡ 512 * sector
    → IfSome content (λ held. bytes ≡ slice_range held place (place + 512)) → HoldsNothingMore old between → PutsAnew r place bytes between new
    → IfSome content (λ held. Rewrote held old new (λ n. IsOkAnd r (λ _. n ≡ sector)))
again-at r old between new None sector place bytes here is more puts = tt
again-at r old between new (Some held) sector place bytes here is more puts =
    record {
      holds = λ n c may. elim (puts.holds sector here n c may) [
        | inl put ↦ inl (put.1 ∙ is ∙ ap (λ (p : ℕ). slice_range held p (p + 512)) (here ∙ ap (λ (k : ℕ). 512 * k) (sym put.0)))
        | inr was ↦ inr (more.holds n c was)
      ];
      forgets = λ n is. more.forgets n (puts.forgets n is);
      anew = written r new sector place here puts.anew;
    }

pub again : {T E : Type 0} (r : Result T E) {old between new : WeakPromise} (content : Option (List ℕ)) (sector place : ℕ) (bytes : List ℕ) → place ≡ 512 * sector
    → IfSome content (λ held. bytes ≡ slice_range held place (place + 512)) → IfWeaklyPromised old between (HoldsNothingMore old between)
    → IfWeaklyPromised between new (PutsAnew r place bytes between new)
    → IfWeaklyPromised old new (IfSome content (λ held. Rewrote held old new (λ n. IsOkAnd r (λ _. n ≡ sector))))
again r {old} {between} {new} content sector place bytes here are read write =
    both read write (λ more puts. again-at r old between new content sector place bytes here are more puts)

-- some sectors, and then others
pub then-others : {old between new : WeakPromise} (content now : Option (List ℕ)) (these others : List ℕ → ℕ → Type 0) → IfSome content (λ held. now ≡ Some held)
    → IfWeaklyPromised old between (IfSome content (λ held. Rewrote held old between (these held)))
    → IfWeaklyPromised between new (IfSome now (λ held. Rewrote held between new (others held)))
    → IfWeaklyPromised old new (IfSome content (λ held. Rewrote held old new (λ n. these held n ⊎ others held n)))
then-others {old} {between} {new} content now these others same first second = both first second (each content same)
  where
    each : (content : Option (List ℕ)) → IfSome content (λ held. now ≡ Some held) → IfSome content (λ held. Rewrote held old between (these held))
        → IfSome now (λ held. Rewrote held between new (others held)) → IfSome content (λ held. Rewrote held old new (λ n. these held n ⊎ others held n))
    each None is a b = tt
    each (Some held) is a b =
        let c : Rewrote held between new (others held) = subst (λ (o : Option (List ℕ)). IfSome o (λ held. Rewrote held between new (others held))) is b in
        record {
          holds = λ n x may. elim (c.holds n x may) [ inl same ↦ inl same | inr was ↦ a.holds n x was ];
          forgets = λ n is. a.forgets n (c.forgets n is);
          anew = λ n is still. elim is [ inl early ↦ a.anew n early (c.forgets n still) | inr late ↦ c.anew n late still ];
        }

-- fewer of them
pub fewer : {old new : WeakPromise} (content : Option (List ℕ)) (these few : List ℕ → ℕ → Type 0) → IfSome content (λ held. (n : ℕ) → few held n → these held n)
    → IfWeaklyPromised old new (IfSome content (λ held. Rewrote held old new (these held)))
    → IfWeaklyPromised old new (IfSome content (λ held. Rewrote held old new (few held)))
fewer {old} {new} content these few are call = record { keeps = call.keeps; back = call.back; holds = λ honest. each content are (call.holds honest) }
  where
    each : (content : Option (List ℕ)) → IfSome content (λ held. (n : ℕ) → few held n → these held n) → IfSome content (λ held. Rewrote held old new (these held))
        → IfSome content (λ held. Rewrote held old new (few held))
    each None are all = tt
    each (Some held) are all = record { holds = all.holds; forgets = all.forgets; anew = λ n is. all.anew n (are n is) }

-- ---- the first sectors, one after another, and the last

each-of : (content : Option (List ℕ)) (P : List ℕ → Type 0) → ((held : List ℕ) → P held) → IfSome content P
each-of None P is = tt
each-of (Some held) P is = is held

-- one more
pub first-more : {old between new : WeakPromise} (content now : Option (List ℕ)) (sector : ℕ) → IfSome content (λ held. now ≡ Some held)
    → IfWeaklyPromised old between (IfSome content (λ held. Rewrote held old between (λ n. n < sector)))
    → IfWeaklyPromised between new (IfSome now (λ held. Rewrote held between new (λ n. n ≡ sector)))
    → IfWeaklyPromised old new (IfSome content (λ held. Rewrote held old new (λ n. n < sector + 1)))
first-more content now sector same first second =
    fewer content (λ held n. (n < sector) ⊎ (n ≡ sector)) (λ held n. n < sector + 1)
    (each-of content (λ held. (n : ℕ) → n < sector + 1 → (n < sector) ⊎ (n ≡ sector)) (λ held n lt. below n lt))
    (then-others content now (λ held n. n < sector) (λ held n. n ≡ sector) same first second)
  where
    below : (n : ℕ) → n < sector + 1 → (n < sector) ⊎ (n ≡ sector)
    below n lt = grind arith

-- one that fails
pub first-failed : {T E F : Type 0} (r : Result T E) (failed : Result T F) {old between new : WeakPromise} (content now : Option (List ℕ)) (sector : ℕ)
    (these : List ℕ → ℕ → Type 0) → IsErr failed → IfSome content (λ held. now ≡ Some held)
    → IfWeaklyPromised old between (IfSome content (λ held. Rewrote held old between (λ n. n < sector)))
    → IfWeaklyPromised between new (IfSome now (λ held. Rewrote held between new (λ n. IsOkAnd r (λ _. n ≡ sector))))
    → IfWeaklyPromised old new (IfSome content (λ held. Rewrote held old new (λ n. IsOkAnd failed (λ _. these held n))))
first-failed r failed content now sector these bad same first second =
    let either : List ℕ → ℕ → Type 0 = λ held n. (n < sector) ⊎ IsOkAnd r (λ _. n ≡ sector) in
    fewer content either (λ held n. IsOkAnd failed (λ _. these held n))
    (each-of content (λ held. (n : ℕ) → IsOkAnd failed (λ _. these held n) → either held n)
    (λ held n done. absurd (undone failed (λ _. these held n) bad done)))
    (then-others content now (λ held n. n < sector) (λ held n. IsOkAnd r (λ _. n ≡ sector)) same first second)

-- the last after them
pub first-and-last : {T E : Type 0} (r : Result T E) {old between new : WeakPromise} (content now : Option (List ℕ)) (bytes most end last : ℕ)
    → IfSome content (λ held. bytes ≡ length held) → end ≡ min (bytes / 512) most → last ≡ bytes / 512 - 1 → IfSome content (λ held. now ≡ Some held)
    → IfWeaklyPromised old between (IfSome content (λ held. Rewrote held old between (λ n. n < end)))
    → IfWeaklyPromised between new (IfSome now (λ held. Rewrote held between new (λ n. IsOkAnd r (λ _. n ≡ last))))
    → IfWeaklyPromised old new (IfSome content (λ held. Rewrote held old new (λ n. IsOkAnd r (λ _. IsFirstOrLast most held n))))
first-and-last {T} {E} r content now bytes most end last size ends lasts same first second =
    fewer content (λ held n. (n < end) ⊎ IsOkAnd r (λ _. n ≡ last)) (λ held n. IsOkAnd r (λ _. IsFirstOrLast most held n))
    (are r content size) (then-others content now (λ held n. n < end) (λ held n. IsOkAnd r (λ _. n ≡ last)) same first second)
  where
    which : (held : List ℕ) (n : ℕ) → bytes ≡ length held → IsFirstOrLast most held n → (n < end) ⊎ (n ≡ last)
    which held n size (inl early) = inl (omega (arith, ends, size, early.0, early.1))
    which held n size (inr late) = inr (late ∙ ap (λ (k : ℕ). k / 512 - 1) (sym size) ∙ sym lasts)

    are : (r : Result T E) (content : Option (List ℕ)) → IfSome content (λ held. bytes ≡ length held)
        → IfSome content (λ held. (n : ℕ) → IsOkAnd r (λ _. IsFirstOrLast most held n) → (n < end) ⊎ IsOkAnd r (λ _. n ≡ last))
    are r None size = tt
    are (Ok _) (Some held) size = λ n is. which held n size is
    are (Err _) (Some held) size = λ n is. absurd is
