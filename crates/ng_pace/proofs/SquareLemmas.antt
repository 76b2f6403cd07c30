-- The squares that the pacer takes are the greatest that may be.
use Rattle.std.proofs.Common.{arith, ℕ, zero, suc, ap, ◌^◌, ◌≤◌, ◌<◌, ◌≡◌, ◌⊎◌, inl, inr, min, refl, sym, List, []}
use Rattle.std.proofs.Common.{◌∷◌, length, take, drop, length-drop, length-take, take-append-drop, append-nil}
use Rattle.ng_pace.specs.declared.line.Line.{Line}
use Rattle.ng_pace.specs.declared.planning.Slot.{Slot}
use Rattle.ng_pace.specs.Planning.{IsPlan, LooksAhead, FollowsWithin, ahead, lines_of, most_now}
use Rattle.ng_pace.specs.Rest.{Stands}
use Rattle.ng_pace.specs.Stepping.{IsHasty, start_square}
use Rattle.ng_pace.proofs.PlanLemmas.{planned_within}
use Rattle.ng_pace.proofs.RestLemmas.{length-lines_of, rest_at, rest_within, most_at, most_within, rest_still}

-- how the squares of a line are chosen: from what was left before it, and what is planned for it and after it
pub record IsChosen (line : Line) (square start wanted from to plan after : ℕ) : Type 0 where
  pub starts : square ≡ 0 → from ≡ min (min (start_square line.ramp.up start) plan) wanted
  pub within : from ≤ plan
  pub planned : plan ≤ most_now line after
  pub follows : FollowsWithin line from wanted after to
  pub greatest : (other : ℕ) → FollowsWithin line from wanted after other → other ≤ to
  pub size : wanted < 2 ^ 64

hasty_at_rest : (line : Line) (square start wanted from to plan after : ℕ) (lines : List Line) → IsChosen line square start wanted from to plan after
    → Stands line
    → IsHasty line square start wanted from to lines
hasty_at_rest line square start wanted from to plan after lines passed stands =
    let at : from ≡ 0 = omega (arith, passed.within, passed.planned, stands.0) in
    let after_it : to ≡ 0 = omega (arith, at, passed.follows.ramp.grows, stands.1.0) in record {
      regarded = lines;
      others = [];
      all = sym (append-nil lines);
      most = omega arith;
      some = λ none. none;
      begins = λ rest. record {
        holds = record { starts = omega arith; is_wanted = omega arith; rests = rw at (rest_still (line ∷ lines)) };
        greatest = λ other may. omega (arith, may.rests.0, stands.0);
      };
      follows = record {
        holds = record { ramp = passed.follows.ramp; last = passed.follows.last; is_wanted = passed.follows.is_wanted; rests = rw after_it (rest_still lines) };
        greatest = λ other may. omega (arith, at, may.ramp.grows, stands.1.0);
      };
    }

-- where no line is regarded, none is known
some_of : (n : ℕ) (slots : List Slot) → take n (lines_of slots) ≡ [] → LooksAhead n slots → lines_of slots ≡ []
some_of n [] none looks = refl
some_of zero (x ∷ xs) none looks = ap lines_of (looks.some refl)
some_of (suc n) (x ∷ xs) none looks = cc

hasty_planned : (line : Line) (square start wanted from to plan n : ℕ) (slots : List Slot) → IsChosen line square start wanted from to plan (ahead slots)
    → IsPlan n slots
    → plan ≡ most_now line (ahead slots) → LooksAhead n slots → IsHasty line square start wanted from to (lines_of slots)
hasty_planned line square start wanted from to plan n slots passed planned best looks =
    let many : n ≤ length slots = planned_within n slots planned in
    let count : length (lines_of slots) ≡ length slots = length-lines_of slots in record {
      regarded = take n (lines_of slots);
      others = drop n (lines_of slots);
      all = sym (take-append-drop n (lines_of slots));
      most = simp (length-take, length-drop) (omega (arith, many, count, looks.most));
      some = λ none. some_of n slots none looks;
      begins = λ rest. record {
        holds = record {
          starts = omega (arith, passed.starts rest);
          is_wanted = omega (arith, passed.starts rest);
          rests = rest_at line from (ahead slots) (take n (lines_of slots)) (omega (arith, passed.within, passed.planned)) (rest_within n slots planned);
        };
        greatest = λ other may. omega (
          arith,
          passed.starts rest,
          passed.size,
          may.starts,
          may.is_wanted,
          most_at line other (ahead slots)
              (take n (lines_of slots)) may.rests (most_within n slots planned),
        );
      };
      follows = record {
        holds = record {
          ramp = passed.follows.ramp;
          last = passed.follows.last;
          is_wanted = passed.follows.is_wanted;
          rests = rest_within n slots planned to passed.follows.within;
        };
        greatest = λ other may. passed.greatest other (record {
          ramp = may.ramp;
          last = may.last;
          is_wanted = may.is_wanted;
          within = omega (arith, passed.size, passed.within, passed.planned, may.is_wanted, most_within n slots planned other may.rests);
        });
      };
    }

pub hasty : (line : Line) (square start wanted from to plan n : ℕ) (slots : List Slot) → IsChosen line square start wanted from to plan (ahead slots)
    → IsPlan n slots
    → Stands line ⊎ ((plan ≡ most_now line (ahead slots)) × LooksAhead n slots) → IsHasty line square start wanted from to (lines_of slots)
hasty line square start wanted from to plan n slots passed planned (inl stands) = hasty_at_rest line square start wanted from to plan (ahead slots)
    (lines_of slots) passed stands
hasty line square start wanted from to plan n slots passed planned (inr looks) = hasty_planned line square start wanted from to plan n slots passed planned
    looks.0 looks.1
