use Rattle.std.proofs.Common.{◌≡◌, ℕ, ◌+◌, ◌<◌, List, length, drop, set, get_or, get_or-drop, get_or-set_same, add-zero, arith, ◌∙◌, ap}
use Rattle.std.proofs.lemmas.List.{take-set, drop-set-lt}
use Rattle.ng_layout.specs.Fields.{number_at}
use Rattle.ng_layout.proofs.bytes.put_u8.Goals as goal

byte : (xs : List ℕ) (at x : ℕ) → at < length xs → get_or (drop at (set xs at x)) 0 0 + 0 ≡ x
byte xs at x h = let e : get_or (drop at (set xs at x)) 0 0 ≡ x = get_or-drop at (set xs at x) 0 0
    ∙ ap (λ (n : ℕ). get_or (set xs at x) n 0) (add-zero at) ∙ get_or-set_same xs at x 0 h in omega (arith, e)

pub returns : goal.returns
unfolding number_at
returns c = record {
  written = byte c.args.bytes.now c.args.at c.args.x (omega (arith, c.requires));
  below = record { same = take-set c.args.bytes.now c.args.at c.args.x };
  beyond = record { same = drop-set-lt (c.args.at + 1) c.args.bytes.now c.args.at c.args.x (omega arith) };
}
