-- Numbers that are all within their limits.
use Rattle.std.proofs.Common.{◌≡◌, false, ◌||◌, [], ◌∷◌, ℤ, pos, negsuc, ◌≤ℤ◌, int_lt, arith}
use Rattle.std.proofs.lemmas.Bool.{or_parts}
use Rattle.std.proofs.lemmas.Int.{ints}
use Rattle.std.specs.List.{filter_map}
use Rattle.toml.specs.Data.{as_integer}
use Rattle.toml.specs.View.{array_view}
use Rattle.ng_settings.proofs.BoundLemmas.{head_within}
use Rattle.ng_settings.specs.Numbers.{listed}
use Rattle.ng_settings.specs.Causes.{is_beyond, are_beyond, is_beyond_limits}
use Rattle.ng_settings.specs.Given.{three, numbers_given, IsInLimits, AreInLimits, IsMachine}
use Rattle.ng_settings.specs.declared.setting_numbers.SettingNumbers.{SettingNumbers}
use Rattle.ng_settings.specs.declared.numbers.PerAxis.{PerAxis}

not_less : (a b : ℤ) → int_lt a b ≡ false → b ≤ℤ a
not_less a b h = grind (arith, ints)

within : (least greatest n : ℤ) → is_beyond least greatest n ≡ false → IsInLimits least greatest n
within least greatest n h =
    let parts = or_parts (int_lt n least) (int_lt greatest n) h in
    record { low = not_less n least parts.0; high = not_less greatest n parts.1 }

one_within : (least greatest n : ℤ) → are_beyond least greatest (n ∷ []) ≡ false → IsInLimits least greatest n
one_within least greatest n h = within least greatest n (head_within least greatest n [] h).0

three_within : (least greatest : ℤ) (t : PerAxis) → are_beyond least greatest (three t) ≡ false → AreInLimits least greatest t
three_within least greatest t h =
    let x = head_within least greatest t.x (t.y ∷ t.z ∷ []) h in
    let y = head_within least greatest t.y (t.z ∷ []) x.1 in
    let z = head_within least greatest t.z [] y.1 in
    record { x = within least greatest t.x x.0; y = within least greatest t.y y.0; z = within least greatest t.z z.0 }

-- the numbers of the machine, and those of the tools
pub all_within : (given : SettingNumbers) → is_beyond_limits (numbers_given given) ≡ false →
    IsMachine given × (are_beyond (pos 0) (pos 1_000_000_000) (filter_map as_integer (listed (array_view given.tools.now))) ≡ false)
unfolding is_beyond_limits
all_within given h =
    let steps = are_beyond (pos 10) (pos 1_000_000) (three given.steps) in
    let lows = are_beyond (negsuc 9_999_999_999) (pos 0) (three given.lows) in
    let highs = are_beyond (pos 0) (pos 10_000_000_000) (three given.highs) in
    let traverse = are_beyond (pos 1) (pos 100_000_000_000) (given.traverse ∷ []) in
    let period = are_beyond (pos 1) (pos 1_000_000) (given.period ∷ []) in
    let tools = are_beyond (pos 0) (pos 1_000_000_000) (filter_map as_integer (listed (array_view given.tools.now))) in
    let a = or_parts (steps || lows || highs || traverse || period) tools h in
    let b = or_parts (steps || lows || highs || traverse) period a.0 in
    let c = or_parts (steps || lows || highs) traverse b.0 in
    let d = or_parts (steps || lows) highs c.0 in
    let e = or_parts steps lows d.0 in (
      record {
        steps = three_within (pos 10) (pos 1_000_000) given.steps e.0;
        lows = three_within (negsuc 9_999_999_999) (pos 0) given.lows e.1;
        highs = three_within (pos 0) (pos 10_000_000_000) given.highs d.1;
        traverse = one_within (pos 1) (pos 100_000_000_000) given.traverse c.1;
        period = one_within (pos 1) (pos 1_000_000) given.period b.1;
      },
      a.1,
    )
