use Rattle.std.proofs.Common.{refl, arith}
use Rattle.ng_settings.specs.Causes.{is_beyond_limits}
use Rattle.ng_settings.proofs.setting_numbers.SettingNumbers.is_beyond_limits.Goals as goal

pub returns : goal.returns
unfolding is_beyond_limits
returns c =
    rw (
      c.is_triple_beyond.ensures,
      c.is_triple_beyond-2.ensures,
      c.is_triple_beyond-3.ensures,
      c.is_single_beyond.ensures,
      c.is_single_beyond-2.ensures,
      c.is_list_beyond.ensures,
    ) refl

pub is_triple_beyond-requires : goal.is_triple_beyond-requires
is_triple_beyond-requires c = omega arith

pub is_triple_beyond-requires-2 : goal.is_triple_beyond-requires-2
is_triple_beyond-requires-2 c = omega arith

pub is_triple_beyond-requires-3 : goal.is_triple_beyond-requires-3
is_triple_beyond-requires-3 c = omega arith

pub is_single_beyond-requires : goal.is_single_beyond-requires
is_single_beyond-requires c = omega arith

pub is_single_beyond-requires-2 : goal.is_single_beyond-requires-2
is_single_beyond-requires-2 c = omega arith

pub is_list_beyond-requires : goal.is_list_beyond-requires
is_list_beyond-requires c = omega arith
