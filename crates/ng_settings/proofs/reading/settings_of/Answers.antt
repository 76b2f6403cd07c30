use Rattle.std.proofs.Common.{◌≡◌, true, false, sym, ◌∙◌, ap}
use Rattle.toml.specs.View.{table_view}
use Rattle.ng_settings.specs.Causes.{is_beyond_limits, has_many_tools}
use Rattle.ng_settings.specs.Given.{numbers_given}
use Rattle.ng_settings.specs.Numbers.{Numbers, numbers_in}
use Rattle.ng_settings.proofs.SettingCauseLemmas.{all_there, same_types, same_numbers, is_missing, is_unknown, is_wrong, is_beyond, are_many}
use Rattle.ng_settings.proofs.MachineLemmas.{all_within}
use Rattle.ng_settings.proofs.reading.settings_of.Goals as goal

pub returns-in-None : goal.returns-in-None
returns-in-None c = is_missing _ _ _ _ _ c.in-None.ensures

pub returns-then-has_unknown_key : goal.returns-then-has_unknown_key
returns-then-has_unknown_key c =
    let t = table_view c.args.table.now in
    is_unknown _ _ _ _ _ (all_there t c.in-Some.found c.in-Some.ensures) (sym c.if-has_unknown_key.ensures)

pub returns-in-None-given : goal.returns-in-None-given
returns-in-None-given c =
    let t = table_view c.args.table.now in
    let at = c.in-Some.ensures in
    is_wrong _ _ _ _ _ (all_there t c.in-Some.found at) (sym c.if-has_unknown_key.ensures) (same_types t c.in-Some.found at ∙ c.in-None-given.ensures)

pub returns-then-is_beyond_limits : goal.returns-then-is_beyond_limits
returns-then-is_beyond_limits c =
    let t = table_view c.args.table.now in
    let at = c.in-Some.ensures in
    let numbers = same_numbers t c.in-Some.found at ∙ c.in-Some-given.ensures.1 in
    let beyond : is_beyond_limits (numbers_in t) ≡ true = ap (λ (n : Numbers). is_beyond_limits n) numbers ∙ sym c.if-is_beyond_limits.ensures in
    is_beyond _ _ _ _ _ (all_there t c.in-Some.found at) (sym c.if-has_unknown_key.ensures) (same_types t c.in-Some.found at ∙ c.in-Some-given.ensures.0) beyond

pub tools_of-requires : goal.tools_of-requires
tools_of-requires c = (all_within c.in-Some-given.given (sym c.if-is_beyond_limits.ensures)).1

pub geometry-requires : goal.geometry-requires
geometry-requires c = (all_within c.in-Some-given.given (sym c.if-is_beyond_limits.ensures)).0

pub returns-in-None-tools_of : goal.returns-in-None-tools_of
unfolding has_many_tools
returns-in-None-tools_of c =
    let t = table_view c.args.table.now in
    let at = c.in-Some.ensures in
    let numbers = same_numbers t c.in-Some.found at ∙ c.in-Some-given.ensures.1 in
    let within : is_beyond_limits (numbers_in t) ≡ false = ap (λ (n : Numbers). is_beyond_limits n) numbers ∙ sym c.if-is_beyond_limits.ensures in
    let many : has_many_tools (numbers_in t) ≡ true = ap (λ (n : Numbers). has_many_tools n) numbers ∙ c.in-None-tools_of.ensures in
    are_many _ _ _ _ _ (all_there t c.in-Some.found at) (sym c.if-has_unknown_key.ensures)
    (same_types t c.in-Some.found at ∙ c.in-Some-given.ensures.0) within many

pub returns-in-Some-tools_of : goal.returns-in-Some-tools_of
unfolding has_many_tools
returns-in-Some-tools_of c =
    let t = table_view c.args.table.now in
    let at = c.in-Some.ensures in
    let numbers = same_numbers t c.in-Some.found at ∙ c.in-Some-given.ensures.1 in
    let within : is_beyond_limits (numbers_in t) ≡ false = ap (λ (n : Numbers). is_beyond_limits n) numbers ∙ sym c.if-is_beyond_limits.ensures in
    let made = c.in-Some-tools_of.ensures in
    let of_given : has_many_tools (numbers_given c.in-Some-given.given) ≡ false = rw made.1 made.0 in
    let few : has_many_tools (numbers_in t) ≡ false = ap (λ (n : Numbers). has_many_tools n) numbers ∙ of_given in
    let m = c.geometry.ensures in (
      (all_there t c.in-Some.found at, (sym c.if-has_unknown_key.ensures, (same_types t c.in-Some.found at ∙ c.in-Some-given.ensures.0, (within, (few, tt))))),
      rw (numbers, m.x.step, m.x.low, m.x.high, m.y.step, m.y.low, m.y.high, m.z.step, m.z.low, m.z.high, m.traverse, m.period, made.1),
    )
