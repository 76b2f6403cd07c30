-- What the words of a line ask for, by modal group (NISTIR 6556, 3.4).
use Rattle.std.specs.Prelude.{ℕ, Bool, List, Option, Some, None}
use Rattle.std.specs.Option.{is_some, option_and_then}
use Rattle.ng_num.specs.declared.unit.Unit.{Unit}
use Rattle.ng_canon.specs.declared.plane.Plane.{Plane}
use Rattle.ng_canon.specs.declared.outputs.Spindle.{Spindle}
use Rattle.ng_state.specs.declared.modes.Motion.{Motion}
use Rattle.ng_state.specs.declared.modes.Distance.{Distance}
use Rattle.ng_state.specs.declared.modes.FeedMode.{FeedMode}
use Rattle.ng_state.specs.declared.modes.Retract.{Retract}
use Rattle.ng_state.specs.declared.modes.PathMode.{PathMode}
use Rattle.ng_modal.specs.Words.{first, of_group, of_m_group}
use Rattle.ng_modal.specs.declared.requests.NonModal.{NonModal}
use Rattle.ng_modal.specs.declared.requests.ToolLength.{ToolLength}
use Rattle.ng_modal.specs.declared.requests.StopWord.{StopWord}
use Rattle.ng_modal.specs.declared.requests.Coolant.{Coolant}
use Rattle.ng_modal.specs.declared.codes.GWord.{GWord}
use Rattle.ng_modal.specs.declared.codes.GWord.TheVariants as word
use Rattle.ng_modal.specs.declared.codes.MWord.{MWord}
use Rattle.ng_modal.specs.declared.codes.MWord.TheVariants as m_word
use Rattle.ng_modal.specs.declared.by_group.GWords.{GWords}
use Rattle.ng_modal.specs.declared.by_group.MWords.{MWords}

-- what a word asks for in one group
abbrev pub non_modal_of : GWord → Option NonModal
non_modal_of (word.NonModal asked) = Some asked
non_modal_of _ = None

abbrev pub motion_of : GWord → Option Motion
motion_of (word.Motion motion) = Some motion
motion_of _ = None

abbrev pub plane_of : GWord → Option Plane
plane_of (word.Plane plane) = Some plane
plane_of _ = None

abbrev pub distance_of : GWord → Option Distance
distance_of (word.Distance mode) = Some mode
distance_of _ = None

abbrev pub feed_mode_of : GWord → Option FeedMode
feed_mode_of (word.FeedMode mode) = Some mode
feed_mode_of _ = None

abbrev pub unit_of : GWord → Option Unit
unit_of (word.Unit unit) = Some unit
unit_of _ = None

abbrev pub tool_length_of : GWord → Option ToolLength
tool_length_of (word.ToolLength asked) = Some asked
tool_length_of _ = None

abbrev pub retract_of : GWord → Option Retract
retract_of (word.Retract mode) = Some mode
retract_of _ = None

abbrev pub system_of_word : GWord → Option ℕ
system_of_word (word.System number) = Some number
system_of_word _ = None

abbrev pub path_of : GWord → Option PathMode
path_of (word.Path mode) = Some mode
path_of _ = None

abbrev pub stop_of : MWord → Option StopWord
stop_of (m_word.Stop asked) = Some asked
stop_of _ = None

abbrev pub spindle_of : MWord → Option Spindle
spindle_of (m_word.Spindle spinning) = Some spinning
spindle_of _ = None

abbrev pub coolant_of : MWord → Option Coolant
coolant_of (m_word.Coolant asked) = Some asked
coolant_of _ = None

abbrev pub overrides_of : MWord → Option Bool
overrides_of (m_word.Overrides allowed) = Some allowed
overrides_of _ = None

-- of several words of a group the first counts; one that is left out asks for nothing
abbrev pub g_words : List GWord → GWords
g_words ws = record {
  non_modal = option_and_then non_modal_of (first (of_group 0 ws));
  motion_word = is_some (first (of_group 1 ws));
  motion = option_and_then motion_of (first (of_group 1 ws));
  plane = option_and_then plane_of (first (of_group 2 ws));
  distance = option_and_then distance_of (first (of_group 3 ws));
  feed_mode = option_and_then feed_mode_of (first (of_group 5 ws));
  unit = option_and_then unit_of (first (of_group 6 ws));
  compensation = is_some (first (of_group 7 ws));
  tool_length = option_and_then tool_length_of (first (of_group 8 ws));
  retract = option_and_then retract_of (first (of_group 10 ws));
  system = option_and_then system_of_word (first (of_group 12 ws));
  path = option_and_then path_of (first (of_group 13 ws));
}

abbrev pub m_words : List MWord → MWords
m_words ws = record {
  stop = option_and_then stop_of (first (of_m_group 4 ws));
  tool_change = is_some (first (of_m_group 6 ws));
  spindle = option_and_then spindle_of (first (of_m_group 7 ws));
  coolant = option_and_then coolant_of (first (of_m_group 8 ws));
  overrides = option_and_then overrides_of (first (of_m_group 9 ws));
}

-- there is a word of the same group
abbrev pub has_word : GWord → GWords → Bool
has_word (word.NonModal _) g = is_some g.non_modal
has_word (word.Motion _) g = g.motion_word
has_word word.LeftOutMotion g = g.motion_word
has_word (word.Plane _) g = is_some g.plane
has_word (word.Distance _) g = is_some g.distance
has_word (word.FeedMode _) g = is_some g.feed_mode
has_word (word.Unit _) g = is_some g.unit
has_word word.NoCompensation g = g.compensation
has_word word.LeftOutCompensation g = g.compensation
has_word (word.ToolLength _) g = is_some g.tool_length
has_word (word.Retract _) g = is_some g.retract
has_word (word.System _) g = is_some g.system
has_word (word.Path _) g = is_some g.path

abbrev pub has_m_word : MWord → MWords → Bool
has_m_word (m_word.Stop _) m = is_some m.stop
has_m_word m_word.ToolChange m = m.tool_change
has_m_word (m_word.Spindle _) m = is_some m.spindle
has_m_word (m_word.Coolant _) m = is_some m.coolant
has_m_word (m_word.Overrides _) m = is_some m.overrides
