-- Whether a line's words are valid together: the causes of its faults, in the order in which they are checked.
use Rattle.std.specs.Prelude.{ℕ, Bool, List, [], ◌∷◌, Result}
use Rattle.ng_num.specs.Causes.{first_fault, unless}
use Rattle.ng_num.specs.declared.fault.Fault.{Fault}
use Rattle.ng_num.specs.declared.fault.Fault.TheVariants.{RepeatedLetter, UnknownCode, LeftOutCode, GroupTwice}
use Rattle.ng_num.specs.declared.fault.Fault.TheVariants.{TooManyM, AxisTakenTwice, AxisUnused, NoAxis}
use Rattle.ng_num.specs.declared.fault.Fault.TheVariants.{NothingToSet, BadG53, RadiusArc, UnusedWord, Negative}
use Rattle.ng_num.specs.declared.fault.Fault.TheVariants.{BadSlot, BadL, BadSystem, NoDwell, NoH, CyclePlane}
use Rattle.ng_expr.specs.declared.word.Word.{Word}
use Rattle.ng_modal.specs.WordCauses.{is_repeated, has_unknown, has_left_out, has_group_twice, has_many_m}
use Rattle.ng_modal.specs.BlockOfWords.{block_of}
use Rattle.ng_modal.specs.Causes.{takes_axes_twice, leaves_axis_unused, moves_no_axis, sets_nothing, has_bad_g53}
use Rattle.ng_modal.specs.Causes.{has_radius_arc, leaves_word_unused, has_negative, has_bad_slot, has_bad_l}
use Rattle.ng_modal.specs.Causes.{has_bad_system, has_no_dwell, has_no_h, has_cycle_plane}
use Rattle.ng_modal.specs.declared.block.Block.{Block}
use Rattle.ng_state.specs.declared.modes.Modes.{Modes}

-- B1 to B19 for words that ask for a block, each with its cause
abbrev pub faults_of : List Word → Block → Modes → ℕ → List (Bool × Fault)
faults_of ws b m slots =
    (is_repeated ws, RepeatedLetter)
    ∷ ((has_unknown ws, UnknownCode)
    ∷ ((has_left_out ws, LeftOutCode)
    ∷ ((has_group_twice ws, GroupTwice)
    ∷ ((has_many_m ws, TooManyM)
    ∷ ((takes_axes_twice b, AxisTakenTwice)
    ∷ ((leaves_axis_unused b m, AxisUnused)
    ∷ ((moves_no_axis b, NoAxis)
    ∷ ((sets_nothing b, NothingToSet)
    ∷ ((has_bad_g53 b m, BadG53)
    ∷ ((has_radius_arc b, RadiusArc)
    ∷ ((leaves_word_unused b m, UnusedWord)
    ∷ ((has_negative b, Negative)
    ∷ ((has_bad_slot b slots, BadSlot)
    ∷ ((has_bad_l b, BadL)
    ∷ ((has_bad_system b, BadSystem)
    ∷ ((has_no_dwell b, NoDwell)
    ∷ ((has_no_h b, NoH)
    ∷ ((has_cycle_plane b m, CyclePlane)
    ∷ []))))))))))))))))))

abbrev pub faults : List Word → Modes → ℕ → List (Bool × Fault)
faults ws m slots = faults_of ws (block_of ws m) m slots

abbrev pub checked : List Word → Modes → ℕ → Result Block Fault
checked ws m slots = unless (first_fault (faults ws m slots)) (block_of ws m)
