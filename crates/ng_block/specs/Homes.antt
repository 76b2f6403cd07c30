-- G28 and G30: the way home (NISTIR 6556, 3.5.8; that all three axes go home is own).
use Rattle.std.specs.Prelude.{ℤ, List, Option, Some, None, Result, Ok, if◌then◌else◌}
use Rattle.ng_num.specs.Results.{and_then}
use Rattle.ng_num.specs.declared.point.Point.{Point}
use Rattle.ng_num.specs.declared.fault.Fault.{Fault}
use Rattle.ng_params.specs.Points.{home, second_home}
use Rattle.ng_modal.specs.ByLetter.{has_axis}
use Rattle.ng_modal.specs.declared.requests.NonModal.{NonModal}
use Rattle.ng_modal.specs.declared.requests.NonModal.TheVariants.{Home, SecondHome}
use Rattle.ng_modal.specs.declared.block.Block.{Block}
use Rattle.ng_offsets.specs.declared.offsets.Offsets.{Offsets}
use Rattle.ng_state.specs.declared.modal_state.ModalState.{ModalState}
use Rattle.ng_block.specs.declared.path.Path.{Path}
use Rattle.ng_block.specs.declared.path.Path.TheVariants.{Still, Straight, Homing}
use Rattle.ng_block.specs.Motion.{end_of}
use Rattle.ng_block.specs.Path.{traverse}

-- the home that a line goes to, in machine coordinates
abbrev pub home_on : Option NonModal → List ℤ → Option Point
home_on (Some Home) table = Some (home table)
home_on (Some SecondHome) table = Some (second_home table)
home_on _ table = None

-- first to the programmed point, if any axis is named, and then home; both at the traverse rate
abbrev pub home_path : Block → ModalState → Offsets → Option Point → Result Path Fault
home_path b m o None = Ok Still
home_path b m o (Some home) =
    if has_axis b.values
    then and_then (end_of b m o) (λ between. Ok (Homing (record { start = m.point; between = between; home = home })))
    else Ok (Straight (traverse m.point home))
