-- The remaining segments of a block, and the outputs before them.
use Rattle.std.specs.Prelude.{List}
use Rattle.ng_canon.specs.declared.outputs.Outputs.{Outputs}
use Rattle.ng_canon.specs.declared.segment.Segment.{Segment}
use Rattle.ng_canon.specs.declared.segment.Segment.TheVariants as segment

-- the outputs after a segment
abbrev pub outputs_with : Outputs → Segment → Outputs
outputs_with o (segment.Switch next) = next
outputs_with o (segment.Line line) = o
outputs_with o (segment.Arc arc) = o
outputs_with o (segment.Dwell seconds) = o

-- the remaining segments, and the outputs before them
pub record SegmentsModel : Type 0 where
  pub outputs : Outputs
  pub segments : List Segment
