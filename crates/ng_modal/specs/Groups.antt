-- The numbers of the modal groups (NISTIR 6556, table 4), including those of words that are left out.
use Rattle.std.specs.Prelude.{ℕ, List, [], ◌∷◌}
use Rattle.ng_modal.specs.declared.codes.GWord.{GWord}
use Rattle.ng_modal.specs.declared.codes.GWord.TheVariants.{NonModal, Motion, LeftOutMotion, Plane, Distance}
use Rattle.ng_modal.specs.declared.codes.GWord.TheVariants.{FeedMode, Unit, NoCompensation, LeftOutCompensation}
use Rattle.ng_modal.specs.declared.codes.GWord.TheVariants.{ToolLength, Retract, System, Path}
use Rattle.ng_modal.specs.declared.codes.MWord.{MWord}
use Rattle.ng_modal.specs.declared.codes.MWord.TheVariants.{Stop, ToolChange, Spindle, Coolant, Overrides}

-- the group of a G word
abbrev pub group_of : GWord → ℕ
group_of (NonModal _) = 0
group_of (Motion _) = 1
group_of LeftOutMotion = 1
group_of (Plane _) = 2
group_of (Distance _) = 3
group_of (FeedMode _) = 5
group_of (Unit _) = 6
group_of NoCompensation = 7
group_of LeftOutCompensation = 7
group_of (ToolLength _) = 8
group_of (Retract _) = 10
group_of (System _) = 12
group_of (Path _) = 13

-- the group of an M word
abbrev pub m_group_of : MWord → ℕ
m_group_of (Stop _) = 4
m_group_of ToolChange = 6
m_group_of (Spindle _) = 7
m_group_of (Coolant _) = 8
m_group_of (Overrides _) = 9

-- each group once
abbrev pub groups : List ℕ
groups = 0 ∷ 1 ∷ 2 ∷ 3 ∷ 5 ∷ 6 ∷ 7 ∷ 8 ∷ 10 ∷ 12 ∷ 13 ∷ []

abbrev pub m_groups : List ℕ
m_groups = 4 ∷ 6 ∷ 7 ∷ 8 ∷ 9 ∷ []
