-- The points of an arc's sweep through a quadrant, given by the numbers of inward and outward steps that lead to them
-- (own).
use Rattle.std.specs.Prelude.{◌≡◌, ◌⊎◌, ℕ, ◌+◌, ◌-◌, ◌*◌, ◌<◌, ◌≤◌}
use Rattle.ng_step.specs.declared.sweep.QuadrantSweep.{QuadrantSweep}
use Rattle.ng_step.specs.declared.sweep.SweepSteps.{SweepSteps}
use Rattle.ng_step.specs.declared.sweep.QuadrantEnd.{QuadrantEnd}
use Rattle.ng_step.specs.Turned.{norm}

-- m outward steps lead outside the circle, and fewer don't
pub record IsLeaving (square inner outer step m : ℕ) : Type 0 where
  pub outside : square < norm inner (outer + m * step)
  pub least : (k : ℕ) → k < m → norm inner (outer + k * step) ≤ square

-- the level after j inward steps
abbrev pub inner_at : QuadrantSweep → ℕ → ℕ
inner_at p j = p.inner - j * p.inner_step

-- the coordinate after m outward steps
abbrev pub outer_at : QuadrantSweep → ℕ → ℕ
outer_at p m = p.outer + m * p.outer_step

-- The sweep reaches this point. It goes inward only outside the circle, and outward only inside it.
pub record OnWay (p : QuadrantSweep) (j m : ℕ) : Type 0 where
  pub inside : j * p.inner_step < p.inner
  pub entered : (j ≡ 0) ⊎ (p.square < norm (inner_at p (j - 1)) (outer_at p m))
  pub stayed : (k : ℕ) → k < m → norm (inner_at p j) (outer_at p k) ≤ p.square

-- from here an inward step leaves the quadrant
pub record IsLast (p : QuadrantSweep) (way : SweepSteps) : Type 0 where
  pub on : OnWay p way.inward way.outward
  pub outside : p.square < norm (inner_at p way.inward) (outer_at p way.outward)
  pub near : p.inner ≤ (way.inward + 1) * p.inner_step

abbrev pub IsPast : QuadrantSweep → QuadrantEnd → ℕ → ℕ → Type 0
IsPast p e j m = inner_at p j * e.outer ≤ outer_at p m * e.inner

abbrev pub IsBefore : QuadrantSweep → QuadrantEnd → ℕ → ℕ → Type 0
IsBefore p e j m = outer_at p m * e.inner < inner_at p j * e.outer

-- when it goes inward from a level, it is level with the end or past it
pub record LeavesPast (p : QuadrantSweep) (e : QuadrantEnd) (j : ℕ) : Type 0 where
  pub m : ℕ
  pub leaving : IsLeaving p.square (inner_at p j) p.outer p.outer_step m
  pub past : IsPast p e j m

-- when it goes inward from a level, it is before the end
pub record LeavesBefore (p : QuadrantSweep) (e : QuadrantEnd) (j : ℕ) : Type 0 where
  pub m : ℕ
  pub leaving : IsLeaving p.square (inner_at p j) p.outer p.outer_step m
  pub before : IsBefore p e j m

-- the step to this point is an inward one, from a point before the end
pub record ComesInward (p : QuadrantSweep) (e : QuadrantEnd) (j m : ℕ) : Type 0 where
  pub some : 0 < j
  pub on : OnWay p (j - 1) m
  pub outside : p.square < norm (inner_at p (j - 1)) (outer_at p m)
  pub before : IsBefore p e (j - 1) m

-- the step to this point is an outward one, from a point before the end
pub record ComesOutward (p : QuadrantSweep) (e : QuadrantEnd) (j m : ℕ) : Type 0 where
  pub some : 0 < m
  pub on : OnWay p j (m - 1)
  pub within : norm (inner_at p j) (outer_at p (m - 1)) ≤ p.square
  pub before : IsBefore p e j (m - 1)

-- the first point that is level with the end or past it
pub record IsFirstPast (p : QuadrantSweep) (e : QuadrantEnd) (way : SweepSteps) : Type 0 where
  pub inside : way.inward * p.inner_step < p.inner
  pub past : IsPast p e way.inward way.outward
  pub comes : ComesInward p e way.inward way.outward ⊎ ComesOutward p e way.inward way.outward
