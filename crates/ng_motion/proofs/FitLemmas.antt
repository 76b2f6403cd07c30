-- Values that a key may not have.
use Rattle.std.proofs.Common.{inl, inr, ℕ}
use Rattle.toml.specs.Data.{Data}
use Rattle.ng_motion.specs.declared.key.Key.{Key}
use Rattle.ng_motion.specs.declared.key.Key.TheVariants.{Accel, Rate, Start, Slack, Most}
use Rattle.ng_motion.specs.declared.values.PerAxis.{PerAxis}
use Rattle.ng_motion.specs.Values.{HasAxes, HasWhole, IsFit, IsTriple, IsWhole}

pub unfit_whole : (key : Key) (d : Data) → HasWhole key → ((n : ℕ) → IsWhole key d n → ⊥) → IsFit key d → ⊥
unfit_whole Slack d has none (n, is) = none n is
unfit_whole Most d has none (n, is) = none n is
unfit_whole Accel d has none fit = elim has [ inl e ↦ cc | inr e ↦ cc ]
unfit_whole Rate d has none fit = elim has [ inl e ↦ cc | inr e ↦ cc ]
unfit_whole Start d has none fit = elim has [ inl e ↦ cc | inr e ↦ cc ]

pub unfit_axes : (key : Key) (d : Data) → HasAxes key → ((a : PerAxis) → IsTriple key d a → ⊥) → IsFit key d → ⊥
unfit_axes Accel d has none (a, is) = none a is
unfit_axes Rate d has none (a, is) = none a is
unfit_axes Start d has none (a, is) = none a is
unfit_axes Slack d has none fit = absurd (other has)
  where
    other : HasAxes Slack → ⊥
    other h = elim h [ inl e ↦ cc | inr h' ↦ elim h' [ inl e ↦ cc | inr e ↦ cc ] ]
unfit_axes Most d has none fit = absurd (other has)
  where
    other : HasAxes Most → ⊥
    other h = elim h [ inl e ↦ cc | inr h' ↦ elim h' [ inl e ↦ cc | inr e ↦ cc ] ]
