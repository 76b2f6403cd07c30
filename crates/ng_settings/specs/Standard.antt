-- The default settings (own).
use Rattle.std.specs.Prelude.{◌≡◌, [], ◌∷◌, pos}
use Rattle.ng_canon.specs.Geometry.{IsStandard}
use Rattle.ng_settings.specs.declared.standard.Settings.{Settings}

-- the default machine, and one tool of 50 mm
pub record AreStandard (settings : Settings) : Type 0 where
  pub machine : IsStandard settings.geometry
  pub tools : settings.tools ≡ pos 50_000_000 ∷ []
