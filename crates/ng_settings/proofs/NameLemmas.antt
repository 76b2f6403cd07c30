-- The names of a table, as the keys of its map.
use Rattle.std.proofs.Common.{◌≡◌, Bool, List, [], ◌∷◌, ◌||◌, not, String, Global, string_bytes, refl, ap}
use Rattle.std.specs.List.{list_any}
use Rattle.std.specs.Map.{keys_of}
use Rattle.toml.proofs.Views.{Entry}
use Rattle.toml.specs.View.{members_view}
use Rattle.ng_settings.specs.KeyValues.{is_key}
use Rattle.ng_settings.specs.Causes.{names}

abbrev is_unknown : String Global → Bool
is_unknown name = not (is_key (string_bytes name))

pub unknown_in_names : (es : List Entry) → list_any (λ (name : String Global). not (is_key (string_bytes name)))
    (keys_of es) ≡ list_any (λ name. not (is_key name)) (names (members_view es))
unknown_in_names [] = refl
unknown_in_names (e ∷ es) = ap (λ (rest : Bool). not (is_key (string_bytes e.0)) || rest) (unknown_in_names es)
