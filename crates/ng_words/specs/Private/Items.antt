-- What the items of a line say by themselves.
use Rattle.std.specs.Prelude.{ℕ, List, [], ◌∷◌, Option, Some, None}
use Rattle.std.specs.Option.{option_or}
use Rattle.ng_words.specs.declared.piece_entry.PieceEntry.{PieceEntry}
use Rattle.ng_words.specs.declared.piece_entry.PieceEntry.TheVariants as item

-- how many bytes the last comment has
abbrev pub last_size : List PieceEntry → Option ℕ
last_size [] = None
last_size (item.Number letter n ∷ items) = last_size items
last_size (item.Word letter n ∷ items) = last_size items
last_size (item.Assignment i n ∷ items) = last_size items
last_size (item.Comment n ∷ items) = option_or (last_size items) (Some n)
