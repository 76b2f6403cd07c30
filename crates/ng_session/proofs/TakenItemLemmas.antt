-- What a cursor returned, and what it has left after that.
use Rattle.std.proofs.Common.{◌≡◌, List, [], ◌∷◌, Option, Some, None, MatchOption, sym, ◌∙◌, ap}
use Rattle.ng_canon.specs.declared.item.Item.{Item}
use Rattle.ng_session.specs.Ticking.{first_of, rest_of}

pub first_taken : (r : Option Item) (old new : List Item) → MatchOption r ((old ≡ []) × (new ≡ [])) (λ item. old ≡ item ∷ new) → r ≡ first_of old
first_taken None old new h = sym (ap first_of h.0)
first_taken (Some item) old new h = sym (ap first_of h)

pub rest_taken : (r : Option Item) (old new : List Item) → MatchOption r ((old ≡ []) × (new ≡ [])) (λ item. old ≡ item ∷ new) → new ≡ rest_of old
rest_taken None old new h = h.1 ∙ sym (ap rest_of h.0)
rest_taken (Some item) old new h = sym (ap rest_of h)
