-- What a value's view is made of.
use Rattle.std.proofs.Common.{◌≡◌, List, [], ◌∷◌, refl, ap}
use Rattle.serde_json.specs.Data.{Data}
use Rattle.serde_json.specs.View.{items_of}
use Rattle.pol_json.specs.Members.{items_list}

-- the items of a list's view, as a list
pub items_list_view : (ds : List Data) → items_list (items_of ds) ≡ ds
items_list_view [] = refl
items_list_view (d ∷ ds) = ap (λ rest. d ∷ rest) (items_list_view ds)
