-- What an object has under a name: the field of that name.
use Rattle.std.proofs.Common.{◌≡◌, ℕ, List, [], ◌∷◌, Option, None, Some, option_and_then, Ordering, Less, Equal, Greater, nat_cmp, refl, sym, ap, ◌∙◌}
use Rattle.std.specs.Cmp.Lexicographic.{slice_cmp}
use Rattle.std.specs.Option.{option_or}
use Rattle.std.specs.Ordering.{match_ordering}
use Rattle.serde_json.specs.Data.{Data, Members}
use Rattle.serde_json.specs.Find.{get_member}
use Rattle.document_laws.specs.Fields.{Fields, with_field, members_of, object_of}
use Rattle.pol_json.specs.Members.{present, unless_null}

-- the first field of that name that isn't left out
abbrev pub field_of : List ℕ → Fields → Option Data
field_of name [] = None
field_of name (field ∷ others) =
    match_ordering (slice_cmp nat_cmp name field.0) (field_of name others) (option_or field.1 (field_of name others)) (field_of name others)

either_way : (o : Ordering) (d : Option Data) → match_ordering o d d d ≡ d
either_way Less d = refl
either_way Equal d = refl
either_way Greater d = refl

got_behind : (name key : List ℕ) (value : Option Data) (others : Members) (rest : Option Data) → get_member name others ≡ rest
    → get_member name (with_field key value others) ≡ match_ordering (slice_cmp nat_cmp name key) rest (option_or value rest) rest
got_behind name key None others rest is = is ∙ sym (either_way (slice_cmp nat_cmp name key) rest)
got_behind name key (Some d) others rest is = ap (λ r. match_ordering (slice_cmp nat_cmp name key) r (Some d) r) is

pub got : (name : List ℕ) (fields : Fields) → get_member name (members_of fields) ≡ field_of name fields
got name [] = refl
got name (field ∷ others) = got_behind name field.0 field.1 (members_of others) (field_of name others) (got name others)

-- a null member counts as absent
abbrev pub shown : Option Data → Option Data
shown field = option_and_then unless_null field

pub has : (name : List ℕ) (fields : Fields) → present name (object_of fields) ≡ shown (field_of name fields)
has name fields = ap shown (got name fields)
