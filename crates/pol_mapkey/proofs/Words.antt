-- What the kinds of two deciding entries say is what the entries say.
use Rattle.std.proofs.Common.{◌≡◌, refl, Option, Some, None, option_map}
use Rattle.pol_mapkey.specs.declared.Kind.TheVariants.{Allow, Deny}
use Rattle.pol_mapkey.specs.Entries.{Entry, word_of, word_of_kinds}

pub word_is : (a b : Option Entry) → word_of_kinds (option_map (λ e. e.1) a) (option_map (λ e. e.1) b) ≡ word_of a b
word_is None None = refl
word_is None (Some (k, Allow)) = refl
word_is None (Some (k, Deny)) = refl
word_is (Some (k, Allow)) None = refl
word_is (Some (k, Deny)) None = refl
word_is (Some (k, Allow)) (Some (l, Allow)) = refl
word_is (Some (k, Allow)) (Some (l, Deny)) = refl
word_is (Some (k, Deny)) (Some (l, Allow)) = refl
word_is (Some (k, Deny)) (Some (l, Deny)) = refl
