-- How the numbers of a set are seen. No public clause cites this module.
use Rattle.std.specs.Prelude.{ℕ, List, [], ◌∷◌}
use Rattle.pol_sets.specs.Blocks.{numbers_in}
use Rattle.pol_sets.specs.declared.id_set.Ids.{Ids}
use Rattle.pol_sets.specs.declared.id_set.Ids.TheVariants.{One, Few, Many}

abbrev pub ids_in : Ids → List ℕ
ids_in (One id) = id ∷ []
ids_in (Few ids) = ids
ids_in (Many blocks) = numbers_in blocks
