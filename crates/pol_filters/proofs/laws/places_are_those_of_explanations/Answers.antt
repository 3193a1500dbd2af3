use Rattle.pol_rule.specs.Covers.{entry_covers}
use Rattle.pol_filters.proofs.Explained.{allows_explained, denies_explained, idle_covers}
use Rattle.pol_filters.proofs.laws.places_are_those_of_explanations.Goals as goal

pub returns : goal.returns
returns c = record {
  denies = λ takes proto port policies endpoint dir.
      denies_explained (entry_covers takes proto port) (idle_covers takes proto port) policies endpoint dir;
  allows = λ takes proto port policies endpoint dir.
      allows_explained (entry_covers takes proto port) (idle_covers takes proto port) policies endpoint dir;
}
