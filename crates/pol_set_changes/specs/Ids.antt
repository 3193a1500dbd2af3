-- Numbers in ascending lists, under the names that they have in `pol_sets`.
pub use Rattle.pol_sets.specs.Ids.{has, without, placed, union}
