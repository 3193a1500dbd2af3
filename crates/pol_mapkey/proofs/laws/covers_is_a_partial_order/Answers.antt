-- Each part of the law is a lemma.
use Rattle.pol_mapkey.proofs.Keys.{covers-both, covers-three}
use Rattle.pol_mapkey.proofs.laws.covers_is_a_partial_order.Goals as goal

pub returns-clause-antisymmetric : goal.returns-clause-antisymmetric
returns-clause-antisymmetric c = covers-both

pub returns-clause-transitive : goal.returns-clause-transitive
returns-clause-transitive c = covers-three
