use Rattle.pol_allocator.proofs.Apart.{apart_where_held}
use Rattle.pol_allocator.proofs.laws.held_prefixes_are_apart.Goals as goal

pub returns : goal.returns
returns c = apart_where_held
