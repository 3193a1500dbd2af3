use Rattle.std.proofs.Common.{Some, sym, ap, ◌∙◌}
use Rattle.std.specs.FinMap as map
use Rattle.pol_addr.proofs.Containment.{covers-family}
use Rattle.pol_prefix_table.proofs.Maps.{IsTrie-room, tight_room, numbers_room, numbers_after, map_of-insert}
use Rattle.pol_prefix_table.proofs.StartLists.{starts_room, starts_outside, all_outside}
use Rattle.pol_prefix_table.proofs.family_table.FamilyTable.insert.Goals as goal

pub invariant_of-self : goal.invariant_of-self
invariant_of-self g c =
    let trie = IsTrie-room c.self.inside.trie c.reserve.new.self c.reserve.ensures.rest_kept c.reserve.ensures.trie in
    (starts_room c.self.inside.trie c.reserve.new.self c.reserve.ensures.rest_kept c.reserve.ensures.trie trie c.self.inside.starts.items c.self.invariant.0, tight_room c.self.inside.trie c.reserve.new.self c.reserve.ensures.rest_kept c.self.invariant.1)

pub invariant_of-self-then-capacity-gt-MOST_NODES : goal.invariant_of-self-then-capacity-gt-MOST_NODES
invariant_of-self-then-capacity-gt-MOST_NODES g c =
    let trie = IsTrie-room c.self.inside.trie c.reserve.new.self c.reserve.ensures.rest_kept c.reserve.ensures.trie in
    (starts_room c.self.inside.trie c.reserve.new.self c.reserve.ensures.rest_kept c.reserve.ensures.trie trie c.self.inside.starts.items c.self.invariant.0, tight_room c.self.inside.trie c.reserve.new.self c.reserve.ensures.rest_kept c.self.invariant.1)

pub grow-requires : goal.grow-requires
grow-requires g c =
    let trie = IsTrie-room c.self.inside.trie c.reserve.new.self c.reserve.ensures.rest_kept c.reserve.ensures.trie in
    record { starts = starts_room c.self.inside.trie c.reserve.new.self c.reserve.ensures.rest_kept c.reserve.ensures.trie trie c.self.inside.starts.items c.self.invariant.0 }

pub invariant_of-self-in_err-grow : goal.invariant_of-self-in_err-grow
invariant_of-self-in_err-grow g c = (c.grow.ensures, tight_room c.self.inside.trie c.reserve.new.self c.reserve.ensures.rest_kept c.self.invariant.1)

pub put-over-requires-clause-tight : goal.put-over-requires-clause-tight
put-over-requires-clause-tight g c = tight_room c.self.inside.trie c.reserve.new.self c.reserve.ensures.rest_kept c.self.invariant.1

pub renew-requires-clause-family : goal.renew-requires-clause-family
renew-requires-clause-family g c = sym (covers-family c.put-over.result c.args.prefix c.put-over.ensures.over) ∙ c.requires

pub renew-requires-clause-outside : goal.renew-requires-clause-outside
renew-requires-clause-outside g c =
    let room = c.reserve.new.self in
    let new = c.put-over.new.trie in
    let over = c.put-over.result in
    let trie = IsTrie-room c.self.inside.trie room c.reserve.ensures.rest_kept c.reserve.ensures.trie in
    let trie' = c.fits_together.ensures.trie in
    starts_outside g.B.Bits.family room new trie.tree trie'.tree over c.args.prefix (Some c.args.number) c.put-over.ensures.over (all_outside room new over c.put-over.ensures.kept) c.put-over.ensures.numbers c.grow.new.starts.items c.grow.ensures

pub returns-clause-ok : goal.returns-clause-ok
returns-clause-ok g c =
    let numbers = numbers_after c.self.inside.trie c.reserve.new.self c.put-over.new.trie c.args.prefix (Some c.args.number) (numbers_room c.self.inside.trie c.reserve.new.self c.reserve.ensures.rest_kept) c.put-over.ensures.numbers in
    map_of-insert c.self.inside.trie c.put-over.new.trie c.args.prefix c.args.number numbers ∙ ap (λ m. map.insert m c.args.prefix c.args.number) c.self.view_is
