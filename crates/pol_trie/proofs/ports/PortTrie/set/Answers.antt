use Rattle.std.proofs.Common.{◌^◌, Some, sym, ap, ◌∙◌}
use Rattle.std.specs.FinMap as map
use Rattle.pol_trie.proofs.Putting.{with_kind}
use Rattle.pol_trie.proofs.Listing.{IsTrie-after, ports_of-put, get-ports_of}
use Rattle.pol_trie.proofs.ports.PortTrie.set.Goals as goal

pub put-root-requires : goal.put-root-requires
put-root-requires c = c.in_ok-make_room.ensures.ok

pub invariant_of-self : goal.invariant_of-self
invariant_of-self c = c.make_room.ensures.trie

pub invariant_of-self-2 : goal.invariant_of-self-2
invariant_of-self-2 c =
    let w = c.make_room.ensures.trie in
    IsTrie-after c.make_room.new.nodes c.put-root.new.nodes c.self.inside.root (Some c.put-root.result.0) w (with_kind c.args.port (Some c.args.kind) w.tree)
    (c.put-root.ensures.put w.tree 0 (2 ^ 16) 0 w.holds c.make_room.ensures.takes)

pub returns-clause-ok : goal.returns-clause-ok
returns-clause-ok c =
    let w = c.make_room.ensures.trie in
    ports_of-put c.make_room.new.nodes c.put-root.new.nodes c.self.inside.root (Some c.put-root.result.0) w c.args.port c.args.kind (c.put-root.ensures.put w.tree 0 (2 ^ 16) 0 w.holds c.make_room.ensures.takes)
    ∙ ap (λ m. map.insert m c.args.port c.args.kind) (c.make_room.ensures.same ∙ c.self.view_is)

pub returns-clause-had : goal.returns-clause-had
returns-clause-had c =
    let w = c.make_room.ensures.trie in
    c.put-root.ensures.had w.tree 0 (2 ^ 16) 0 w.holds
    ∙ sym (get-ports_of c.make_room.new.nodes c.self.inside.root w c.args.port)
    ∙ ap (λ m. map.get m c.args.port) (c.make_room.ensures.same ∙ c.self.view_is)
