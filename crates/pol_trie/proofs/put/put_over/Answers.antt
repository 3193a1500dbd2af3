use Rattle.std.proofs.Common.{◌+◌, sym, ap, subst, ◌∙◌}
use Rattle.std.proofs.lemmas.Bool.{both_ways}
use Rattle.pol_ports.specs.declared.PortPrefix.{PortPrefix}
use Rattle.pol_ports.specs.PortPrefix.{end_of}
use Rattle.pol_trie.specs.Tree.{is_upper, Inside, Parts}
use Rattle.pol_trie.proofs.Prefixes.{inside_longer}
use Rattle.pol_trie.proofs.Putting.{over_put, beside_put}
use Rattle.pol_trie.proofs.Calls.{first_inside}
use Rattle.pol_trie.proofs.put.put_over.Goals as goal

pub common-fork-requires : goal.common-fork-requires
common-fork-requires c =
    let b = c.requires.below in
    record {
      around_a = c.around.ensures.a;
      around_b = c.around.ensures.b;
      not_a = b.apart;
      not_b = λ over. both_ways _ (sym c.contains.ensures ∙ c.if-contains.false) over;
    }

pub returns-then-contains : goal.returns-then-contains
returns-then-contains c = λ t lo hi len h takes.
    let b = c.requires.below in
    let port = c.args.port in
    let I : PortPrefix → Type 0 = λ x. Inside x port.bits (end_of port) (port.len + 1) in
    let a = c.add.ensures in
    over_put c.args.nodes.now c.add.new.nodes c.args.at c.add.result b.node port c.args.kind c.is_upper-high.result
    (c.is_upper-high.ensures ∙ ap (λ x. is_upper port x.bits) (sym b.prefix)) b.there a.was_free a.updates a.count
    (subst I (sym b.prefix) (inside_longer port c.args.below.now (sym c.contains.ensures ∙ c.if-contains.true) b.apart)) t lo hi len h takes.inside

pub returns : goal.returns
returns c = λ t lo hi len h takes.
    let b = c.requires.below in
    let port = c.args.port in
    let fork = c.common-fork.result in
    let P : PortPrefix → Type 0 = λ x. Parts fork x port in
    let parts = subst P (sym b.prefix) c.common-fork.ensures in
    let leaf = c.add-leaf.ensures in
    let top = c.add-2.ensures in
    beside_put c.args.nodes.now c.add-leaf.new.nodes c.add-2.new.nodes c.args.at c.add-leaf.result c.add-2.result b.node fork port c.args.kind c.is_upper-high-2.result
    (c.is_upper-high-2.ensures ∙ ap (λ x. is_upper fork x.bits) (sym b.prefix)) b.there leaf.was_free leaf.updates leaf.count top.was_free top.updates top.count parts
    t lo hi len h takes.inside (takes.common fork b.node.port port parts (first_inside c.args.nodes.now c.args.at b.node t lo hi len b.there h) takes.inside)
