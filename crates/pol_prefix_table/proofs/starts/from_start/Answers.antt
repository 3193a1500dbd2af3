use Rattle.std.proofs.Common.{◌≡◌, true, sym, ap, subst, ◌∙◌}
use Rattle.pol_addr.specs.Prefix.{covers, host_prefix}
use Rattle.pol_prefix_table.specs.declared.walk.Reached.{Reached}
use Rattle.pol_prefix_table.specs.Starts.{HasReached}
use Rattle.pol_prefix_table.proofs.Reached.{reached_further}
use Rattle.pol_prefix_table.proofs.starts.from_start.Goals as goal

pub returns-clause-reached : goal.returns-clause-reached
returns-clause-reached g c =
    let nodes = c.args.trie.now in
    let to = c.host-to.result in
    let is = c.reached-walk.ensures.walk in
    let inside : covers c.args.start.now.to to ≡ true = ap (covers c.args.start.now.to) (c.host-to.ensures ∙ ap host_prefix c.addr.ensures.addr) ∙ c.contains.ensures c.if-not-contains.false in
    reached_further nodes c.reached-walk.result to (subst (HasReached nodes) (sym is) c.requires.start) (ap (λ (r : Reached). covers r.to to) is ∙ inside)
