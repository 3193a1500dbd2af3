use Rattle.std.proofs.Common.{IsTrue, sym, ◌∙◌, ap, subst}
use Rattle.std.specs.Option.{option_copied}
use Rattle.pol_sets.specs.Sets.{has_set}
use Rattle.pol_distill.proofs.Indexes.{none_found, set_in}
use Rattle.pol_distill.proofs.index.PeerSets.set_of.Goals as goal

pub unreachable-requires : goal.unreachable-requires
unreachable-requires c =
    none_found c.args.peer.now c.self.inside.rows.now
    (ap set_in (sym (ap option_copied c.in-None.is) ∙ c.get.ensures.value) ∙ c.self.invariant c.args.peer.now)
    (subst (λ rows. IsTrue (has_set rows c.args.peer.now)) (sym c.self.view_is) c.requires)
