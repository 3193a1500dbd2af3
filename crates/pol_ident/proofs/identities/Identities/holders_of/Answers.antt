use Rattle.std.proofs.Common.{option_map, sym, ap, ◌∙◌}
use Rattle.pol_ident.proofs.Looks.{cluster-holders, local-holders, nowhere-row}
use Rattle.pol_ident.proofs.identities.Identities.holders_of.Goals as goal

pub returns-in-Cluster-clause-holders : goal.returns-in-Cluster-clause-holders
returns-in-Cluster-clause-holders c =
    rw (← c.self.view_is) (c.holders_at.ensures ∙ cluster-holders c.self.inside.cluster c.self.inside.local c.args.number c.in-Cluster.place c.in-Cluster.ensures)

pub returns-in-Local-clause-holders : goal.returns-in-Local-clause-holders
returns-in-Local-clause-holders c =
    rw (← c.self.view_is)
    (c.holders_at-in-Local.ensures ∙ local-holders c.self.inside.cluster c.self.inside.local c.args.number c.in-Local.place c.in-Local.ensures c.self.invariant.cluster_few)

pub returns-in-Nowhere-clause-holders : goal.returns-in-Nowhere-clause-holders
returns-in-Nowhere-clause-holders c =
    rw (← c.self.view_is) (sym (ap (option_map (λ row. row.holders)) (nowhere-row c.self.inside.cluster c.self.inside.local c.args.number c.in-Nowhere.ensures c.self.invariant.keeps)))
