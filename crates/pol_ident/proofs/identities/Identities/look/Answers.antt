use Rattle.std.proofs.Common.{None, Some, option_map, refl, sym, ap, ◌∙◌}
use Rattle.pol_addr.specs.Address.{family_of}
use Rattle.pol_model.specs.Worlds.{world_in, world_labels}
use Rattle.pol_ident.proofs.HeldPrefixes.{worlds}
use Rattle.pol_ident.proofs.Looks.{cluster-tells, local-tells, nowhere-row}
use Rattle.pol_ident.proofs.identities.Identities.look.Goals as goal

pub returns-in-Some-clause-labels : goal.returns-in-Some-clause-labels
returns-in-Some-clause-labels c =
    rw (← c.self.view_is) (cluster-tells c.self.inside.cluster c.self.inside.local c.args.number c.in-Cluster.place c.in-Cluster.ensures (λ labels. labels) (λ row. row.labels) (λ own. refl) (Some c.in-Some.labels.now) c.in-Some.ensures)

pub returns-in-Some-clause-prefix : goal.returns-in-Some-clause-prefix
returns-in-Some-clause-prefix c =
    rw (← c.self.view_is) (cluster-tells c.self.inside.cluster c.self.inside.local c.args.number c.in-Cluster.place c.in-Cluster.ensures (λ labels. None) (λ row. row.prefix) (λ own. refl) (Some c.in-Some.labels.now) c.in-Some.ensures)

pub returns-in-None-clause-labels : goal.returns-in-None-clause-labels
returns-in-None-clause-labels c =
    rw (← c.self.view_is) (cluster-tells c.self.inside.cluster c.self.inside.local c.args.number c.in-Cluster.place c.in-Cluster.ensures (λ labels. labels) (λ row. row.labels) (λ own. refl) None c.in-None.ensures)

pub returns-in-None-clause-prefix : goal.returns-in-None-clause-prefix
returns-in-None-clause-prefix c =
    rw (← c.self.view_is) (cluster-tells c.self.inside.cluster c.self.inside.local c.args.number c.in-Cluster.place c.in-Cluster.ensures (λ labels. None) (λ row. row.prefix) (λ own. refl) None c.in-None.ensures)

pub returns-in-Some-key_at-clause-labels : goal.returns-in-Some-key_at-clause-labels
returns-in-Some-key_at-clause-labels c =
    let own = c.world_labels-labels.ensures ∙ ap (λ f. world_labels (world_in f)) (c.family.ensures.value ∙ ap family_of c.network.ensures.value) in
    rw (← c.self.view_is)
    (ap Some own ∙ local-tells c.self.inside.cluster c.self.inside.local c.args.number c.in-Local.place c.in-Local.ensures c.self.invariant.cluster_few worlds (λ row. row.labels) (λ own. refl) (Some c.in-Some-key_at.prefix.now) c.in-Some-key_at.ensures)

pub returns-in-Some-key_at-clause-prefix : goal.returns-in-Some-key_at-clause-prefix
returns-in-Some-key_at-clause-prefix c =
    rw (← c.self.view_is) (local-tells c.self.inside.cluster c.self.inside.local c.args.number c.in-Local.place c.in-Local.ensures c.self.invariant.cluster_few (λ prefix. Some prefix) (λ row. row.prefix) (λ own. refl) (Some c.in-Some-key_at.prefix.now) c.in-Some-key_at.ensures)

pub returns-in-None-key_at-clause-labels : goal.returns-in-None-key_at-clause-labels
returns-in-None-key_at-clause-labels c =
    rw (← c.self.view_is) (local-tells c.self.inside.cluster c.self.inside.local c.args.number c.in-Local.place c.in-Local.ensures c.self.invariant.cluster_few worlds (λ row. row.labels) (λ own. refl) None c.in-None-key_at.ensures)

pub returns-in-None-key_at-clause-prefix : goal.returns-in-None-key_at-clause-prefix
returns-in-None-key_at-clause-prefix c =
    rw (← c.self.view_is) (local-tells c.self.inside.cluster c.self.inside.local c.args.number c.in-Local.place c.in-Local.ensures c.self.invariant.cluster_few (λ prefix. Some prefix) (λ row. row.prefix) (λ own. refl) None c.in-None-key_at.ensures)

pub returns-in-Nowhere-clause-labels : goal.returns-in-Nowhere-clause-labels
returns-in-Nowhere-clause-labels c =
    rw (← c.self.view_is) (sym (ap (option_map (λ row. row.labels)) (nowhere-row c.self.inside.cluster c.self.inside.local c.args.number c.in-Nowhere.ensures c.self.invariant.keeps)))

pub returns-in-Nowhere-clause-prefix : goal.returns-in-Nowhere-clause-prefix
returns-in-Nowhere-clause-prefix c =
    rw (← c.self.view_is) (sym (ap (option_map (λ row. row.prefix)) (nowhere-row c.self.inside.cluster c.self.inside.local c.args.number c.in-Nowhere.ensures c.self.invariant.keeps)))
