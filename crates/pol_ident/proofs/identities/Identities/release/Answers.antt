use Rattle.std.proofs.Common.{◌≡◌, true, sym, subst}
use Rattle.pol_model_laws.specs.Holding.{has_row}
use Rattle.pol_ident.proofs.GivenBack.{cluster-held, cluster-released, local-held, local-released, not-nowhere, reserved-released}
use Rattle.pol_ident.proofs.identities.Identities.release.Goals as goal

pub release-requires : goal.release-requires
release-requires c =
    let has = subst (λ rows. has_row c.args.number rows ≡ true) (sym c.self.view_is) c.requires.held in
    record { held = cluster-held _ _ _ c.self.invariant c.args.number has c.in-Cluster.place c.in-Cluster.ensures }

pub invariant_of-self : goal.invariant_of-self
invariant_of-self c = rw c.release.ensures (cluster-released _ _ _ c.self.invariant c.args.number c.in-Cluster.place c.in-Cluster.ensures).kept

pub returns-in-Cluster-clause-rows : goal.returns-in-Cluster-clause-rows
returns-in-Cluster-clause-rows c = rw (← c.self.view_is, c.release.ensures) (cluster-released _ _ _ c.self.invariant c.args.number c.in-Cluster.place c.in-Cluster.ensures).is

pub returns-in-Cluster-clause-sound : goal.returns-in-Cluster-clause-sound
returns-in-Cluster-clause-sound c = (invariant_of-self c).keeps

pub release-requires-in-Local : goal.release-requires-in-Local
release-requires-in-Local c =
    let has = subst (λ rows. has_row c.args.number rows ≡ true) (sym c.self.view_is) c.requires.held in
    record { held = local-held _ _ _ c.self.invariant c.args.number has c.in-Local.place c.in-Local.ensures }

pub invariant_of-self-in-Local : goal.invariant_of-self-in-Local
invariant_of-self-in-Local c = rw c.release-in-Local.ensures (local-released _ _ _ c.self.invariant c.args.number c.in-Local.place c.in-Local.ensures).kept

pub returns-in-Local-clause-rows : goal.returns-in-Local-clause-rows
returns-in-Local-clause-rows c = rw (← c.self.view_is, c.release-in-Local.ensures) (local-released _ _ _ c.self.invariant c.args.number c.in-Local.place c.in-Local.ensures).is

pub returns-in-Local-clause-sound : goal.returns-in-Local-clause-sound
returns-in-Local-clause-sound c = (invariant_of-self-in-Local c).keeps

pub returns-in-Reserved-clause-rows : goal.returns-in-Reserved-clause-rows
returns-in-Reserved-clause-rows c = rw (← c.self.view_is) (reserved-released _ _ _ c.self.invariant c.args.number _ c.in-Reserved.ensures)

pub unreachable-requires : goal.unreachable-requires
unreachable-requires c =
    let has = subst (λ rows. has_row c.args.number rows ≡ true) (sym c.self.view_is) c.requires.held in
    not-nowhere _ _ _ c.self.invariant c.args.number has c.in-Nowhere.ensures
