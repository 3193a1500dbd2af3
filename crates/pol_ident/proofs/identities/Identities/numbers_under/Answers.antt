use Rattle.std.proofs.Common.{◌++◌, None, Some, ap, ◌∙◌}
use Rattle.pol_headings.specs.Heading.{heading_by}
use Rattle.pol_headings.specs.Stands.{stands_with}
use Rattle.pol_model.specs.declared.limits.TheConstants.{CLUSTER_FIRST, LOCAL_FIRST}
use Rattle.pol_interner.specs.Slots.{numbers_where}
use Rattle.pol_ident.proofs.HeldPrefixes.{are_prefixes, worlds}
use Rattle.pol_ident.proofs.StandUnder.{under, under-collected}
use Rattle.pol_ident.proofs.identities.Identities.numbers_under.Goals as goal

pub returns-clause-numbers : goal.returns-clause-numbers
returns-clause-numbers c =
    let cluster = c.self.inside.cluster in
    let local = c.self.inside.local in
    let heading = heading_by c.args.heading.now in
    let reserved = c.in_ok-numbers.ensures ∙ ap (under heading) (c.deref.ensures.value ∙ c.self.invariant.start) in
    let sets = c.in_ok-push_cluster.ensures ∙ ap (λ front. front ++ numbers_where CLUSTER_FIRST (λ labels. stands_with labels None heading) cluster) reserved in
    rw (← c.self.view_is)
    (c.in_ok-push_local.ensures
    ∙ ap (λ front. front ++ numbers_where LOCAL_FIRST (λ prefix. stands_with (worlds prefix) (Some prefix) heading) local) sets
    ∙ under-collected heading cluster local)

pub push_local-requires : goal.push_local-requires
push_local-requires c = record {
  few = c.self.invariant.local_few;
  valid = are_prefixes _ _ _ c.self.invariant;
  ipv4 = c.world_labels-ipv4.ensures;
  ipv6 = c.world_labels-ipv6.ensures;
}
