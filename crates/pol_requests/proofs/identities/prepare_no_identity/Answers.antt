use Rattle.std.proofs.Common.{◌∙◌}
use Rattle.pol_tables.specs.Tables.{number_named}
use Rattle.pol_requests.proofs.LiveNumbers.{name_held}
use Rattle.pol_requests.proofs.identities.prepare_no_identity.Goals as goal

pub plan_release-requires-clause-held : goal.plan_release-requires-clause-held
plan_release-requires-clause-held g c =
    name_held c.args.store.now c.requires.stands c.args.name.now c.in-Some.number
    (c.in-Some.ensures.found ∙ (λ i. number_named (c.as_str.ensures i) (c.named.ensures.list i)))
