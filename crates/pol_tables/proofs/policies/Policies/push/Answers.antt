use Rattle.std.proofs.Common.{◌≡◌, None, Some, cond, sym, ap, ◌∙◌, subst}
use Rattle.std.specs.Map.{lookup}
use Rattle.pol_rule.specs.contracts.policy.PolicyKeyPartialEq.TheImpl as policy_key
use Rattle.pol_model.specs.Policies.{is_of_key}
use Rattle.pol_tables.specs.Numbered.{place_of}
use Rattle.pol_tables.specs.Tables.{PolicyTable}
use Rattle.pol_tables.proofs.ByKey.{stands-pushed}
use Rattle.pol_tables.proofs.policies.Policies.push.Goals as goal

pub invariant_of-self : goal.invariant_of-self
invariant_of-self c =
    let old = c.self.inside in
    rw (c.push-2.ensures.list, c.push.ensures.list)
    (stands-pushed c.args.new old.rows.list old.arrivals.list old.next old.by_key.entries c.insert.new.self.entries c.self.invariant
    (subst (λ (t : PolicyTable). place_of (is_of_key c.args.new.policy.key) t.list ≡ None) (sym c.self.view_is) c.requires.new)
    (λ key. (rw c.unwrap.ensures at c.insert.ensures.updates).0 key
    ∙ ap (λ own. cond (policy_key.ghosts.eq own key) (Some old.next) (lookup (policy_key.ghosts.eq key) old.by_key.entries)) c.requires.key))
