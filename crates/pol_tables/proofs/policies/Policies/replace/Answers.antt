use Rattle.std.proofs.Common.{◌≡◌, slice_get, Some, sym, ap, ◌∙◌, subst}
use Rattle.pol_model.specs.Policies.{applied, is_of_key}
use Rattle.pol_tables.specs.Numbered.{place_of}
use Rattle.pol_tables.specs.Tables.{PolicyTable}
use Rattle.pol_tables.proofs.Places.{found_at, place_within}
use Rattle.pol_tables.proofs.ByKey.{applied_at, stands-replaced}
use Rattle.pol_tables.proofs.policies.Policies.replace.Goals as goal

pub replace-requires : goal.replace-requires
replace-requires c = record {
  within = place_within (is_of_key c.args.new.policy.key) c.self.inside.rows.list c.args.place
      (subst (λ (t : PolicyTable). place_of (is_of_key c.args.new.policy.key) t.list ≡ Some c.args.place) (sym c.self.view_is) c.requires.place);
}

pub invariant_of-self : goal.invariant_of-self
invariant_of-self c =
    let old = c.self.inside in
    rw c.replace.ensures.list
    (stands-replaced c.args.new old.rows.list old.arrivals.list old.next old.by_key.entries c.args.place c.self.invariant
    (subst (λ (t : PolicyTable). place_of (is_of_key c.args.new.policy.key) t.list ≡ Some c.args.place) (sym c.self.view_is) c.requires.place))

pub returns-clause-list : goal.returns-clause-list
returns-clause-list c =
    c.replace.ensures.list
    ∙ applied_at c.args.new c.self.inside.rows.list c.args.place
    (subst (λ (t : PolicyTable). place_of (is_of_key c.args.new.policy.key) t.list ≡ Some c.args.place) (sym c.self.view_is) c.requires.place)
    ∙ ap (λ (t : PolicyTable). applied c.args.new t.list) c.self.view_is

pub returns-clause-replaced : goal.returns-clause-replaced
returns-clause-replaced c =
    sym (found_at (is_of_key c.args.new.policy.key) c.args.self.now.list c.args.place c.requires.place)
    ∙ ap (λ (t : PolicyTable). slice_get t.list c.args.place) (sym c.self.view_is)
    ∙ c.replace.ensures.replaced
