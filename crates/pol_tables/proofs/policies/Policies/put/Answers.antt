use Rattle.std.proofs.Common.{◌≡◌, None, sym, ◌∙◌, subst}
use Rattle.pol_model.specs.Policies.{is_of_key}
use Rattle.pol_tables.specs.Numbered.{place_of}
use Rattle.pol_tables.proofs.Places.{nobody, none_found}
use Rattle.pol_tables.proofs.ByKey.{applied_last}
use Rattle.pol_tables.proofs.policies.Policies.put.Goals as goal

pub returns-in-None-clause-list : goal.returns-in-None-clause-list
returns-in-None-clause-list c =
    c.push.ensures.list
    ∙ applied_last c.args.new c.args.self.now.list (subst (λ key. place_of (is_of_key key) c.args.self.now.list ≡ None) c.requires.key (sym c.in-None.ensures.place))

pub returns-in-None-clause-replaced : goal.returns-in-None-clause-replaced
returns-in-None-clause-replaced c =
    let own = c.args.new.policy.key in
    sym (none_found (is_of_key own) c.args.self.now.list
    (nobody (is_of_key own) c.args.self.now.list (subst (λ key. place_of (is_of_key key) c.args.self.now.list ≡ None) c.requires.key (sym c.in-None.ensures.place))))
