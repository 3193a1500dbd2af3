use Rattle.std.proofs.Common.{subst}
use Rattle.pol_connection_maps.specs.Again.{AgreeOnFilters, GiveTheSame}
use Rattle.pol_connection_maps.proofs.Serving.{serves}
use Rattle.pol_connection_maps.proofs.again.serves_again.Goals as goal

pub returns-then-give_the_same : goal.returns-then-give_the_same
returns-then-give_the_same c = λ same made.
    let before = c.args.before.now in
    let after = c.args.after.now in
    let is = c.filters-old.ensures in
    let agree = c.both_select_the_same.ensures same in
    serves before after c.args.own.now c.args.filters.now
    (subst (λ filters. GiveTheSame filters c.args.filters.now) is (c.give_the_same.ensures c.if-give_the_same.true))
    (subst (λ filters. AgreeOnFilters before after filters.ingress) is agree.0)
    (subst (λ filters. AgreeOnFilters before after filters.egress) is agree.1) made
