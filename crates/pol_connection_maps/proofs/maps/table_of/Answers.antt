use Rattle.std.proofs.Common.{◌∙◌}
use Rattle.std.proofs.lemmas.Result.{IfOk-weaker}
use Rattle.pol_connection_maps.proofs.Listed.{filters_serve}
use Rattle.pol_connection_maps.proofs.Peered.{own_serve}
use Rattle.pol_connection_maps.proofs.maps.table_of.Goals as goal

pub own_sets-requires : goal.own_sets-requires
own_sets-requires c = c.requires.every

pub distill-requires : goal.distill-requires
distill-requires c = record {
  sets = filters_serve c.in_ok-own.own c.args.filters.now (c.in_ok-own.ensures c.requires.identities c.requires.exact).every;
}

pub returns-clause-entries : goal.returns-clause-entries
returns-clause-entries c =
    IfOk-weaker c.distill.result _ _ (λ table made.
    made ∙ own_serve c.requires.identities c.args.filters.now c.args.sets.now c.in_ok-own.own c.requires.exact c.requires.every (c.in_ok-own.ensures c.requires.identities c.requires.exact))
    c.distill.ensures.canonical
