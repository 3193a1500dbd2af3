use Rattle.std.proofs.Common.{◌∷◌, [], List, sym, subst, ◌∙◌, ap}
use Rattle.pol_model.specs.declared.row.IdentityRow.{IdentityRow}
use Rattle.pol_selcache.specs.Cache.{MayPlan}
use Rattle.pol_model_laws.specs.Holding.{has_row}
use Rattle.pol_selcache.proofs.Coming.{it_is_held, new_may_come}
use Rattle.engine_bench.proofs.cache.turns.labels_acquired.Goals as goal

pub returns-in-Ok-clause-may : goal.returns-in-Ok-clause-may
returns-in-Ok-clause-may c = λ revision cache newer exact.
    subst (λ (rows : List IdentityRow). MayPlan revision (c.in-Ok.number ∷ []) [] rows cache) (sym c.in-Ok.ensures.ok)
    (new_may_come c.args.labels.now c.args.identities.now c.in-Ok.number c.fits_together.ensures.sound.numbers c.in-Ok.ensures.number c.requires.new revision cache newer exact)

pub returns-in-Ok-clause-held : goal.returns-in-Ok-clause-held
returns-in-Ok-clause-held c =
    ap (has_row c.in-Ok.number) c.in-Ok.ensures.ok ∙ it_is_held c.args.labels.now c.args.identities.now c.in-Ok.number c.in-Ok.ensures.number
