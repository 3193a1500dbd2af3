use Rattle.std.proofs.Common.{List, sym, subst, ◌∙◌, ap}
use Rattle.pol_model_laws.specs.Holding.{has_row}
use Rattle.pol_model.specs.declared.row.IdentityRow.{IdentityRow}
use Rattle.pol_selcache.specs.Cache.{MayCome}
use Rattle.engine_bench.proofs.PrefixComes.{prefix_is_held, prefix_may_come}
use Rattle.engine_bench.proofs.cache.turns.prefix_acquired.Goals as goal

pub returns-in-Ok-clause-may : goal.returns-in-Ok-clause-may
returns-in-Ok-clause-may c =
    subst (λ (rows : List IdentityRow). MayCome c.in-Ok.number c.args.identities.now rows) (sym c.in-Ok.ensures.ok)
    (prefix_may_come c.args.prefix c.args.identities.now c.in-Ok.number c.in-Ok.ensures.number c.fits_together.ensures.sound.numbers c.requires.new)

pub returns-in-Ok-clause-held : goal.returns-in-Ok-clause-held
returns-in-Ok-clause-held c =
    ap (has_row c.in-Ok.number) c.in-Ok.ensures.ok ∙ prefix_is_held c.args.prefix c.args.identities.now c.in-Ok.number c.in-Ok.ensures.number
