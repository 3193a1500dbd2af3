use Rattle.std.proofs.Common.{List, sym, subst, ◌∙◌, ap}
use Rattle.std.proofs.lemmas.Bool.{not-true}
use Rattle.pol_model_laws.specs.Holding.{has_row}
use Rattle.pol_model.specs.declared.row.IdentityRow.{IdentityRow}
use Rattle.pol_selcache.specs.Live.{AreExact}
use Rattle.pol_selcache.proofs.Coming.{exact_without}
use Rattle.engine_tests.proofs.selectors.is_given_back.Goals as goal

pub returns : goal.returns
returns c = record {
  exact = λ gone live exact.
      subst (λ (rows : List IdentityRow). AreExact rows live) (sym c.release.ensures.rows)
      (exact_without c.args.number c.args.identities.now c.requires.held c.fits_together.ensures.sound
      (ap (has_row c.args.number) (sym c.release.ensures.rows) ∙ sym c.held.ensures.held ∙ not-true c.held.result gone) live exact);
}
