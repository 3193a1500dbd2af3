use Rattle.std.proofs.Common.{sym, subst}
use Rattle.pol_model.specs.Prefixes.{prefixes_released}
use Rattle.pol_prefixes.specs.Beyond.{AreBeyond}
use Rattle.pol_allocator.specs.Held.{Held, Prepares}
use Rattle.pol_allocator.proofs.Moving.{moves_exact, moves_may}
use Rattle.pol_allocator.proofs.allocator.Allocator.plan_moves.Goals as goal

pub plan-requires : goal.plan-requires
plan-requires g c =
    let rows = c.args.self.now.rows in
    let beyond = subst (AreBeyond (prefixes_released c.args.given_up.now rows) rows) (sym c.as_slice.ensures.value) c.in_ok-gone.ensures.gone in
    record {
      may = moves_may c.args.given_up.now rows c.as_slice.result.now beyond c.args.revision c.args.come.now c.args.self.now.cache
          c.requires.newer c.requires.held c.requires.stay c.requires.exact;
    }

pub returns-clause-plan : goal.returns-clause-plan
returns-clause-plan g c =
    let rows = c.args.self.now.rows in
    let beyond = subst (AreBeyond (prefixes_released c.args.given_up.now rows) rows) (sym c.as_slice.ensures.value) c.in_ok-gone.ensures.gone in
    let plan = c.in_ok-plan.plan in
    let prepares : Prepares c.args.revision (prefixes_released c.args.given_up.now rows) c.plan.new.self.cache plan = record {
      revision_is = c.in_ok-plan.ensures.plan.revision_is;
      fits = c.in_ok-plan.ensures.plan.fits;
      exact = moves_exact c.args.given_up.now rows c.as_slice.result.now beyond c.gone.ensures.sound.numbers _ c.in_ok-plan.ensures.plan.exact;
    } in
    subst (λ (held : Held). Prepares c.args.revision (prefixes_released c.args.given_up.now rows) held.cache plan) (sym c.prepare_shared.ensures.same) prepares
