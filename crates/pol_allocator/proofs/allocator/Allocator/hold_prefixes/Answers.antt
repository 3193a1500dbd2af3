use Rattle.std.proofs.Common.{◌+◌, ap, sym, subst, ◌∙◌}
use Rattle.pol_model.specs.declared.limits.TheConstants.{LOCAL_IDENTITIES}
use Rattle.pol_model.specs.Fault.{locals_held, locals_wanted}
use Rattle.pol_model.specs.Prefixes.{prefixes_released}
use Rattle.pol_prefixes.specs.Beyond.{AreBeyond}
use Rattle.pol_allocator.specs.Held.{Held}
use Rattle.pol_allocator.proofs.Moving.{not_more, taken_may, taken_undone}
use Rattle.pol_allocator.proofs.allocator.Allocator.hold_prefixes.Goals as goal

pub plan_moves-requires : goal.plan_moves-requires
plan_moves-requires g c =
    let beyond = subst (AreBeyond c.args.self.now.rows c.take.new.self.rows) (sym c.as_slice.ensures.value) c.in_ok-come.ensures.come in
    let may = taken_may c.args.taken.now c.args.given_up.now c.as_slice.result.now c.args.revision c.args.self.now c.take.new.self
    c.take.ensures.sound c.in_ok-come.ensures.rows beyond c.requires.apart c.requires.settled in
    record { once = c.requires.once; newer = may.newer; held = may.held; stay = may.stay; exact = may.exact }

pub returns-clause-err : goal.returns-clause-err
returns-clause-err g c =
    let taken = c.args.taken.now in
    let back : Held → Held = λ numbers. record numbers { rows = prefixes_released taken numbers.rows } in
    let room = not_more LOCAL_IDENTITIES (locals_held c.args.self.now.rows + locals_wanted c.args.self.now.rows taken)
    (λ more. let wrong = c.in_ok-come.ensures.exhausted.1 more in absurd cc) in
    c.release_prefixes.ensures.rows ∙ ap back c.in-Err.ensures.err
    ∙ taken_undone taken c.args.self.now c.take.new.self c.take.ensures.sound c.in_ok-come.ensures.within room c.in_ok-come.ensures.rows
