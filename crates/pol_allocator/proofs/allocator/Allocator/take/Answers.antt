use Rattle.std.proofs.Common.{rules, ◌+◌, ◌<◌, ◌==◌, ap, ◌↔◌, IfSome, IsErrOf, sym, subst, ◌∙◌}
use Rattle.std.specs.Arc.{arc_value}
use Rattle.pol_ident.specs.declared.error.IdentError.TheVariants as error
use Rattle.pol_model.specs.declared.limits.TheConstants.{LOCAL_IDENTITIES}
use Rattle.pol_model.specs.Fault.{locals_held, locals_wanted}
use Rattle.pol_prefixes.specs.Tables.{IsTableOf}
use Rattle.pol_allocator.specs.Held.{Held}
use Rattle.pol_allocator.specs.Sharing.{IsTableBut, is_of}
use Rattle.pol_allocator.proofs.Sharing.{each_some, held_but, none_came}
use Rattle.pol_allocator.proofs.allocator.Allocator.take.Goals as goal

pub returns-in_err-come-clause-exhausted : goal.returns-in_err-come-clause-exhausted
returns-in_err-come-clause-exhausted c =
    subst (λ (held : Held). IsErrOf c.from_residual.result error.Exhausted ↔ (LOCAL_IDENTITIES < locals_held held.rows + locals_wanted held.rows c.args.prefixes.now)) c.self.view_is
    (search rules)

pub returns-clause-exhausted : goal.returns-clause-exhausted
returns-clause-exhausted c =
    let told = subst (λ (held : Held). IsErrOf c.hold_prefixes-held.result error.Exhausted ↔ (LOCAL_IDENTITIES < locals_held held.rows + locals_wanted held.rows c.args.prefixes.now)) c.self.view_is
    c.hold_prefixes-held.ensures.exhausted in
    subst (λ result. IsErrOf result error.Exhausted ↔ (LOCAL_IDENTITIES < locals_held c.args.self.now.rows + locals_wanted c.args.self.now.rows c.args.prefixes.now)) c.in_ok-come.was told

pub once_held-requires-clause-same : goal.once_held-requires-clause-same
once_held-requires-clause-same c = λ none.
    let rows = c.self.inside.identities in
    let more = c.hold_prefixes-held.new.identities in
    subst (λ shared. IfSome shared (λ table. IsTableOf more (arc_value table))) (sym c.take-shared.ensures.value)
    (each_some c.self.inside.shared
    (λ table. none_came c.args.prefixes.now rows more c.in_ok-come.ensures.rows (arc_value table) c.in_ok-come.come.items c.self.invariant.0 c.fits_together.ensures.sound c.in_ok-come.ensures.come (ap (λ n. n == 0) (sym c.in_ok-come.come.ok.0) ∙ sym c.is_empty.ensures ∙ none))
    c.self.invariant.2)

pub once_held-requires-clause-others : goal.once_held-requires-clause-others
once_held-requires-clause-others c =
    let rows = c.self.inside.identities in
    let more = c.hold_prefixes-held.new.identities in
    let prefixes = c.args.prefixes.now in
    subst (λ shared. IfSome shared (λ table. IsTableBut (is_of prefixes) more (arc_value table))) (sym c.take-shared.ensures.value)
    (each_some c.self.inside.shared (λ table. held_but prefixes rows more c.in_ok-come.ensures.rows (arc_value table)) c.self.invariant.2)
