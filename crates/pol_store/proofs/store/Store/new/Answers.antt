use Rattle.std.proofs.Common.{ap, refl, sym}
use Rattle.pol_allocator.specs.Held.{Held}
use Rattle.pol_store.proofs.Kept.{nothing_listed_yet, nothing_kept}
use Rattle.pol_store.proofs.Starting.{starts}
use Rattle.pol_store.proofs.store.Store.new.Goals as goal

pub returns-clause-start : goal.returns-clause-start
returns-clause-start c = λ options mode.
    starts options _ c.in_ok-new.field-0 c.in_ok-new.ensures.nothing refl (sym mode) refl c.new-2.ensures.list c.new-3.ensures.list c.new.ensures.list refl

pub invariant_of-result : goal.invariant_of-result
invariant_of-result c =
    let nothing = nothing_kept c.new-3.result.list c.args.mode c.new-5.result c.new-3.ensures.list c.new-5.ensures.none in
    (nothing.0, nothing.1, nothing.2, tt, nothing_listed_yet _ c.new-5.result (ap (λ (h : Held). h.cache.live) c.in_ok-new.ensures.nothing) c.new-5.ensures.none)
