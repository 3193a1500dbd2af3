use Rattle.std.proofs.Common.{ap, ◌∙◌}
use Rattle.pol_model.specs.Prefixes.{number_of_prefix}
use Rattle.pol_prefixes.proofs.Numbers.{number_of_left}
use Rattle.pol_allocator.specs.Held.{Held}
use Rattle.pol_store.proofs.Kept.{listed_still, told_moved}
use Rattle.pol_store.proofs.store.Store.release.Goals as goal

pub invariant_of-self : goal.invariant_of-self
invariant_of-self c =
    let rows = c.self.inside.numbers.rows in (
      c.self.invariant.0,
      c.self.invariant.1,
      c.self.invariant.2,
      told_moved c.self.inside.endpoints.list rows c.release.new.self.rows c.self.inside.addresses
          (λ own. ap (λ (h : Held). number_of_prefix own h.rows) c.release.ensures.released ∙ number_of_left rows c.fits_together.ensures.rows c.args.number c.requires.not_local own)
          c.self.invariant.3,
      listed_still c.self.inside.numbers.cache c.release.new.self.cache c.self.inside.kept (ap (λ (h : Held). h.cache) c.release.ensures.released) c.self.invariant.4,
    )
