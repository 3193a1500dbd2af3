use Rattle.std.proofs.Common.{IsSome, Option, subst, sym, vec_len, ◌∙◌}
use Rattle.std.specs.Vec.{vec_capacity}
use Rattle.pol_requests.specs.declared.prepared.Prepared.{Prepared}
use Rattle.pol_repo.proofs.Standing.{can_be_done, there_is, withdrawn}
use Rattle.pol_repo.proofs.Telling.{told_withdrawn}
use Rattle.pol_repo.proofs.repo.Repo.withdraw.Goals as goal

pub unwrap-prepared-requires : goal.unwrap-prepared-requires
unwrap-prepared-requires c =
    subst (λ (o : Option Prepared). IsSome o) (sym c.take.ensures.value)
    (there_is c.self.inside.options c.self.inside.journal.items (vec_len c.self.inside.journal) (vec_capacity c.self.inside.journal) c.self.inside.store c.self.inside.prepared c.args.self.now
    c.self.view_is c.self.invariant.0
    c.args.ready.request c.requires.request)

pub withdraw-requires : goal.withdraw-requires
withdraw-requires c = record {
  ready = can_be_done c.self.inside.options c.self.inside.journal.items (vec_len c.self.inside.journal) (vec_capacity c.self.inside.journal) c.self.inside.store c.self.inside.prepared c.args.self.now
      c.self.view_is c.self.invariant.0
      c.args.ready.request c.requires.request c.unwrap-prepared.result (sym c.take.ensures.value ∙ c.unwrap-prepared.ensures);
}

pub invariant_of-self : goal.invariant_of-self
invariant_of-self c = (
  withdrawn c.self.inside.options c.self.inside.journal.items (vec_len c.self.inside.journal) (vec_capacity c.self.inside.journal) c.self.inside.store c.self.inside.prepared c.args.self.now
      c.self.view_is c.self.invariant.0
      c.args.ready.request c.requires.request c.unwrap-prepared.result (sym c.take.ensures.value ∙ c.unwrap-prepared.ensures)
      c.withdraw.new.store c.take.new.self c.take.ensures.after c.withdraw.ensures.back,
  told_withdrawn c.self.inside.options c.self.inside.journal.items (vec_len c.self.inside.journal) (vec_capacity c.self.inside.journal) c.self.inside.store c.self.inside.prepared c.args.self.now
      c.self.view_is c.self.invariant.0 c.self.inside.nexts.items (vec_len c.self.inside.nexts) (vec_capacity c.self.inside.nexts) c.self.invariant.1
      c.args.ready.request c.requires.request c.unwrap-prepared.result (sym c.take.ensures.value ∙ c.unwrap-prepared.ensures)
      (vec_len c.self.inside.nexts) (vec_capacity c.self.inside.nexts) c.withdraw.new.store c.take.new.self c.take.ensures.after c.withdraw.ensures.selectors c.withdraw.ensures.back c.fits_together.ensures.sound.live,
)
