use Rattle.std.proofs.Common.{subst, sym, vec_len}
use Rattle.std.specs.Vec.{vec_capacity}
use Rattle.pol_store.specs.Store.{Stored}
use Rattle.pol_repo.specs.Inside.{IsSound, IsTold}
use Rattle.pol_repo.proofs.Standing.{stands}
use Rattle.pol_repo.proofs.Taking.{refs_of}
use Rattle.pol_repo.proofs.repo.Repo.refresh.Goals as goal

pub refresh-requires : goal.refresh-requires
refresh-requires c = record {
  refs = refs_of c.self.inside.store c.args.self.now
      (stands c.self.inside.options c.self.inside.journal.items (vec_len c.self.inside.journal) (vec_capacity c.self.inside.journal) c.self.inside.store c.self.inside.prepared c.args.self.now
      c.self.view_is c.self.invariant.0 c.requires.idle);
}

pub invariant_of-self : goal.invariant_of-self
invariant_of-self c = (
  subst (λ (t : Stored). IsSound c.self.inside.options c.self.inside.journal.items (vec_len c.self.inside.journal) (vec_capacity c.self.inside.journal) t c.self.inside.prepared) (sym c.refresh.ensures.same) c.self.invariant.0,
  subst (λ (t : Stored). IsTold c.self.inside.options c.self.inside.journal.items c.self.inside.nexts.items (vec_len c.self.inside.nexts) (vec_capacity c.self.inside.nexts) t c.self.inside.prepared) (sym c.refresh.ensures.same) c.self.invariant.1,
)
