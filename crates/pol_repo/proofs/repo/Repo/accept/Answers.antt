use Rattle.std.proofs.Common.{◌≡◌, ℕ, ◌++◌, [], ◌∷◌, IsSome, Option, ap, subst, sym, vec_len, ◌∙◌}
use Rattle.pol_selcache.specs.Cache.{Cache, IsSound as AreSound}
use Rattle.std.specs.Vec.{vec_capacity}
use Rattle.pol_allocator.specs.Held.{Held}
use Rattle.pol_requests.specs.declared.prepared.Prepared.{Prepared}
use Rattle.pol_repo.specs.Inside.{seen_as}
use Rattle.pol_repo.proofs.Standing.{accepted, accepted_seen, can_be_done, commits, may_commit, there_is}
use Rattle.pol_repo.proofs.Telling.{told_accepted}
use Rattle.pol_repo.proofs.repo.Repo.accept.Goals as goal

pub unwrap-prepared-requires : goal.unwrap-prepared-requires
unwrap-prepared-requires c =
    subst (λ (o : Option Prepared). IsSome o) (sym c.take.ensures.value)
    (there_is c.self.inside.options c.self.inside.journal.items (vec_len c.self.inside.journal) (vec_capacity c.self.inside.journal) c.self.inside.store c.self.inside.prepared c.args.self.now
    c.self.view_is c.self.invariant.0
    c.args.ready.request c.requires.request)

pub accept-requires-clause-ready : goal.accept-requires-clause-ready
accept-requires-clause-ready c =
    can_be_done c.self.inside.options c.self.inside.journal.items (vec_len c.self.inside.journal) (vec_capacity c.self.inside.journal) c.self.inside.store c.self.inside.prepared c.args.self.now
    c.self.view_is c.self.invariant.0
    c.args.ready.request c.requires.request c.unwrap-prepared.result (sym c.take.ensures.value ∙ c.unwrap-prepared.ensures)

pub invariant_of-self : goal.invariant_of-self
invariant_of-self c =
    let cache = c.selectors.ensures.cache ∙ ap (λ (held : Held). held.cache) c.numbers.ensures.numbers in
    let pushed : c.push.new.self.items ≡ c.self.inside.nexts.items ++ c.next_number-next.result ∷ [] = rw c.unwrap.ensures at c.push.ensures.items in (
      accepted c.self.inside.options c.self.inside.journal.items (vec_len c.self.inside.journal) (vec_capacity c.self.inside.journal) c.self.inside.store c.self.inside.prepared c.args.self.now
          c.self.view_is c.self.invariant.0
          c.args.ready.request c.requires.request c.unwrap-prepared.result (sym c.take.ensures.value ∙ c.unwrap-prepared.ensures)
          c.push-2.new.self.items c.accept.new.store (vec_len c.push-2.new.self) (vec_capacity c.push-2.new.self) c.take.new.self
          (rw c.unwrap-2.ensures at c.push-2.ensures.items) c.take.ensures.after c.accept.ensures.done,
      told_accepted c.self.inside.options c.self.inside.journal.items (vec_len c.self.inside.journal) (vec_capacity c.self.inside.journal) c.self.inside.store c.self.inside.prepared c.args.self.now
          c.self.view_is c.self.invariant.0 c.self.inside.nexts.items (vec_len c.self.inside.nexts) (vec_capacity c.self.inside.nexts) c.self.invariant.1
          c.args.ready.request c.requires.request c.unwrap-prepared.result (sym c.take.ensures.value ∙ c.unwrap-prepared.ensures)
          c.push-2.new.self.items c.push.new.self.items (vec_len c.push.new.self) (vec_capacity c.push.new.self) c.accept.new.store c.take.new.self
          (rw c.unwrap-2.ensures at c.push-2.ensures.items)
          (pushed ∙ ap (λ (next : ℕ). c.self.inside.nexts.items ++ next ∷ []) (c.next_number-next.ensures.next ∙ ap (λ (cache : Cache). cache.next) cache))
          c.take.ensures.after c.fits_together.ensures.sound (subst AreSound cache c.next_number-next.ensures.sound) c.accept.ensures.selectors c.accept.ensures.done,
    )

pub returns-clause-committed : goal.returns-clause-committed
returns-clause-committed c =
    commits c.args.self.now (seen_as c.self.inside.options c.push-2.new.self.items c.accept.new.store c.take.new.self) c.args.ready.request c.args.ready.done
    (may_commit c.self.inside.options c.self.inside.journal.items (vec_len c.self.inside.journal) (vec_capacity c.self.inside.journal) c.self.inside.store c.self.inside.prepared c.args.self.now
    c.self.view_is c.self.invariant.0
    c.args.ready.request c.requires.request c.unwrap-prepared.result (sym c.take.ensures.value ∙ c.unwrap-prepared.ensures))
    c.requires.done
    (accepted_seen c.self.inside.options c.self.inside.journal.items (vec_len c.self.inside.journal) (vec_capacity c.self.inside.journal) c.self.inside.store c.self.inside.prepared c.args.self.now
    c.self.view_is c.self.invariant.0
    c.args.ready.request c.requires.request c.unwrap-prepared.result (sym c.take.ensures.value ∙ c.unwrap-prepared.ensures)
    c.push-2.new.self.items c.accept.new.store c.take.new.self (rw c.unwrap-2.ensures at c.push-2.ensures.items) c.take.ensures.after)
