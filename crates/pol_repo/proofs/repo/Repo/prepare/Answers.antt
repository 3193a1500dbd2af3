use Rattle.std.proofs.Common.{arith, vec_len}
use Rattle.std.specs.Vec.{vec_capacity}
use Rattle.pol_repo.proofs.Standing.{counts, few_steps, prepared_sound, prepared_done, prepared_no_fault, prepared_rises, prepared_seen, refused, refused_cause, stands_for_some}
use Rattle.pol_repo.proofs.Telling.{told_prepared, told_refused}
use Rattle.pol_repo.proofs.repo.Repo.prepare.Goals as goal

pub prepare_in-requires-clause-stands : goal.prepare_in-requires-clause-stands
prepare_in-requires-clause-stands g c =
    stands_for_some c.self.inside.options c.self.inside.journal.items (vec_len c.self.inside.journal) (vec_capacity c.self.inside.journal) c.self.inside.store c.self.inside.prepared c.args.self.now
    c.self.view_is c.self.invariant.0 c.requires.idle

pub prepare_in-requires-clause-counts : goal.prepare_in-requires-clause-counts
prepare_in-requires-clause-counts g c =
    counts c.self.inside.options c.self.inside.journal.items (vec_len c.self.inside.journal) (vec_capacity c.self.inside.journal) c.self.inside.store c.self.inside.prepared c.args.self.now
    c.self.view_is c.self.invariant.0

pub answer-done-requires : goal.answer-done-requires
answer-done-requires g c = record {
  room = prepared_rises c.self.inside.options c.self.inside.journal.items (vec_len c.self.inside.journal) (vec_capacity c.self.inside.journal) c.self.inside.store c.self.inside.prepared c.args.self.now
      c.self.view_is c.self.invariant.0 c.requires.idle
      c.args.request c.prepare_in.new.journal.items c.prepare_in.new.store c.prepare_in.ensures.journal
      c.in-Ok.prepared c.in-Ok.ensures.rises c.in-Ok.ensures.prepared;
}

pub invariant_of-self : goal.invariant_of-self
invariant_of-self g c = (
  prepared_sound c.self.inside.options c.self.inside.journal.items (vec_len c.self.inside.journal) (vec_capacity c.self.inside.journal) c.self.inside.store c.self.inside.prepared c.args.self.now
      c.self.view_is c.self.invariant.0 c.requires.idle
      c.args.request c.prepare_in.new.journal.items c.prepare_in.new.store c.prepare_in.ensures.journal
      c.in-Ok.prepared (vec_len c.prepare_in.new.journal) (vec_capacity c.prepare_in.new.journal) c.in-Ok.ensures.rises c.in-Ok.ensures.room c.in-Ok.ensures.prepared,
  told_prepared c.self.inside.options c.self.inside.journal.items (vec_len c.self.inside.journal) (vec_capacity c.self.inside.journal) c.self.inside.store c.self.inside.prepared c.args.self.now
      c.self.view_is c.self.invariant.0 c.self.inside.nexts.items (vec_len c.self.inside.nexts) (vec_capacity c.self.inside.nexts) c.self.invariant.1 c.requires.idle
      c.prepare_in.new.journal.items c.prepare_in.new.nexts.items (vec_len c.prepare_in.new.nexts) (vec_capacity c.prepare_in.new.nexts) c.prepare_in.new.store c.prepare_in.ensures.journal c.prepare_in.ensures.nexts c.prepare_in.ensures.selectors
      c.prepare_in.ensures.before c.in-Ok.prepared c.in-Ok.ensures.more,
)

pub returns-in-Ok-clause-no_fault : goal.returns-in-Ok-clause-no_fault
returns-in-Ok-clause-no_fault g c =
    prepared_no_fault c.self.inside.options c.self.inside.journal.items (vec_len c.self.inside.journal) (vec_capacity c.self.inside.journal) c.self.inside.store c.self.inside.prepared c.args.self.now
    c.self.view_is c.self.invariant.0 c.requires.idle
    c.args.request c.prepare_in.new.journal.items c.prepare_in.new.store c.prepare_in.ensures.journal
    c.in-Ok.prepared c.in-Ok.ensures.prepared

pub returns-in-Ok-clause-done : goal.returns-in-Ok-clause-done
returns-in-Ok-clause-done g c =
    prepared_done c.self.inside.options c.self.inside.journal.items (vec_len c.self.inside.journal) (vec_capacity c.self.inside.journal) c.self.inside.store c.self.inside.prepared c.args.self.now
    c.self.view_is c.self.invariant.0 c.requires.idle
    c.args.request c.prepare_in.new.journal.items c.prepare_in.new.store c.prepare_in.ensures.journal
    c.in-Ok.prepared c.answer-done.result c.in-Ok.ensures.prepared c.answer-done.ensures.answer

pub returns-in-Ok-clause-prepared : goal.returns-in-Ok-clause-prepared
returns-in-Ok-clause-prepared g c =
    prepared_seen c.self.inside.options c.self.inside.journal.items (vec_len c.self.inside.journal) (vec_capacity c.self.inside.journal) c.self.inside.store c.self.inside.prepared c.args.self.now
    c.self.view_is c.self.invariant.0 c.requires.idle
    c.args.request c.prepare_in.new.journal.items c.prepare_in.new.store c.prepare_in.ensures.journal
    c.in-Ok.prepared c.in-Ok.ensures.prepared

pub returns-in-Ok-clause-cost : goal.returns-in-Ok-clause-cost
returns-in-Ok-clause-cost g c = λ other.
    omega (
      arith,
      c.prepare_in.ensures.cost other,
      few_steps c.self.inside.options c.self.inside.journal.items (vec_len c.self.inside.journal) (vec_capacity c.self.inside.journal) c.self.inside.store c.self.inside.prepared c.args.self.now
          c.self.view_is c.self.invariant.0 c.requires.idle c.fits_together.ensures.sound.live,
    )

pub invariant_of-self-in-Err-Fault : goal.invariant_of-self-in-Err-Fault
invariant_of-self-in-Err-Fault g c = (
  refused c.self.inside.options c.self.inside.journal.items (vec_len c.self.inside.journal) (vec_capacity c.self.inside.journal) c.self.inside.store c.self.inside.prepared c.args.self.now
      c.self.view_is c.self.invariant.0 c.requires.idle
      c.args.request c.prepare_in.new.journal.items c.prepare_in.new.store c.prepare_in.ensures.journal
      c.in-Err-Fault.field-0 (vec_len c.prepare_in.new.journal) (vec_capacity c.prepare_in.new.journal) c.in-Err-Fault.ensures.prepared,
  told_refused c.self.inside.options c.self.inside.journal.items (vec_len c.self.inside.journal) (vec_capacity c.self.inside.journal) c.self.inside.store c.self.inside.prepared c.args.self.now
      c.self.view_is c.self.invariant.0 c.self.inside.nexts.items (vec_len c.self.inside.nexts) (vec_capacity c.self.inside.nexts) c.self.invariant.1 c.requires.idle
      c.prepare_in.new.journal.items c.prepare_in.new.nexts.items (vec_len c.prepare_in.new.nexts) (vec_capacity c.prepare_in.new.nexts) c.prepare_in.new.store c.prepare_in.ensures.journal c.prepare_in.ensures.nexts c.prepare_in.ensures.selectors
      c.args.request c.in-Err-Fault.field-0 c.in-Err-Fault.ensures.prepared c.prepare_in.ensures.sound.live,
)

pub returns-in-Err-Fault-clause-cause : goal.returns-in-Err-Fault-clause-cause
returns-in-Err-Fault-clause-cause g c =
    refused_cause c.self.inside.options c.self.inside.journal.items (vec_len c.self.inside.journal) (vec_capacity c.self.inside.journal) c.self.inside.store c.self.inside.prepared c.args.self.now
    c.self.view_is c.self.invariant.0 c.requires.idle
    c.args.request c.prepare_in.new.journal.items c.prepare_in.new.store c.prepare_in.ensures.journal
    c.in-Err-Fault.field-0 c.in-Err-Fault.fault c.refused.result c.in-Err-Fault.field-0-is c.refused.ensures.error c.in-Err-Fault.ensures.prepared

pub returns-in-Err-Fault-clause-cost : goal.returns-in-Err-Fault-clause-cost
returns-in-Err-Fault-clause-cost g c = λ other.
    omega (
      arith,
      c.prepare_in.ensures.cost other,
      few_steps c.self.inside.options c.self.inside.journal.items (vec_len c.self.inside.journal) (vec_capacity c.self.inside.journal) c.self.inside.store c.self.inside.prepared c.args.self.now
          c.self.view_is c.self.invariant.0 c.requires.idle c.fits_together.ensures.sound.live,
    )

pub invariant_of-self-in-Err-Memory : goal.invariant_of-self-in-Err-Memory
invariant_of-self-in-Err-Memory g c = (
  refused c.self.inside.options c.self.inside.journal.items (vec_len c.self.inside.journal) (vec_capacity c.self.inside.journal) c.self.inside.store c.self.inside.prepared c.args.self.now
      c.self.view_is c.self.invariant.0 c.requires.idle
      c.args.request c.prepare_in.new.journal.items c.prepare_in.new.store c.prepare_in.ensures.journal
      c.in-Err-Memory.field-0 (vec_len c.prepare_in.new.journal) (vec_capacity c.prepare_in.new.journal) c.in-Err-Memory.ensures.prepared,
  told_refused c.self.inside.options c.self.inside.journal.items (vec_len c.self.inside.journal) (vec_capacity c.self.inside.journal) c.self.inside.store c.self.inside.prepared c.args.self.now
      c.self.view_is c.self.invariant.0 c.self.inside.nexts.items (vec_len c.self.inside.nexts) (vec_capacity c.self.inside.nexts) c.self.invariant.1 c.requires.idle
      c.prepare_in.new.journal.items c.prepare_in.new.nexts.items (vec_len c.prepare_in.new.nexts) (vec_capacity c.prepare_in.new.nexts) c.prepare_in.new.store c.prepare_in.ensures.journal c.prepare_in.ensures.nexts c.prepare_in.ensures.selectors
      c.args.request c.in-Err-Memory.field-0 c.in-Err-Memory.ensures.prepared c.prepare_in.ensures.sound.live,
)

pub returns-clause-cost : goal.returns-clause-cost
returns-clause-cost g c = λ other.
    omega (
      arith,
      c.prepare_in.ensures.cost other,
      few_steps c.self.inside.options c.self.inside.journal.items (vec_len c.self.inside.journal) (vec_capacity c.self.inside.journal) c.self.inside.store c.self.inside.prepared c.args.self.now
          c.self.view_is c.self.invariant.0 c.requires.idle c.fits_together.ensures.sound.live,
    )
