use Rattle.pol_requests.proofs.Answering.{answered}
use Rattle.pol_requests.proofs.committed.answer.Goals as goal

pub returns : goal.returns
returns c = record {
  answer = λ s request keeps ready.
      answered s request c.args.store.now c.args.prepared.now c.next_revision.result c.identity_in.result c.slots_with.result keeps ready
      c.next_revision.ensures.next c.identity_in.ensures.identity c.slots_with.ensures.slots;
}
