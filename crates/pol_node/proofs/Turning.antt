-- What a finish of a take tells of the slot's regeneration, and what a sync learns of that.
use Rattle.std.proofs.Common.{◌≡◌, ℕ, ◌==◌, Bool, true, false, List, [], length, None, Some, Result, Ok, Err, IfOk, option_map, inl, inr, refl, ap, ◌∙◌, arith}
use Rattle.std.proofs.lemmas.Bool.{eqb-true}
use mathlib.Core.List.{IsPrefix}
use Rattle.pol_model.specs.declared.answer.FullSlot.{FullSlot}
use Rattle.pol_model.specs.declared.options.Options.{Options}
use Rattle.pol_model.specs.declared.row.Endpoint.{Endpoint}
use Rattle.pol_model.specs.PolicyMap.{map_size, policy_map}
use Rattle.pol_model.specs.State.{State}
use Rattle.pol_model_laws.proofs.Membership.{find-In}
use Rattle.pol_history.specs.declared.event.EndpointId.{EndpointId}
use Rattle.pol_history.specs.declared.event.HistoryEvent.{HistoryEvent}
use Rattle.pol_history.specs.declared.turn.SlotTurn.{SlotTurn}
use Rattle.pol_history.specs.Commits.{live_endpoint, revision_of, state_after, state_now}
use Rattle.pol_history.specs.Grows.{PassGrowsWhole, PassState}
use Rattle.pol_history.specs.Legal.{IsLegal}
use Rattle.pol_history.specs.Machine.{endpoint_id, endpoint_in}
use Rattle.pol_history.specs.Regenerate.{IsAlready, IsFull, IsGone, IsPublished, WasTaken}
use Rattle.pol_history.specs.Reports.{size_at}
use Rattle.pol_history.specs.SlotTurns.{TellsTurn}
use Rattle.pol_history.proofs.Beginnings.{prefix_length, prefix_self}
use Rattle.pol_history.proofs.Cuts.{state-now}
use Rattle.pol_history.proofs.Later.{full-kept, is_gone-kept, published-kept, taken-kept}
use Rattle.pol_history.proofs.Names.{slot-live}
use Rattle.pol_history.proofs.Own.{revision-prefix, state-prefix}
use Rattle.pol_history.proofs.Taken.{already-tells, already_full-tells, full-tells, published-tells, turn-kept}
use Rattle.pol_taken.specs.declared.taken.Taken.{Taken}
use Rattle.pol_node.specs.declared.report.Finished.{Finished}
use Rattle.pol_node.specs.declared.report.Finished.TheVariants as done
use Rattle.pol_node.specs.declared.report.Regen.{Regen}
use Rattle.pol_node.specs.declared.report.Regen.TheVariants as regen
use Rattle.pol_node.specs.Finish.{Finishes, HasRegenerated, Regenerates}
use Rattle.pol_node.specs.Slot.{IsTakenAt, TellsAnyTurn, regen_of, turn_of}

-- ---- what was taken at the earlier history
module _ (options : Options) (slot : ℕ) (old new : List HistoryEvent) (begins : IsPrefix old new) (legal : IsLegal options new) (taken : Taken)
    (is : IsTakenAt options old slot taken) where
  abbrev its : EndpointId
  its = endpoint_id taken.endpoint

  abbrev size : ℕ
  size = length (policy_map options (state_now options old) taken.endpoint)

  same_state : state_after options new taken.revision ≡ state_now options old
  same_state =
      ap (λ (n : ℕ). state_after options new n) is.revision
      ∙ state-prefix options old new (revision_of old) begins (omega arith)
      ∙ state-now options old

  live_then : live_endpoint its (state_after options new taken.revision) ≡ Some taken.endpoint
  live_then =
      ap (λ (s : State). live_endpoint its s) same_state ∙ slot-live options old is.legal slot taken.endpoint is.is.endpoint

  was_taken : WasTaken options slot old new its taken.revision
  was_taken =
      let more = revision-prefix old new begins in
      let revision = is.revision in
      record {
        between = record { from = omega (arith, revision); upto = omega (arith, revision, more) };
        row = taken.endpoint;
        live = live_then;
        in_slot = eqb-true taken.endpoint.slot slot (find-In (λ (e : Endpoint). e.slot == slot) taken.endpoint (state_now options old).endpoints is.is.endpoint).1;
      }

  its_size : size_at options new its taken.revision ≡ Some size
  its_size =
      (λ i. option_map (map_size options (same_state i)) (live_endpoint its (state_after options new taken.revision)))
      ∙ ap (option_map (map_size options (state_now options old))) live_then

  has_gone : Finishes options its taken.revision size old new done.Gone → IsGone options slot old new
  has_gone gone =
      let between = was_taken.between in
      record {
        revision = taken.revision;
        between = between;
        gone = inr (record {
          row = taken.endpoint;
          was = ap (λ (s : State). endpoint_in slot s.endpoints) same_state ∙ is.is.endpoint;
          gone = gone;
        });
      }

  published : Finishes options its taken.revision size old new done.Published → IsPublished options slot old new taken.revision
  published was = record {
    endpoint = its;
    taken = was_taken;
    table = was.table;
    place = was.place;
    there = was.there;
    past = was.past;
    canonical = was.canonical;
  }

  full : Finishes options its taken.revision size old new done.Full → IsFull options slot old new taken.revision size
  full was = record { endpoint = its; taken = was_taken; place = was.place; there = was.there; past = was.past }

  already : (shown : Bool) → Finishes options its taken.revision size old new (done.Already shown) → IsAlready options slot old new taken.revision
  already shown was = record { endpoint = its; taken = was_taken; report = was.is.report; last = was.is.last; same = was.is.same }

  pub regenerates : (finished : Finished) → Finishes options its taken.revision size old new finished
      → Regenerates options slot old new (regen_of taken.revision size finished)
  regenerates done.Published was = published was
  regenerates (done.Already shown) was = already shown was
  regenerates done.Full was = full was
  regenerates done.Gone was = has_gone was

  abbrev row : FullSlot
  row = record { name = taken.endpoint.name; revision = taken.revision; count = size }

  pub tells : (finished : Finished) → Finishes options its taken.revision size old new finished → TellsAnyTurn options slot old new (turn_of row finished)
  unfolding already full
  tells done.Published was synced shown = published-tells options slot synced old new shown taken.revision (published was)
  tells (done.Already true) was synced shown =
      already-tells options slot synced old new legal shown (prefix_length old new begins) taken.revision (already true was) was.tells
  tells (done.Already false) was synced shown =
      already_full-tells options slot synced old new legal shown (prefix_length old new begins) row (already false was) refl was.tells its_size
  tells done.Full was synced shown = full-tells options slot synced old new shown row (full was) refl
  tells done.Gone was synced shown = has_gone was

-- ---- where the slot has no endpoint
pub none_there : (options : Options) (slot : ℕ) (old new : List HistoryEvent) → IsPrefix old new
    → endpoint_in slot (state_now options new).endpoints ≡ None → IsGone options slot old new
none_there options slot old new begins none =
    let more = revision-prefix old new begins in
    record {
      revision = revision_of new;
      between = record { from = more; upto = omega arith };
      gone = inl (ap (λ (s : State). endpoint_in slot s.endpoints) (state-now options new) ∙ none);
    }

-- ---- to a caller who had seen less
pub regenerates-kept : (options : Options) (slot : ℕ) (shorter old new : List HistoryEvent) → IsPrefix shorter old → (answer : Regen)
    → Regenerates options slot old new answer → Regenerates options slot shorter new answer
regenerates-kept options slot shorter old new less (regen.Published revision) is = published-kept options shorter old new new less (prefix_self new) slot revision is
regenerates-kept options slot shorter old new less (regen.Already revision) is = record {
  endpoint = is.endpoint;
  taken = taken-kept options shorter old new new less (prefix_self new) slot is.endpoint revision is.taken;
  report = is.report;
  last = is.last;
  same = is.same;
}
regenerates-kept options slot shorter old new less (regen.Full revision count) is = full-kept options shorter old new new less (prefix_self new) slot revision count is
regenerates-kept options slot shorter old new less regen.Gone is = is_gone-kept options shorter old new new less (prefix_self new) slot is

pub any_turn-kept : (options : Options) (slot : ℕ) (shorter old new : List HistoryEvent) (told : SlotTurn) → IsPrefix shorter old
    → TellsAnyTurn options slot old new told → TellsAnyTurn options slot shorter new told
any_turn-kept options slot shorter old new told less tells synced shown =
    let more = revision-prefix shorter old less in
    turn-kept options slot synced shorter old new new told less (prefix_self new) (tells synced (omega (arith, more, shown)))

-- and has seen more afterwards
pub told_around : (options : Options) (slot : ℕ) (first old new last : List HistoryEvent) (told : SlotTurn) → IsPrefix first old → IsPrefix new last
    → TellsAnyTurn options slot old new told → TellsTurn options slot first last (revision_of first) told
told_around options slot first old new last told less more tells =
    turn-kept options slot (revision_of first) first old new last told less more (tells (revision_of first) (revision-prefix first old less))

-- ---- behind the slot's lock

pub has_regenerated : {E : Type 0} (options : Options) (slot : ℕ) (old new : PassState) (result : Result Regen E) → PassGrowsWhole options old new []
    → IfOk result (Regenerates options slot old.has.history new.has.history) → IfOk result (HasRegenerated options slot)
has_regenerated options slot old new (Ok answer) grows is = record {
  seen = new.has.history;
  legal = grows.whole.grows.legal;
  is = regenerates-kept options slot [] old.has.history new.has.history (old.has.history, refl) answer is;
}
has_regenerated options slot old new (Err error) grows is = tt
