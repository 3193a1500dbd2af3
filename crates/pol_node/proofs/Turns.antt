-- The turns of slots, one after another.
use Rattle.std.proofs.Common.{◌≡◌, ℕ, ◌+◌, ◌≤◌, List, [], ◌∷◌, ◌++◌, length, subst, arith}
use mathlib.Core.List.{IsPrefix}
use Rattle.pol_model.specs.declared.options.Options.{Options}
use Rattle.pol_history.specs.declared.event.EndpointId.{EndpointId}
use Rattle.pol_history.specs.declared.event.HistoryEvent.{HistoryEvent}
use Rattle.pol_history.specs.declared.turn.SlotTurn.{SlotTurn}
use Rattle.pol_history.specs.declared.turn.SlotTurn.TheVariants.{Full, Gone, Shown}
use Rattle.pol_history.specs.Calls.{Counts}
use Rattle.pol_history.specs.Commits.{revision_of}
use Rattle.pol_history.specs.SlotTurns.{EachTells, TellsTurn}
use Rattle.pol_history.proofs.Beginnings.{prefix_self}
use Rattle.pol_history.proofs.Own.{revision-prefix}
use Rattle.pol_history.proofs.Taken.{turn-kept}

module _ (options : Options) (old new : List HistoryEvent) (synced later : ℕ) (earlier : synced ≤ later) where
  counts_earlier : (place : ℕ) (endpoint : EndpointId) (revision : ℕ) → Counts old new later place endpoint revision → Counts old new synced place endpoint revision
  counts_earlier place endpoint revision counts = record {
    newer = omega (arith, earlier, counts.newer);
    prefix = counts.prefix;
    begins = counts.begins;
    within = counts.within;
    last = counts.last;
  }

  -- what counts for a sync counts for one at an earlier revision
  pub turn_earlier : (slot : ℕ) (turn : SlotTurn) → TellsTurn options slot old new later turn → TellsTurn options slot old new synced turn
  turn_earlier slot Shown shown = record {
    endpoint = shown.endpoint;
    revision = shown.revision;
    taken = shown.taken;
    publish = record {
      revision = shown.publish.revision;
      table = shown.publish.table;
      place = shown.publish.place;
      there = shown.publish.there;
      counts = counts_earlier shown.publish.place shown.endpoint shown.publish.revision shown.publish.counts;
    };
  }
  turn_earlier slot (Full row) told = record {
    endpoint = told.endpoint;
    revision = told.revision;
    taken = told.taken;
    is = record {
      name = told.is.name;
      place = told.is.place;
      there = told.is.there;
      counts = counts_earlier told.is.place told.endpoint row.revision told.is.counts;
    };
  }
  turn_earlier slot Gone gone = gone

-- what was told stays so once more has been seen
pub turns_later : (options : Options) (old mid new : List HistoryEvent) (synced slot : ℕ) (turns : List SlotTurn) → IsPrefix mid new
    → EachTells options old mid synced slot turns → EachTells options old new synced slot turns
turns_later options old mid new synced slot [] more each = tt
turns_later options old mid new synced slot (turn ∷ turns) more each =
    (turn-kept options slot synced old old mid new turn (prefix_self old) more each.0, turns_later options old mid new synced (slot + 1) turns more each.1)

-- one turn more
turns_and_one : (options : Options) (old new : List HistoryEvent) (synced slot : ℕ) (turns : List SlotTurn) (turn : SlotTurn)
    → EachTells options old new synced slot turns → TellsTurn options (slot + length turns) old new synced turn
    → EachTells options old new synced slot (turns ++ turn ∷ [])
turns_and_one options old new synced slot [] turn each told = (subst (λ n. TellsTurn options n old new synced turn) {x = slot + 0} {y = slot} (omega arith) told, tt)
turns_and_one options old new synced slot (first ∷ turns) turn each told = (
  each.0,
  turns_and_one options old new synced (slot + 1) turns turn each.1
      (subst (λ n. TellsTurn options n old new synced turn) {x = slot + length (first ∷ turns)} {y = slot + 1 + length turns} (omega arith) told),
)

-- A slot that goes on from what had been seen after the turns before it: its turn tells of what had been seen before all of
-- them, and counts for a sync at the revision there.
pub one_turn_more : (options : Options) (first mid new : List HistoryEvent) (number : ℕ) (turns : List SlotTurn) (turn : SlotTurn) → IsPrefix first mid
    → IsPrefix mid new → length turns ≡ number → EachTells options first mid (revision_of first) 0 turns
    → TellsTurn options number mid new (revision_of mid) turn → EachTells options first new (revision_of first) 0 (turns ++ turn ∷ [])
one_turn_more options first mid new number turns turn begins more long each told =
    let synced = revision_of first in
    let counts = turn_earlier options mid new synced (revision_of mid) (revision-prefix first mid begins) number turn told in
    let here = turn-kept options number synced first mid new new turn begins (prefix_self new) counts in
    turns_and_one options first new synced 0 turns turn (turns_later options first mid new synced 0 turns more each)
    (subst (λ n. TellsTurn options n first new synced turn) {x = number} {y = 0 + length turns} (omega (arith, long)) here)
