-- What the program promises beside the headline, by the words and by how it ended: why it ended so, what it read, what it
-- wrote, and what history it left. What a source or a sink has told of its bytes is None where it tells none.
use Rattle.std.specs.Prelude.{◌≡◌, ◌⊎◌, ℕ, List, Option, None, IfSome, IsSomeAnd, IsTrue, false, is_some}
use Rattle.std.specs.Io.KnownBytes.{Appends, IsAtEnd, Keeps}
use Rattle.pol_streams.specs.Faults.{Rose, DidNotRise}
use Rattle.pol_streams.specs.Bytes.{AppendsPart, ConsumesSome}
use Rattle.pol_command_line.specs.Given.{words_given}
use Rattle.pol_history.specs.declared.event.HistoryEvent.{HistoryEvent}
use Rattle.pol_map_dump.specs.AtEnd.{map_text}
use Rattle.pol_summary.specs.Summary.{summary as summary_text}
use Rattle.policyd.specs.declared.status.Status.{Status}
use Rattle.policyd.specs.declared.status.Status.TheVariants.{Clean, Usage, Read, Write, Memory, TooLong}
use Rattle.pol_status.specs.Limits.{is_too_long, fits_limits}
use Rattle.policyd.specs.Headline.{LeavesRounds, WritesDrill, WritesFinding, WritesMap, WritesPartOfDrill, WritesPartOfFinding, WritesPartOfRun}
use Rattle.policyd.specs.Ends.{is_answered, has_read_all, is_silent, status_number}
use Rattle.policyd.specs.Task.{audits, drills, generates, maps, reads_source, reads_with}

-- Why it ended so. The numbers are the counts of faults of the source and of the sink, before and after; `left` is what the
-- source had.
pub record PlayEnds (words : List (List ℕ)) (left : Option (List ℕ)) (source_faults source_faults_then sink_faults sink_faults_then : ℕ) (status : Status) : Type 0 where
  -- words that don't fit
  pub usage : status ≡ Usage → words_given words ≡ None
  pub misfit : words_given words ≡ None → (status ≡ Usage) ⊎ (status ≡ Memory)
  -- faults of the streams
  pub read : status ≡ Read → Rose source_faults source_faults_then
  pub write : status ≡ Write → Rose sink_faults sink_faults_then
  -- an input that is too long
  pub too_long : status ≡ TooLong → IsTrue (reads_source words) × IfSome left (λ script. IsTrue (is_too_long script))
  pub within : IsTrue (has_read_all status) → IsTrue (reads_source words) → IfSome left (λ script. IsTrue (fits_limits script))
  -- nothing else but want of memory
  pub complete : IsTrue (reads_source words) → DidNotRise source_faults source_faults_then → DidNotRise sink_faults sink_faults_then
      → IsSomeAnd left (λ script. IsTrue (fits_limits script)) → IsTrue (is_answered status) ⊎ (status ≡ Memory)
  pub complete_generated : IsTrue (is_some (generates words)) → DidNotRise sink_faults sink_faults_then → (status ≡ Clean) ⊎ (status ≡ Memory)

-- What it read: `left` is what the source had, and `left_then` what it has behind the call.
pub record PlayReads {S : Type 0} (words : List (List ℕ)) (source source_then : S) (left left_then : Option (List ℕ)) (status : Status) : Type 0 where
  -- not a byte
  pub unread : status ≡ Usage → source_then ≡ source
  pub not_read : IsTrue (is_some (generates words)) → source_then ≡ source
  -- some from the front, or all
  pub taken : ConsumesSome left left_then
  pub at_end : IsTrue (has_read_all status) → IsTrue (reads_source words) → IsAtEnd left_then

-- What it wrote: `left` is what the source had, `old` what the sink had, and `new` what it has behind the call.
pub record PlayWrites (words : List (List ℕ)) (left old new : Option (List ℕ)) (status : Status) : Type 0 where
  -- nothing
  pub silent : IsTrue (is_silent status) → Keeps old new
  -- a part of what a script that is played is answered
  pub part : status ≡ Write → IfSome (reads_with words) (λ options. IfSome left (λ script. WritesPartOfRun options old new script))
  -- the summary of a script that is generated, or a part of it
  pub summary : IsTrue (is_answered status) → IfSome (generates words) (λ task. (status ≡ Clean) × Appends old new (summary_text task.options task.rounds))
  pub summary_part : status ≡ Write → IfSome (generates words) (λ task. AppendsPart old new (summary_text task.options task.rounds))
  -- a map, or a part of it
  pub map : IsTrue (is_answered status)
      → IfSome (maps words) (λ task. IfSome left (λ script. WritesMap task.options task.name old new script (status_number status)))
  pub map_part : status ≡ Write → IfSome (maps words) (λ task. IfSome left (λ script. AppendsPart old new (map_text task.options task.name script)))
  -- what is found of two tables, or a part of it
  pub audit : IsTrue (is_answered status) → IsTrue (audits words) → IfSome left (λ text. WritesFinding old new text (status_number status))
  pub audit_part : status ≡ Write → IsTrue (audits words) → IfSome left (λ text. WritesPartOfFinding old new text)
  -- what a drill of a crash tells, or a part of it
  pub drill : IsTrue (is_answered status)
      → IfSome (drills words) (λ task. IfSome left (λ script. WritesDrill task.options task.call old new script (status_number status)))
  pub drill_part : status ≡ Write → IfSome (drills words) (λ task. IfSome left (λ script. WritesPartOfDrill task.options task.call old new script))

-- What history it left where no script is played, or not all was written.
pub record PlayLeaves (words : List (List ℕ)) (status : Status) (last : Option (List HistoryEvent)) : Type 0 where
  pub last_generated : IsTrue (is_answered status) → IfSome (generates words) (λ task. LeavesRounds task.options task.rounds last)
  pub no_last : is_answered status ≡ false → last ≡ None
  pub no_last_map : IsTrue (is_some (maps words)) → last ≡ None
  pub no_last_audit : IsTrue (audits words) → last ≡ None
  pub no_last_drill : IsTrue (is_some (drills words)) → last ≡ None
