-- What is read of one record of a journal.
use Rattle.std.specs.Prelude.{ℕ, if◌then◌else◌, List, Option, None}
use Rattle.pol_journal.specs.Journal.{asked_in}
use Rattle.pol_model.specs.declared.request.Request.{Request}
use Rattle.pol_record_log.specs.Records.{is_whole, line_in}

-- the request of the record behind an open gate: none where the record or the next gate doesn't lie in the bytes, or the line isn't
-- read as a commit
abbrev pub asked_behind : List ℕ → Option Request
asked_behind behind = if is_whole behind then asked_in (line_in behind) else None
