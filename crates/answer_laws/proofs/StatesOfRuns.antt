-- Each state of a run is one whose requests committed one after another, and so keeps what states keep.
use Rattle.std.proofs.Common.{◌≡◌, ℕ, zero, suc, List, [], ◌∷◌, take, map, zip, slice_get, Option, None, Some, Ok, Err, refl, sym, subst}
use Rattle.std.specs.List.{AllByRecursion}
use Rattle.pol_model.specs.declared.options.Options.{Options}
use Rattle.pol_model.specs.declared.request.Request.{Request}
use Rattle.pol_model_laws.proofs.KeepsAll.{state_keeps}
use Rattle.pol_model_laws.proofs.StateLaws.{commits-more}
use Rattle.pol_model_laws.specs.Keeps.{Keeps}
use Rattle.pol_model_laws.specs.Valid.{IsValid}
use Rattle.pol_model_laws.specs.WithoutFaults.{WithoutFaults}
use Rattle.pol_run.specs.History.{commits_of, history_of, state_at}
use Rattle.pol_run.specs.Run.{IsNumbered, IsRunOf, readings_of}
use Rattle.pol_run.specs.Spots.{Reading, Spot, spots_of}
use Rattle.pol_script.specs.Lines.{lines_of}
use Rattle.pol_script.specs.Reading.{reading_of}
use Rattle.pol_script.specs.declared.command.Command.TheVariants as command
use Rattle.answer_laws.proofs.HistoriesOfRuns.{Brings, HadNoFault, brought_at, commits_faultless, history_brings, kth_faultless, take_none, take_one_more}
use Rattle.answer_laws.proofs.ValidReads.{IsValidReading, reading_valid}

brings_of : (reading : Reading) → IsValidReading reading → Brings IsValid reading
brings_of (Ok (command.Commit session request)) valid = valid
brings_of (Ok other) valid = tt
brings_of (Err f) valid = tt

readings_valid : (lines : List (List ℕ)) → AllByRecursion (Brings IsValid) (map reading_of lines)
readings_valid [] = tt
readings_valid (line ∷ lines) = (brings_of (reading_of line) (reading_valid line), readings_valid lines)

module _ (options : Options) (whole : List Spot) (numbered : IsNumbered (commits_of whole)) (faultless : AllByRecursion (HadNoFault options whole) (commits_of whole))
    (valid : AllByRecursion IsValid (history_of whole)) where
  next_commits : (k : ℕ) (o : Option Request) → slice_get (history_of whole) k ≡ o → WithoutFaults options (take k (history_of whole)) → WithoutFaults options (take (suc k) (history_of whole))
  next_commits k None is before = subst (WithoutFaults options) (sym (take_none k (history_of whole) is)) before
  next_commits k (Some request) is before =
      subst (WithoutFaults options) (sym (take_one_more k (history_of whole) request is))
      ((commits-more options (take k (history_of whole)) request).1 (
        before,
        record {
          valid = brought_at IsValid (history_of whole) k request valid is;
          no_fault = kth_faultless options whole numbered faultless k request is;
        },
      ))

  without_faults : (k : ℕ) → WithoutFaults options (take k (history_of whole))
  without_faults zero = tt
  without_faults (suc k) = next_commits k (slice_get (history_of whole) k) refl (without_faults k)

pub run_keeps : (options : Options) (script written : List ℕ) (ended : ℕ) (run : IsRunOf options script written ended) (revision : ℕ)
    → Keeps (state_at options (spots_of (zip (readings_of script) run.answers)) revision)
run_keeps options script written ended run revision =
    let readings = readings_of script in
    let spots = spots_of (zip readings run.answers) in
    state_keeps options (take revision (history_of spots))
    (without_faults options spots run.run.numbered (commits_faultless options spots 0 1 readings run.answers run.run.right)
    (history_brings IsValid readings run.answers (readings_valid (lines_of script))) revision)
