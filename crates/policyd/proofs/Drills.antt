-- What a drill of a crash tells, as it is written.
use Rattle.std.proofs.Common.{◌≡◌, ℕ, Bool, List, codes, Option, refl, sym, subst}
use Rattle.std.specs.Fmt.{digits}
use Rattle.std.specs.Prelude.{if◌then◌else◌}
use Rattle.std.specs.Io.KnownBytes.{Appends}
use Rattle.pol_streams.specs.Bytes.{AppendsPart}
use Rattle.pol_crash_drill.specs.Drill.{IsDrill, restart_text}
use Rattle.pol_model.specs.declared.options.Options.{Options}
use Rattle.pol_run.specs.Run.{readings_of}
use Rattle.policyd.specs.Headline.{WritesDrill, WritesPartOfDrill}

-- the line where nothing is found
pub nothing_found : restart_text 0 ≡ codes "restart 0\n"
unfolding digits
nothing_found = refl

module _ (options : Options) (call : ℕ) (script text written : List ℕ) (marked : Bool)
    (drill : IsDrill options call (readings_of script) text (if marked then 1 else 0)) (old new : Option (List ℕ)) (all : written ≡ text) where
  -- all of it was written
  pub writes_drill : (status : ℕ) → Appends old new written → status ≡ (if marked then 1 else 0) → WritesDrill options call old new script status
  writes_drill status appended ended = record {
    text = text;
    drill = subst (λ (s : ℕ). IsDrill options call (readings_of script) text s) (sym ended) drill;
    written = subst (λ (xs : List ℕ). Appends old new xs) all appended;
  }

  -- some of it was
  pub writes_part_of_drill : AppendsPart old new written → WritesPartOfDrill options call old new script
  writes_part_of_drill appended = record {
    text = text;
    status = if marked then 1 else 0;
    drill = drill;
    written = subst (λ (xs : List ℕ). AppendsPart old new xs) all appended;
  }
