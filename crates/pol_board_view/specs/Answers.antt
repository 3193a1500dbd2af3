-- What a look-up may answer, where this is what there is to find.
use Rattle.std.specs.Prelude.{⊤, ◌≡◌, Result, Ok, Err}
use Rattle.pol_history.specs.Look.{Looked, NoEndpoint, NotYet, Found}
use Rattle.pol_board_view.specs.declared.answer.LookError.{LookError}
use Rattle.pol_board_view.specs.declared.answer.LookError.TheVariants as no
use Rattle.pol_board_view.specs.declared.answer.Verdict.{Verdict}

-- it is told, but where there was no guard
abbrev pub IsLookOf : Result Verdict LookError → Looked → Type 0
IsLookOf (Ok verdict) looked = looked ≡ Found verdict.revision verdict.word
IsLookOf (Err (no.NoEndpoint revision)) looked = looked ≡ NoEndpoint revision
IsLookOf (Err (no.NotYet revision)) looked = looked ≡ NotYet revision
IsLookOf (Err no.NoGuard) looked = ⊤
