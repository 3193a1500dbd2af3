-- A script whose halves were cut.
use Rattle.std.proofs.Common.{◌≡◌, ℕ, List, ◌++◌, map, Result, Ok, Err, IfOk, sym, ap, ◌∙◌, subst}
use Rattle.std.proofs.lemmas.List.{map-append}
use Rattle.pol_phases.specs.declared.cut_script.CutScript.{CutScript}
use Rattle.pol_phases.specs.Cuts.{IsCutOf}
use Rattle.pol_run.specs.Run.{readings_of}
use Rattle.pol_run.specs.Spots.{Reading}
use Rattle.pol_script.specs.Lines.{lines_of}
use Rattle.pol_script.specs.Reading.{reading_of}

pub cut_of_halves : {E : Type 0} (sessions : ℕ) (script front back : List ℕ) (first second : CutScript) (result : Result CutScript E) → lines_of script ≡ lines_of front ++ lines_of back
    → IsCutOf sessions (readings_of front) first → IsCutOf sessions (readings_of back) second
    → IfOk result (λ both. (n : ℕ) (lines more : List Reading) → IsCutOf n lines first → IsCutOf n more second → IsCutOf n (lines ++ more) both)
    → IfOk result (λ cut. IsCutOf sessions (readings_of script) cut)
cut_of_halves sessions script front back first second (Ok both) halves in_front behind joins =
    let as_read : readings_of script ≡ readings_of front ++ readings_of back =
    ap (λ (lines : List (List ℕ)). map reading_of lines) halves ∙ map-append reading_of (lines_of front) (lines_of back) in
    subst (λ (lines : List Reading). IsCutOf sessions lines both) (sym as_read) (joins sessions (readings_of front) (readings_of back) in_front behind)
cut_of_halves sessions script front back first second (Err e) halves in_front behind joins = tt
