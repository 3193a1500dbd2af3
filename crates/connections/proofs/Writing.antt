-- What is told of the input, as it is written.
use Rattle.std.proofs.Common.{◌≡◌, ℕ, true, List, Option, refl, subst, ap, ◌∙◌}
use Rattle.std.specs.Io.KnownBytes.{Appends}
use Rattle.pol_streams.specs.Bytes.{AppendsPart}
use Rattle.pol_command_line.specs.declared.connections.ConnectionWords.{ConnectionWords}
use Rattle.connections.specs.declared.status.RunEnd.{RunEnd}
use Rattle.connections.specs.declared.status.RunEnd.TheVariants.{Same, Refused, Usage, Changes, Write, Memory, TooLong, Read}
use Rattle.connections.specs.Ends.{has_read_all, is_answered, status_number}
use Rattle.connections.specs.Headline.{WritesConnections}
use Rattle.connections.specs.Told.{told_status, told_text}

-- where all was written, the input was read whole
pub has_read : (s : RunEnd) → is_answered s ≡ true → has_read_all s ≡ true
has_read Same h = refl
has_read Refused h = refl
has_read Usage h = absurd (cc)
has_read Changes h = refl
has_read Write h = refl
has_read Memory h = absurd (cc)
has_read TooLong h = absurd (cc)
has_read Read h = absurd (cc)

module _ (asked : ConnectionWords) (old new : Option (List ℕ)) (input text written : List ℕ) (is : text ≡ told_text asked input) (all : written ≡ text) where
  pub writes : (status told : RunEnd) → status_number told ≡ told_status asked input → status ≡ told → Appends old new written
      → WritesConnections asked old new input (status_number status)
  writes status told marked same appended = record {
    written = subst (λ (xs : List ℕ). Appends old new xs) (all ∙ is) appended;
    marked = ap status_number same ∙ marked;
  }

  pub writes_part : AppendsPart old new written → AppendsPart old new (told_text asked input)
  writes_part appended = subst (λ (xs : List ℕ). AppendsPart old new xs) (all ∙ is) appended
