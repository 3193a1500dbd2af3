-- What a crash leaves while a record is put behind others, call by call.
use Rattle.std.proofs.Common.{◌≡◌, ℕ, ◌-◌, ◌≤◌, Bool, true, false, List, [], ◌∷◌, ◌++◌, length, take, refl, ap, ◌∙◌}
use Rattle.pol_disk.specs.Images.{overwritten}
use Rattle.pol_disk.specs.Record.{Held, held, kept_bytes}
use Rattle.pol_disk.specs.declared.call.DiskCall.{DiskCall}
use Rattle.pol_disk.specs.declared.call.DiskCall.TheVariants.{Write, Sync}
use Rattle.pol_disk.proofs.Drills.{held_both, written}
use Rattle.pol_record_log.specs.Steps.{calls_of_append}
use Rattle.pol_record_log.proofs.Gates.{written_behind, written_gate}

-- what a crash leaves after so many of the calls that append a record
abbrev pub left_after : List DiskCall → ℕ → List ℕ → ℕ → Bool → List ℕ
left_after past end behind place keep = kept_bytes keep (held (past ++ written (take place (calls_of_append end behind))))

module _ (past : List DiskCall) (front behind : List ℕ) (end : ℕ) (some : 1 ≤ end) (size : length front ≡ end - 1)
    (read : (held past).bytes ≡ front ++ 0 ∷ []) (synced : (held past).synced ≡ front ++ 0 ∷ []) where
  untouched : (keep : Bool) → kept_bytes keep (held past) ≡ front ++ 0 ∷ []
  untouched true = read
  untouched false = synced

  -- before the first
  pub left_at_once : (keep : Bool) → left_after past end behind 0 keep ≡ front ++ 0 ∷ []
  left_at_once keep = ap (λ (h : Held). kept_bytes keep h) (held_both past []) ∙ untouched keep

  record_stands : overwritten (held past).bytes end behind ≡ front ++ 0 ∷ behind
  record_stands = ap (λ (b : List ℕ). overwritten b end behind) read ∙ written_behind front behind end some size

  -- the record is written
  pub left_written : left_after past end behind 1 true ≡ front ++ 0 ∷ behind
  left_written = ap (λ (h : Held). kept_bytes true h) (held_both past (Write end behind ∷ [])) ∙ record_stands

  -- and synced
  pub left_synced : left_after past end behind 2 false ≡ front ++ 0 ∷ behind
  left_synced = ap (λ (h : Held). kept_bytes false h) (held_both past (Write end behind ∷ Sync ∷ [])) ∙ record_stands

  -- and the gate is opened
  pub left_opened : left_after past end behind 3 true ≡ front ++ 1 ∷ behind
  left_opened =
      ap (λ (h : Held). kept_bytes true h) (held_both past (Write end behind ∷ Sync ∷ Write (end - 1) (1 ∷ []) ∷ []))
      ∙ ap (λ (b : List ℕ). overwritten b (end - 1) (1 ∷ [])) record_stands
      ∙ written_gate front behind end some size
