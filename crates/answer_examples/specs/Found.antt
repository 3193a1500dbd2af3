-- What is found of a text of two tables, and the line that tells it.
use Rattle.std.specs.Prelude.{◌≡◌, ℕ, Bool, List}
use Rattle.pol_compare.specs.Finding.{AreSmall, IsFinding, is_same}
use Rattle.pol_compare.specs.Text.{finding_text}
use Rattle.pol_compare.specs.declared.finding.Finding.{Finding}

-- the text has a finding; its line is this one, and this says whether it is that two tables say the same
pub record IsToldAs (text line : List ℕ) (same : Bool) : Type 0 where
  pub finding : Finding
  pub is_one : IsFinding text finding
  pub told : (found : Finding) → AreSmall found → IsFinding text found → finding_text found ≡ line
  pub marked : (found : Finding) → AreSmall found → IsFinding text found → is_same found ≡ same
