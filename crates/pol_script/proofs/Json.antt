-- The JSON value of a line, from what its reader answers.
use Rattle.std.proofs.Common.{◌≡◌, ℕ, Bool, true, false, List, Some, None, Ok, Err, ok_or, refl}
use Rattle.std.specs.Str.{IsUtf8, is_utf8}
use Rattle.std.proofs.lemmas.Str.{IsUtf8-from_is_utf8, is_utf8-from_IsUtf8}
use Rattle.serde_json.specs.Data.{Data}
use Rattle.serde_json.specs.Read.{read}
use Rattle.pol_script.specs.Reading.{json_of}

pub json_read : {E : Type 0} (line : List ℕ) (d : Data) (fault : E) → IsUtf8 line → read line ≡ Some d → ok_or (json_of line) fault ≡ Ok d
json_read line d fault text is = rw (is_utf8-from_IsUtf8 line text, is) refl

json_at : (line : List ℕ) (b : Bool) → is_utf8 line ≡ b → (IsUtf8 line → read line ≡ None) → json_of line ≡ None
json_at line true e none = rw e (none (IsUtf8-from_is_utf8 line e))
json_at line false e none = rw e refl

pub json_none : {E : Type 0} (line : List ℕ) (fault : E) → (IsUtf8 line → read line ≡ None) → ok_or (json_of line) fault ≡ Err fault
json_none line fault none = rw (json_at line (is_utf8 line) refl none) refl
