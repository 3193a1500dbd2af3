-- A JSON text that is printed is read as its value, also where parts of its strings are variables.
use Rattle.std.proofs.Common.{◌≡◌, ℕ, ◌≤◌, true, List, [], Option, Some, option_and_then, Ok, sym, ap, ◌∙◌, cond, None, append-nil}
use Rattle.std.proofs.lemmas.Str.{is_utf8-from_IsUtf8}
use Rattle.json.specs.Json as json
use Rattle.json.specs.Print.{print}
use Rattle.json.specs.Tree.{depth, json_tokens, HasNumbers}
use Rattle.json.proofs.Printed.Tokens.{tokens-print}
use Rattle.json.proofs.Printed.Trees.{value-json_tokens, ArePrintable-json_tokens}
use Rattle.json.proofs.Printed.Utf8.{are_ascii, IsUtf8-are_ascii}
use Rattle.serde_json.specs.Data.{Data}
use Rattle.serde_json.specs.Read.{max_depth, of_json, read}
use Rattle.pol_script.specs.declared.line_fault.LineFault.TheVariants.{Json}
use Rattle.pol_script.specs.Reading.{is_object, json_of, read_object, reading_of}
use Rattle.pol_script.specs.Steps.{◌>>=◌, only}
use Rattle.std.specs.Option.{ok_or}

pub read_printed : (j : json.Json) → HasNumbers j → depth j ≤ max_depth → read (print (json_tokens j)) ≡ of_json j
read_printed j numbers shallow =
    ap (λ o. option_and_then of_json (option_and_then (λ p. json.if_last p.0 p.1) o))
    (ap (json.value max_depth) (tokens-print (json_tokens j) (ArePrintable-json_tokens j numbers) ∙ sym (append-nil (json_tokens j)))
    ∙ value-json_tokens j max_depth [] shallow)

object_from : (found : Option Data) (d : Data) → found ≡ Some d → is_object d ≡ true → ok_or (only is_object found) Json ≡ Ok d
object_from found d is own =
    ap (λ o. ok_or (only is_object o) Json) is ∙ ap (λ b. ok_or (cond b (Some d) None) Json) own

-- a line that is the text of an object is read as that object
pub reading_from : (line : List ℕ) (d : Data) → are_ascii line ≡ true → read line ≡ Some d → is_object d ≡ true → reading_of line ≡ read_object d
reading_from line d plain is own =
    let json : json_of line ≡ Some d =
    ap (λ b. cond b (read line) None) (is_utf8-from_IsUtf8 line (IsUtf8-are_ascii line plain)) ∙ is in
    ap (λ r. r >>= read_object) (object_from (json_of line) d json own)
