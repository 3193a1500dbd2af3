-- The history that an output tells, read from its bytes alone; and which answers tell their commits by their texts.
use Rattle.std.specs.Prelude.{ℕ, zero, suc, ◌&&◌, nat_eq, Bool, true, if◌then◌else◌, List, [], ◌++◌, codes, length, Option, None, Some, Ok}
use Rattle.std.specs.Fmt.{decimal}
use Rattle.std.specs.List.{filter_map, starts_with, zip}
use Rattle.pol_json.specs.Texts.{is_name}
use Rattle.pol_model.specs.declared.request.Request.{Request}
use Rattle.pol_model.specs.declared.request.Request.TheVariants.{AddEndpoint, Apply}
use Rattle.pol_answer.specs.Shown.{is_applied_key, is_read_identity, is_u64}
use Rattle.pol_answer.specs.Text.{has_plain_names}
use Rattle.pol_answer.specs.declared.answer.Answer.{Answer}
use Rattle.pol_answer.specs.declared.answer.Answer.TheVariants as answer
use Rattle.pol_script.specs.Lines.{lines_of}
use Rattle.pol_script.specs.declared.command.Command.TheVariants as command
use Rattle.pol_run.specs.Run.{readings_of}
use Rattle.pol_run.specs.Spots.{Reading}

-- ---- read from the bytes

-- the line of the output begins with `ok k`, and is over there or goes on with a space
abbrev pub is_ok_line : ℕ → List ℕ → Bool
is_ok_line k text = starts_with nat_eq (text ++ codes " ") (codes "ok " ++ decimal k ++ codes " ")

-- the request of a line of the script, where it is answered `ok k`
abbrev pub request_told : ℕ → Reading × List ℕ → Option Request
request_told k (Ok (command.Commit session request), text) = if is_ok_line k text then Some request else None
request_told k other = None

-- the requests that are answered `ok 1` to `ok n`, in that order
abbrev pub requests_told : ℕ → List (Reading × List ℕ) → List Request
requests_told zero lines = []
requests_told (suc n) lines = requests_told n lines ++ filter_map (request_told (suc n)) lines

-- **The history that an output of a script tells**: the request that is answered `ok 1`, then that which is answered
-- `ok 2`, and so on. It is read from the bytes of both, line by line.
abbrev pub history_told : List ℕ → List ℕ → List Request
history_told script written = requests_told (length (lines_of script)) (zip (readings_of script) (lines_of written))

-- ---- what reading gives

-- the names that a request brings are such as reading gives: a name of the script, and the key of a policy
abbrev pub has_read_names : Request → Bool
has_read_names (AddEndpoint name labels address) = is_name name
has_read_names (Apply policy) = is_applied_key policy.key
has_read_names other = true

-- An answer tells by its text whether its line committed, and what: the text is one line, and the numbers that an `ok`
-- line prints have 64 bits.
abbrev pub tells_commit : Answer → Bool
tells_commit (answer.Committed revision identity) = is_u64 revision && is_read_identity identity
tells_commit other = has_plain_names other
