-- The sessions that lines name are numbered from 1 to 8.
use Rattle.std.proofs.Common.{◌≡◌, ℕ, ◌≤◌, ◌&&◌, nat_le, Bool, true, false, cond, List, [], ◌∷◌, Option, None, Some, map, ok_or, option_and_then, Result, Ok, Err, IfSome, refl, arith}
use Rattle.std.specs.List.{AllByRecursion}
use Rattle.std.specs.Prelude.{codes}
use Rattle.std.specs.Str.{bytes_eq}
use Rattle.std.proofs.lemmas.Bool.{leb-true}
use Rattle.serde_json.specs.Data.{Data}
use Rattle.pol_addr.specs.declared.address.Addr.{Addr}
use Rattle.pol_json.specs.Members.{text_at}
use Rattle.pol_labels.specs.declared.label.Label.{Label}
use Rattle.pol_model.specs.declared.request.Remote.{Remote}
use Rattle.pol_model.specs.declared.request.Request.TheVariants as request
use Rattle.pol_ports.specs.declared.Direction.{Direction}
use Rattle.pol_ports.specs.declared.Proto.{Proto}
use Rattle.pol_rule.specs.declared.policy.Policy.{Policy}
use Rattle.pol_script.proofs.Given.{AllHold, op_holds}
use Rattle.pol_script.specs.Commands.{address_of, asks, commit, labels_of, make, policy_of, query_from, remote_of, session_of as named_session}
use Rattle.pol_script.specs.Forms.{is_within, word_among}
use Rattle.pol_script.specs.Lines.{lines_of}
use Rattle.pol_script.specs.Reading.{object_of, read_object, read_op, reading_of}
use Rattle.pol_script.specs.Steps.{◌>>=◌}
use Rattle.pol_script.specs.Table.{names, ops, rows}
use Rattle.pol_script.specs.declared.line_fault.LineFault.{LineFault}
use Rattle.pol_script.specs.declared.line_fault.LineFault.TheVariants as fault
use Rattle.pol_run.specs.Run.{readings_of}
use Rattle.pol_run.specs.Spots.{Reading}
use Rattle.pol_run_laws.specs.Cut.{AreSeated, IsSeated}

refused_seated : (f : LineFault) → IsSeated 8 (Err f)
refused_seated f = tt

within_both : (a b : Bool) → (a && b) ≡ true → (a ≡ true) × (b ≡ true)
within_both true b both = (refl, both)
within_both false b both = absurd cc

-- ---- the operations

-- a line that names no session is of session 1
seated : (session : Option ℕ) → IfSome session (λ n. is_within 1 8 n ≡ true) → (1 ≤ named_session session) × (named_session session ≤ 8)
seated None own = (omega arith, omega arith)
seated (Some n) own = let both = within_both (nat_le 1 n) (nat_le n 8) own in (leb-true 1 n both.0, leb-true n 8 both.1)

endpoint_seated : (name : List ℕ) (session : Option ℕ) (labels : Result (List Label) LineFault) (address : Result Addr LineFault) → IfSome session (λ n. is_within 1 8 n ≡ true)
    → IsSeated 8 (labels >>= λ set. address >>= λ at. Ok (commit session (request.AddEndpoint name set at)))
endpoint_seated name session (Ok set) (Ok at) own = seated session own
endpoint_seated name session (Ok set) (Err f) own = tt
endpoint_seated name session (Err f) address own = tt

identity_seated : (name : List ℕ) (session : Option ℕ) (labels : Result (List Label) LineFault) → IfSome session (λ n. is_within 1 8 n ≡ true)
    → IsSeated 8 (labels >>= λ set. Ok (commit session (request.AddIdentity name set)))
identity_seated name session (Ok set) own = seated session own
identity_seated name session (Err f) own = tt

apply_seated : (session : Option ℕ) (p : Result Policy LineFault) → IfSome session (λ n. is_within 1 8 n ≡ true)
    → IsSeated 8 (p >>= λ policy. Ok (commit session (request.Apply policy)))
apply_seated session (Ok policy) own = seated session own
apply_seated session (Err f) own = tt

query_seated : (is_trace : Bool) (endpoint : List ℕ) (dir : Direction) (proto : Proto) (port : ℕ) (session : Option ℕ) (other : Result Remote LineFault)
    → IfSome session (λ n. is_within 1 8 n ≡ true) → IsSeated 8 (other >>= λ remote. Ok (asks is_trace session (query_from endpoint dir proto port remote)))
query_seated true endpoint dir proto port session (Ok remote) own = seated session own
query_seated false endpoint dir proto port session (Ok remote) own = seated session own
query_seated is_trace endpoint dir proto port session (Err f) own = tt

-- of each operation
ops_seated : AllByRecursion (λ word. AllHold (IsSeated 8) (rows word.1) (make word.1)) ops
ops_seated = ((λ name _ labels _ address _ session own. endpoint_seated name session (labels_of labels) (address_of address) own), ((λ name _ session own. seated session own), ((λ name _ labels _ session own. identity_seated name session (labels_of labels) own), ((λ name _ session own. seated session own), ((λ document _ session own. apply_seated session (policy_of document) own), ((λ kind _ namespace _ name _ session own. seated session own), ((λ mode _ session own. seated session own), ((λ endpoint _ dir _ identity _ address _ proto _ port _ session own. query_seated false endpoint dir proto port session (remote_of identity address) own), ((λ endpoint _ dir _ identity _ address _ proto _ port _ session own. query_seated true endpoint dir proto port session (remote_of identity address) own), ((λ session own. seated session own), (tt, tt)))))))))))

-- ---- lines

module _ {A : Type 0} (P : A → Type 0) where
  by_test : (b : Bool) (x : A) (o : Option A) → P x → IfSome o P → IfSome (cond b (Some x) o) P
  by_test true x o here others = here
  by_test false x o here others = others

  -- what holds of each word holds of the one that is found
  found_word : (words : List (List ℕ × A)) (text : List ℕ) → AllByRecursion (λ word. P word.1) words → IfSome (word_among words text) P
  found_word [] text every = tt
  found_word (word ∷ words) text every = by_test (bytes_eq text word.0) word.1 (word_among words text) every.0 (found_word words text every.1)

  found_text : (words : List (List ℕ × A)) (o : Option (List ℕ)) → AllByRecursion (λ word. P word.1) words → IfSome (option_and_then (word_among words) o) P
  found_text words None every = tt
  found_text words (Some text) every = found_word words text every

  then_seated : (f : A → Reading) (fault : LineFault) (o : Option A) → ((x : A) → P x → IsSeated 8 (f x)) → IfSome o P → IsSeated 8 (ok_or o fault >>= f)
  then_seated f fault None each own = tt
  then_seated f fault (Some x) each own = each x own

object_seated : (d : Data) → IsSeated 8 (read_object d)
object_seated d =
    then_seated (λ o. AllHold (IsSeated 8) (rows o) (make o)) (λ o. read_op o d) fault.NoOp (option_and_then (word_among ops) (text_at (codes "op") d))
    (λ o own. op_holds (IsSeated 8) refused_seated o d own)
    (found_text (λ o. AllHold (IsSeated 8) (rows o) (make o)) ops (text_at (codes "op") d) ops_seated)

line_seated : (o : Result Data LineFault) → IsSeated 8 (o >>= read_object)
line_seated (Ok d) = object_seated d
line_seated (Err f) = tt

all_seated : (lines : List (List ℕ)) → AreSeated 8 (map reading_of lines)
all_seated [] = tt
all_seated (line ∷ lines) = (line_seated (object_of line), all_seated lines)

pub readings_seated : (script : List ℕ) → AreSeated 8 (readings_of script)
readings_seated script = all_seated (lines_of script)
