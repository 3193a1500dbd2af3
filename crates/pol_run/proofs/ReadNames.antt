-- The names that a line asks for have their forms, as the tests of the answers' parts say it.
use Rattle.std.proofs.Common.{◌≡◌, ℕ, Bool, true, false, cond, ◌&&◌, ◌==◌, List, [], length, Ok, IsTrue, refl, ap}
use Rattle.std.specs.Cmp.Derive.{both_true}
use Rattle.pol_answer.specs.Shown.{is_applied_key}
use Rattle.pol_json.specs.Texts.{is_dns_name}
use Rattle.pol_model.specs.declared.request.Request.{Request}
use Rattle.pol_model.specs.declared.request.Request.TheVariants.{AddEndpoint, Apply}
use Rattle.pol_rule.specs.declared.policy.PolicyKey.{PolicyKey}
use Rattle.pol_script.proofs.ReadNames.{BringsNamed, HasKeyForm, asked_named}
use Rattle.pol_script.specs.Names.{is_applied_name}
use Rattle.pol_script.specs.Reading.{reading_of}
use Rattle.pol_script.specs.declared.command.Command.TheVariants as command
use Rattle.pol_run.specs.Spots.{Reading}
use Rattle.pol_run.specs.Told.{has_read_names}

key_by : (wide : Bool) (name namespace : List ℕ) → is_applied_name name ≡ true → (wide ≡ false → is_dns_name namespace ≡ true) → (wide ≡ true → namespace ≡ [])
    → (is_applied_name name && cond wide (length namespace == 0) (is_dns_name namespace)) ≡ true
key_by true name namespace own spaced wide = both_true own (ap (λ (text : List ℕ). length text == 0) (wide refl))
key_by false name namespace own spaced wide = both_true own (spaced refl)

key_read : (key : PolicyKey) → HasKeyForm key → is_applied_key key ≡ true
key_read key has = key_by key.cluster_wide key.name key.namespace has.name has.namespace has.wide

request_read : (request : Request) → BringsNamed request → IsTrue (has_read_names request)
request_read (AddEndpoint name labels address) brings = brings
request_read (Apply policy) brings = key_read policy.key brings
request_read other brings = refl

-- the request of a line that is read
pub names_read : (line : List ℕ) (session : ℕ) (request : Request) → reading_of line ≡ Ok (command.Commit session request) → IsTrue (has_read_names request)
names_read line session request is = request_read request (asked_named line session request is)

-- where the line is a request, it brings names that were read
abbrev pub IsNamed : Reading → Type 0
IsNamed (Ok (command.Commit session request)) = IsTrue (has_read_names request)
IsNamed other = Unit {0}

named_as : (line : List ℕ) (reading : Reading) → reading_of line ≡ reading → IsNamed reading
named_as line (Ok (command.Commit session request)) is = names_read line session request is
named_as line other is = tt

pub reading_named : (line : List ℕ) → IsNamed (reading_of line)
reading_named line = named_as line (reading_of line) refl
