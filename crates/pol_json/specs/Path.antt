-- The text of a path, and the fault of a cause at its place ('profile').
use Rattle.std.specs.Prelude.{ℕ, ◌==◌, if◌then◌else◌, List, [], ◌∷◌, ◌++◌, codes, Option, option_map}
use Rattle.std.specs.List.{flat_map}
use Rattle.std.specs.Fmt.{decimal}
use Rattle.pol_json.specs.declared.fault.DocFault.{DocFault}
use Rattle.pol_json.specs.declared.fault.DocFault.TheVariants.{NotPolicy, NoName, NoSpec, UnknownMember, Unsupported, WrongShape}
use Rattle.pol_json.specs.Texts.{printable}
use Rattle.pol_json.specs.Places.{Step, named, numbered, Cause, unknown_name, left_out, wrong_shape, lacks, Found}

-- `.NAME` or `[I]`
abbrev pub step_text : Step → List ℕ
step_text (named name) = codes "." ++ printable name
step_text (numbered i) = codes "[" ++ decimal i ++ codes "]"

abbrev pub steps_text : List Step → List ℕ
steps_text path = flat_map step_text path

abbrev pub without_dot : List ℕ → List ℕ
without_dot [] = []
without_dot (byte ∷ rest) = if byte == 46 then rest else byte ∷ rest

-- a path begins with a member of the policy, which has no dot before it
abbrev pub path_text : List Step → List ℕ
path_text path = without_dot (steps_text path)

-- the fault of a cause at a path, where paths are written by `text`
abbrev pub fault_by : (List Step → List ℕ) → List Step → Cause → DocFault
fault_by text path unknown_name = UnknownMember (text path)
fault_by text path (left_out name) = Unsupported name
fault_by text path wrong_shape = WrongShape (text path)
fault_by text path (lacks name) = WrongShape (text (path ++ named name ∷ []))

abbrev pub fault_of : Found → DocFault
fault_of found = fault_by path_text found.path found.cause

-- the faults of a cause at the place itself, and of one below it, seen from there
abbrev pub fault_here : Option Cause → Option DocFault
fault_here cause = option_map (fault_by steps_text []) cause

abbrev pub fault_below : Option Found → Option DocFault
fault_below found = option_map (λ f. fault_by steps_text f.path f.cause) found

-- a fault with more in front of its path
abbrev pub led : List ℕ → DocFault → DocFault
led front NotPolicy = NotPolicy
led front NoName = NoName
led front NoSpec = NoSpec
led front (UnknownMember path) = UnknownMember (front ++ path)
led front (Unsupported name) = Unsupported name
led front (WrongShape path) = WrongShape (front ++ path)

-- a fault whose path begins with a member of the policy
abbrev pub topped : DocFault → DocFault
topped NotPolicy = NotPolicy
topped NoName = NoName
topped NoSpec = NoSpec
topped (UnknownMember path) = UnknownMember (without_dot path)
topped (Unsupported name) = Unsupported name
topped (WrongShape path) = WrongShape (without_dot path)
