-- What a verdict and an explanation look at: the parts of a state, and the number of the other side.
use Rattle.std.specs.Prelude.{ℕ, Bool, List, [], None}
use Rattle.pol_mapkey.specs.declared.Word.{Word}
use Rattle.pol_rule.specs.Covers.{entry_covers}
use Rattle.pol_rule.specs.declared.policy.Entry.{Entry}
use Rattle.pol_model.specs.declared.answer.Trace.{Trace}
use Rattle.pol_model.specs.declared.options.Mode.{Mode}
use Rattle.pol_model.specs.declared.options.Mode.TheVariants.{Default}
use Rattle.pol_model.specs.declared.options.Options.{Options}
use Rattle.pol_model.specs.declared.request.Query.{Query}
use Rattle.pol_model.specs.declared.row.Endpoint.{Endpoint}
use Rattle.pol_model.specs.declared.row.IdentityRow.{IdentityRow}
use Rattle.pol_model.specs.declared.row.Stamped.{Stamped}
use Rattle.pol_model.specs.Enforced.{allow_section, deny_section}
use Rattle.pol_model.specs.Explain.{covering_places}
use Rattle.pol_model.specs.Selects.{selects_number}
use Rattle.pol_model.specs.State.{State}
use Rattle.pol_model.specs.Verdict.{verdict_of}

-- a state with this mode, these policies and these identities
abbrev pub parts_of : Mode → List Stamped → List IdentityRow → State
parts_of mode policies rows = record {
  revision = 0;
  mode = mode;
  identities = rows;
  named = [];
  policies = policies;
  endpoints = [];
}

-- Options with this leave for the local host. A verdict looks at nothing else of them.
abbrev pub with_leave : Bool → Options
with_leave localhost = record { mode = Default; localhost = localhost; map_max = None }

-- the verdict on the query's packet at the endpoint, from or to the identity of this number
abbrev pub word_of : Bool → State → Query → Endpoint → ℕ → Word
word_of localhost s query endpoint number = verdict_of (with_leave localhost) s endpoint query.dir number query.proto query.port

-- the entry covers that packet
abbrev pub covers_number : List IdentityRow → Query → ℕ → Entry → Bool
covers_number rows query number = entry_covers (selects_number rows number) query.proto query.port

-- that verdict, and the places of the entries that cover the packet
abbrev pub trace_of : Bool → State → Query → Endpoint → ℕ → Trace
trace_of localhost s query endpoint number = record {
  word = word_of localhost s query endpoint number;
  remote = number;
  denies = covering_places s.policies endpoint (deny_section query.dir) (covers_number s.identities query number);
  allows = covering_places s.policies endpoint (allow_section query.dir) (covers_number s.identities query number);
}
