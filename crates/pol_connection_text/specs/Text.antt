-- The text of the output.
use Rattle.std.specs.Prelude.{ℕ, List, ◌++◌, Option}
use Rattle.std.specs.List.{flat_map}
use Rattle.pol_answer.specs.declared.answer.Answer.{Answer}
use Rattle.pol_connections.specs.declared.end.Connection.{Connection}
use Rattle.pol_connections.specs.declared.end.EndName.{EndName}
use Rattle.pol_connection_text.specs.declared.side.ChangeSide.{ChangeSide}
use Rattle.pol_connection_text.specs.declared.side.ChangeSide.TheVariants.{Before, After}
use Rattle.pol_connection_text.specs.Lines.{connection_json, line_of, name_json, refusal_json}

-- what a line of a script is refused for
abbrev pub refusal_text : Option ChangeSide → ℕ → Answer → List ℕ
refusal_text side line answer = line_of (refusal_json side line answer)

-- the names that one side alone has
abbrev pub name_text : ChangeSide → EndName → List ℕ
name_text side name = line_of (name_json side name)

abbrev pub names_text : ChangeSide → List EndName → List ℕ
names_text side names = flat_map (name_text side) names

abbrev pub connection_text : Connection → List ℕ
connection_text connection = line_of (connection_json connection)

-- the open connections of a state
abbrev pub connections_text : List Connection → List ℕ
connections_text connections = flat_map connection_text connections

-- what a change does: the names that go, those that come, and the connections that open or shut
abbrev pub change_text : List EndName → List EndName → List Connection → List ℕ
change_text gone new connections = names_text Before gone ++ names_text After new ++ connections_text connections
