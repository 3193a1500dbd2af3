-- The lines of the output, each a JSON object ('profile').
use Rattle.std.specs.Prelude.{ℕ, List, ◌++◌, codes, if◌then◌else◌, Option, None, Some}
use Rattle.std.specs.Fmt.{decimal}
use Rattle.json.specs.Json.{Json, number, string, array, object, no_items, item, Members, no_members, member}
use Rattle.json.specs.Print.{print}
use Rattle.json.specs.Tree.{json_tokens}
use Rattle.pol_answer.specs.declared.answer.Answer.{Answer}
use Rattle.pol_answer.specs.Text.{answer_words, word_text}
use Rattle.pol_ports.specs.declared.Proto.{Proto}
use Rattle.pol_ports.specs.declared.Proto.TheVariants.{Tcp, Udp, Sctp}
use Rattle.pol_port_ranges.specs.declared.said.Halves.{Halves}
use Rattle.pol_port_ranges.specs.declared.said.Range.{Range}
use Rattle.pol_port_ranges.specs.Said.{is_open}
use Rattle.pol_connections.specs.declared.end.Connection.{Connection}
use Rattle.pol_connections.specs.declared.end.EndName.{EndName}
use Rattle.pol_connection_text.specs.declared.side.ChangeSide.{ChangeSide}
use Rattle.pol_connection_text.specs.declared.side.ChangeSide.TheVariants.{Before, After}
use Rattle.pol_connection_text.specs.Ends.{end_json}

-- a JSON value without spaces, and a newline byte
abbrev pub line_of : Json → List ℕ
line_of json = print (json_tokens json) ++ codes "\n"

-- ---- sides
abbrev pub side_word : ChangeSide → List ℕ
side_word Before = codes "before"
side_word After = codes "after"

-- the side comes first, where there are two
abbrev pub with_side : Option ChangeSide → Members → Members
with_side None others = others
with_side (Some side) others = member (codes "side") (string (side_word side)) others

-- ---- what a line of a script is refused for: its number, from 1, and what `policyd` answers it
abbrev pub refusal_members : ℕ → List ℕ → Members
refusal_members line words = member (codes "line") (number (decimal line)) (member (codes "answer") (string words) no_members)

abbrev pub refusal_json : Option ChangeSide → ℕ → Answer → Json
refusal_json side line answer = object (with_side side (refusal_members line (answer_words answer)))

-- ---- a name that one side alone has
abbrev pub name_json : ChangeSide → EndName → Json
name_json side name = object (member (codes "side") (string (side_word side)) (member (codes "end") (end_json name) no_members))

-- ---- connections
abbrev pub proto_word : Proto → List ℕ
proto_word Tcp = codes "TCP"
proto_word Udp = codes "UDP"
proto_word Sctp = codes "SCTP"

-- the first port and the last
abbrev pub ports_json : ℕ → ℕ → Json
ports_json first last = array (item (number (decimal first)) (item (number (decimal last)) no_items))

-- the verdict on what the source sends, and on what the target receives
abbrev pub both_members : Halves → Members
both_members halves =
    member (codes "egress") (string (word_text halves.sent)) (member (codes "ingress") (string (word_text halves.received)) no_members)

-- `allowed` where both ends allow it, else both verdicts
abbrev pub halves_json : Halves → Json
halves_json halves = if is_open halves then string (codes "allowed") else object (both_members halves)

-- what is said in the one state, or before and after
abbrev pub said_members : Option Halves → Halves → Members
said_members None now = member (codes "verdict") (halves_json now) no_members
said_members (Some before) after = member (codes "before") (halves_json before) (member (codes "after") (halves_json after) no_members)

-- the members behind the two ends
abbrev pub rest_members : Proto → Range → Members
rest_members proto range =
    member (codes "protocol") (string (proto_word proto))
    (member (codes "ports") (ports_json range.first range.last) (said_members range.said.before range.said.after))

abbrev pub connection_json : Connection → Json
connection_json c = object (member (codes "from") (end_json c.from) (member (codes "to") (end_json c.to) (rest_members c.proto c.range)))
