-- The line of a policy is read as the value of its document.
use Rattle.std.proofs.Common.{◌≡◌, ℕ, ◌^◌, ◌<◌, ◌≤◌, Bool, true, false, codes, List, [], ◌∷◌, ◌++◌, Some, option_map, option_and_then, refl, sym, ap, ◌∙◌, arith, append_assoc}
use Rattle.std.specs.Fmt.{decimal}
use Rattle.json.specs.Json as json
use Rattle.json.specs.Print.{escape_byte, print, print_from}
use Rattle.json.specs.Tree.{depth, json_tokens, HasNumbers}
use Rattle.json.proofs.Printed.Decimals.{IsNumber-decimal}
use Rattle.json.proofs.Printed.Utf8.{are_ascii}
use Rattle.serde_json.specs.Data.{Data, Members, unsigned, number, string, array, object, item, no_items, member, no_members, put}
use Rattle.serde_json.specs.Read.{of_json, of_members, read}
use Rattle.serde_json.proofs.Numbers.{number_of-decimal}
use Rattle.pol_script.specs.Lines.{ended, is_one_line}
use Rattle.pol_generated.proofs.Digits.{IsDigits, ascii, ascii_joined, line_joined, one_line}
use Rattle.pol_generated.proofs.Pieces.{Piece, AllDigits, fronts_pass, text_of, printed_of, printed_is, all_ascii, all_one_line, text_then}
use Rattle.pol_generated.proofs.Printing.{read_printed}

-- the digits of a policy's line
pub record Numbers : Type 0 where
  pub name : List ℕ
  pub app : List ℕ
  pub from : List ℕ
  pub first : List ℕ

pub record AreDigits (n : Numbers) : Type 0 where
  pub name : IsDigits n.name
  pub app : IsDigits n.app
  pub from : IsDigits n.from
  pub first : IsDigits n.first

abbrev pub section_name : Bool → List ℕ
section_name true = codes "ingressDeny"
section_name false = codes "ingress"

-- ---- the text

-- what stands between the subject and the entry
abbrev pub section_part : Bool → List ℕ
section_part true = codes "}},\"ingressDeny\":[{\"fromEndpoints\":[{\"matchLabels\":{\"app\":\"a"
section_part false = codes "}},\"ingress\":[{\"fromEndpoints\":[{\"matchLabels\":{\"app\":\"a"

abbrev pub pieces : Bool → Numbers → List Piece
pieces denies n =
    (codes "{\"op\":\"apply\",\"policy\":{\"apiVersion\":\"cilium.io/v2\",\"kind\":\"CiliumNetworkPolicy\",\"metadata\":{\"name\":\"p", n.name)
    ∷ (codes "},\"spec\":{\"endpointSelector\":{\"matchLabels\":{\"app\":\"a", n.app)
    ∷ (section_part denies, n.from)
    ∷ (codes "}}],\"toPorts\":[{\"ports\":[{\"port\":\"", n.first)
    ∷ []

-- what stands behind them: the last port is a number
abbrev pub end_of : List ℕ → List ℕ → List ℕ
end_of last more = codes ",\"endPort\":" ++ (last ++ (codes ",\"protocol\":\"TCP\"}]}]}]}}}" ++ more))

abbrev pub line_of : Bool → Numbers → List ℕ → List ℕ
line_of denies n last = text_of (pieces denies n) (end_of last [])

-- ---- the value

abbrev selector_json : List ℕ → json.Json
selector_json app =
    json.object (json.member (codes "matchLabels") (json.object (json.member (codes "app") (json.string (codes "a" ++ app)) json.no_members)) json.no_members)

abbrev one_item : json.Json → json.Json
one_item j = json.array (json.item j json.no_items)

abbrev port_json : List ℕ → List ℕ → json.Json
port_json first last =
    json.object (json.member (codes "port") (json.string first) (json.member (codes "endPort") (json.number last) (json.member (codes "protocol") (json.string (codes "TCP")) json.no_members)))

abbrev port_item_json : List ℕ → List ℕ → json.Json
port_item_json first last = json.object (json.member (codes "ports") (one_item (port_json first last)) json.no_members)

abbrev ports_json : List ℕ → List ℕ → json.Json
ports_json first last = one_item (port_item_json first last)

abbrev entry_json : Numbers → List ℕ → json.Json
entry_json n last =
    json.object (json.member (codes "fromEndpoints") (one_item (selector_json n.from)) (json.member (codes "toPorts") (ports_json n.first last) json.no_members))

abbrev spec_json : Bool → Numbers → List ℕ → json.Json
spec_json denies n last =
    json.object (json.member (codes "endpointSelector") (selector_json n.app) (json.member (section_name denies) (one_item (entry_json n last)) json.no_members))

abbrev policy_json : Bool → Numbers → List ℕ → json.Json
policy_json denies n last =
    json.object (json.member (codes "apiVersion") (json.string (codes "cilium.io/v2")) (json.member (codes "kind") (json.string (codes "CiliumNetworkPolicy"))
    (json.member (codes "metadata") (json.object (json.member (codes "name") (json.string (codes "p" ++ n.name)) json.no_members))
    (json.member (codes "spec") (spec_json denies n last) json.no_members))))

abbrev line_json : Bool → Numbers → List ℕ → json.Json
line_json denies n last =
    json.object (json.member (codes "op") (json.string (codes "apply")) (json.member (codes "policy") (policy_json denies n last) json.no_members))

abbrev pub selector_data : List ℕ → Data
selector_data app = object (member (codes "matchLabels") (object (member (codes "app") (string (codes "a" ++ app)) no_members)) no_members)

abbrev pub one_data : Data → Data
one_data d = array (item d no_items)

abbrev pub port_data : List ℕ → ℕ → Data
port_data first last =
    object (member (codes "endPort") (number (unsigned last)) (member (codes "port") (string first) (member (codes "protocol") (string (codes "TCP")) no_members)))

abbrev pub port_item_data : List ℕ → ℕ → Data
port_item_data first last = object (member (codes "ports") (one_data (port_data first last)) no_members)

abbrev pub entry_data : Numbers → ℕ → Data
entry_data n last =
    object (member (codes "fromEndpoints") (one_data (selector_data n.from)) (member (codes "toPorts") (one_data (port_item_data n.first last)) no_members))

abbrev pub spec_data : Bool → Numbers → ℕ → Data
spec_data denies n last =
    object (member (codes "endpointSelector") (selector_data n.app) (member (section_name denies) (one_data (entry_data n last)) no_members))

abbrev pub policy_data : Bool → Numbers → ℕ → Data
policy_data denies n last =
    object (member (codes "apiVersion") (string (codes "cilium.io/v2")) (member (codes "kind") (string (codes "CiliumNetworkPolicy"))
    (member (codes "metadata") (object (member (codes "name") (string (codes "p" ++ n.name)) no_members))
    (member (codes "spec") (spec_data denies n last) no_members))))

abbrev pub line_data : Bool → Numbers → ℕ → Data
line_data denies n last = object (member (codes "op") (string (codes "apply")) (member (codes "policy") (policy_data denies n last) no_members))

-- ---- what is printed of the value

printed : (denies : Bool) (n : Numbers) (last : List ℕ) → print (json_tokens (line_json denies n last)) ≡ printed_of (pieces denies n) (end_of last [])
unfolding print_from escape_byte
printed true n last = refl
printed false n last = refl

-- ---- its bytes

abbrev ends : List ℕ
ends = codes ",\"protocol\":\"TCP\"}]}]}]}}}"

end_ascii : (last : List ℕ) → IsDigits last → are_ascii (end_of last []) ≡ true
end_ascii last is = ascii_joined last ends (ascii last is) refl

end_line : (last : List ℕ) → IsDigits last → is_one_line (end_of last []) ≡ true
end_line last is = line_joined last ends (one_line last is) refl

end_then : (last : List ℕ) → end_of last [] ++ codes "\n" ≡ end_of last (codes "\n")
end_then last = ap (λ s. codes ",\"endPort\":" ++ s) (append_assoc last ends (codes "\n"))

fronts_ascii : (denies : Bool) (n : Numbers) → fronts_pass are_ascii (pieces denies n) ≡ true
fronts_ascii true n = refl
fronts_ascii false n = refl

fronts_line : (denies : Bool) (n : Numbers) → fronts_pass is_one_line (pieces denies n) ≡ true
fronts_line true n = refl
fronts_line false n = refl

digits : (denies : Bool) (n : Numbers) → AreDigits n → AllDigits (pieces denies n)
digits denies n is = (is.name, (is.app, (is.from, (is.first, tt))))

pub plain : (denies : Bool) (n : Numbers) (last : List ℕ) → AreDigits n → IsDigits last → are_ascii (line_of denies n last) ≡ true
plain denies n last is end = all_ascii (pieces denies n) (end_of last []) (digits denies n is) (fronts_ascii denies n) (end_ascii last end)

pub one_line_of : (denies : Bool) (n : Numbers) (last : List ℕ) → AreDigits n → IsDigits last → is_one_line (line_of denies n last) ≡ true
one_line_of denies n last is end = all_one_line (pieces denies n) (end_of last []) (digits denies n is) (fronts_line denies n) (end_line last end)

-- the line with its newline
pub ended_is : (denies : Bool) (n : Numbers) (last : List ℕ) → ended (line_of denies n last) ≡ text_of (pieces denies n) (end_of last (codes "\n"))
ended_is denies n last = text_then (pieces denies n) (end_of last []) (codes "\n") ∙ ap (text_of (pieces denies n)) (end_then last)

-- ---- the value that is read of it

item_read : (j : json.Json) (d : Data) → of_json j ≡ Some d → of_json (one_item j) ≡ Some (one_data d)
item_read j d is = ap (λ o. option_map array (option_and_then (λ x. option_map (item x) (Some no_items)) o)) is

-- the last member
member_read : (k : List ℕ) (j : json.Json) (d : Data) (found : Members) → of_json j ≡ Some d
    → option_map object (of_members (json.member k j json.no_members) found) ≡ Some (object (put k d found))
member_read k j d found is = ap (λ o. option_map object (option_and_then (λ x. of_members json.no_members (put k x found)) o)) is

port_read : (first : List ℕ) (last : ℕ) → last < 2 ^ 64 → of_json (port_json first (decimal last)) ≡ Some (port_data first last)
port_read first last small =
    ap (λ o. option_map object (option_and_then (λ d. of_members (json.member (codes "protocol") (json.string (codes "TCP")) json.no_members) (put (codes "endPort") d (member (codes "port") (string first) no_members))) (option_map number o)))
    (number_of-decimal last small)

entry_read : (n : Numbers) (last : ℕ) → last < 2 ^ 64 → of_json (entry_json n (decimal last)) ≡ Some (entry_data n last)
entry_read n last small =
    member_read (codes "toPorts") (ports_json n.first (decimal last)) (one_data (port_item_data n.first last)) (member (codes "fromEndpoints") (one_data (selector_data n.from)) no_members)
    (item_read (port_item_json n.first (decimal last)) (port_item_data n.first last)
    (member_read (codes "ports") (one_item (port_json n.first (decimal last))) (one_data (port_data n.first last)) no_members
    (item_read (port_json n.first (decimal last)) (port_data n.first last) (port_read n.first last small))))

spec_read : (denies : Bool) (n : Numbers) (last : ℕ) → last < 2 ^ 64 → of_json (spec_json denies n (decimal last)) ≡ Some (spec_data denies n last)
spec_read true n last small =
    member_read (codes "ingressDeny") (one_item (entry_json n (decimal last))) (one_data (entry_data n last)) (member (codes "endpointSelector") (selector_data n.app) no_members)
    (item_read (entry_json n (decimal last)) (entry_data n last) (entry_read n last small))
spec_read false n last small =
    member_read (codes "ingress") (one_item (entry_json n (decimal last))) (one_data (entry_data n last)) (member (codes "endpointSelector") (selector_data n.app) no_members)
    (item_read (entry_json n (decimal last)) (entry_data n last) (entry_read n last small))

json_read : (denies : Bool) (n : Numbers) (last : ℕ) → last < 2 ^ 64 → of_json (line_json denies n (decimal last)) ≡ Some (line_data denies n last)
json_read denies n last small =
    member_read (codes "policy") (policy_json denies n (decimal last)) (policy_data denies n last) (member (codes "op") (string (codes "apply")) no_members)
    (member_read (codes "spec") (spec_json denies n (decimal last)) (spec_data denies n last)
    (member (codes "apiVersion") (string (codes "cilium.io/v2")) (member (codes "kind") (string (codes "CiliumNetworkPolicy"))
    (member (codes "metadata") (object (member (codes "name") (string (codes "p" ++ n.name)) no_members)) no_members)))
    (spec_read denies n last small))

port_numbers : (n : Numbers) (last : ℕ) → last < 2 ^ 64 → HasNumbers (ports_json n.first (decimal last))
port_numbers n last small = (((((tt, (IsNumber-decimal last small, (tt, tt))), tt), tt), tt))

spec_numbers : (denies : Bool) (n : Numbers) (last : ℕ) → last < 2 ^ 64 → HasNumbers (spec_json denies n (decimal last))
spec_numbers denies n last small = (((tt, tt), tt), (((((((tt, tt), tt), tt), (port_numbers n last small, tt))), tt), tt))

numbers_are : (denies : Bool) (n : Numbers) (last : ℕ) → last < 2 ^ 64 → HasNumbers (line_json denies n (decimal last))
numbers_are denies n last small = (tt, ((tt, (tt, ((tt, tt), (spec_numbers denies n last small, tt)))), tt))

pub read_line : (denies : Bool) (n : Numbers) (last : ℕ) → AreDigits n → last < 2 ^ 64 → read (line_of denies n (decimal last)) ≡ Some (line_data denies n last)
read_line denies n last is small =
    let shallow : depth (line_json denies n (decimal last)) ≤ 127 = omega arith in
    ap read (sym (printed denies n (decimal last) ∙ printed_is (pieces denies n) (end_of (decimal last) []) (digits denies n is)))
    ∙ read_printed (line_json denies n (decimal last)) (numbers_are denies n last small) shallow
    ∙ json_read denies n last small
