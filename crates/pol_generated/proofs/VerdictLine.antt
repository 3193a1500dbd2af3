-- The line of a verdict is read as its query.
use Rattle.std.proofs.Common.{◌≡◌, ℕ, ◌^◌, ◌<◌, ◌≤◌, true, cond, codes, List, [], ◌∷◌, ◌++◌, Some, None, option_map, option_and_then, Result, Ok, Err, refl, sym, ap, ap₂, subst, ◌∙◌, arith, append_assoc}
use Rattle.std.specs.Cmp.Derive.{both_true}
use Rattle.std.specs.Fmt.{decimal}
use Rattle.std.specs.Option.{ok_or}
use Rattle.std.proofs.lemmas.Bool.{le-leb}
use Rattle.json.specs.Json as json
use Rattle.json.specs.Print.{escape_byte, print, print_from}
use Rattle.json.specs.Tree.{depth, json_tokens}
use Rattle.json.proofs.Printed.Decimals.{IsNumber-decimal}
use Rattle.json.proofs.Printed.Utf8.{are_ascii}
use Rattle.serde_json.specs.Data.{Data, Members, unsigned, number, string, object, member, no_members, put}
use Rattle.serde_json.specs.Read.{of_members, read}
use Rattle.serde_json.proofs.Numbers.{number_of-decimal}
use Rattle.pol_addr.specs.declared.address.Addr.{Addr}
use Rattle.pol_gen.specs.Generated.{verdict_text}
use Rattle.pol_model.specs.declared.request.Query.{Query}
use Rattle.pol_model.specs.declared.request.Remote.{Remote}
use Rattle.pol_model.specs.declared.request.Remote.TheVariants as remote
use Rattle.pol_ports.specs.declared.Direction.TheVariants.{Ingress}
use Rattle.pol_ports.specs.declared.Proto.TheVariants.{Tcp}
use Rattle.pol_script.specs.declared.command.Command.TheVariants as command
use Rattle.pol_script.specs.declared.line_fault.LineFault.{LineFault}
use Rattle.pol_script.specs.declared.line_fault.LineFault.TheVariants as fault
use Rattle.pol_script.specs.Commands.{address_of}
use Rattle.pol_script.specs.Forms.{is_within}
use Rattle.pol_script.specs.Lines.{is_one_line}
use Rattle.pol_script.specs.Reading.{read_object, reading_of}
use Rattle.pol_script.specs.Steps.{◌>>=◌}
use Rattle.pol_generated.specs.Asked.{look}
use Rattle.pol_generated.proofs.Digits.{IsDigits, ascii, ascii_joined, digits_of, line_joined, one_line}
use Rattle.pol_generated.proofs.EndpointLine.{address_at, name_of}
use Rattle.pol_generated.proofs.Printing.{read_printed, reading_from}
use Rattle.pol_generated.proofs.Pieces.{Piece, AllDigits, text_of, printed_of, printed_is, all_ascii, all_one_line, text_then, three_fields}
use Rattle.pol_generated.proofs.LinesRead.{Reads, one}

-- ---- the text

abbrev pieces : List ℕ → List ℕ → List Piece
pieces i host =
    (codes "{\"op\":\"verdict\",\"endpoint\":\"e", i) ∷ (codes ",\"direction\":\"ingress\",\"address\":\"10.0.0.", host) ∷ []

-- what stands behind them: the port is a number
abbrev end_of : List ℕ → List ℕ
end_of port = codes ",\"protocol\":\"TCP\",\"port\":" ++ (port ++ codes "}")

abbrev line_of : List ℕ → List ℕ → List ℕ → List ℕ
line_of i host port = text_of (pieces i host) (end_of port)

abbrev json_of : List ℕ → List ℕ → List ℕ → json.Json
json_of i host port =
    json.object (json.member (codes "op") (json.string (codes "verdict"))
    (json.member (codes "endpoint") (json.string (codes "e" ++ i))
    (json.member (codes "direction") (json.string (codes "ingress"))
    (json.member (codes "address") (json.string (codes "10.0.0." ++ host))
    (json.member (codes "protocol") (json.string (codes "TCP"))
    (json.member (codes "port") (json.number port) json.no_members))))))

-- the members that stand before the port
abbrev first_members : List ℕ → List ℕ → Members
first_members i host =
    member (codes "address") (string (codes "10.0.0." ++ host))
    (member (codes "direction") (string (codes "ingress"))
    (member (codes "endpoint") (string (codes "e" ++ i))
    (member (codes "op") (string (codes "verdict"))
    (member (codes "protocol") (string (codes "TCP")) no_members))))

abbrev data_of : List ℕ → List ℕ → ℕ → Data
data_of i host port = object (put (codes "port") (number (unsigned port)) (first_members i host))

printed : (i host port : List ℕ) → print (json_tokens (json_of i host port)) ≡ printed_of (pieces i host) (end_of port)
unfolding print_from escape_byte
printed i host port = refl

read_line : (i host : List ℕ) (port : ℕ) → AllDigits (pieces i host) → port < 2 ^ 64 → read (line_of i host (decimal port)) ≡ Some (data_of i host port)
read_line i host port digits small =
    let shallow : depth (json_of i host (decimal port)) ≤ 127 = omega arith in
    ap read (sym (printed i host (decimal port) ∙ printed_is (pieces i host) (end_of (decimal port)) digits))
    ∙ read_printed (json_of i host (decimal port)) (tt, (tt, (tt, (tt, (tt, (IsNumber-decimal port small, tt)))))) shallow
    ∙ ap (λ o. option_map object (option_and_then (λ d. of_members json.no_members (put (codes "port") d (first_members i host))) (option_map number o)))
    (number_of-decimal port small)

-- ---- the bytes of its end

end_ascii : (port : List ℕ) → IsDigits port → are_ascii (end_of port) ≡ true
end_ascii port is = ascii_joined port (codes "}") (ascii port is) refl

end_line : (port : List ℕ) → IsDigits port → is_one_line (end_of port) ≡ true
end_line port is = line_joined port (codes "}") (one_line port is) refl

end_then : (port : List ℕ) → end_of port ++ codes "\n" ≡ codes ",\"protocol\":\"TCP\",\"port\":" ++ (port ++ codes "}\n")
end_then port = ap (λ s. codes ",\"protocol\":\"TCP\",\"port\":" ++ s) (append_assoc port (codes "}") (codes "\n"))

-- ---- its members

abbrev query : List ℕ → Remote → ℕ → Query
query endpoint side port = record { endpoint = endpoint; dir = Ingress; remote = side; proto = Tcp; port = port }

within : (port : ℕ) → port ≤ 65535 → is_within 0 65535 port ≡ true
within port small = both_true (le-leb 0 port (omega arith)) (le-leb port 65535 small)

side_first : (endpoint : List ℕ) (port : ℕ) (address : Result Addr LineFault)
    → ((address >>= λ at. Ok (remote.Address at)) >>= λ side. Ok (command.Look 1 (query endpoint side port))) ≡ (address >>= λ at. Ok (command.Look 1 (query endpoint (remote.Address at) port)))
side_first endpoint port (Ok at) = refl
side_first endpoint port (Err f) = refl

-- what is asked, once the name and the port have been read
asked_of : (i host : List ℕ) (port : ℕ) → IsDigits i → port ≤ 65535
    → read_object (data_of i host port) ≡ (address_of (codes "10.0.0." ++ host) >>= λ at. Ok (command.Look 1 (query (codes "e" ++ i) (remote.Address at) port)))
asked_of i host port is small =
    ap₂ (λ a b. (ok_or (cond a (Some (codes "e" ++ i)) None) (fault.BadField (codes "endpoint")) >>= λ endpoint.
    (ok_or (cond b (Some port) None) (fault.BadField (codes "port")) >>= λ number.
    Ok ((address_of (codes "10.0.0." ++ host) >>= λ at. Ok (remote.Address at)) >>= λ side. Ok (command.Look 1 (query endpoint side number))))) >>= λ read. read)
    (name_of 101 i refl is) (within port small)
    ∙ side_first (codes "e" ++ i) port (address_of (codes "10.0.0." ++ host))

digits : (i host : ℕ) → i < 100000 → host ≤ 255 → AllDigits (pieces (decimal i) (decimal host))
digits i host low near = (digits_of i low, (digits_of host (omega (arith, near)), tt))

line_read : (i host port : ℕ) → i < 100000 → host ≤ 255 → port ≤ 65535 → reading_of (line_of (decimal i) (decimal host) (decimal port)) ≡ Ok (look i host port)
line_read i host port low near small =
    let are = digits i host low near in
    reading_from (line_of (decimal i) (decimal host) (decimal port)) (data_of (decimal i) (decimal host) port)
    (all_ascii (pieces (decimal i) (decimal host)) (end_of (decimal port)) are refl (end_ascii (decimal port) (digits_of port (omega (arith, small)))))
    (read_line (decimal i) (decimal host) port are (omega (arith, small))) refl
    ∙ asked_of (decimal i) (decimal host) port are.0 small
    ∙ ap (λ o. ok_or o fault.BadAddress >>= λ at. Ok (command.Look 1 (query (codes "e" ++ decimal i) (remote.Address at) port))) (address_at host near)

joined : (i host port : List ℕ)
    → codes "{\"op\":\"verdict\",\"endpoint\":\"e" ++ i
    ++ codes "\",\"direction\":\"ingress\",\"address\":\"10.0.0." ++ host
    ++ codes "\",\"protocol\":\"TCP\",\"port\":" ++ port
    ++ codes "}\n"
    ≡ text_of (pieces i host) (codes ",\"protocol\":\"TCP\",\"port\":" ++ (port ++ codes "}\n"))
joined i host port =
    three_fields (codes "{\"op\":\"verdict\",\"endpoint\":\"e") i (codes "\",\"direction\":\"ingress\",\"address\":\"10.0.0.") host
    (codes "\",\"protocol\":\"TCP\",\"port\":") port (codes "}\n")

pub verdict_reads : (i host port : ℕ) → i < 100000 → host ≤ 255 → port ≤ 65535 → Reads (verdict_text i host port) (look i host port ∷ [])
verdict_reads i host port low near small =
    let parts = pieces (decimal i) (decimal host) in
    subst (λ t. Reads t (look i host port ∷ [])) (text_then parts (end_of (decimal port)) (codes "\n") ∙ ap (text_of parts) (end_then (decimal port)) ∙ sym (joined (decimal i) (decimal host) (decimal port)))
    (one (text_of parts (end_of (decimal port))) (look i host port)
    (all_one_line parts (end_of (decimal port)) (digits i host low near) refl (end_line (decimal port) (digits_of port (omega (arith, small)))))
    (line_read i host port low near small))
