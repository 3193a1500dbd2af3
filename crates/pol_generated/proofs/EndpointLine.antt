-- The line of an endpoint is read as its request.
use Rattle.std.proofs.Common.{◌≡◌, ℕ, ◌+◌, ◌<◌, ◌≤◌, true, cond, ◌&&◌, nat_le, codes, List, [], ◌∷◌, ◌++◌, length, Some, None, option_map, option_and_then, Result, Ok, refl, sym, ap, subst, ◌∙◌, arith}
use Rattle.std.specs.Cmp.Derive.{both_true}
use Rattle.std.specs.Fmt.{decimal}
use Rattle.std.specs.Fmt.{digits as digits_in}
use Rattle.std.specs.Option.{ok_or}
use Rattle.std.proofs.lemmas.Bool.{le-leb}
use Rattle.json.specs.Json as json
use Rattle.json.specs.Print.{escape_byte, print, print_from}
use Rattle.json.specs.Tree.{depth, json_tokens}
use Rattle.serde_json.specs.Data.{Data, string, array, object, item, no_items, member, no_members}
use Rattle.serde_json.specs.Read.{read}
use Rattle.pol_addr.specs.Address.{read_addr}
use Rattle.pol_addr.specs.declared.address.Addr.{Addr}
use Rattle.pol_addr.specs.Grammar.WritesAddr.{dotted}
use Rattle.pol_addr.proofs.HexTexts.{read_addr_complete}
use Rattle.pol_gen.specs.Generated.{endpoint_text}
use Rattle.pol_json.specs.Texts.{is_name, is_name_byte}
use Rattle.pol_labels.specs.declared.label.Label.{Label}
use Rattle.pol_labels.specs.LabelText.{read_label}
use Rattle.pol_labels.specs.Order.{label_set_of}
use Rattle.pol_model.specs.declared.request.Request.TheVariants as request
use Rattle.pol_script.specs.declared.command.Command.TheVariants as command
use Rattle.pol_script.specs.declared.line_fault.LineFault.{LineFault}
use Rattle.pol_script.specs.declared.line_fault.LineFault.TheVariants as fault
use Rattle.pol_script.specs.Commands.{address_of}
use Rattle.pol_script.specs.Commands.{labels_of as labels_read}
use Rattle.pol_script.specs.Reading.{read_object, reading_of}
use Rattle.pol_script.specs.Steps.{◌>>=◌, each}
use Rattle.pol_generated.specs.Asked.{add_endpoint, host_address, labels_of}
use Rattle.pol_generated.proofs.Digits.{IsDigits, digits_of, graphic, named}
use Rattle.pol_generated.proofs.Printing.{read_printed, reading_from}
use Rattle.pol_generated.proofs.Pieces.{Piece, AllDigits, text_of, printed_of, printed_is, all_ascii, all_one_line, text_then, three_fields}
use Rattle.pol_generated.proofs.LinesRead.{Reads, one}

-- ---- the text

abbrev pieces : List ℕ → List ℕ → List ℕ → List Piece
pieces i app host =
    (codes "{\"op\":\"endpoint\",\"name\":\"e", i)
    ∷ (codes ",\"labels\":[\"k8s:app=a", app)
    ∷ (codes ",\"k8s:io.kubernetes.pod.namespace=default\"],\"address\":\"10.0.0.", host)
    ∷ []

abbrev line_of : List ℕ → List ℕ → List ℕ → List ℕ
line_of i app host = text_of (pieces i app host) (codes "}")

abbrev json_of : List ℕ → List ℕ → List ℕ → json.Json
json_of i app host =
    json.object (json.member (codes "op") (json.string (codes "endpoint"))
    (json.member (codes "name") (json.string (codes "e" ++ i))
    (json.member (codes "labels") (json.array (json.item (json.string (codes "k8s:app=a" ++ app)) (json.item (json.string (codes "k8s:io.kubernetes.pod.namespace=default")) json.no_items)))
    (json.member (codes "address") (json.string (codes "10.0.0." ++ host)) json.no_members))))

abbrev data_of : List ℕ → List ℕ → List ℕ → Data
data_of i app host =
    object (member (codes "address") (string (codes "10.0.0." ++ host))
    (member (codes "labels") (array (item (string (codes "k8s:app=a" ++ app)) (item (string (codes "k8s:io.kubernetes.pod.namespace=default")) no_items)))
    (member (codes "name") (string (codes "e" ++ i))
    (member (codes "op") (string (codes "endpoint")) no_members))))

printed : (i app host : List ℕ) → print (json_tokens (json_of i app host)) ≡ printed_of (pieces i app host) (codes "}")
unfolding print_from escape_byte
printed i app host = refl

read_line : (i app host : List ℕ) → AllDigits (pieces i app host) → read (line_of i app host) ≡ Some (data_of i app host)
read_line i app host digits =
    let shallow : depth (json_of i app host) ≤ 127 = omega arith in
    ap read (sym (printed i app host ∙ printed_is (pieces i app host) (codes "}") digits))
    ∙ read_printed (json_of i app host) (tt, (tt, ((tt, (tt, tt)), (tt, tt)))) shallow

-- ---- its parts

-- a letter and some digits are a name
pub name_of : (letter : ℕ) (text : List ℕ) → is_name_byte letter ≡ true → IsDigits text → is_name (letter ∷ text) ≡ true
name_of letter text own is =
    let least : nat_le 1 (length (letter ∷ text)) ≡ true = le-leb 1 (length (letter ∷ text)) (omega arith) in
    let most : nat_le (length (letter ∷ text)) 253 ≡ true = le-leb (length (letter ∷ text)) 253 (omega (arith, is.few)) in
    both_true (both_true least most) (both_true own (named text is))

label_of : (app : List ℕ) → IsDigits app
    → read_label (codes "k8s:app=a" ++ app) ≡ Some (record { source = codes "k8s"; key = codes "app"; value = codes "a" ++ app })
label_of app is =
    ap (λ b. cond (b && true) (Some (record { source = codes "k8s"; key = codes "app"; value = codes "a" ++ app })) None) (graphic app is)

ten : decimal 10 ≡ codes "10"
unfolding digits_in
ten = refl

none : decimal 0 ≡ codes "0"
unfolding digits_in
none = refl

pub address_at : (host : ℕ) → host ≤ 255 → read_addr (codes "10.0.0." ++ decimal host) ≡ Some (host_address host)
address_at host small =
    read_addr_complete (codes "10.0.0." ++ decimal host) (host_address host)
    (dotted (record {
      a = 10;
      b = 0;
      c = 0;
      d = host;
      octets = (omega arith, omega arith, omega arith, small);
      written = rw (ten, none) refl;
      value = refl;
    }))

-- ---- the line

abbrev label_texts : List ℕ → List (List ℕ)
label_texts app = (codes "k8s:app=a" ++ app) ∷ codes "k8s:io.kubernetes.pod.namespace=default" ∷ []

labelled : (app : List ℕ) → IsDigits app
    → labels_read (label_texts app) ≡ Ok (
    record { source = codes "k8s"; key = codes "app"; value = codes "a" ++ app }
    ∷ record { source = codes "k8s"; key = codes "io.kubernetes.pod.namespace"; value = codes "default" }
    ∷ []
    )
labelled app is =
    ap (λ o. ok_or (option_and_then (λ y. option_map (λ ys. y ∷ ys) (each read_label (codes "k8s:io.kubernetes.pod.namespace=default" ∷ []))) o) fault.BadLabel
    >>= λ ls. ok_or (label_set_of ls) fault.DuplicateLabelKey)
    (label_of app is)

-- what is asked, once the name has been read
named_first : (i app host : List ℕ) → IsDigits i
    → read_object (data_of i app host) ≡ (labels_read (label_texts app)
    >>= λ set. address_of (codes "10.0.0." ++ host) >>= λ at. Ok (command.Commit 1 (request.AddEndpoint (codes "e" ++ i) set at)))
named_first i app host is =
    ap (λ b. (ok_or (cond b (Some (codes "e" ++ i)) None) (fault.BadField (codes "name")) >>= λ name.
    Ok (labels_read (label_texts app)
    >>= λ set. address_of (codes "10.0.0." ++ host) >>= λ at. Ok (command.Commit 1 (request.AddEndpoint name set at)))) >>= λ read. read)
    (name_of 101 i refl is)

commanded : (name : List ℕ) (labels : Result (List Label) LineFault) (set : List Label) (address : Result Addr LineFault) (addr : Addr)
    → labels ≡ Ok set → address ≡ Ok addr
    → (labels >>= λ s. address >>= λ a. Ok (command.Commit 1 (request.AddEndpoint name s a))) ≡ Ok (command.Commit 1 (request.AddEndpoint name set addr))
commanded name labels set address addr one two =
    ap (λ (r : Result (List Label) LineFault). r >>= λ s. address >>= λ a. Ok (command.Commit 1 (request.AddEndpoint name s a))) one
    ∙ ap (λ (r : Result Addr LineFault). r >>= λ a. Ok (command.Commit 1 (request.AddEndpoint name set a))) two

digits : (i app : ℕ) → i < 255 → app < 100000 → AllDigits (pieces (decimal i) (decimal app) (decimal (i + 1)))
digits i app low small = (digits_of i (omega (arith, low)), (digits_of app small, (digits_of (i + 1) (omega (arith, low)), tt)))

line_read : (i app : ℕ) → i < 255 → app < 100000 → reading_of (line_of (decimal i) (decimal app) (decimal (i + 1))) ≡ Ok (add_endpoint i app)
line_read i app low small =
    let are = digits i app low small in
    reading_from (line_of (decimal i) (decimal app) (decimal (i + 1))) (data_of (decimal i) (decimal app) (decimal (i + 1)))
    (all_ascii (pieces (decimal i) (decimal app) (decimal (i + 1))) (codes "}") are refl refl)
    (read_line (decimal i) (decimal app) (decimal (i + 1)) are) refl
    ∙ named_first (decimal i) (decimal app) (decimal (i + 1)) are.0
    ∙ commanded (codes "e" ++ decimal i) (labels_read (label_texts (decimal app))) (labels_of app) (address_of (codes "10.0.0." ++ decimal (i + 1))) (host_address (i + 1))
    (labelled (decimal app) are.1.0)
    (ap (λ o. ok_or o fault.BadAddress) (address_at (i + 1) (omega (arith, low))))

joined : (i app host : List ℕ)
    → codes "{\"op\":\"endpoint\",\"name\":\"e" ++ i
    ++ codes "\",\"labels\":[\"k8s:app=a" ++ app
    ++ codes "\",\"k8s:io.kubernetes.pod.namespace=default\"],\"address\":\"10.0.0." ++ host
    ++ codes "\"}\n"
    ≡ text_of (pieces i app host) (codes "}\n")
joined i app host =
    three_fields (codes "{\"op\":\"endpoint\",\"name\":\"e") i (codes "\",\"labels\":[\"k8s:app=a") app
    (codes "\",\"k8s:io.kubernetes.pod.namespace=default\"],\"address\":\"10.0.0.") host (codes "\"}\n")

pub endpoint_reads : (i app : ℕ) → i < 255 → app < 100000 → Reads (endpoint_text i app) (add_endpoint i app ∷ [])
endpoint_reads i app low small =
    let parts = pieces (decimal i) (decimal app) (decimal (i + 1)) in
    subst (λ t. Reads t (add_endpoint i app ∷ [])) (text_then parts (codes "}") (codes "\n") ∙ sym (joined (decimal i) (decimal app) (decimal (i + 1))))
    (one (text_of parts (codes "}")) (add_endpoint i app) (all_one_line parts (codes "}") (digits i app low small) refl refl) (line_read i app low small))
