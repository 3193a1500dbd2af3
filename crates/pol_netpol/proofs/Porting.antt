-- A port's translation has the packets that the port has.
use Rattle.std.proofs.Common.{◌≡◌, ◌≤◌, ℕ, Bool, true, false, cond, ◌&&◌, ◌||◌, leb, ltb, List, [], ◌∷◌, filter_map, Option, Some, None, is_none, option_map, option_and_then, codes, refl, sym, ap, ◌∙◌, arith}
use Rattle.std.proofs.Math.Nat.{max-eq_right}
use Rattle.std.proofs.lemmas.Bool.{le-leb, or_parts, true≢false, ltb-false}
use Rattle.std.proofs.lemmas.Slice.Eq.{bytes_eq-Decides}
use Rattle.std.specs.List.{cons_option, list_any}
use Rattle.std.specs.Option.{option_map_or}
use Rattle.std.specs.Str.{bytes_eq}
use Rattle.pol_ports.specs.PortRange.{holds, range_from}
use Rattle.pol_ports.specs.Proto.{same_proto}
use Rattle.pol_ports.specs.declared.PortRange.{PortRange}
use Rattle.pol_ports.specs.declared.Proto.{Proto}
use Rattle.pol_ports.specs.declared.Proto.TheVariants.{Tcp, Udp, Sctp}
use Rattle.pol_rule.specs.Covers.{port_covers}
use Rattle.pol_rule.specs.declared.policy.PortSpec.{PortSpec}
use Rattle.pol_sanitize.specs.Ports.{number_to}
use Rattle.pol_netpol.specs.Faults.{ends_early, is_bad_end, is_bad_port, is_bad_protocol, is_outside}
use Rattle.pol_netpol.specs.Meaning.{has_port, name_of, port_takes, protocol_text}
use Rattle.pol_netpol.specs.Protocols.{proto_of}
use Rattle.pol_netpol.specs.Translated.{every_port, range_of, spec_of}
use Rattle.pol_netpol.specs.declared.raw.RawNetPort.{RawNetPort}

-- ---- protocols
pick : (text : List ℕ) (a b c : Bool) → bytes_eq text (codes "TCP") ≡ a → bytes_eq text (codes "UDP") ≡ b → bytes_eq text (codes "SCTP") ≡ c
    → is_none (cond a (Some Tcp) (cond b (Some Udp) (cond c (Some Sctp) None))) ≡ false
    → (own : Proto) × (text ≡ name_of own) × (cond a (Some Tcp) (cond b (Some Udp) (cond c (Some Sctp) None)) ≡ Some own)
pick text true b c tcp udp sctp some = (Tcp, (bytes_eq-Decides text (codes "TCP")).0 tcp, refl)
pick text false true c tcp udp sctp some = (Udp, (bytes_eq-Decides text (codes "UDP")).0 udp, refl)
pick text false false true tcp udp sctp some = (Sctp, (bytes_eq-Decides text (codes "SCTP")).0 sctp, refl)
pick text false false false tcp udp sctp some = absurd (true≢false some)

same_names : (own proto : Proto) → same_proto own proto ≡ bytes_eq (name_of own) (name_of proto)
same_names Tcp Tcp = refl
same_names Tcp Udp = refl
same_names Tcp Sctp = refl
same_names Udp Tcp = refl
same_names Udp Udp = refl
same_names Udp Sctp = refl
same_names Sctp Tcp = refl
same_names Sctp Udp = refl
same_names Sctp Sctp = refl

read_proto : (text : List ℕ) → is_none (proto_of text) ≡ false
    → (own : Proto) × (proto_of text ≡ Some own) × ((proto : Proto) → same_proto own proto ≡ bytes_eq text (name_of proto))
read_proto text some =
    let (own, is, read) = pick text _ _ _ refl refl refl some in
    (own, read, λ proto. same_names own proto ∙ ap (λ t. bytes_eq t (name_of proto)) (sym is))

-- ---- ranges
within : (n : ℕ) → ltb 65535 n ≡ false → number_to 65535 n ≡ Some n
within n low = ap (λ b. cond b (Some n) None) (le-leb n 65535 (ltb-false 65535 n low))

from_to : (first last : ℕ) → ltb 65535 first ≡ false → ltb 65535 last ≡ false → first ≤ last
    → option_and_then (λ first. option_map (range_from first) (number_to 65535 last)) (number_to 65535 first) ≡ Some (range_from first last)
from_to first last low low' up =
    ap (option_and_then (λ first. option_map (range_from first) (number_to 65535 last))) (within first low)
    ∙ ap (option_map (range_from first)) (within last low')

holds_to : (first last number : ℕ) → first ≤ last → holds (range_from first last) number ≡ (leb first number && leb number last)
holds_to first last number up = ap (λ end. leb first number && leb number end) (max-eq_right up)

abbrev Range : Option ℕ → Option ℕ → Type 0
Range port end = (range : PortRange) × (range_of port end ≡ Some range) × ((number : ℕ) → number ≤ 65535 → holds range number ≡ has_port port end number)

read_range : (port end : Option ℕ) → (option_map_or is_outside port false || option_map_or (ltb 65535) end false) ≡ false
    → option_map_or (ends_early port) end false ≡ false → Range port end
read_range None end fine ends = (every_port, refl, λ number low. λ i. le-leb 0 number (omega arith) i && le-leb number 65535 low i)
read_range (Some first) None fine ends =
    let (inside, _) = or_parts (is_outside first) false fine in
    let (_, low) = or_parts (ltb first 1) (ltb 65535 first) inside in
    (range_from first first, from_to first first low low (omega arith), λ number _. holds_to first first number (omega arith))
read_range (Some first) (Some last) fine ends =
    let (inside, low') = or_parts (is_outside first) (ltb 65535 last) fine in
    let (_, low) = or_parts (ltb first 1) (ltb 65535 first) inside in
    let up = ltb-false last first ends in
    (range_from first last, from_to first last low low' up, λ number _. holds_to first last number up)

-- ---- ports
abbrev pub fine_port : RawNetPort → Type 0
fine_port port = (is_bad_port port ≡ false) × (is_bad_protocol port ≡ false) × (is_bad_end port ≡ false)

abbrev spec_with : Proto → PortRange → PortSpec
spec_with proto range = record { proto = Some proto; range = range }

read_port : (port : RawNetPort) → fine_port port
    → (spec : PortSpec) × (spec_of port ≡ Some spec) × ((proto : Proto) (number : ℕ) → number ≤ 65535 → port_covers proto number spec ≡ port_takes proto number port)
read_port port (fine, known, ends) =
    let (own, is_own, same) = read_proto (protocol_text port.protocol) known in
    let (range, is_range, held) = read_range port.port port.end_port fine ends in (
      spec_with own range,
      ap (option_and_then (λ range. option_map (λ proto. spec_with proto range) (proto_of (protocol_text port.protocol)))) is_range
          ∙ ap (option_map (λ proto. spec_with proto range)) is_own,
      λ proto number low. λ i. same proto i && held number low i,
    )

pub first_port : (port : RawNetPort) (ports : List RawNetPort) → fine_port port → (spec : PortSpec) × (filter_map spec_of (port ∷ ports) ≡ spec ∷ filter_map spec_of ports)
first_port port ports fine =
    let (spec, is, same) = read_port port fine in
    (spec, ap (λ o. cons_option o (filter_map spec_of ports)) is)

abbrev pub all_fine : List RawNetPort → Type 0
all_fine ports = (list_any is_bad_port ports ≡ false) × (list_any is_bad_protocol ports ≡ false) × (list_any is_bad_end ports ≡ false)

pub split_fine : (port : RawNetPort) (ports : List RawNetPort) → all_fine (port ∷ ports) → fine_port port × all_fine ports
split_fine port ports (fine, known, ends) =
    let (f, fs) = or_parts (is_bad_port port) (list_any is_bad_port ports) fine in
    let (k, ks) = or_parts (is_bad_protocol port) (list_any is_bad_protocol ports) known in
    let (e, es) = or_parts (is_bad_end port) (list_any is_bad_end ports) ends in
    ((f, k, e), (fs, ks, es))

pub ports_any : (ports : List RawNetPort) (proto : Proto) (number : ℕ) → number ≤ 65535 → all_fine ports
    → list_any (port_covers proto number) (filter_map spec_of ports) ≡ list_any (port_takes proto number) ports
ports_any [] proto number low fine = refl
ports_any (port ∷ ports) proto number low fine =
    let (here, rest) = split_fine port ports fine in
    let (spec, is, same) = read_port port here in
    ap (λ o. list_any (port_covers proto number) (cons_option o (filter_map spec_of ports))) is
    ∙ (λ i. same proto number low i || ports_any ports proto number low rest i)
