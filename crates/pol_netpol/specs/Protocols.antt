-- The protocols of a NetworkPolicy by their texts (Kubernetes, `NetworkPolicyPort`); ASCII case counts ('profile').
use Rattle.std.specs.Prelude.{ℕ, if◌then◌else◌, List, codes, Option, None, Some}
use Rattle.std.specs.Str.{bytes_eq}
use Rattle.pol_ports.specs.declared.Proto.{Proto}
use Rattle.pol_ports.specs.declared.Proto.TheVariants.{Tcp, Udp, Sctp}

abbrev pub proto_of : List ℕ → Option Proto
proto_of text =
    if bytes_eq text (codes "TCP") then Some Tcp
    else if bytes_eq text (codes "UDP") then Some Udp
    else if bytes_eq text (codes "SCTP") then Some Sctp
    else None
