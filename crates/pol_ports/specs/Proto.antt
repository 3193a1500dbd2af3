-- What specifications say of protocols.
use Rattle.std.specs.Prelude.{Bool, true, false}
use Rattle.pol_ports.specs.declared.Proto.{Proto}
use Rattle.pol_ports.specs.declared.Proto.TheVariants.{Tcp, Udp, Sctp}

-- whether two protocols are the same
abbrev pub same_proto : Proto → Proto → Bool
same_proto Tcp Tcp = true
same_proto Tcp Udp = false
same_proto Tcp Sctp = false
same_proto Udp Tcp = false
same_proto Udp Udp = true
same_proto Udp Sctp = false
same_proto Sctp Tcp = false
same_proto Sctp Udp = false
same_proto Sctp Sctp = true
