-- What a NetworkPolicy has to meet so that a text can write it: the members of each `matchLabels` stand in the byte order of
-- their names, each once, as the JSON crate keeps them, and each number of a port has 64 bits at most.
use Rattle.std.specs.Prelude.{◌^◌, ◌<◌, IfSome}
use Rattle.std.specs.List.{AllByRecursion}
use Rattle.document_laws.specs.Kept.{IsKeptSelector}
use Rattle.pol_netpol.specs.declared.raw.RawNetEntry.{RawNetEntry}
use Rattle.pol_netpol.specs.declared.raw.RawNetPeer.{RawNetPeer}
use Rattle.pol_netpol.specs.declared.raw.RawNetPort.{RawNetPort}
use Rattle.pol_netpol.specs.declared.raw.RawNetworkPolicy.{RawNetworkPolicy}

pub record IsKeptNetPort (port : RawNetPort) : Type 0 where
  pub first : IfSome port.port (λ n. n < 2 ^ 64)
  pub end : IfSome port.end_port (λ n. n < 2 ^ 64)

pub record IsKeptPeer (peer : RawNetPeer) : Type 0 where
  pub pods : IfSome peer.pods IsKeptSelector
  pub namespaces : IfSome peer.namespaces IsKeptSelector

pub record IsKeptNetEntry (entry : RawNetEntry) : Type 0 where
  pub peers : AllByRecursion IsKeptPeer entry.peers
  pub ports : AllByRecursion IsKeptNetPort entry.ports

pub record IsKeptNetwork (policy : RawNetworkPolicy) : Type 0 where
  pub subject : IfSome policy.subject IsKeptSelector
  pub ingress : AllByRecursion IsKeptNetEntry policy.ingress
  pub egress : AllByRecursion IsKeptNetEntry policy.egress
