use Rattle.std.proofs.Common.{◌≡◌, ◌++◌, drop, filter_map}
use Rattle.pol_addr.specs.Prefix.{read_prefix}
use Rattle.pol_netpol.proofs.peers.prefixes_of.Given as goal

abbrev pub invariant-loop-text : goal.invariant-loop-text
invariant-loop-text l = l.prefixes.items ++ filter_map read_prefix (drop l.text-index l.texts) ≡ filter_map read_prefix l.texts
