use Rattle.std.proofs.Common.{◌≡◌, drop, filter_map}
use Rattle.pol_addr.specs.Prefix.{read_prefix}
use Rattle.pol_sanitize.specs.Peers.{leaves}
use Rattle.pol_netpol.proofs.check.leaves.Given as goal

-- none of the texts so far leaves the prefix
abbrev pub invariant-loop-text : goal.invariant-loop-text
invariant-loop-text l = leaves (filter_map read_prefix (drop l.text-index l.texts)) l.prefix ≡ leaves (filter_map read_prefix l.texts) l.prefix
