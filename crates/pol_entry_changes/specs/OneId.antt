-- The entries of one number, port by port. No public clause cites this module.
use Rattle.std.specs.Prelude.{ℕ, List, map}
use Rattle.std.specs.List.{flat_map}
use Rattle.pol_ports.specs.Split.{split_of}
use Rattle.pol_ports.specs.declared.Direction.{Direction}
use Rattle.pol_ports.specs.declared.PortPrefix.{PortPrefix}
use Rattle.pol_ports.specs.declared.Proto.{Proto}
use Rattle.pol_mapkey.specs.Entries.{Entry}
use Rattle.pol_mapkey.specs.MapKey.{port_key}
use Rattle.pol_mapkey.specs.declared.Kind.{Kind}
use Rattle.pol_rule.specs.declared.policy.PortSpec.{PortSpec}
use Rattle.pol_model.specs.PolicyMap.{protos_of}

-- the entry of a prefix
abbrev pub part_entry : Direction → Kind → ℕ → Proto → PortPrefix → Entry
part_entry dir kind id proto part = (port_key dir id proto part, kind)

-- the entries of a port
abbrev pub spec_entries : Direction → Kind → ℕ → PortSpec → List Entry
spec_entries dir kind id spec = flat_map (λ proto. map (part_entry dir kind id proto) (split_of spec.range)) (protos_of spec.proto)
