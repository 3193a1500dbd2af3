-- Whether ports give a key, by the key's own fields. No public clause cites this module.
use Rattle.std.specs.Prelude.{Bool, not, ◌&&◌, List, [], ◌∷◌, Option, Some, None}
use Rattle.std.specs.List.{list_any}
use Rattle.pol_ports.specs.declared.Proto.{Proto}
use Rattle.pol_ports.specs.PortPrefix.{same_prefix}
use Rattle.pol_ports.specs.Split.{split_of}
use Rattle.pol_mapkey.specs.KeyProto.{key_proto, same_key_proto}
use Rattle.pol_mapkey.specs.MapKey.{every_key, same_key}
use Rattle.pol_mapkey.specs.declared.KeyProto.{KeyProto}
use Rattle.pol_mapkey.specs.declared.KeyProto.TheVariants.{Every}
use Rattle.pol_mapkey.specs.declared.MapKey.{MapKey}
use Rattle.pol_rule.specs.declared.policy.PortSpec.{PortSpec}

-- whether the protocol of a port, of which none stands for each, is the key's
abbrev pub proto_fits : Option Proto → KeyProto → Bool
proto_fits None key = not (same_key_proto key Every)
proto_fits (Some proto) key = same_key_proto (key_proto proto) key

-- whether a port gives the key
abbrev pub spec_has : MapKey → PortSpec → Bool
spec_has key spec = proto_fits spec.proto key.proto && list_any (λ own. same_prefix own key.port) (split_of spec.range)

-- whether ports do; without ports it is the one key of every protocol
abbrev pub ports_have : MapKey → List PortSpec → Bool
ports_have key [] = same_key (every_key key.dir key.id) key
ports_have key (spec ∷ specs) = list_any (spec_has key) (spec ∷ specs)
