-- The names that policies have in their keys.
use Rattle.std.specs.Prelude.{ℕ, Bool, ◌==◌, ◌&&◌, ◌||◌, List, length, drop}
use Rattle.std.specs.List.{starts_with}
use Rattle.pol_json.specs.Texts.{is_dns_name}
use Rattle.pol_netpol.specs.Document.{name_front}

-- of a NetworkPolicy: `networkpolicy/`, and the object's name
abbrev pub is_network_name : List ℕ → Bool
is_network_name name = starts_with (λ a b. a == b) name name_front && is_dns_name (drop (length name_front) name)

-- of a policy that was applied, of either kind
abbrev pub is_applied_name : List ℕ → Bool
is_applied_name name = is_dns_name name || is_network_name name
