-- An end of a connection, as its JSON object ('profile').
use Rattle.std.specs.Prelude.{ℕ, ◌==◌, if◌then◌else◌, List, codes}
use Rattle.std.specs.Fmt.{decimal}
use Rattle.json.specs.Json.{Json, string, object, no_members, member}
use Rattle.pol_addr.specs.Text.{prefix_text}
use Rattle.pol_connections.specs.declared.end.EndName.{EndName}
use Rattle.pol_connections.specs.declared.end.EndName.TheVariants as name

-- a reserved identity by its word (Cilium, Terminology, "Special Identities"), any other number by itself
abbrev pub reserved_text : ℕ → List ℕ
reserved_text number =
    if number == 1 then codes "host"
    else (if number == 2 then codes "world"
    else (if number == 3 then codes "unmanaged"
    else (if number == 4 then codes "health"
    else (if number == 5 then codes "init"
    else (if number == 6 then codes "remote-node"
    else (if number == 7 then codes "kube-apiserver"
    else (if number == 8 then codes "ingress"
    else (if number == 9 then codes "world-ipv4"
    else (if number == 10 then codes "world-ipv6"
    else decimal number)))))))))

-- an object of one member
abbrev pub of_one : List ℕ → List ℕ → Json
of_one key text = object (member key (string text) no_members)

abbrev pub end_json : EndName → Json
end_json (name.Endpoint text) = of_one (codes "endpoint") text
end_json (name.Identity text) = of_one (codes "identity") text
end_json (name.Reserved number) = of_one (codes "reserved") (reserved_text number)
end_json (name.Region prefix) = of_one (codes "region") (prefix_text prefix)
