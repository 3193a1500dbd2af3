-- Scripts: of two pods, with a NetworkPolicy that lets one of them come to the other; and of addresses of both families.
use Rattle.std.specs.Prelude.{ℕ, List, ◌++◌, codes}

abbrev pub web_to_db : List ℕ
web_to_db =
    codes "{\"address\":\"10.0.0.1\",\"labels\":[\"k8s:app=db\",\"k8s:io.kubernetes.pod.namespace=default\"],\"name\":\"db\",\"op\":\"endpoint\"}\n"
    ++ codes "{\"address\":\"10.0.0.2\",\"labels\":[\"k8s:app=web\",\"k8s:io.kubernetes.pod.namespace=default\"],\"name\":\"web\",\"op\":\"endpoint\"}\n"
    ++ codes "{\"op\":\"apply\",\"policy\":{\"apiVersion\":\"networking.k8s.io/v1\",\"kind\":\"NetworkPolicy\",\"metadata\":{\"name\":\"np\"},"
    ++ codes "\"spec\":{\"ingress\":[{\"from\":[{\"podSelector\":{\"matchLabels\":{\"app\":\"web\"}}}]}],"
    ++ codes "\"podSelector\":{\"matchLabels\":{\"app\":\"db\"}}}}}\n"

-- ---- both families

-- the line that adds a pod of the namespace `default`
abbrev adds : List ℕ → List ℕ → List ℕ
adds name address =
    codes "{\"address\":\"" ++ address ++ codes "\",\"labels\":[\"k8s:io.kubernetes.pod.namespace=default\"],\"name\":\"" ++ name
    ++ codes "\",\"op\":\"endpoint\"}\n"

-- the line that applies a CiliumNetworkPolicy for every pod, with this section
abbrev applies_to_all : List ℕ → List ℕ → List ℕ
applies_to_all name section =
    codes "{\"op\":\"apply\",\"policy\":{\"apiVersion\":\"cilium.io/v2\",\"kind\":\"CiliumNetworkPolicy\",\"metadata\":{\"name\":\"" ++ name
    ++ codes "\"},\"spec\":{" ++ section ++ codes "}}}\n"

-- the line that asks whether, or why, an address may come to TCP port 80 of `web`
abbrev asks : List ℕ → List ℕ → List ℕ
asks op address =
    codes "{\"address\":\"" ++ address ++ codes "\",\"direction\":\"ingress\",\"endpoint\":\"web\",\"op\":\"" ++ op
    ++ codes "\",\"port\":80,\"protocol\":\"TCP\"}\n"

abbrev syncs : List ℕ
syncs = codes "{\"op\":\"sync\"}\n"

-- a pod of IPv6, one more with its address in another text, what a prefix of IPv6 lets in, and a deny of the world
abbrev pub in_ipv6 : List ℕ
in_ipv6 =
    adds (codes "web") (codes "fd00::1")
    ++ adds (codes "two") (codes "FD00:0:0:0:0:0:0:1")
    ++ applies_to_all (codes "p") (codes "\"endpointSelector\":{},\"ingress\":[{\"fromCIDR\":[\"2001:db8::/32\"]}]")
    ++ syncs
    ++ asks (codes "verdict") (codes "2001:db8::5")
    ++ asks (codes "trace") (codes "2001:db9::1")
    ++ asks (codes "trace") (codes "10.0.0.1")
    ++ applies_to_all (codes "q") (codes "\"endpointSelector\":{},\"ingressDeny\":[{\"fromEntities\":[\"world\"]}]")
    ++ syncs
    ++ asks (codes "verdict") (codes "2001:db8::5")

-- an exception of the other family, and `::` twice
abbrev pub refused_of_ipv6 : List ℕ
refused_of_ipv6 =
    applies_to_all (codes "r") (codes "\"egress\":[{\"toCIDRSet\":[{\"cidr\":\"10.0.0.0/8\",\"except\":[\"2001:db8::/32\"]}]}],\"endpointSelector\":{}")
    ++ adds (codes "x") (codes "1::2::3")
