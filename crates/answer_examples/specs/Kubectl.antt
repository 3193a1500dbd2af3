-- Two objects as `kubectl get -o json` prints them, on one line: with what the cluster adds to what was written.
use Rattle.std.specs.Prelude.{ℕ, true, false, List, [], ◌∷◌, ◌++◌, codes, None, Some}
use Rattle.pol_labels.specs.declared.requirement.Operator.TheVariants.{OneOf}
use Rattle.pol_labels.specs.declared.requirement.Requirement.{Requirement}
use Rattle.pol_ports.specs.PortRange.{range_from}
use Rattle.pol_ports.specs.declared.Proto.TheVariants.{Tcp}
use Rattle.pol_rule.specs.declared.policy.Peer.TheVariants.{Labels}
use Rattle.pol_rule.specs.declared.policy.Peers.TheVariants.{Listed}
use Rattle.pol_rule.specs.declared.policy.Policy.{Policy}
use Rattle.pol_sanitize.specs.Selectors.{is_in_namespace}

-- a NetworkPolicy of the namespace `default`: pods `web` come to pods `db` on TCP port 5432
abbrev pub network_object : List ℕ
network_object =
    codes "{\"apiVersion\":\"networking.k8s.io/v1\",\"kind\":\"NetworkPolicy\","
    ++ codes "\"metadata\":{\"annotations\":{\"kubectl.kubernetes.io/last-applied-configuration\":\"{\\\"apiVersion\\\":\\\"networking.k8s.io/v1\\\",\\\"kind\\\":\\\"NetworkPolicy\\\",\\\"metadata\\\":{\\\"annotations\\\":{},\\\"name\\\":\\\"np\\\",\\\"namespace\\\":\\\"default\\\"},\\\"spec\\\":{\\\"ingress\\\":[{\\\"from\\\":[{\\\"podSelector\\\":{\\\"matchLabels\\\":{\\\"app\\\":\\\"web\\\"}}}],\\\"ports\\\":[{\\\"port\\\":5432,\\\"protocol\\\":\\\"TCP\\\"}]}],\\\"podSelector\\\":{\\\"matchLabels\\\":{\\\"app\\\":\\\"db\\\"}},\\\"policyTypes\\\":[\\\"Ingress\\\"]}}\\n\"},"
    ++ codes "\"creationTimestamp\":\"2026-02-17T09:24:31Z\",\"generation\":1,"
    ++ codes "\"managedFields\":[{\"apiVersion\":\"networking.k8s.io/v1\",\"fieldsType\":\"FieldsV1\",\"fieldsV1\":{\"f:metadata\":{\"f:annotations\":{\".\":{},\"f:kubectl.kubernetes.io/last-applied-configuration\":{}}},\"f:spec\":{\"f:ingress\":{},\"f:podSelector\":{},\"f:policyTypes\":{}}},"
    ++ codes "\"manager\":\"kubectl-client-side-apply\",\"operation\":\"Update\",\"time\":\"2026-02-17T09:24:31Z\"}],"
    ++ codes "\"name\":\"np\",\"namespace\":\"default\",\"resourceVersion\":\"48210\",\"uid\":\"5c1f2c1e-6a3b-4c0e-9d55-0a7e6f1b2c3d\"},"
    ++ codes "\"spec\":{\"ingress\":[{\"from\":[{\"podSelector\":{\"matchLabels\":{\"app\":\"web\"}}}],\"ports\":[{\"port\":5432,\"protocol\":\"TCP\"}]}],\"podSelector\":{\"matchLabels\":{\"app\":\"db\"}},\"policyTypes\":[\"Ingress\"]},"
    ++ codes "\"status\":{}}"

-- a CiliumNetworkPolicy that says the same
abbrev pub cilium_object : List ℕ
cilium_object =
    codes "{\"apiVersion\":\"cilium.io/v2\",\"kind\":\"CiliumNetworkPolicy\","
    ++ codes "\"metadata\":{\"annotations\":{\"meta.helm.sh/release-name\":\"shop\"},"
    ++ codes "\"creationTimestamp\":\"2026-02-17T09:24:31Z\",\"generation\":3,\"labels\":{\"app.kubernetes.io/managed-by\":\"Helm\"},"
    ++ codes "\"managedFields\":["
    ++ codes "{\"apiVersion\":\"cilium.io/v2\",\"fieldsType\":\"FieldsV1\",\"fieldsV1\":{\"f:spec\":{\".\":{},\"f:endpointSelector\":{},\"f:ingress\":{}}},"
    ++ codes "\"manager\":\"helm\",\"operation\":\"Update\",\"time\":\"2026-02-17T09:24:31Z\"},"
    ++ codes "{\"apiVersion\":\"cilium.io/v2\",\"fieldsType\":\"FieldsV1\",\"fieldsV1\":{\"f:status\":{\".\":{},\"f:conditions\":{}}},"
    ++ codes "\"manager\":\"cilium-operator-generic\",\"operation\":\"Update\",\"subresource\":\"status\",\"time\":\"2026-02-17T09:24:33Z\"}],"
    ++ codes "\"name\":\"p\",\"namespace\":\"default\",\"resourceVersion\":\"48377\",\"uid\":\"0f7b9f9e-31c7-4a57-8f0e-7c8b1f2a9d10\"},"
    ++ codes "\"spec\":{\"endpointSelector\":{\"matchLabels\":{\"app\":\"db\"}},\"ingress\":[{\"fromEndpoints\":[{\"matchLabels\":{\"app\":\"web\"}}],\"toPorts\":[{\"ports\":[{\"port\":\"5432\",\"protocol\":\"TCP\"}]}]}]},"
    ++ codes "\"status\":{\"conditions\":[{\"lastTransitionTime\":\"2026-02-17T09:24:33Z\",\"message\":\"Policy validation succeeded\",\"status\":\"True\",\"type\":\"Valid\"}]}}"

-- endpoints of the namespace `default` with this label `app`, whatever its source
abbrev of_app : List ℕ → List Requirement
of_app value =
    record { any_source = true; source = []; key = codes "app"; op = OneOf; values = value ∷ [] } ∷ is_in_namespace (codes "default") ∷ []

-- the policy that the second one is; without `endPort` a range ends with its port
abbrev pub web_to_db : Policy
web_to_db = record {
  key = record { cluster_wide = false; namespace = codes "default"; name = codes "p" };
  rules = record {
    subject = of_app (codes "db");
    ingress = record {
      peers = Listed (Labels (of_app (codes "web")) ∷ []);
      ports = record { proto = Some Tcp; range = range_from 5432 0 } ∷ [];
    } ∷ [];
    ingress_deny = [];
    egress = [];
    egress_deny = [];
    default_deny = record { ingress = None; egress = None };
  } ∷ [];
}
