-- The values of lines that apply objects as `kubectl` prints them.
use Rattle.std.proofs.Common.{[], ◌∷◌, codes}
use Rattle.pol_netpol.specs.Values.{fields, items, only_item}
use Rattle.serde_json.specs.Data.{Data, unsigned, number, string}

abbrev pub network_line : Data
network_line =
    fields ((codes "op", string (codes "apply")) ∷ (codes "policy", fields ((codes "apiVersion", string (codes "networking.k8s.io/v1")) ∷ (codes "kind", string (codes "NetworkPolicy")) ∷ (codes "metadata", fields ((codes "annotations", fields ((codes "kubectl.kubernetes.io/last-applied-configuration", string (codes "{\"apiVersion\":\"networking.k8s.io/v1\",\"kind\":\"NetworkPolicy\",\"metadata\":{\"annotations\":{},\"name\":\"np\",\"namespace\":\"default\"},\"spec\":{\"ingress\":[{\"from\":[{\"podSelector\":{\"matchLabels\":{\"app\":\"web\"}}}],\"ports\":[{\"port\":5432,\"protocol\":\"TCP\"}]}],\"podSelector\":{\"matchLabels\":{\"app\":\"db\"}},\"policyTypes\":[\"Ingress\"]}}\n")) ∷ [])) ∷ (codes "creationTimestamp", string (codes "2026-02-17T09:24:31Z")) ∷ (codes "generation", number (unsigned 1)) ∷ (codes "managedFields", only_item (fields ((codes "apiVersion", string (codes "networking.k8s.io/v1")) ∷ (codes "fieldsType", string (codes "FieldsV1")) ∷ (codes "fieldsV1", fields ((codes "f:metadata", fields ((codes "f:annotations", fields ((codes ".", fields []) ∷ (codes "f:kubectl.kubernetes.io/last-applied-configuration", fields []) ∷ [])) ∷ [])) ∷ (codes "f:spec", fields ((codes "f:ingress", fields []) ∷ (codes "f:podSelector", fields []) ∷ (codes "f:policyTypes", fields []) ∷ [])) ∷ [])) ∷ (codes "manager", string (codes "kubectl-client-side-apply")) ∷ (codes "operation", string (codes "Update")) ∷ (codes "time", string (codes "2026-02-17T09:24:31Z")) ∷ []))) ∷ (codes "name", string (codes "np")) ∷ (codes "namespace", string (codes "default")) ∷ (codes "resourceVersion", string (codes "48210")) ∷ (codes "uid", string (codes "5c1f2c1e-6a3b-4c0e-9d55-0a7e6f1b2c3d")) ∷ [])) ∷ (codes "spec", fields ((codes "ingress", only_item (fields ((codes "from", only_item (fields ((codes "podSelector", fields ((codes "matchLabels", fields ((codes "app", string (codes "web")) ∷ [])) ∷ [])) ∷ []))) ∷ (codes "ports", only_item (fields ((codes "port", number (unsigned 5432)) ∷ (codes "protocol", string (codes "TCP")) ∷ []))) ∷ []))) ∷ (codes "podSelector", fields ((codes "matchLabels", fields ((codes "app", string (codes "db")) ∷ [])) ∷ [])) ∷ (codes "policyTypes", only_item (string (codes "Ingress"))) ∷ [])) ∷ (codes "status", fields []) ∷ [])) ∷ [])

abbrev pub cilium_line : Data
cilium_line =
    fields ((codes "op", string (codes "apply")) ∷ (codes "policy", fields ((codes "apiVersion", string (codes "cilium.io/v2")) ∷ (codes "kind", string (codes "CiliumNetworkPolicy")) ∷ (codes "metadata", fields ((codes "annotations", fields ((codes "meta.helm.sh/release-name", string (codes "shop")) ∷ [])) ∷ (codes "creationTimestamp", string (codes "2026-02-17T09:24:31Z")) ∷ (codes "generation", number (unsigned 3)) ∷ (codes "labels", fields ((codes "app.kubernetes.io/managed-by", string (codes "Helm")) ∷ [])) ∷ (codes "managedFields", items (fields ((codes "apiVersion", string (codes "cilium.io/v2")) ∷ (codes "fieldsType", string (codes "FieldsV1")) ∷ (codes "fieldsV1", fields ((codes "f:spec", fields ((codes ".", fields []) ∷ (codes "f:endpointSelector", fields []) ∷ (codes "f:ingress", fields []) ∷ [])) ∷ [])) ∷ (codes "manager", string (codes "helm")) ∷ (codes "operation", string (codes "Update")) ∷ (codes "time", string (codes "2026-02-17T09:24:31Z")) ∷ []) ∷ fields ((codes "apiVersion", string (codes "cilium.io/v2")) ∷ (codes "fieldsType", string (codes "FieldsV1")) ∷ (codes "fieldsV1", fields ((codes "f:status", fields ((codes ".", fields []) ∷ (codes "f:conditions", fields []) ∷ [])) ∷ [])) ∷ (codes "manager", string (codes "cilium-operator-generic")) ∷ (codes "operation", string (codes "Update")) ∷ (codes "subresource", string (codes "status")) ∷ (codes "time", string (codes "2026-02-17T09:24:33Z")) ∷ []) ∷ [])) ∷ (codes "name", string (codes "p")) ∷ (codes "namespace", string (codes "default")) ∷ (codes "resourceVersion", string (codes "48377")) ∷ (codes "uid", string (codes "0f7b9f9e-31c7-4a57-8f0e-7c8b1f2a9d10")) ∷ [])) ∷ (codes "spec", fields ((codes "endpointSelector", fields ((codes "matchLabels", fields ((codes "app", string (codes "db")) ∷ [])) ∷ [])) ∷ (codes "ingress", only_item (fields ((codes "fromEndpoints", only_item (fields ((codes "matchLabels", fields ((codes "app", string (codes "web")) ∷ [])) ∷ []))) ∷ (codes "toPorts", only_item (fields ((codes "ports", only_item (fields ((codes "port", string (codes "5432")) ∷ (codes "protocol", string (codes "TCP")) ∷ []))) ∷ []))) ∷ []))) ∷ [])) ∷ (codes "status", fields ((codes "conditions", only_item (fields ((codes "lastTransitionTime", string (codes "2026-02-17T09:24:33Z")) ∷ (codes "message", string (codes "Policy validation succeeded")) ∷ (codes "status", string (codes "True")) ∷ (codes "type", string (codes "Valid")) ∷ []))) ∷ [])) ∷ [])) ∷ [])
