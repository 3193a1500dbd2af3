-- A small journal, for laws that compute what its changes of sets are.
use Rattle.std.specs.Prelude.{List, [], ◌∷◌, codes}
use Rattle.pol_rule.specs.declared.policy.Peer.{Peer}
use Rattle.pol_rule.specs.declared.policy.Peer.TheVariants.{Cidr}
use Rattle.pol_rule.specs.declared.policy.Peers.TheVariants.{Listed}
use Rattle.pol_model.specs.declared.request.Request.{Request}
use Rattle.pol_model.specs.declared.request.Request.TheVariants.{AddIdentity, Apply, Remove}
use Rattle.pol_model_laws.specs.Examples.{net}
use Rattle.pol_model_laws.specs.WorkedMaps.{app_peer, ingress_policy, k8s_label, key_of, namespace_label, web}

-- the endpoints of the app `x`, and those in 10.1.0.0/16
abbrev pub of_x : Peer
of_x = app_peer (codes "x")

abbrev pub of_net : Peer
of_net = Cidr (net 1) []

-- An endpoint; a policy that lists both peers, the first one twice; an identity of the app; another policy that lists
-- the app; and the first policy goes.
abbrev pub listings : List Request
listings =
    web
    ∷ Apply (ingress_policy (codes "p") (record { peers = Listed (of_x ∷ of_net ∷ of_x ∷ []); ports = [] } ∷ []) [])
    ∷ AddIdentity (codes "x") (k8s_label (codes "app") (codes "x") ∷ namespace_label ∷ [])
    ∷ Apply (ingress_policy (codes "q") (record { peers = Listed (of_x ∷ []); ports = [] } ∷ []) [])
    ∷ Remove (key_of (codes "p"))
    ∷ []
