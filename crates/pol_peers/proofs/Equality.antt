-- Equality of peers.
use Rattle.std.proofs.Common.{◌≡◌, true, refl, sym, ap, ◌∙◌, inl, inr}
use Rattle.std.specs.Cmp.{IsEquivalence}
use Rattle.std.proofs.lemmas.Bool.{both_ways, cases_Bool, false_from_ne_true}
use Rattle.pol_rule.specs.contracts.policy.PeerPartialEq.TheImpl as peers
use Rattle.pol_rule.specs.declared.policy.Peer.{Peer}
use Rattle.pol_rule.proofs.Equality.{peer_eq-Decides}

turned : (p q : Peer) → peers.ghosts.eq p q ≡ true → peers.ghosts.eq q p ≡ true
turned p q same = (peer_eq-Decides q p).1 (sym ((peer_eq-Decides p q).0 same))

pub equal_peers : IsEquivalence peers.ghosts.eq
equal_peers = record {
  refl = λ p. (peer_eq-Decides p p).1 refl;
  symm = λ p q. elim (cases_Bool (peers.ghosts.eq p q)) [
    | inl same ↦ same ∙ sym (turned p q same)
    | inr other ↦ other ∙ sym (false_from_ne_true (peers.ghosts.eq q p) (λ same. both_ways (peers.ghosts.eq p q) other (turned q p same)))
  ];
  congr = λ p q r same. ap (λ s. peers.ghosts.eq s r) ((peer_eq-Decides p q).0 same);
}
