-- What becomes of the selectors in the steps of a policy's request.
use Rattle.std.proofs.Common.{◌≡◌, List, sym, subst}
use Rattle.pol_rule.specs.declared.policy.Peer.{Peer}
use Rattle.pol_selcache.specs.Cache.{Cache, with_room}
use Rattle.pol_selcache.specs.Live.{AreLive}
use Rattle.pol_peers.specs.Numbering.{GainsSelectors, LosesSelectors}
use Rattle.pol_peers.specs.References.{IsMoreBy}
use Rattle.pol_peers.proofs.Numbering.{gains_further, gains_less, gains_room}

-- some go, between steps that leave the selectors as they are
pub loses_as : (old placed dropped new : Cache) → placed ≡ old → LosesSelectors placed dropped → new ≡ dropped → LosesSelectors old new
loses_as old placed dropped new same loses is = subst (λ (cache : Cache). LosesSelectors cache new) same (subst (LosesSelectors placed) (sym is) loses)

-- some come, and then a plan is made
pub gains_held : (old reserved referred held : Cache) → reserved ≡ old → GainsSelectors reserved referred → held ≡ with_room held.log.spare referred → GainsSelectors old held
gains_held old reserved referred held same gains room =
    gains_further old referred held (subst (λ (cache : Cache). GainsSelectors cache referred) same gains) (gains_room held.log.spare referred held room)

-- or what came goes again
pub gains_given_back : (peers : List Peer) (old reserved referred held new : Cache) → AreLive old.live
    → reserved ≡ old → GainsSelectors reserved referred → IsMoreBy peers reserved.live referred.live
    → held ≡ referred → LosesSelectors held new → IsMoreBy peers new.live held.live → GainsSelectors old new
gains_given_back peers old reserved referred held new are same gains more is less fewer =
    gains_less peers old referred new are
    (subst (λ (cache : Cache). GainsSelectors cache referred) same gains)
    (subst (λ (cache : Cache). IsMoreBy peers cache.live referred.live) same more)
    (subst (λ (cache : Cache). LosesSelectors cache new) is less)
    (subst (λ (cache : Cache). IsMoreBy peers new.live cache.live) is fewer)
