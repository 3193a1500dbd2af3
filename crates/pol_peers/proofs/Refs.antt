-- References that come, and references that go.
use Rattle.std.proofs.Common.{◌≡◌, ℕ, List, refl, sym, ap, ◌∙◌, subst}
use Rattle.pol_rule.specs.declared.policy.Peer.{Peer}
use Rattle.pol_model.specs.declared.row.IdentityRow.{IdentityRow}
use Rattle.pol_set_changes.specs.Log.{Log}
use Rattle.pol_selcache.specs.Cache.{Cache, added, dropped}
use Rattle.pol_selcache.specs.Live.{AreExact, AreLive}
use Rattle.pol_selcache.proofs.Sound.{unreference_exact}
use Rattle.pol_peers.specs.Numbering.{GainsRefs, LosesRefs, TakesFreshNumbers}
use Rattle.pol_peers.specs.References.{IsMoreBy, KeepsNumbers}
use Rattle.pol_peers.proofs.Holds.{added_log}
use Rattle.pol_peers.proofs.Kept.{kept_added, kept_further, kept_less}
use Rattle.pol_peers.proofs.Numbering.{fresh_added, gains_further, gains_less}

-- ---- one
pub ref_gained : (p : Peer) (rows : List IdentityRow) (old new : Cache) → new ≡ added p rows old → AreExact rows new.live → GainsRefs rows old new
ref_gained p rows old new is exact =
    let log : new.log ≡ old.log = ap (λ (cache : Cache). cache.log) is ∙ added_log p rows old in
    record {
      selectors = record {
        kept = subst (λ (cache : Cache). KeepsNumbers old.live cache.live) (sym is) (kept_added p rows old);
        fresh = subst (TakesFreshNumbers old) (sym is) (fresh_added p rows old);
        log = ap (λ (l : Log). record l { spare = new.log.spare }) log;
      };
      exact = exact;
      log = log;
    }

pub ref_lost : (number : ℕ) (old : Cache) → AreLive old.live → LosesRefs old (dropped number old)
ref_lost number old are = record {
  selectors = record { kept = kept_less number old.live are; next = refl; log = refl };
  exact = λ rows. unreference_exact rows number old.live;
}

-- ---- some, and then others
pub refs_gained_further : (rows : List IdentityRow) (one two three : Cache) → GainsRefs rows one two → GainsRefs rows two three → GainsRefs rows one three
refs_gained_further rows one two three first second = record {
  selectors = gains_further one two three first.selectors second.selectors;
  exact = second.exact;
  log = second.log ∙ first.log;
}

pub refs_lost_further : (one two three : Cache) → LosesRefs one two → LosesRefs two three → LosesRefs one three
refs_lost_further one two three first second = record {
  selectors = record {
    kept = kept_further three.live two.live one.live second.selectors.kept first.selectors.kept;
    next = second.selectors.next ∙ first.selectors.next;
    log = second.selectors.log ∙ first.selectors.log;
  };
  exact = λ rows exact. second.exact rows (first.exact rows exact);
}

-- what came goes again
pub refs_given_back : (peers : List Peer) (rows : List IdentityRow) (one two three : Cache) → AreLive one.live → GainsRefs rows one two → IsMoreBy peers one.live two.live
    → LosesRefs two three → IsMoreBy peers three.live two.live → GainsRefs rows one three
refs_given_back peers rows one two three are first more second less = record {
  selectors = gains_less peers one two three are first.selectors more second.selectors less;
  exact = second.exact rows first.exact;
  log = second.selectors.log ∙ first.log;
}
