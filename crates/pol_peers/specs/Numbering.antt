-- How the numbers of selectors go on while some come and others go ('profile': a number of 64 bits is never used again).
use Rattle.std.specs.Prelude.{ℕ, ◌≡◌, ◌<◌, ◌≤◌, List, Some}
use Rattle.pol_rule.specs.declared.policy.Peer.{Peer}
use Rattle.pol_model.specs.declared.row.IdentityRow.{IdentityRow}
use Rattle.pol_selcache.specs.Cache.{Cache}
use Rattle.pol_selcache.specs.Live.{AreExact, number_of}
use Rattle.pol_peers.specs.References.{KeepsNumbers}

-- The next number never falls, and a selector whose number is below the next one of before was live then, under it.
pub record TakesFreshNumbers (old new : Cache) : Type 0 where
  pub rises : old.next ≤ new.next
  pub lived : (p : Peer) (number : ℕ) → number_of p new.live ≡ Some number → number < old.next → number_of p old.live ≡ Some number

-- Selectors may have come, with numbers that none had before. Each that was live is so under its number, and the log has
-- the same changes.
pub record GainsSelectors (old new : Cache) : Type 0 where
  pub kept : KeepsNumbers old.live new.live
  pub fresh : TakesFreshNumbers old new
  pub log : new.log ≡ record old.log { spare = new.log.spare }

-- Selectors may have gone. Each that is left has its number, and neither the next number nor the log changed.
pub record LosesSelectors (old new : Cache) : Type 0 where
  pub kept : KeepsNumbers new.live old.live
  pub next : new.next ≡ old.next
  pub log : new.log ≡ old.log

-- References may have come, with selectors for them. Each set is exact over these rows, and the log is the same.
pub record GainsRefs (rows : List IdentityRow) (old new : Cache) : Type 0 where
  pub selectors : GainsSelectors old new
  pub exact : AreExact rows new.live
  pub log : new.log ≡ old.log

-- References may have gone, and selectors with their last ones. Sets that are exact over any rows stay so.
pub record LosesRefs (old new : Cache) : Type 0 where
  pub selectors : LosesSelectors old new
  pub exact : (rows : List IdentityRow) → AreExact rows old.live → AreExact rows new.live
