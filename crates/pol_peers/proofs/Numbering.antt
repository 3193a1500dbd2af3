-- Selectors that come have numbers that none had before.
use Rattle.std.proofs.Common.{◌≡◌, ℕ, ◌<◌, Bool, true, false, cond, List, [], ◌∷◌, ◌++◌, find, Option, Some, None, option_map, refl, sym, ap, subst, ◌∙◌, arith}
use Rattle.std.specs.Option.{option_or}
use Rattle.std.proofs.lemmas.List.Folds.{find-append}
use Rattle.pol_rule.specs.declared.policy.Peer.{Peer}
use Rattle.pol_model.specs.declared.row.IdentityRow.{IdentityRow}
use Rattle.pol_model.specs.Selects.{set_at}
use Rattle.pol_set_changes.specs.Log.{Log}
use Rattle.pol_selcache.specs.Cache.{Cache, added, added_by, with_room}
use Rattle.pol_selcache.specs.Live.{AreLive, Live, number_of, one_more}
use Rattle.pol_peers.specs.Numbering.{GainsSelectors, LosesSelectors, TakesFreshNumbers}
use Rattle.pol_peers.specs.References.{IsMoreBy, KeepsNumbers}
use Rattle.pol_peers.proofs.Counts.{undone}
use Rattle.pol_peers.proofs.Found.{is_of}
use Rattle.pol_peers.proofs.Kept.{kept_further, kept_itself, kept_undone, numbers_changed}

pub fresh_itself : (cache : Cache) → TakesFreshNumbers cache cache
fresh_itself cache = record { rises = omega arith; lived = λ p number is below. is }

pub fresh_further : (one two three : Cache) → TakesFreshNumbers one two → TakesFreshNumbers two three → TakesFreshNumbers one three
fresh_further one two three first second = record {
  rises = omega (arith, first.rises, second.rises);
  lived = λ p number is below. first.lived p number (second.lived p number is (omega (arith, below, first.rises))) below;
}

-- some selectors went again
pub fresh_less : (one two three : Cache) → TakesFreshNumbers one two → three.next ≡ two.next → KeepsNumbers three.live two.live → TakesFreshNumbers one three
fresh_less one two three first next kept = record {
  rises = omega (arith, first.rises, next);
  lived = λ p number is below. first.lived p number (kept p number is) below;
}

-- ---- one reference more
abbrev number_found : Option Live → Option ℕ
number_found o = option_map (λ s. s.number) o

-- beside a new selector, one of a lesser number is found among the others
lived_beside : (live : List Live) (new : Live) (q : Peer) (number : ℕ) → number_of q (live ++ new ∷ []) ≡ Some number → number < new.number → number_of q live ≡ Some number
lived_beside live new q number is below =
    by (find (is_of q) live) (is_of q new) (ap number_found (sym (find-append (is_of q) live (new ∷ []))) ∙ is)
  where
    by : (o : Option Live) (b : Bool) → number_found (option_or o (cond b (Some new) None)) ≡ Some number → number_found o ≡ Some number
    by (Some s) b is = is
    by None true is = (let same : Some new.number ≡ Some number = is in let equal : new.number ≡ number = cc in absurd (omega (arith, below, equal)))
    by None false is = (let wrong : None ≡ Some number = is in absurd cc)

pub fresh_added : (p : Peer) (rows : List IdentityRow) (cache : Cache) → TakesFreshNumbers cache (added p rows cache)
fresh_added p rows cache = by (number_of p cache.live)
  where
    by : (o : Option ℕ) → TakesFreshNumbers cache (added_by o p rows cache)
    by (Some number) = record {
      rises = omega arith;
      lived = λ q own is below. sym (numbers_changed number one_more (λ s. refl) (λ s. refl) q cache.live) ∙ is;
    }
    by None = record {
      rises = omega arith;
      lived = λ q own is below. lived_beside cache.live (record { number = cache.next; peer = p; references = 1; set = set_at rows p }) q own is below;
    }

-- ---- selectors that come, and selectors that go
pub gains_room : (spare : ℕ) (old new : Cache) → new ≡ with_room spare old → GainsSelectors old new
gains_room spare old new is = subst (GainsSelectors old) (sym is) (record {
  kept = kept_itself old.live;
  fresh = record { rises = omega arith; lived = λ p number is below. is };
  log = refl;
})

pub gains_same : (old new : Cache) → new ≡ old → GainsSelectors old new
gains_same old new is = gains_room old.log.spare old new is

pub gains_further : (one two three : Cache) → GainsSelectors one two → GainsSelectors two three → GainsSelectors one three
gains_further one two three first second = record {
  kept = kept_further one.live two.live three.live first.kept second.kept;
  fresh = fresh_further one two three first.fresh second.fresh;
  log = second.log ∙ ap (λ (log : Log). record log { spare = three.log.spare }) first.log;
}

-- what came goes again
pub gains_less : (peers : List Peer) (one two three : Cache) → AreLive one.live → GainsSelectors one two → IsMoreBy peers one.live two.live → LosesSelectors two three → IsMoreBy peers three.live two.live
    → GainsSelectors one three
gains_less peers one two three are first more second less = record {
  kept = kept_undone one.live two.live three.live are first.kept second.kept (undone peers one.live two.live three.live more less);
  fresh = fresh_less one two three first.fresh second.next second.kept;
  log = second.log ∙ first.log ∙ ap (λ (log : Log). record one.log { spare = log.spare }) (sym second.log);
}

pub loses_none : (old new : Cache) → new ≡ old → LosesSelectors old new
loses_none old new is = subst (LosesSelectors old) (sym is) (record { kept = kept_itself old.live; next = refl; log = refl })
