-- Rows that are kept serve as they are while none of their sets changes.
use Rattle.std.proofs.Common.{◌≡◌, ◌≢◌, ℕ, ◌==◌, ◌<◌, ◌≤◌, List, [], ◌∷◌, filter, find, Some, refl, sym, ap, ◌∙◌, subst, option_map, if◌then◌else◌, true, false, arith}
use Rattle.std.specs.Arc.{arc_value}
use Rattle.std.specs.List.{AllByRecursion}
use Rattle.std.specs.Option.{option_map_or}
use Rattle.std.proofs.lemmas.Bool.{cond-false, ne_eqb}
use Rattle.pol_data.proofs.Every.{every-weaker}
use Rattle.pol_data.proofs.Members.{every-in}
use Rattle.pol_rule.specs.declared.policy.Peer.{Peer}
use Rattle.pol_rule.proofs.Equality.{peer_eq-Decides}
use Rattle.pol_model.specs.declared.row.IdentityRow.{IdentityRow}
use Rattle.pol_model.specs.Selects.{set_at}
use Rattle.pol_model_laws.proofs.Membership.{find-In}
use Rattle.pol_sets.specs.declared.sets.SetRow.{SetRow}
use Rattle.pol_filters.specs.declared.filter.Filters.{Filters}
use Rattle.pol_set_changes.specs.Log.{Log, newest, newest_of, recorded, shares_chain, unchanged_since}
use Rattle.pol_set_changes.specs.Log.{IsSound as IsLog}
use Rattle.pol_set_changes.proofs.Chained.{unchanged_before, unchanged_within}
use Rattle.pol_set_changes.proofs.LogLemmas.{recorded_sound}
use Rattle.pol_selcache.specs.Cache.{Cache, IsPlanFor, IsSound, all_recorded, carried, change_at}
use Rattle.pol_selcache.specs.Live.{AreExact, Live, is_live, number_of}
use Rattle.pol_selcache.specs.Plan.{Plan, Planned, after_changes, changed, set_in}
use Rattle.pol_peers.specs.Numbering.{TakesFreshNumbers}
use Rattle.pol_peers.proofs.Found.{found_of, is_of, number_lives}
use Rattle.pol_taken.specs.Known.{AreUnchanged, HaveSelectors, IsKnownIn, IsKnownRow, IsListingOf, KnownRows}
use Rattle.pol_taken.specs.PeerRows.{AreSetsFor, filter_peers}
use Rattle.pol_taken.proofs.Adding.{sets_by}
use Rattle.pol_taken.proofs.Relisting.{below_next, listing_of, one_peer}

-- ---- as they are read
each_known : (cache : Cache) (sound : IsSound cache) (read : ℕ) (rows : List SetRow) → AllByRecursion (λ row. number_of row.peer cache.live ≡ Some row.selector) rows
    → ((identities : List IdentityRow) → AreExact identities cache.live → AllByRecursion (λ row. arc_value row.set ≡ set_at identities row.peer) rows) → AllByRecursion (IsKnownRow cache read) rows
each_known cache sound read [] numbers exact = tt
each_known cache sound read (row ∷ rows) numbers exact = (
  record {
    given = below_next cache sound row.peer row.selector numbers.0;
    own = λ p is. one_peer cache.live sound.live p row.peer row.selector is numbers.0;
    set = λ unchanged number identities is. (exact identities is).0;
  },
  each_known cache sound read rows numbers.1 (λ identities is. (exact identities is).1),
)

pub known_as_read : (cache : Cache) (sound : IsSound cache) (filters : Filters) (kept : KnownRows) → AreSetsFor cache.live filters kept.rows → kept.read ≤ newest cache.log
    → IsListingOf (filter_peers filters) kept.rows × IsKnownIn cache kept
known_as_read cache sound filters kept are read = (
  listing_of kept.rows cache.live filters are,
  record { before = read; rows = each_known cache sound kept.read kept.rows are.selectors are.exact },
)

pub selectors_live : (cache : Cache) (rows : List SetRow) → AllByRecursion (λ row. number_of row.peer cache.live ≡ Some row.selector) rows → HaveSelectors cache rows
selectors_live cache rows numbers = every-weaker (λ (row : SetRow). number_of row.peer cache.live ≡ Some row.selector) (λ (row : SetRow). is_live row.selector cache.live ≡ true)
    (λ row is. number_lives row.peer cache.live row.selector is) rows numbers

-- none has changed since the newest change
pub unchanged_now : (cache : Cache) (sound : IsSound cache) (rows : List SetRow) → AreUnchanged cache (newest cache.log) rows
unchanged_now cache sound [] = tt
unchanged_now cache sound (row ∷ rows) = (unchanged_within row.selector cache.log sound.log, unchanged_now cache sound rows)

-- ---- as long as nothing changes
exact_now : (cache : Cache) (read : ℕ) (rows : List SetRow) → AreUnchanged cache read rows
    → AllByRecursion (λ row. number_of row.peer cache.live ≡ Some row.selector) rows → AllByRecursion (IsKnownRow cache read) rows
    → (identities : List IdentityRow) → AreExact identities cache.live → AllByRecursion (λ row. arc_value row.set ≡ set_at identities row.peer) rows
exact_now cache read [] unchanged numbers known identities exact = tt
exact_now cache read (row ∷ rows) unchanged numbers known identities exact = (
  known.0.set unchanged.0 numbers.0 identities exact,
  exact_now cache read rows unchanged.1 numbers.1 known.1 identities exact,
)

pub sets_as_read : (cache : Cache) (sound : IsSound cache) (filters : Filters) (read : ℕ) (rows : List SetRow) → IsListingOf (filter_peers filters) rows → AreUnchanged cache read rows
    → AllByRecursion (λ row. number_of row.peer cache.live ≡ Some row.selector) rows → AllByRecursion (IsKnownRow cache read) rows → AreSetsFor cache.live filters rows
sets_as_read cache sound filters read rows is unchanged numbers known =
    sets_by cache.live sound.live filters rows is.listed is.every is.once numbers (exact_now cache read rows unchanged numbers known)

-- ---- as selectors come and go
module _ (live : List Live) (p : Peer) (number : ℕ) (is : number_of p live ≡ Some number) where
  -- the set of the peer's selector is the peer's, over any rows over which all sets are exact
  own_set : (s : Live) → find (is_of p) live ≡ Some s → (identities : List IdentityRow) → AreExact identities live → s.set ≡ set_at identities p
  own_set s found identities exact =
      let here = find-In (is_of p) s live found in
      every-in (λ (t : Live). t.set ≡ set_at identities t.peer) live exact s here.0 ∙ ap (set_at identities) (sym ((peer_eq-Decides p s.peer).0 here.1))

  one_set : (one two : List IdentityRow) → AreExact one live → AreExact two live → set_at one p ≡ set_at two p
  one_set one two first second =
      let s = found_of p live number is in
      sym (own_set s.0 s.1 one first) ∙ own_set s.0 s.1 two second

-- What is exact stays so where selectors come and go and no set changes.
pub known_on : (old new : Cache) (identities : List IdentityRow) (kept : KnownRows) → AreExact identities old.live → AreExact identities new.live → TakesFreshNumbers old new
    → new.log.kept ≡ old.log.kept → new.log.horizon ≡ old.log.horizon → IsKnownIn old kept → IsKnownIn new kept
known_on old new identities kept before after fresh changes horizon was =
    let rises = fresh.rises in
    let newer : newest new.log ≡ newest old.log = λ i. newest_of (horizon i) (changes i) in
    record {
      before = subst (λ n. kept.read ≤ n) (sym newer) was.before;
      rows = every-weaker (IsKnownRow old kept.read) (IsKnownRow new kept.read)
          (λ row its.
          let given = its.given in
          record {
            given = omega (arith, rises, given);
            own = λ p is. its.own p (fresh.lived p row.selector is given);
            set = λ unchanged number others exact.
                let same : unchanged_since row.selector new.log ≡ unchanged_since row.selector old.log = λ i. newest_of (horizon i) (filter (shares_chain row.selector) (changes i)) in
                its.set (subst (λ n. n ≤ kept.read) same unchanged) (fresh.lived row.peer row.selector number given) identities before
                ∙ one_set new.live row.peer row.selector number identities others after exact;
          }) kept.rows was.rows;
    }

-- ---- as a plan is carried out
-- changes of sets leave the numbers of selectors
numbers_stay : (changes : List Planned) (p : Peer) (live : List Live) → number_of p (changed changes live) ≡ number_of p live
numbers_stay changes p [] = refl
numbers_stay changes p (s ∷ live) =
    elim (is_of p s) as (λ b. option_map (λ (x : Live). x.number) (if b then Some (after_changes changes s) else find (is_of p) (changed changes live))
    ≡ option_map (λ (x : Live). x.number) (if b then Some s else find (is_of p) live)) [
      | true ↦ refl
      | false ↦ numbers_stay changes p live
    ]

-- a change of another selector leaves a set
set_stays : (s : Live) (changes : List Planned) → AllByRecursion (λ change. change.selector ≢ s.number) changes → set_in changes s ≡ s.set
set_stays s [] others = refl
set_stays s (change ∷ changes) others =
    ap (λ o. option_map_or (λ (c : Planned). c.set) o s.set) (cond-false (change.selector == s.number) (Some change) (find (λ c. c.selector == s.number) changes) (ne_eqb change.selector s.number others.0))
    ∙ set_stays s changes others.1

every-changed : (changes : List Planned) (identities : List IdentityRow) (live : List Live) → AreExact identities (changed changes live) → AllByRecursion (λ s. set_in changes s ≡ set_at identities s.peer) live
every-changed changes identities [] exact = tt
every-changed changes identities (s ∷ live) exact = (exact.0, every-changed changes identities live exact.1)

module _ (revision : ℕ) where
  abbrev log_after : List Planned → Log → Log
  log_after changes log = all_recorded (record { revision = revision; changes = changes }) log

  newest_after : (changes : List Planned) (log : Log) (read : ℕ) → read ≤ newest log → read < revision → read ≤ newest (log_after changes log)
  newest_after [] log read before below = before
  newest_after (change ∷ changes) log read before below = newest_after changes (recorded log (change_at revision change)) read (omega (arith, below)) below

  -- what is unchanged after them was so before them, and none of them is the selector's
  unchanged_after : (changes : List Planned) (log : Log) (selector read : ℕ) → IsLog log → newest log ≤ revision → read < revision → unchanged_since selector (log_after changes log) ≤ read
      → AllByRecursion (λ change. change.selector ≢ selector) changes × (unchanged_since selector log ≤ read)
  unchanged_after [] log selector read sound order below unchanged = (tt, unchanged)
  unchanged_after (change ∷ changes) log selector read sound order below unchanged =
      let c = change_at revision change in
      let rest = unchanged_after changes (recorded log c) selector read (recorded_sound log c sound order) (omega arith) below unchanged in
      let own = unchanged_before selector read log c sound rest.1 below in
      ((own.0, rest.0), own.1)

pub known_carried : (plan : Plan) (cache : Cache) (identities : List IdentityRow) (kept : KnownRows) → IsSound cache → IsPlanFor plan cache → AreExact identities cache.live
    → IsKnownIn cache kept → IsKnownIn (carried plan cache) kept
known_carried plan cache identities kept sound fits before was =
    let newer = fits.newer in
    let read = was.before in
    let below : kept.read < plan.revision = omega (arith, newer, read) in
    record {
      before = newest_after plan.revision plan.changes cache.log kept.read was.before below;
      rows = every-weaker (IsKnownRow cache kept.read) (IsKnownRow (carried plan cache) kept.read)
          (λ row its. record {
            given = its.given;
            own = λ p is. its.own p (sym (numbers_stay plan.changes p cache.live) ∙ is);
            set = λ unchanged number others exact.
                let own = sym (numbers_stay plan.changes row.peer cache.live) ∙ number in
                let s = found_of row.peer cache.live row.selector own in
                let here = find-In (is_of row.peer) s.0 cache.live s.1 in
                let stays = unchanged_after plan.revision plan.changes cache.log row.selector kept.read sound.log (omega (arith, newer)) below unchanged in
                let none = subst (λ n. AllByRecursion (λ (change : Planned). change.selector ≢ n) plan.changes) (sym s.2) stays.0 in
                its.set stays.1 own identities before
                ∙ sym (own_set cache.live row.peer row.selector own s.0 s.1 identities before)
                ∙ sym (set_stays s.0 plan.changes none)
                ∙ every-in (λ (t : Live). set_in plan.changes t ≡ set_at others t.peer) cache.live (every-changed plan.changes others cache.live exact) s.0 here.0
                ∙ ap (set_at others) (sym ((peer_eq-Decides row.peer s.0.peer).0 here.1));
          }) kept.rows was.rows;
    }
