-- What a store keeps for takes, as its parts change.
use Rattle.std.proofs.Common.{◌≡◌, ℕ, not, List, [], ◌∷◌, map, IfOk, OnOk, OnErr, Option, None, Some, Result, Ok, Err, sym, ap, subst, ◌∙◌}
use Rattle.std.specs.Arc.{arc_value}
use Rattle.std.specs.List.{AllByRecursion, IsDistinct}
use Rattle.std.specs.declared.sync.Arc.{Arc}
use Rattle.pol_addr.specs.declared.network.Prefix.{Prefix}
use Rattle.pol_labels.specs.declared.label.Label.{Label}
use Rattle.pol_rule.specs.declared.policy.Policy.{Policy}
use Rattle.pol_rule.specs.declared.policy.PolicyKey.{PolicyKey}
use Rattle.pol_data.proofs.Every.{every-kept, every-weaker}
use Rattle.pol_set_changes.specs.Log.{Log}
use Rattle.pol_selcache.specs.Cache.{Cache, IsPlanFor, IsSound, carried, with_room}
use Rattle.pol_selcache.specs.Live.{AreExact}
use Rattle.pol_selcache.specs.Plan.{Plan, changed}
use Rattle.pol_selcache.proofs.Exact.{plan_makes_exact}
use Rattle.pol_peers.specs.Numbering.{GainsRefs, LosesRefs, TakesFreshNumbers}
use Rattle.pol_peers.proofs.Numbering.{fresh_itself, fresh_less}
use Rattle.pol_taken.specs.Known.{IsKnownIn, IsKnownRow, KnownRows}
use Rattle.pol_taken.proofs.AsRead.{known_carried, known_on}
use Rattle.pol_model.specs.Ascending.{Ascends}
use Rattle.pol_model.specs.declared.options.Mode.{Mode}
use Rattle.pol_model.specs.declared.row.Endpoint.{Endpoint}
use Rattle.pol_model.specs.declared.row.IdentityRow.{IdentityRow}
use Rattle.pol_model.specs.declared.row.Stamped.{Stamped}
use Rattle.pol_model.specs.Policies.{applied, policy_at, removed}
use Rattle.pol_model.specs.Prefixes.{number_of_prefix, prefixes_held, prefixes_released}
use Rattle.pol_model.specs.Sizes.{IsShortPolicy}
use Rattle.pol_ident.specs.declared.error.IdentError.{IdentError}
use Rattle.pol_prefixes.proofs.Numbers.{number_of_labelled}
use Rattle.pol_prefixes.specs.AddressTable.{AddressTable}
use Rattle.pol_kept_filters.specs.declared.kept.Kept.{Kept}
use Rattle.pol_kept_filters.specs.Kept.{AreKeptOf, AreListedIn, IsListedIn, KeysDiffer, selects, without_old, without_selected}
use Rattle.pol_kept_filters.proofs.Unselected.{left_with, left_without}
use Rattle.pol_allocator.specs.declared.hold.LabelsHeld.{LabelsHeld}
use Rattle.pol_allocator.specs.Held.{Held, HoldsLabels}
use Rattle.pol_store.specs.Inside.{IsKeptIn, Told, TellsAddresses, left_by}

-- ---- filters
none_differ : KeysDiffer []
unfolding IsDistinct
none_differ = tt

pub nothing_kept : (policies : List Stamped) (mode : Mode) (rows : List Kept) → policies ≡ [] → rows ≡ []
    → AllByRecursion (λ stamped. IsShortPolicy stamped.policy) policies × KeysDiffer policies × AreKeptOf policies mode rows
nothing_kept policies mode rows none empty = (
  subst (AllByRecursion (λ (stamped : Stamped). IsShortPolicy stamped.policy)) (sym none) tt,
  subst (λ (p : List Stamped). KeysDiffer p) (sym none) none_differ,
  subst (λ (kept : List Kept). AreKeptOf policies mode kept) (sym empty) tt,
)

module _ (policies now : List Stamped) (mode : Mode) (old : Option Stamped) (rows left : List Kept) (are : AreKeptOf policies mode rows) where
  pub kept_put : (new : Stamped) (mid : List Kept) → now ≡ applied new policies → old ≡ policy_at new.policy.key policies
      → mid ≡ without_selected new.policy rows → left ≡ without_old old mid → AreKeptOf now mode left
  kept_put new mid now_is old_is mid_is left_is =
      subst (λ (p : List Stamped). AreKeptOf p mode left) (sym now_is)
      (subst (λ (kept : List Kept). AreKeptOf (applied new policies) mode kept) (sym (left_is ∙ (λ i. without_old (old_is i) (mid_is i)))) (left_with policies mode rows are new))

  pub kept_taken_out : (key : PolicyKey) → KeysDiffer policies → now ≡ removed key policies → old ≡ policy_at key policies → left ≡ without_old old rows → AreKeptOf now mode left
  kept_taken_out key differ now_is old_is left_is =
      subst (λ (p : List Stamped). AreKeptOf p mode left) (sym now_is)
      (subst (λ (kept : List Kept). AreKeptOf (removed key policies) mode kept) (sym (left_is ∙ ap (λ (o : Option Stamped). without_old o rows) old_is)) (left_without policies mode rows are key differ))

-- ---- the rows of the peers that filters list
pub nothing_listed_yet : (cache : Cache) (rows : List Kept) → cache.live ≡ [] → rows ≡ [] → IsKeptIn cache rows
nothing_listed_yet cache rows none empty = record {
  identities = [];
  ascend = tt;
  exact = subst (AreExact []) (sym none) tt;
  listed = subst (AreListedIn cache) (sym empty) tt;
}

module _ (old new : Cache) (rows : List Kept) where
  each_listed : ((known : KnownRows) → IsKnownIn old known → IsKnownIn new known) → AreListedIn old rows → AreListedIn new rows
  each_listed still was = every-weaker (IsListedIn old) (IsListedIn new) (λ kept is. record { listing = is.listing; known = still kept.known is.known }) rows was

  -- where the sets stay exact over these rows
  listed_on : (identities : List IdentityRow) → Ascends (map (λ row. row.number) identities) → AreExact identities old.live → AreExact identities new.live → TakesFreshNumbers old new → new.log ≡ old.log
      → IsKeptIn old rows → IsKeptIn new rows
  listed_on identities ascend before after fresh log was = record {
    identities = identities;
    ascend = ascend;
    exact = after;
    listed = each_listed (λ known. known_on old new identities known before after fresh (ap (λ (l : Log). l.kept) log) (ap (λ (l : Log). l.horizon) log)) was.listed;
  }

  -- as references come
  pub listed_more : (identities : List IdentityRow) → Ascends (map (λ row. row.number) identities) → AreExact identities old.live → GainsRefs identities old new → IsKeptIn old rows → IsKeptIn new rows
  listed_more identities ascend exact gains was = listed_on identities ascend exact gains.exact gains.selectors.fresh gains.log was

  -- as they go
  pub listed_less : LosesRefs old new → IsKeptIn old rows → IsKeptIn new rows
  listed_less loses was =
      let gone = loses.selectors in
      listed_on was.identities was.ascend was.exact (loses.exact was.identities was.exact) (fresh_less old old new (fresh_itself old) gone.next gone.kept) gone.log was

  pub listed_still : new ≡ old → IsKeptIn old rows → IsKeptIn new rows
  listed_still same was = subst (λ (c : Cache). IsKeptIn c rows) (sym same) was

  known_in_room : (spare : ℕ) (known : KnownRows) → IsKnownIn old known → IsKnownIn (with_room spare old) known
  known_in_room spare known is = record {
    before = is.before;
    rows = every-weaker (IsKnownRow old known.read) (IsKnownRow (with_room spare old) known.read) (λ row its. record { given = its.given; own = its.own; set = its.set }) known.rows is.rows;
  }

  pub listed_in_room : (spare : ℕ) → new ≡ with_room spare old → IsKeptIn old rows → IsKeptIn new rows
  listed_in_room spare same was =
      subst (λ (c : Cache). IsKeptIn c rows) (sym same)
      (record {
        identities = was.identities;
        ascend = was.ascend;
        exact = was.exact;
        listed = every-weaker (IsListedIn old) (IsListedIn (with_room spare old))
            (λ kept is. record { listing = is.listing; known = known_in_room spare kept.known is.known }) rows was.listed;
      })

  pub listed_carried : (plan : Plan) → IsSound old → IsPlanFor plan old → new ≡ carried plan old → IsKeptIn old rows → IsKeptIn new rows
  listed_carried plan sound fits is was =
      subst (λ (c : Cache). IsKeptIn c rows) (sym is)
      (record {
        identities = fits.rows;
        ascend = fits.ascend;
        exact = subst (λ changes. AreExact fits.rows (changed changes old.live)) (sym fits.changes) (plan_makes_exact fits.rows was.identities fits.ascend was.ascend old.live sound.live.numbers was.exact);
        listed = every-weaker (IsListedIn old) (IsListedIn (carried plan old))
            (λ kept its. record { listing = its.listing; known = known_carried plan old was.identities kept.known sound fits was.exact its.known }) rows was.listed;
      })

-- where a label set is held, or isn't
pub listed_held : (revision : ℕ) (labels : List Label) (old new : Held) (rows : List Kept) (result : Result LabelsHeld IdentError)
    → IfOk result (λ held. HoldsLabels revision labels old new held.number held.plan) → OnErr result (new ≡ old) → IsKeptIn old.cache rows → IsKeptIn new.cache rows
listed_held revision labels old new rows (Ok held) ok err was = listed_in_room old.cache new.cache rows _ ok.sets was
listed_held revision labels old new rows (Err error) ok err was = listed_still old.cache new.cache rows (ap (λ (held : Held). held.cache) err) was

-- what is left as all is forgotten, and as a policy comes or goes
left_listed : (cache : Cache) (rows left : List Kept) → (AreListedIn cache rows → AreListedIn cache left) → IsKeptIn cache rows → IsKeptIn cache left
left_listed cache rows left fewer was = record { identities = was.identities; ascend = was.ascend; exact = was.exact; listed = fewer was.listed }

pub all_forgotten : (cache : Cache) (rows left : List Kept) → left ≡ [] → IsKeptIn cache rows → IsKeptIn cache left
all_forgotten cache rows left none = left_listed cache rows left (λ was. subst (AreListedIn cache) (sym none) tt)

pub listed_selected : (cache : Cache) (policy : Policy) (rows left : List Kept) → left ≡ without_selected policy rows → IsKeptIn cache rows → IsKeptIn cache left
listed_selected cache policy rows left is =
    left_listed cache rows left (λ was. subst (AreListedIn cache) (sym is) (every-kept (IsListedIn cache) (λ (kept : Kept). not (selects kept.labels policy)) rows was))

pub listed_old : (cache : Cache) (old : Option Stamped) (rows left : List Kept) → left ≡ without_old old rows → IsKeptIn cache rows → IsKeptIn cache left
listed_old cache None rows left is was = subst (IsKeptIn cache) (sym is) was
listed_old cache (Some stamped) rows left is was = listed_selected cache stamped.policy rows left is was

-- ---- addresses
-- where prefixes keep their numbers, what tells addresses goes on to tell them
moved : (endpoints : List Endpoint) (rows others : List IdentityRow) (addresses : AddressTable) → ((own : Prefix) → number_of_prefix own others ≡ number_of_prefix own rows)
    → TellsAddresses endpoints rows addresses → TellsAddresses endpoints others addresses
moved endpoints rows others addresses same tells = record {
  prefixes = tells.prefixes;
  is = λ own. tells.is own ∙ sym (same own);
  numbers = tells.numbers;
}

module _ {Z : Type 0} (endpoints : List Endpoint) (rows others : List IdentityRow) where
  pub told_moved : (told : Option (Arc AddressTable Z)) → ((own : Prefix) → number_of_prefix own others ≡ number_of_prefix own rows) → Told endpoints rows told → Told endpoints others told
  told_moved None same tells = tells
  told_moved (Some addresses) same tells = moved endpoints rows others (arc_value addresses) same tells

  pub told_still : (told : Option (Arc AddressTable Z)) → others ≡ rows → Told endpoints rows told → Told endpoints others told
  told_still told same tells = subst (λ (r : List IdentityRow). Told endpoints r told) (sym same) tells

-- where prefixes come or go, and it was let go unless there are none
module _ {Z : Type 0} (endpoints : List Endpoint) (rows : List IdentityRow) (told left : Option (Arc AddressTable Z)) where
  -- as long as the rows are as they were
  pub told_left : (prefixes : List Prefix) → left ≡ left_by prefixes told → Told endpoints rows told → Told endpoints rows left
  told_left [] is tells = subst (Told endpoints rows) (sym is) tells
  told_left (_ ∷ _) is tells = subst (Told endpoints rows) (sym is) tt

  -- once they are held
  pub told_held : (prefixes : List Prefix) → left ≡ left_by prefixes told → Told endpoints rows told → Told endpoints (prefixes_held prefixes rows) left
  told_held [] is tells = subst (Told endpoints rows) (sym is) tells
  told_held (prefix ∷ others) is tells = subst (Told endpoints (prefixes_held (prefix ∷ others) rows)) (sym is) tt

  -- once they are released
  pub told_released : (prefixes : List Prefix) → left ≡ left_by prefixes told → Told endpoints rows told → Told endpoints (prefixes_released prefixes rows) left
  told_released [] is tells = subst (Told endpoints rows) (sym is) tells
  told_released (prefix ∷ others) is tells = subst (Told endpoints (prefixes_released (prefix ∷ others) rows)) (sym is) tt

-- the same of a policy's request: held, or not after an error, while others are let go
pub told_on : {Z : Type 0} (endpoints : List Endpoint) (old new : Held) (told mid left : Option (Arc AddressTable Z)) (taken given_up : List Prefix) {A : Type 0} (result : Result A IdentError)
    → mid ≡ left_by taken told → left ≡ left_by given_up mid → OnOk result (new.rows ≡ prefixes_held taken old.rows) → OnErr result (new ≡ old)
    → Told endpoints old.rows told → Told endpoints new.rows left
told_on endpoints old new told mid left taken given_up (Ok held) mid_is left_is ok err tells =
    told_left endpoints new.rows mid left given_up left_is
    (told_still endpoints (prefixes_held taken old.rows) new.rows mid ok (told_held endpoints old.rows told mid taken mid_is tells))
told_on endpoints old new told mid left taken given_up (Err error) mid_is left_is ok err tells =
    told_left endpoints new.rows mid left given_up left_is
    (told_still endpoints old.rows new.rows mid (ap (λ (h : Held). h.rows) err) (told_left endpoints old.rows told mid taken mid_is tells))

-- the numbers of prefixes, once a label set is held, or isn't for want of memory
pub numbers_held : (revision : ℕ) (labels : List Label) (old new : Held) (result : Result LabelsHeld IdentError)
    → IfOk result (λ held. HoldsLabels revision labels old new held.number held.plan) → OnErr result (new ≡ old)
    → (own : Prefix) → number_of_prefix own new.rows ≡ number_of_prefix own old.rows
numbers_held revision labels old new (Ok held) ok err own = ap (number_of_prefix own) ok.rows ∙ number_of_labelled labels own old.rows
numbers_held revision labels old new (Err error) ok err own = ap (λ (held : Held). number_of_prefix own held.rows) err
