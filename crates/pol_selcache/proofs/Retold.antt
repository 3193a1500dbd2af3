-- What a selector's set was at a revision stays told while plans are carried out.
use Rattle.std.proofs.Common.{zero, suc, ◌≡◌, ℕ, ◌==◌, ◌&&◌, ◌<◌, ◌≤◌, nat_lt, Bool, true, false, cond, List, [], ◌∷◌, filter, find, take, length, slice_get, Option, Some, None, option_map, refl, sym, ap, ◌∙◌, subst, inl, inr, arith}
use Rattle.std.specs.List.{cons_option}
use Rattle.std.specs.List.Sorted.{IsStrictlySortedBy}
use Rattle.std.specs.Option.{option_map_or}
use Rattle.std.specs.Ordering.{nat_cmp}
use Rattle.std.proofs.lemmas.Bool.{cases_eq, cond-true, cond-false, eq-eqb, ne_eqb, le-ltb, lt-ltb, and_left, and_right, and_from}
use Rattle.std.proofs.lemmas.Option.{same_Some}
use Rattle.pol_data.proofs.Members.{In-from_Contains}
use Rattle.pol_model.specs.Ascending.{Ascends}
use Rattle.pol_model.specs.Selects.{set_at}
use Rattle.pol_sets.specs.declared.sets.Move.{Move}
use Rattle.pol_set_changes.specs.declared.change.SetChange.{SetChange}
use Rattle.pol_set_changes.specs.Ids.{without}
use Rattle.pol_set_changes.specs.Log.{Log, InOrder, is_later_of, newest, newest_of, recorded}
use Rattle.pol_set_changes.specs.Log.{IsSound as IsLog}
use Rattle.pol_set_changes.specs.Net.{after_all, move_of, net}
use Rattle.pol_set_changes.specs.Sets.{AllFit, IsMove}
use Rattle.pol_set_changes.proofs.LogLemmas.{none_later, recorded_sound}
use Rattle.pol_set_changes.proofs.NetLemmas.{after-ascends, differences_lead, net_is_exact}
use Rattle.pol_selcache.specs.Cache.{all_recorded, change_at}
use Rattle.pol_selcache.specs.Live.{Live}
use Rattle.pol_selcache.specs.Plan.{Planned, change_to, is_empty}
use Rattle.pol_selcache.specs.Told.{StartsTold, StaysTold, TellsDifference, changes_after}
use Rattle.pol_selcache.proofs.Carried.{AllAfter, none_after, plan_ascends, selectors}
use Rattle.pol_selcache.proofs.Exact.{change_of_own, found_own, is_of}
use Rattle.pol_selcache.proofs.RowSets.{set_sorted}

-- ---- the horizon
newest_above : (horizon : ℕ) (cs : List SetChange) → InOrder horizon cs → horizon ≤ newest_of horizon cs
newest_above horizon [] in_order = omega arith
newest_above horizon (c ∷ cs) in_order = let rest = newest_above horizon cs in_order.1 in let first = in_order.0 in omega arith

kept_above : (horizon : ℕ) (cs : List SetChange) (k : ℕ) (d : SetChange) → InOrder horizon cs → slice_get cs k ≡ Some d → horizon ≤ d.revision
kept_above horizon [] k d in_order at = absurd (let wrong : ⊥ = cc in wrong)
kept_above horizon (c ∷ cs) zero d in_order at =
    let rest = newest_above horizon cs in_order.1 in
    let first = in_order.0 in
    let same : c.revision ≡ d.revision = ap (λ (e : SetChange). e.revision) (same_Some c d at) in
    omega arith
kept_above horizon (c ∷ cs) (suc k) d in_order at = kept_above horizon cs k d in_order.1 at

pub horizon_rises : (log : Log) (c : SetChange) (many : ℕ) → IsLog log → log.horizon ≤ option_map_or (λ (d : SetChange). d.revision) (slice_get (c ∷ log.kept) (suc many)) log.horizon
horizon_rises log c many sound = by (slice_get log.kept many) refl
  where
    by : (o : Option SetChange) → slice_get log.kept many ≡ o → log.horizon ≤ option_map_or (λ (d : SetChange). d.revision) o log.horizon
    by None is = omega arith
    by (Some d) is = kept_above log.horizon log.kept many d sound.in_order is

-- ---- what a change pushes out isn't later than the horizon
trimmed : (p : SetChange → Bool) (k : ℕ) (cs : List SetChange) → length cs ≤ suc k → ((d : SetChange) → slice_get cs k ≡ Some d → p d ≡ false) → filter p (take k cs) ≡ filter p cs
trimmed p zero [] few fails = refl
trimmed p zero (c ∷ []) few fails = sym (cond-false (p c) (c ∷ []) [] (fails c refl))
trimmed p zero (c ∷ d ∷ cs) few fails = absurd (omega arith)
trimmed p (suc k) [] few fails = refl
trimmed p (suc k) (c ∷ cs) few fails =
    let rest = trimmed p k cs (omega arith) (λ d at. fails d at) in
    λ i. cond (p c) (c ∷ rest i) (rest i)

later_recorded : (n revision : ℕ) (log : Log) (c : SetChange) (many : ℕ) → length log.kept ≤ suc many
    → option_map_or (λ (d : SetChange). d.revision) (slice_get (c ∷ log.kept) (suc many)) log.horizon ≤ revision
    → filter (is_later_of n revision) (take (suc many) (c ∷ log.kept)) ≡ cond (is_later_of n revision c) (c ∷ filter (is_later_of n revision) log.kept) (filter (is_later_of n revision) log.kept)
later_recorded n revision log c many few low =
    trimmed (is_later_of n revision) (suc many) (c ∷ log.kept) (omega arith)
    (λ d at. and_left (nat_lt revision d.revision) (d.selector == n)
    (le-ltb revision d.revision (subst (λ o. option_map_or (λ (e : SetChange). e.revision) o log.horizon ≤ revision) at low)))

-- ---- the changes of a plan, one after another
module _ (n revision new : ℕ) (newer : revision < new) where
  later_all : (changes : List Planned) (log : Log) → IsLog log → newest log ≤ new → Ascends (selectors changes)
      → (all_recorded (record { revision = new; changes = changes }) log).horizon ≤ revision
      → (log.horizon ≤ revision) × (filter (is_later_of n revision) (all_recorded (record { revision = new; changes = changes }) log).kept
      ≡ cons_option (option_map (change_at new) (find (is_of n) changes)) (filter (is_later_of n revision) log.kept))
  later_all [] log sound before ascend low = (low, refl)
  later_all (change ∷ changes) log sound before ascend low =
      let c : SetChange = change_at new change in
      let next : Log = recorded log c in
      let next_sound : IsLog next = recorded_sound log c sound before in
      let rest = later_all changes next next_sound (omega arith) ascend.1 low in
      let rises : log.horizon ≤ next.horizon = horizon_rises log c 65535 sound in
      let own : filter (is_later_of n revision) next.kept ≡ cond (is_later_of n revision c) (c ∷ filter (is_later_of n revision) log.kept) (filter (is_later_of n revision) log.kept) =
      later_recorded n revision log c 65535 sound.few rest.0 in (
        (let low_next = rest.0 in omega arith),
        rest.1 ∙ elim (cases_eq change.selector n) [
          | inl same ↦
              let none : find (is_of n) changes ≡ None = none_after n changes (subst (λ m. AllAfter m changes) same ascend.0) in
              let is_later : is_later_of n revision c ≡ true = and_from (nat_lt revision new) (change.selector == n) (lt-ltb revision new newer) (eq-eqb change.selector n same) in
              let found : find (is_of n) (change ∷ changes) ≡ Some change = cond-true (change.selector == n) (Some change) (find (is_of n) changes) (eq-eqb change.selector n same) in
              ap (λ o. cons_option (option_map (change_at new) o) (filter (is_later_of n revision) next.kept)) none
              ∙ own ∙ cond-true (is_later_of n revision c) _ _ is_later
              ∙ ap (λ o. cons_option (option_map (change_at new) o) (filter (is_later_of n revision) log.kept)) (sym found)
          | inr other ↦
              let not_own : is_later_of n revision c ≡ false = and_right (nat_lt revision new) (change.selector == n) (ne_eqb change.selector n other) in
              let found : find (is_of n) (change ∷ changes) ≡ find (is_of n) changes = cond-false (change.selector == n) (Some change) (find (is_of n) changes) (ne_eqb change.selector n other) in
              ap (λ cs. cons_option (option_map (change_at new) (find (is_of n) changes)) cs) (own ∙ cond-false (is_later_of n revision c) _ _ not_own)
              ∙ ap (λ o. cons_option (option_map (change_at new) o) (filter (is_later_of n revision) log.kept)) (sym found)
        ],
      )

-- ---- one selector's change leads from its set to the next
leads_on : (before : List ℕ) (older : List SetChange) (new : ℕ) (s : Live) (set : List ℕ) (o : Option Planned) → change_to set s ≡ o
    → IsStrictlySortedBy nat_cmp before → IsStrictlySortedBy nat_cmp set → AllFit before older → after_all before older ≡ s.set
    → AllFit before (cons_option (option_map (change_at new) o) older) × (after_all before (cons_option (option_map (change_at new) o) older) ≡ option_map_or (λ (c : Planned). c.set) o s.set)
leads_on before older new s set None is before_sorted set_sorted fit leads = (fit, leads)
leads_on before older new s set (Some change) is before_sorted set_sorted fit leads =
    let old : IsStrictlySortedBy nat_cmp (after_all before older) = after-ascends before older before_sorted in
    let parts = told_by (is_empty (without set s.set) && is_empty (without s.set set)) is in
    let difference : IsMove (after_all before older) set (move_of (change_at new change)) = record {
      gained = parts.0 ∙ ap (without set) (sym leads);
      lost = parts.1 ∙ ap (λ xs. without xs set) (sym leads);
    } in
    let step = differences_lead (after_all before older) set (move_of (change_at new change)) old set_sorted difference in
    ((step.0, fit), step.1 ∙ sym parts.2)
  where
    told_by : (b : Bool) → cond b None (Some (record { selector = s.number; gained = without set s.set; lost = without s.set set; set = set })) ≡ Some change
        → (change.gained ≡ without set s.set) × (change.lost ≡ without s.set set) × (change.set ≡ set)
    told_by true is = absurd (let wrong : ⊥ = cc in wrong)
    told_by false is =
        let same = same_Some _ change is in
        (ap (λ (c : Planned). c.gained) (sym same), ap (λ (c : Planned). c.lost) (sym same), ap (λ (c : Planned). c.set) (sym same))

-- ---- what is told
pub told_now : StartsTold
told_now revision s log sound newest_low sorted =
    let none = none_later s.number revision log.horizon log.kept sound.in_order newest_low in
    record {
      kept = (let above = newest_above log.horizon log.kept sound.in_order in omega arith);
      ascends = sorted;
      fit = subst (AllFit s.set) (sym none) tt;
      leads = ap (after_all s.set) none;
    }

pub told_on : StaysTold
told_on revision before s plan cache sound log_sound fits s_in newer low was =
    let later = later_all s.number revision plan.revision newer plan.changes cache.log log_sound (let above = fits.newer in omega arith) (plan_ascends plan cache sound fits) low in
    let own : find (is_of s.number) plan.changes ≡ change_to (set_at fits.rows s.peer) s =
    ap (find (is_of s.number)) fits.changes
    ∙ found_own (λ t. change_to (set_at fits.rows t.peer) t) (λ t c is. change_of_own (set_at fits.rows t.peer) t c is) s cache.live sound.live.numbers (In-from_Contains cache.live s s_in) in
    let step = leads_on before (changes_after revision s.number cache.log) plan.revision s (set_at fits.rows s.peer) (find (is_of s.number) plan.changes) (sym own) was.ascends (set_sorted s.peer fits.rows fits.ascend) was.fit was.leads in
    record {
      kept = low;
      ascends = was.ascends;
      fit = subst (AllFit before) (sym later.1) step.0;
      leads = ap (after_all before) later.1 ∙ step.1;
    }

pub tells_difference : TellsDifference
tells_difference revision before s log was =
    let m : Move = net s.number (changes_after revision s.number log) in
    let exact = net_is_exact s.number before (changes_after revision s.number log) was.ascends was.fit in (
      m,
      cond-false (nat_lt revision log.horizon) None (Some m) (le-ltb revision log.horizon was.kept),
      subst (λ now. IsMove before now m) was.leads exact,
    )
