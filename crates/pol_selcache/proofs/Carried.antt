-- Changes that are carried out one after another are those of the plan.
use Rattle.std.proofs.Common.{◌≡◌, ℕ, ◌==◌, ◌<◌, ◌≤◌, true, List, [], ◌∷◌, ◌++◌, map, find, length, Option, Some, None, refl, sym, ap, ◌∙◌, subst, inl, inr, arith}
use Rattle.std.specs.List.{AllByRecursion, filter_map, cons_option}
use Rattle.std.specs.Option.{option_map_or}
use Rattle.std.proofs.lemmas.Bool.{cases_eq, cond-true, cond-false, eq-eqb, ne_eqb, or_left, or_right}
use Rattle.pol_data.proofs.Every.{every-weaker}
use Rattle.pol_model.specs.Ascending.{Ascends}
use Rattle.pol_model.specs.Selects.{set_at}
use Rattle.pol_set_changes.specs.Log.{newest, recorded}
use Rattle.pol_selcache.specs.Cache.{Cache, IsPlanFor, IsSound, all_recorded, carried, change_at}
use Rattle.pol_selcache.specs.Live.{Live, is_live, where_number, with_set}
use Rattle.pol_selcache.specs.Moving.{each_carried, one_carried}
use Rattle.pol_selcache.specs.Plan.{Plan, Planned, change_to, after_changes, changed, set_in}
use Rattle.pol_selcache.specs.declared.plan.Planned.{Planned as Kept}
use Rattle.pol_selcache.specs.Planned.{planned_in, planned_of}
use Rattle.pol_selcache.proofs.Exact.{change_of_own, is_of}
use Rattle.pol_selectors.proofs.LiveLists.{elsewhere, live_kept, numbers, there}

abbrev pub selectors : List Planned → List ℕ
selectors changes = map (λ change. change.selector) changes

abbrev pub AllAfter : ℕ → List Planned → Type 0
AllAfter n changes = AllByRecursion (λ m. n < m) (selectors changes)

-- ---- each change is of another selector
pub none_after : (n : ℕ) (changes : List Planned) → AllAfter n changes → find (is_of n) changes ≡ None
none_after n [] above = refl
none_after n (change ∷ changes) above =
    cond-false (change.selector == n) (Some change) (find (is_of n) changes) (ne_eqb change.selector n (λ same. let more = above.0 in omega arith))
    ∙ none_after n changes above.1

module _ (f : Live → Option Planned) (own : (s : Live) (change : Planned) → f s ≡ Some change → change.selector ≡ s.number) where
  changes_above : (n : ℕ) (live : List Live) → AllByRecursion (λ m. n < m) (numbers live) → AllAfter n (filter_map f live)
  changes_above n [] above = tt
  changes_above n (s ∷ live) above = by (f s) refl (changes_above n live above.1)
    where
      by : (o : Option Planned) → f s ≡ o → AllAfter n (filter_map f live) → AllAfter n (cons_option o (filter_map f live))
      by None is rest = rest
      by (Some change) is rest = ((let at = own s change is in let more = above.0 in omega arith), rest)

  pub changes_ascend : (live : List Live) → Ascends (numbers live) → Ascends (selectors (filter_map f live))
  changes_ascend [] ascend = tt
  changes_ascend (s ∷ live) ascend = by (f s) refl (changes_ascend live ascend.1)
    where
      by : (o : Option Planned) → f s ≡ o → Ascends (selectors (filter_map f live)) → Ascends (selectors (cons_option o (filter_map f live)))
      by None is rest = rest
      by (Some change) is rest = (subst (λ n. AllAfter n (filter_map f live)) (sym (own s change is)) (changes_above s.number live ascend.0), rest)

  -- and of one that is live
  pub changes_live : (all live : List Live) → AllByRecursion (λ s. is_live s.number all ≡ true) live → AllByRecursion (λ change. is_live change.selector all ≡ true) (filter_map f live)
  changes_live all [] lives = tt
  changes_live all (s ∷ live) lives = by (f s) refl (changes_live all live lives.1)
    where
      by : (o : Option Planned) → f s ≡ o → AllByRecursion (λ change. is_live change.selector all ≡ true) (filter_map f live) → AllByRecursion (λ change. is_live change.selector all ≡ true) (cons_option o (filter_map f live))
      by None is rest = rest
      by (Some change) is rest = (ap (λ n. is_live n all) (own s change is) ∙ lives.0, rest)

each_lives : (front live : List Live) → AllByRecursion (λ s. is_live s.number (front ++ live) ≡ true) live
each_lives front [] = tt
each_lives front (s ∷ live) = (here front, subst (λ all. AllByRecursion (λ t. is_live t.number all ≡ true) live) (append_cons front) (each_lives (front ++ s ∷ []) live))
  where
    here : (front : List Live) → is_live s.number (front ++ s ∷ live) ≡ true
    here [] = or_left (s.number == s.number) (is_live s.number live) (eq-eqb s.number s.number refl)
    here (t ∷ front) = or_right (t.number == s.number) (is_live s.number (front ++ s ∷ live)) (here front)

    append_cons : (front : List Live) → (front ++ s ∷ []) ++ live ≡ front ++ s ∷ live
    append_cons [] = refl
    append_cons (t ∷ front) = ap (λ rest. t ∷ rest) (append_cons front)

-- ---- one change after another gives each selector its own
one_set : (change : Planned) (changes : List Planned) (s : Live) → AllAfter change.selector changes
    → after_changes changes (where_number change.selector (λ t. record t { set = change.set }) s) ≡ after_changes (change ∷ changes) s
one_set change changes s above =
    let write : Live → Live = λ t. record t { set = change.set } in
    let give : List ℕ → Live = λ set. record s { set = set } in
    elim (cases_eq s.number change.selector) [
      | inl same ↦
          let none : find (is_of s.number) changes ≡ None = none_after s.number changes (subst (λ n. AllAfter n changes) (sym same) above) in
          let first : set_in (change ∷ changes) s ≡ change.set =
          ap (λ o. option_map_or (λ (c : Planned). c.set) o s.set) (cond-true (change.selector == s.number) (Some change) (find (is_of s.number) changes) (eq-eqb change.selector s.number (sym same))) in
          ap (after_changes changes) (there change.selector write s same)
          ∙ ap give (ap (λ o. option_map_or (λ (c : Planned). c.set) o change.set) none ∙ sym first)
      | inr other ↦
          let later : set_in (change ∷ changes) s ≡ set_in changes s =
          ap (λ o. option_map_or (λ (c : Planned). c.set) o s.set) (cond-false (change.selector == s.number) (Some change) (find (is_of s.number) changes) (ne_eqb change.selector s.number (λ same. other (sym same)))) in
          ap (after_changes changes) (elsewhere change.selector write s other)
          ∙ ap give (sym later)
    ]

set_first : (change : Planned) (changes : List Planned) (live : List Live) → AllAfter change.selector changes
    → changed changes (with_set change.selector change.set live) ≡ changed (change ∷ changes) live
set_first change changes [] above = refl
set_first change changes (s ∷ live) above = λ i. one_set change changes s above i ∷ set_first change changes live above i

none_changed : (live : List Live) → changed [] live ≡ live
none_changed [] = refl
none_changed (s ∷ live) = ap (λ rest. s ∷ rest) (none_changed live)

pub each_is_all : (revision : ℕ) (changes : List Planned) (cache : Cache) → Ascends (selectors changes)
    → each_carried revision changes cache ≡ carried (record { revision = revision; changes = changes }) cache
each_is_all revision [] cache ascend = let give : List Live → Cache = λ live. record cache { live = live } in ap give (sym (none_changed cache.live))
each_is_all revision (change ∷ changes) cache ascend =
    let give : List Live → Cache = λ live. record cache { live = live; log = all_recorded (record { revision = revision; changes = changes }) (recorded cache.log (change_at revision change)) } in
    each_is_all revision changes (one_carried revision cache change) ascend.1
    ∙ ap give (set_first change changes cache.live ascend.0)

-- ---- what carrying them out one after another asks
pub record MayCarry (revision : ℕ) (changes : List Planned) (cache : Cache) : Type 0 where
  pub live : AllByRecursion (λ change. is_live change.selector cache.live ≡ true) changes
  pub in_order : newest cache.log ≤ revision
  pub room : length changes ≤ cache.log.spare

pub after_one : (revision : ℕ) (change : Planned) (changes : List Planned) (cache : Cache) → MayCarry revision (change ∷ changes) cache → MayCarry revision changes (one_carried revision cache change)
after_one revision change changes cache may = record {
  live = every-weaker (λ c. is_live c.selector cache.live ≡ true) _
      (λ c lives. live_kept change.selector (λ t. record t { set = change.set }) (λ s. refl) (λ s. refl) cache.live c.selector ∙ lives)
      changes may.live.1;
  in_order = omega arith;
  room = (let room = may.room in omega arith);
}

pub plan_may : (plan : Plan) (cache : Cache) → IsSound cache → IsPlanFor plan cache → MayCarry plan.revision plan.changes cache
plan_may plan cache sound fits = record {
  live = subst (AllByRecursion (λ c. is_live c.selector cache.live ≡ true)) (sym fits.changes)
      (changes_live (λ s. change_to (set_at fits.rows s.peer) s) (λ s c is. change_of_own (set_at fits.rows s.peer) s c is) cache.live cache.live (each_lives [] cache.live));
  in_order = (let newer = fits.newer in omega arith);
  room = fits.room;
}

pub plan_ascends : (plan : Plan) (cache : Cache) → IsSound cache → IsPlanFor plan cache → Ascends (selectors plan.changes)
plan_ascends plan cache sound fits =
    subst (λ changes. Ascends (selectors changes)) (sym fits.changes)
    (changes_ascend (λ s. change_to (set_at fits.rows s.peer) s) (λ s c is. change_of_own (set_at fits.rows s.peer) s c is) cache.live sound.live.numbers)

-- ---- one change after another, as the loop goes
pub record Going (revision : ℕ) (left : List Kept) (cache whole : Cache) : Type 0 where
  pub remains : each_carried revision (planned_in left) cache ≡ whole
  pub may : MayCarry revision (planned_in left) cache
  pub sound : IsSound cache

pub goes_on : (revision : ℕ) (left rest : List Kept) (change : Kept) (cache next whole : Cache) → left ≡ change ∷ rest → next ≡ one_carried revision cache (planned_of change) → IsSound next → Going revision left cache whole → Going revision rest next whole
goes_on revision left rest change cache next whole is next_is sound going =
    let at : Going revision (change ∷ rest) cache whole = subst (λ l. Going revision l cache whole) is going in
    record {
      remains = ap (each_carried revision (planned_in rest)) next_is ∙ at.remains;
      may = subst (MayCarry revision (planned_in rest)) (sym next_is) (after_one revision (planned_of change) (planned_in rest) cache at.may);
      sound = sound;
    }

-- the change that comes next may be made
pub next_may : (revision : ℕ) (left rest : List Kept) (change : Kept) (cache whole : Cache) → left ≡ change ∷ rest → Going revision left cache whole → MayCarry revision (planned_of change ∷ planned_in rest) cache
next_may revision left rest change cache whole is going = subst (λ l. MayCarry revision (planned_in l) cache) is going.may

-- at the end all are made
pub all_gone : (revision : ℕ) (left : List Kept) (cache whole : Cache) → length left ≡ 0 → Going revision left cache whole → cache ≡ whole
all_gone revision [] cache whole none going = going.remains
all_gone revision (change ∷ left) cache whole none going = absurd (omega arith)
