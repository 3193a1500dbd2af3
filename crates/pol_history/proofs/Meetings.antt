-- Calls of passes one after another, and passes of a list that meet one by one.
use Rattle.std.proofs.Common.{zero, suc, ◌≡◌, ◌≢◌, ◌↔◌, ℕ, ◌+◌, ◌<◌, ◌≤◌, ◌==◌, ◌||◌, ◌⊎◌, inl, inr, true, List, [], ◌∷◌, ◌++◌, length, set, Some, refl, sym, ap, ◌∙◌, subst, arith, append-nil}
use Rattle.std.specs.List.{AllByRecursion, Contains, slice_get}
use Rattle.std.proofs.lemmas.Bool.{or_cases, eqb-true}
use Rattle.std.proofs.lemmas.Bool.Decides.{nat_tests}
use Rattle.std.proofs.lemmas.List.{length-set}
use Rattle.std.proofs.lemmas.Option.{slice_get_within}
use Rattle.pol_data.proofs.Members.{Contains-cases, Contains-here, Contains-later}
use Rattle.pol_mapkey.specs.Entries.{Entry as MapEntry}
use Rattle.pol_model.specs.declared.options.Options.{Options}
use Rattle.pol_model.specs.declared.request.Request.{Request}
use Rattle.pol_history.specs.declared.event.EndpointId.{EndpointId}
use Rattle.pol_history.specs.declared.event.HistoryEvent.{HistoryEvent}
use Rattle.pol_history.specs.declared.event.HistoryEvent.TheVariants as event
use Rattle.pol_history.specs.Grows.{Grows, GrowsWhole, PassGrows, PassGrowsWhole, PassState, PassView}
use Rattle.pol_history.specs.Legal.{IsLegal}
use Rattle.pol_history.specs.Meet.{AreOf, AreShown, HaveMet, IsOf, IsShown, has, meetings_of}
use Rattle.pol_history.proofs.Beginnings.{prefix_self}
use Rattle.pol_history.proofs.Lists.{get_cases}
use Rattle.pol_history.proofs.Looks.{views_grow}

-- ---- one call after another

-- after a call of either kind, one that shows the pass all its own commits
pub whole-after : (options : Options) (pass : ℕ) (first second third : PassView) (own more : List Request) → Grows options first second own
    → GrowsWhole options pass second third more → GrowsWhole options pass first third (own ++ more)
whole-after options pass first second third own more one two =
    record { grows = views_grow options first second third own more one two.grows; commits = two.commits }

pub whole-whole : (options : Options) (pass : ℕ) (first second third : PassView) (own more : List Request) → GrowsWhole options pass first second own
    → GrowsWhole options pass second third more → GrowsWhole options pass first third (own ++ more)
whole-whole options pass first second third own more one two = whole-after options pass first second third own more one.grows two

-- a call that does nothing
pub grows-same : (options : Options) (seen : PassView) → IsLegal options seen.history → Grows options seen seen []
grows-same options seen legal = record { goes_on = prefix_self seen.history; legal = legal; mine = sym (append-nil seen.mine) }

pub passes-grow : (options : Options) (first second third : PassState) (own more : List Request) → PassGrows options first second own
    → PassGrows options second third more → PassGrows options first third (own ++ more)
passes-grow options first second third own more one two = record {
  number = two.number ∙ one.number;
  grows = views_grow options first.has second.has third.has own more one.grows two.grows;
}

pub passes-grow_whole : (options : Options) (first second third : PassState) (own more : List Request) → PassGrows options first second own
    → PassGrowsWhole options second third more → PassGrowsWhole options first third (own ++ more)
passes-grow_whole options first second third own more one two = record {
  number = two.number ∙ one.number;
  whole = whole-after options first.number first.has second.has third.has own more one.grows
      (subst (λ (n : ℕ). GrowsWhole options n second.has third.has more) one.number two.whole);
}

pub pass-grows : (options : Options) (old new : PassState) (own : List Request) → PassGrowsWhole options old new own → PassGrows options old new own
pass-grows options old new own whole = record { number = whole.number; grows = whole.whole.grows }

-- ---- which passes commit

pub has-Contains : (passes : List ℕ) (pass : ℕ) → has passes pass ≡ true ↔ Contains passes pass
has-Contains [] pass = ((λ is. absurd (cc)), λ there. absurd (let below = there.1 in omega arith))
has-Contains (first ∷ others) pass = (
  (λ is. elim (or_cases (first == pass) (has others pass) is) as (λ _. Contains (first ∷ others) pass) [
    | inl same ↦ subst (λ (p : ℕ). Contains (first ∷ others) p) (eqb-true first pass same) (Contains-here first others)
    | inr later ↦ Contains-later first others pass ((has-Contains others pass).0 later)
  ]),
  (λ there. elim (Contains-cases first others pass there) as (λ _. (first == pass) || has others pass ≡ true) [
    | inl same ↦ grind (arith, nat_tests, same)
    | inr later ↦ grind (arith, (has-Contains others pass).1 later)
  ]),
)

of_event : (passes : List ℕ) (history : List HistoryEvent) (place : ℕ) (e : HistoryEvent) → AreOf passes history → slice_get history place ≡ Some e → IsOf passes e
of_event passes history place (event.Commit pass number request) ours there = (has-Contains passes pass).0 (ours.each place pass number request there)
of_event passes history place (event.Publish endpoint revision table) ours there = tt
of_event passes history place (event.Blocked endpoint revision count) ours there = tt

every_at : {X : Type 0} (P : X → Type 0) (xs : List X) → ((k : ℕ) (x : X) → slice_get xs k ≡ Some x → P x) → AllByRecursion P xs
every_at P [] each = tt
every_at P (x ∷ xs) each = (each 0 x refl, every_at P xs (λ k. each (suc k)))

pub are_of-every : (passes : List ℕ) (history : List HistoryEvent) → AreOf passes history → AllByRecursion (IsOf passes) history
are_of-every passes history ours = every_at (IsOf passes) history (λ k e there. of_event passes history k e ours there)

pub are_of-none : (passes : List ℕ) → AreOf passes []
are_of-none passes = record { each = λ place pass number request there. absurd (cc) }

more_of : (passes : List ℕ) (history : List HistoryEvent) (new : HistoryEvent) → AreOf passes history
    → ((pass number : ℕ) (request : Request) → new ≡ event.Commit pass number request → has passes pass ≡ true) → AreOf passes (history ++ new ∷ [])
more_of passes history new ours here = record {
  each = λ place pass number request there.
      elim (get_cases history new (event.Commit pass number request) place there) as (λ _. has passes pass ≡ true) [
        | inl old ↦ ours.each place pass number request old.1
        | inr last ↦ here pass number request last.1
      ];
}

pub are_of-commit : (passes : List ℕ) (history : List HistoryEvent) (pass number : ℕ) (request : Request) → AreOf passes history → has passes pass ≡ true
    → AreOf passes (history ++ event.Commit pass number request ∷ [])
are_of-commit passes history pass number request ours listed =
    more_of passes history (event.Commit pass number request) ours
    (λ other n r same. subst (λ (p : ℕ). has passes p ≡ true) (let one : pass ≡ other = (cc) in one) listed)

pub are_of-publish : (passes : List ℕ) (history : List HistoryEvent) (endpoint : EndpointId) (revision : ℕ) (table : List MapEntry) → AreOf passes history
    → AreOf passes (history ++ event.Publish endpoint revision table ∷ [])
are_of-publish passes history endpoint revision table ours =
    more_of passes history (event.Publish endpoint revision table) ours (λ pass number request same. absurd (cc))

pub are_of-blocked : (passes : List ℕ) (history : List HistoryEvent) (endpoint : EndpointId) (revision count : ℕ) → AreOf passes history
    → AreOf passes (history ++ event.Blocked endpoint revision count ∷ [])
are_of-blocked passes history endpoint revision count ours =
    more_of passes history (event.Blocked endpoint revision count) ours (λ pass number request same. absurd (cc))

-- ---- passes of a list that meet

got_set : {X : Type 0} (xs : List X) (n : ℕ) (new x : X) (k : ℕ) → slice_get (set xs n new) k ≡ Some x
    → ((k ≡ n) × (new ≡ x)) ⊎ ((k ≢ n) × (slice_get xs k ≡ Some x))
got_set [] n new x k there = absurd (cc)
got_set (y ∷ xs) zero new x zero there = inl (refl, (cc))
got_set (y ∷ xs) zero new x (suc k) there = inr ((λ same. omega arith), there)
got_set (y ∷ xs) (suc n) new x zero there = inr ((λ same. omega arith), there)
got_set (y ∷ xs) (suc n) new x (suc k) there =
    elim (got_set xs n new x k there) [
      | inl here ↦ inl (ap suc here.0, here.1)
      | inr other ↦ inr ((λ same. other.0 (let less : k ≡ n = omega (arith, same) in less)), other.1)
    ]

-- The first n passes have been shown the history, and the others are as they were.
pub record FirstMet (options : Options) (history : List HistoryEvent) (n : ℕ) (before after : List PassState) : Type 0 where
  pub one_each : length after ≡ length before
  pub shown : (k : ℕ) (old new : PassState) → k < n → slice_get before k ≡ Some old → slice_get after k ≡ Some new
      → IsShown options history old.number old.has new.has
  pub others : (k : ℕ) (new : PassState) → n ≤ k → slice_get after k ≡ Some new → slice_get before k ≡ Some new

pub none_met : (options : Options) (history : List HistoryEvent) (passes : List PassState) → FirstMet options history 0 passes passes
none_met options history passes = record { one_each = refl; shown = λ k old new below was is. absurd (omega (arith, below)); others = λ k new from is. is }

pub next_met : (options : Options) (history : List HistoryEvent) (n : ℕ) (before after : List PassState) (old new : PassState)
    → FirstMet options history n before after → slice_get after n ≡ Some old → IsShown options history old.number old.has new.has
    → FirstMet options history (n + 1) before (set after n new)
next_met options history n before after old new first there shown = record {
  one_each = length-set after n new ∙ first.one_each;
  shown = λ k was is below at_before at_after. elim (got_set after n new is k at_after) as (λ _. IsShown options history was.number was.has is.has) [
    | inl here ↦
        let stood : slice_get before n ≡ Some old = first.others n old (omega arith) there in
        let same : old ≡ was = one_there before n old was stood (ap (slice_get before) (sym here.0) ∙ at_before) in
        subst (λ (p : PassState). IsShown options history p.number p.has is.has) same
        (subst (λ (p : PassState). IsShown options history old.number old.has p.has) here.1 shown)
    | inr other ↦ let apart = other.0 in first.shown k was is (omega (arith, below, apart)) at_before other.1
  ];
  others = λ k is from at_after. elim (got_set after n new is k at_after) as (λ _. slice_get before k ≡ Some is) [
    | inl here ↦ absurd (omega (arith, here.0, from))
    | inr other ↦ first.others k is (omega (arith, from)) other.1
  ];
}
  where
    one_there : (xs : List PassState) (k : ℕ) (a b : PassState) → slice_get xs k ≡ Some a → slice_get xs k ≡ Some b → a ≡ b
    one_there xs k a b first second = let same : Some a ≡ Some b = sym first ∙ second in cc

each_shown : (options : Options) (history : List HistoryEvent) (before after : List PassState)
    → ((k : ℕ) (old new : PassState) → slice_get before k ≡ Some old → slice_get after k ≡ Some new → IsShown options history old.number old.has new.has)
    → AreShown options history (meetings_of before after)
each_shown options history [] after each = tt
each_shown options history (old ∷ before) [] each = tt
each_shown options history (old ∷ before) (new ∷ after) each =
    (each 0 old new refl refl, each_shown options history before after (λ k. each (suc k)))

-- once all are shown the history, they have met
pub all_met : (options : Options) (passes : List ℕ) (history : List HistoryEvent) (n : ℕ) (before after : List PassState) → AreOf passes history
    → length after ≤ n → FirstMet options history n before after → HaveMet options passes (meetings_of before after)
all_met options passes history n before after ours all first = record {
  history = history;
  shown = each_shown options history before after
      (λ k old new was is. let below = slice_get_within after k new is in first.shown k old new (omega (arith, below, all)) was is);
  commits = are_of-every passes history ours;
}
