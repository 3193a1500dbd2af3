-- What makes an answer of a small output right: tests over its lines, which compute.
use Rattle.std.proofs.Common.{◌≡◌, ℕ, ◌≤◌, ◌<◌, inl, inr, Bool, true, false, not, ◌||◌, nat_le, nat_lt, IsTrue, List, [], ◌∷◌, Contains, take, bytes_eq, cond, Option, None, Some, Ok, refl, ap, sym, ◌∙◌, subst, arith, length-take}
use Rattle.std.specs.List.{list_all}
use Rattle.std.proofs.lemmas.Bool.{leb-true, ltb-true, false≢true, or_cases}
use Rattle.std.proofs.lemmas.List.Elements.{All-contains}
use Rattle.std.proofs.lemmas.List.Sums.{AllPass-from_list_all}
use Rattle.std.proofs.lemmas.Slice.Eq.{bytes_eq-Decides}
use Rattle.pol_mapkey.specs.declared.Word.{Word}
use Rattle.pol_model.specs.Endpoints.{endpoint_of}
use Rattle.pol_model.specs.Remote.{verdict_for}
use Rattle.pol_model.specs.declared.answer.FullSlot.{FullSlot}
use Rattle.pol_model.specs.declared.options.Options.{Options}
use Rattle.pol_model.specs.declared.request.Query.{Query}
use Rattle.pol_model.specs.declared.row.Endpoint.{Endpoint}
use Rattle.pol_model.specs.FullRows.{fits_limit}
use Rattle.pol_model_laws.proofs.Lives.{added-within}
use Rattle.pol_answer.specs.declared.answer.Answer.{Answer}
use Rattle.pol_answer.specs.declared.answer.Answer.TheVariants as answer
use Rattle.pol_script.specs.declared.command.Command.TheVariants as command
use Rattle.pol_run.specs.Spots.{Reading, Spot, stands_before}
use Rattle.pol_run.specs.History.{Commit, history_of, state_at}
use Rattle.pol_run.specs.Moments.{IsMoment, floor, cap}
use Rattle.pol_run.specs.Endpoints.{IsVerdictFor, IsSyncFor, VerdictAnswers, SyncAnswers, has_row, size_at}
use Rattle.pol_run.specs.RightAnswer.{IsRightVerdict, IsRightNotYet, HasRow, IsTooLarge}

-- ---- tests over the elements of a list

passes : {X : Type 0} (p : X → Bool) (xs : List X) (x : X) → list_all p xs ≡ true → Contains xs x → p x ≡ true
passes p xs x all listed = All-contains (λ y. p y ≡ true) xs x (AllPass-from_list_all p xs all) listed

implied : (if_so then : Bool) → (not if_so || then) ≡ true → if_so ≡ true → then ≡ true
implied true then either so = either
implied false then either so = absurd (false≢true so)

-- ---- the order of commits

abbrev ascends : Commit → Commit → Bool
ascends a b = not (stands_before a.spot b.spot) || nat_lt a.number b.number

abbrev pub all_ascend : List Commit → Bool
all_ascend cs = list_all (λ a. list_all (ascends a) cs) cs

pub ascending_from : (cs : List Commit) → all_ascend cs ≡ true → (a b : Commit) → Contains cs a → Contains cs b
    → IsTrue (stands_before a.spot b.spot) → a.number < b.number
ascending_from cs all a b has_a has_b before =
    let here = passes (λ x. list_all (ascends x) cs) cs a all has_a in
    ltb-true a.number b.number (implied (stands_before a.spot b.spot) (nat_lt a.number b.number) (passes (ascends a) cs b here has_b) before)

-- ---- moments

pub moment_at : (spots : List Spot) (spot : Spot) (k : ℕ) → nat_le (floor spots spot) k ≡ true → nat_le k (cap spots spot) ≡ true → IsMoment spots spot k
moment_at spots spot k from to = record { reached = leb-true (floor spots spot) k from; allowed = leb-true k (cap spots spot) to }

-- ---- which maps were seen

-- the line asks for a verdict, and for an endpoint of that name
abbrev pub asks_for : List ℕ → Reading → Bool
asks_for name (Ok (command.Look session query)) = bytes_eq query.endpoint name
asks_for name other = false

-- the line shows no map of one that is newer than the limit
abbrev pub shows_up_to : ℕ → List ℕ → Reading → Answer → Bool
shows_up_to limit name reading (answer.Verdict revision word) = not (asks_for name reading) || nat_le revision limit
shows_up_to limit name reading (answer.Synced revision full) = has_row name full || nat_le revision limit
shows_up_to limit name reading other = true

not_both : (b : Bool) → IsTrue (not b) → b ≡ true → ⊥
not_both true other is = false≢true other
not_both false other is = false≢true is

verdict_up_to : (options : Options) (spots : List Spot) (reading : Reading) (told : Answer) (limit : ℕ) (name : List ℕ) (added seen : ℕ)
    → VerdictAnswers options spots reading told name added seen → shows_up_to limit name reading told ≡ true → seen ≤ limit
verdict_up_to options spots (Ok (command.Look session query)) (answer.Verdict revision word) limit name added seen verdict shows =
    let named = (bytes_eq-Decides query.endpoint name).1 verdict.0 in
    omega (arith, verdict.1, leb-true revision limit (implied (bytes_eq query.endpoint name) (nat_le revision limit) shows named))
verdict_up_to options spots reading other limit name added seen verdict shows = absurd verdict

sync_up_to : (reading : Reading) (told : Answer) (limit : ℕ) (name : List ℕ) (added seen : ℕ)
    → SyncAnswers told name added seen → shows_up_to limit name reading told ≡ true → seen ≤ limit
sync_up_to reading (answer.Synced revision full) limit name added seen sync shows =
    elim (or_cases (has_row name full) (nat_le revision limit) shows) [
      | inl row ↦ absurd (not_both (has_row name full) sync.2 row)
      | inr within ↦ omega (arith, sync.0, leb-true revision limit within)
    ]
sync_up_to reading other limit name added seen sync shows = absurd sync

-- no line shows a map of an endpoint that is older than the endpoint
verdict_since : (options : Options) (spots : List Spot) (reading : Reading) (told : Answer) (name : List ℕ) (added seen : ℕ)
    → VerdictAnswers options spots reading told name added seen → added ≤ seen
verdict_since options spots (Ok (command.Look session query)) (answer.Verdict revision word) name added seen verdict =
    let live = verdict.2 in
    omega (
      arith,
      live.same,
      (added-within options (take seen (history_of spots)) name live.endpoint live.live.found).1,
      length-take seen (history_of spots),
    )
verdict_since options spots reading other name added seen verdict = absurd verdict

sync_since : (told : Answer) (name : List ℕ) (added seen : ℕ) → SyncAnswers told name added seen → added ≤ seen
sync_since (answer.Synced revision full) name added seen sync = sync.1
sync_since other name added seen sync = absurd sync

-- no line before this one shows a newer map
abbrev pub all_show_up_to : ℕ → List ℕ → List Spot → Spot → Bool
all_show_up_to limit name spots spot = list_all (λ other. not (stands_before other spot) || shows_up_to limit name other.reading other.answer) spots

module _ (options : Options) (spots : List Spot) (spot : Spot) (name : List ℕ) (limit : ℕ) (shown : all_show_up_to limit name spots spot ≡ true)
    (other : Spot) (added seen : ℕ) (listed : Contains spots other) (before : IsTrue (stands_before other spot)) where
  shows_here : shows_up_to limit name other.reading other.answer ≡ true
  shows_here =
      implied (stands_before other spot) (shows_up_to limit name other.reading other.answer)
      (passes (λ (x : Spot). not (stands_before x spot) || shows_up_to limit name x.reading x.answer) spots other shown listed) before

  verdict_shown : IsVerdictFor options spots other name added seen → (added ≤ seen) × (seen ≤ limit)
  verdict_shown verdict = (
    verdict_since options spots other.reading other.answer name added seen verdict.verdict,
    verdict_up_to options spots other.reading other.answer limit name added seen verdict.verdict shows_here,
  )

  sync_shown : IsSyncFor other name added seen → (added ≤ seen) × (seen ≤ limit)
  sync_shown sync = (
    sync_since other.answer name added seen sync.sync,
    sync_up_to other.reading other.answer limit name added seen sync.sync shows_here,
  )

module _ (options : Options) (spots : List Spot) (spot : Spot) (query : Query) (revision : ℕ) where
  -- a verdict is right at a moment, where no line before has shown a newer map of an endpoint of its name
  pub verdict_at : (word : Word) (k : ℕ) (e : Endpoint) → IsMoment spots spot k
      → endpoint_of query.endpoint (state_at options spots k).endpoints ≡ Some e → nat_le e.added revision ≡ true → nat_le revision k ≡ true
      → word ≡ verdict_for options (state_at options spots revision) query e
      → IsTrue (fits_limit options.map_max (size_at options spots revision e))
      → all_show_up_to revision query.endpoint spots spot ≡ true
      → IsRightVerdict options spots spot query revision word
  verdict_at word k e is_moment found since to scan fits shown = record {
    moment = k;
    is_moment = is_moment;
    endpoint = e;
    live = record { found = found };
    since_added = leb-true e.added revision since;
    by_moment = leb-true revision k to;
    scan = scan;
    fits = fits;
    verdicts_seen = λ other seen listed before verdict.
        (verdict_shown options spots spot query.endpoint revision shown other e.added seen listed before verdict).1;
    syncs_seen = λ other seen listed before sync.
        (sync_shown options spots spot query.endpoint revision shown other e.added seen listed before sync).1;
  }

  -- `notyet` is, where none has shown one that is as new as the endpoint
  pub not_yet_at : (e : Endpoint) (limit : ℕ) → IsMoment spots spot revision
      → endpoint_of query.endpoint (state_at options spots revision).endpoints ≡ Some e → nat_lt limit e.added ≡ true
      → all_show_up_to limit query.endpoint spots spot ≡ true → IsRightNotYet options spots spot query revision
  not_yet_at e limit is_moment found older shown = record {
    is_moment = is_moment;
    endpoint = e;
    live = record { found = found };
    no_verdict = λ other seen listed before verdict.
        let is = verdict_shown options spots spot query.endpoint limit shown other e.added seen listed before verdict in
        omega (arith, is.0, is.1, ltb-true limit e.added older);
    no_sync = λ other seen listed before sync.
        let is = sync_shown options spots spot query.endpoint limit shown other e.added seen listed before sync in
        omega (arith, is.0, is.1, ltb-true limit e.added older);
  }

-- ---- rows

-- in a list of one endpoint a look-up finds that one
found_if : (x e : Endpoint) (passes : Bool) → cond passes (Some x) None ≡ Some e → (passes ≡ true) × (x ≡ e)
found_if x e true found = (refl, cc)
found_if x e false found = absurd (cc)

pub found_alone : (x e : Endpoint) (name : List ℕ) → endpoint_of name (x ∷ []) ≡ Some e → (x.name ≡ name) × (x ≡ e)
found_alone x e name found =
    let is = found_if x e (bytes_eq x.name name) found in
    ((bytes_eq-Decides x.name name).0 is.0, is.1)

-- where a map has no limit, none is too large
pub none_too_large : (options : Options) (spots : List Spot) (name : List ℕ) (added k : ℕ) → options.map_max ≡ None
    → IsTooLarge options spots name added k → ⊥
none_too_large options spots name added k free large =
    false≢true (subst (λ (limit : Option ℕ). IsTrue (not (fits_limit limit (size_at options spots k large.endpoint)))) free large.too_many)

module _ (options : Options) (spots : List Spot) (name : List ℕ) (added k : ℕ) (x : Endpoint)
    (large : IsTooLarge options spots name added k) (alone : (state_at options spots k).endpoints ≡ x ∷ []) where
  -- the one endpoint that is live is the one whose map is too large
  pub large_alone : (x.name ≡ name) × (x ≡ large.endpoint)
  large_alone =
      found_alone x large.endpoint name
      (subst (λ (endpoints : List Endpoint). endpoint_of name endpoints ≡ Some large.endpoint) alone large.live.found)

  -- so it isn't, where this one's map fits
  pub not_large_alone : IsTrue (fits_limit options.map_max (size_at options spots k x)) → ⊥
  not_large_alone fits =
      not_both (fits_limit options.map_max (size_at options spots k x))
      (subst (λ (e : Endpoint). IsTrue (not (fits_limit options.map_max (size_at options spots k e)))) (sym large_alone.1) large.too_many)
      fits

  -- and a row of it is what it has
  pub row_alone : (full : List FullSlot) (row : FullSlot) → Contains full row → row.name ≡ x.name
      → endpoint_of x.name (state_at options spots row.revision).endpoints ≡ Some x → HasRow options spots full name added
  row_alone full row listed named found = record {
    row = row;
    listed = listed;
    named = named ∙ large_alone.0;
    live = record {
      endpoint = x;
      live = record {
        found = subst (λ (n : List ℕ). endpoint_of n (state_at options spots row.revision).endpoints ≡ Some x) large_alone.0 found;
      };
      same = ap (λ (e : Endpoint). e.added) large_alone.1 ∙ large.same;
    };
  }

pub none_alone : (options : Options) (spots : List Spot) (name : List ℕ) (added k : ℕ) → (state_at options spots k).endpoints ≡ []
    → IsTooLarge options spots name added k → ⊥
none_alone options spots name added k none large =
    let found : None ≡ Some large.endpoint =
    subst (λ (endpoints : List Endpoint). endpoint_of name endpoints ≡ Some large.endpoint) none large.live.found in
    cc
