-- The history of a run: what holds of each request that its lines ask for holds of each that is in the history, and none had a fault in the state
-- before it.
use Rattle.std.proofs.Common.{◌≡◌, ℕ, zero, suc, ◌+◌, ◌-◌, ◌<◌, ◌≤◌, ◌==◌, Bool, true, false, cond, List, [], ◌∷◌, ◌++◌, length, take, filter, zip, slice_get, None, Some, Ok, Err, IsTrue, inl, inr, refl, sym, ap, ◌∙◌, subst, arith}
use Rattle.std.specs.List.{AllByRecursion, cons_option}
use Rattle.std.proofs.lemmas.Bool.{eqb-true}
use Rattle.pol_data.proofs.Members.{Contains-from_In, In}
use Rattle.pol_answer.specs.declared.answer.Answer.{Answer}
use Rattle.pol_answer.specs.declared.answer.Answer.TheVariants as answer
use Rattle.pol_model.specs.Fault.{fault_of}
use Rattle.pol_model.specs.declared.options.Options.{Options}
use Rattle.pol_model.specs.declared.request.Request.{Request}
use Rattle.pol_script.specs.declared.command.Command.TheVariants as command
use Rattle.pol_run.proofs.Counting.{carried_once, request_kth, requests_all}
use Rattle.pol_run.proofs.Examples.{some_same}
use Rattle.pol_run.proofs.Indices.{spot_at}
use Rattle.pol_run.proofs.Lists.{every_append, every_contained, every_filtered, every_mapped, every_weaker}
use Rattle.pol_run.specs.History.{Commit, commit_as, commit_at, commit_read, commits_of, history_of, requests_numbered, requests_to, state_at}
use Rattle.pol_run.specs.RightAnswer.{RightAnswer}
use Rattle.pol_run.specs.Run.{IsNumbered}
use Rattle.pol_run.specs.Spots.{Reading, Spot, phase_after, spots_from}

-- ---- from the lines to the history

module _ (P : Request → Type 0) where
  -- where the line asks to commit a request, that has P
  abbrev pub Brings : Reading → Type 0
  Brings (Ok (command.Commit session request)) = P request
  Brings other = Unit {0}

  abbrev IsOf : Commit → Type 0
  IsOf c = P c.request

  commit_as_brings : (spot : Spot) (request : Request) (told : Answer) (cs : List Commit) → P request → AllByRecursion IsOf cs
      → AllByRecursion IsOf (cons_option (commit_as spot request told) cs)
  commit_as_brings spot request (answer.Committed revision identity) cs own others = (own, others)
  commit_as_brings spot request told cs own others = others

  commit_brings : (spot : Spot) (reading : Reading) (cs : List Commit) → Brings reading → AllByRecursion IsOf cs
      → AllByRecursion IsOf (cons_option (commit_read spot reading) cs)
  commit_brings spot (Ok (command.Commit session request)) cs own others = commit_as_brings spot request spot.answer cs own others
  commit_brings spot reading cs own others = others

  commits_bring : (index phase : ℕ) (readings : List Reading) (answers : List Answer) → AllByRecursion Brings readings
      → AllByRecursion IsOf (commits_of (spots_from index phase (zip readings answers)))
  commits_bring index phase [] answers every = tt
  commits_bring index phase (reading ∷ readings) [] every = tt
  commits_bring index phase (reading ∷ readings) (a ∷ answers) every =
      commit_brings (spot_at index phase reading a) reading (commits_of (spots_from (index + 1) (phase_after phase reading) (zip readings answers))) every.0
      (commits_bring (index + 1) (phase_after phase reading) readings answers every.1)

  requests_bring : (m : ℕ) (cs : List Commit) → AllByRecursion IsOf cs → AllByRecursion P (requests_to m cs)
  requests_bring zero cs every = tt
  requests_bring (suc m) cs every =
      every_append P (requests_to m cs) (requests_numbered (suc m) cs) (requests_bring m cs every)
      (every_mapped P (λ (c : Commit). c.request) (filter (λ (c : Commit). c.number == suc m) cs)
      (every_filtered IsOf (λ (c : Commit). c.number == suc m) cs
      (every_weaker IsOf (λ (c : Commit). IsTrue (c.number == suc m) → IsOf c) (λ c own _. own) cs every)))

  -- each request of the history has P
  pub history_brings : (readings : List Reading) (answers : List Answer) → AllByRecursion Brings readings
      → let cs = commits_of (spots_from 0 1 (zip readings answers)) in AllByRecursion P (requests_to (length cs) cs)
  history_brings readings answers every =
      let cs = commits_of (spots_from 0 1 (zip readings answers)) in requests_bring (length cs) cs (commits_bring 0 1 readings answers every)

  pub brought_at : (requests : List Request) (i : ℕ) (request : Request) → AllByRecursion P requests → slice_get requests i ≡ Some request → P request
  brought_at [] i request every is = absurd cc
  brought_at (first ∷ requests) zero request every is = let same : first ≡ request = cc in subst P same every.0
  brought_at (first ∷ requests) (suc i) request every is = brought_at requests i request every.1 is

-- ---- no request of the history had a fault

module _ (options : Options) (whole : List Spot) where
  -- the request of a commit had no fault in the state that the commits before it had made
  abbrev pub HadNoFault : Commit → Type 0
  HadNoFault c = fault_of (state_at options whole (c.number - 1)) c.request ≡ None

  commit_faultless : (index phase : ℕ) (reading : Reading) (told : Answer) (cs : List Commit) → RightAnswer options whole (spot_at index phase reading told) reading told
      → AllByRecursion HadNoFault cs → AllByRecursion HadNoFault (cons_option (commit_at (spot_at index phase reading told)) cs)
  commit_faultless index phase (Ok (command.Commit session request)) (answer.Committed revision identity) cs right others = (right.no_fault, others)
  commit_faultless index phase (Ok (command.Commit session request)) (answer.Refused refused) cs right others = others
  commit_faultless index phase (Err f) told cs right others = others
  commit_faultless index phase (Ok command.Phase) told cs right others = others
  commit_faultless index phase (Ok (command.Sync session)) told cs right others = others
  commit_faultless index phase (Ok (command.Look session query)) told cs right others = others
  commit_faultless index phase (Ok (command.Trace session query)) told cs right others = others
  commit_faultless index phase reading told cs right others = absurd right

  pub commits_faultless : (index phase : ℕ) (readings : List Reading) (answers : List Answer)
      → AllByRecursion (λ (spot : Spot). RightAnswer options whole spot spot.reading spot.answer) (spots_from index phase (zip readings answers))
      → AllByRecursion HadNoFault (commits_of (spots_from index phase (zip readings answers)))
  commits_faultless index phase [] answers right = tt
  commits_faultless index phase (reading ∷ readings) [] right = tt
  commits_faultless index phase (reading ∷ readings) (a ∷ answers) right =
      commit_faultless index phase reading a (commits_of (spots_from (index + 1) (phase_after phase reading) (zip readings answers))) right.0
      (commits_faultless (index + 1) (phase_after phase reading) readings answers right.1)

-- one of the commits that carry a number
abbrev Passing : ℕ → List Commit → Type 0
Passing k cs = (c : Commit) × In c cs × ((c.number == k) ≡ true)

passing_by : (k : ℕ) (c : Commit) (cs : List Commit) (b : Bool) → (c.number == k) ≡ b → (1 ≤ length (filter (λ (d : Commit). d.number == k) cs) → Passing k cs)
    → 1 ≤ length (cond b (c ∷ filter (λ (d : Commit). d.number == k) cs) (filter (λ (d : Commit). d.number == k) cs)) → Passing k (c ∷ cs)
passing_by k c cs true is others some = (c, inl refl, is)
passing_by k c cs false is others some = let found = others some in (found.0, inr found.1, found.2)

first_passing : (k : ℕ) (cs : List Commit) → 1 ≤ length (filter (λ (c : Commit). c.number == k) cs) → Passing k cs
first_passing k [] some = absurd (omega (arith, some))
first_passing k (c ∷ cs) some = passing_by k c cs (c.number == k) refl (first_passing k cs) some

pub get_within : (requests : List Request) (k : ℕ) (request : Request) → slice_get requests k ≡ Some request → k < length requests
get_within [] k request is = absurd cc
get_within (first ∷ requests) zero request is = omega arith
get_within (first ∷ requests) (suc k) request is = omega (arith, get_within requests k request is)

pub take_none : (k : ℕ) (requests : List Request) → slice_get requests k ≡ None → take (suc k) requests ≡ take k requests
take_none zero [] is = refl
take_none (suc k) [] is = refl
take_none zero (first ∷ requests) is = absurd cc
take_none (suc k) (first ∷ requests) is = ap (λ (rest : List Request). first ∷ rest) (take_none k requests is)

pub take_one_more : (k : ℕ) (requests : List Request) (request : Request) → slice_get requests k ≡ Some request
    → take (suc k) requests ≡ take k requests ++ request ∷ []
take_one_more k [] request is = absurd cc
take_one_more zero (first ∷ requests) request is = let same : first ≡ request = cc in ap (λ (x : Request). x ∷ []) same
take_one_more (suc k) (first ∷ requests) request is = ap (λ (rest : List Request). first ∷ rest) (take_one_more k requests request is)

module _ (options : Options) (whole : List Spot) (numbered : IsNumbered (commits_of whole)) (faultless : AllByRecursion (HadNoFault options whole) (commits_of whole)) where
  -- the request at a place of the history had no fault in the state before it
  pub kth_faultless : (k : ℕ) (request : Request) → slice_get (history_of whole) k ≡ Some request → fault_of (state_at options whole k) request ≡ None
  kth_faultless k request is =
      let cs = commits_of whole in
      let all = requests_all cs numbered.from_one numbered.each_once in
      let within : suc k ≤ length cs = omega (arith, all, get_within (history_of whole) k request is) in
      let once = carried_once cs (suc k) numbered.from_one numbered.each_once (omega arith) within in
      let found = first_passing (suc k) cs (omega (arith, once)) in
      let c = found.0 in
      let at = Contains-from_In cs c found.1 in
      let same_number : c.number ≡ suc k = eqb-true c.number (suc k) found.2 in
      let before : c.number - 1 ≡ k = omega (arith, same_number) in
      let there : slice_get (history_of whole) k ≡ Some c.request =
      subst (λ (i : ℕ). slice_get (history_of whole) i ≡ Some c.request) before (request_kth cs c numbered.from_one numbered.each_once at) in
      let same : c.request ≡ request = some_same c.request request (sym there ∙ is) in
      let none : fault_of (state_at options whole (c.number - 1)) c.request ≡ None = every_contained (HadNoFault options whole) cs c faultless at in
      subst (λ (r : Request). fault_of (state_at options whole k) r ≡ None) same
      (subst (λ (i : ℕ). fault_of (state_at options whole i) c.request ≡ None) before none)
