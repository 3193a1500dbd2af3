-- Numbers from 1 to n that differ, n of them: each is there once.
use Rattle.std.proofs.Common.{◌≡◌, ◌≢◌, ℕ, zero, suc, ◌+◌, ◌-◌, ◌≤◌, ◌<◌, ◌==◌, inl, inr, true, false, List, [], ◌∷◌, ◌++◌, length, filter, slice_get, Contains, get_or, Some, refl, ap, sym, ◌∙◌, subst, arith, length-append}
use Rattle.std.specs.List.{AllByRecursion}
use Rattle.std.proofs.lemmas.List.{length-map}
use Rattle.std.proofs.lemmas.Bool.{cases_eq, eq-eqb, ne_eqb}
use Rattle.pol_model.specs.declared.request.Request.{Request}
use Rattle.pol_run.specs.History.{Commit, requests_numbered, requests_to}
use Rattle.pol_run.specs.Run.{NumbersDiffer}
use Rattle.pol_run.proofs.Lists.{every_weaker, every_contained}

-- the commits that carry a number
abbrev carrying : ℕ → List Commit → List Commit
carrying k cs = filter (λ c. c.number == k) cs

none_carrying : (k : ℕ) (cs : List Commit) → AllByRecursion (λ c. c.number ≢ k) cs → carrying k cs ≡ []
none_carrying k [] apart = refl
none_carrying k (c ∷ cs) apart = let no_match : (c.number == k) ≡ false = ne_eqb c.number k apart.0 in simp no_match (none_carrying k cs apart.1)

others_apart : (c : Commit) (k : ℕ) (cs : List Commit) → c.number ≡ k → AllByRecursion (λ other. c.number ≢ other.number) cs
    → AllByRecursion (λ other. other.number ≢ k) cs
others_apart c k cs is apart =
    every_weaker (λ other. c.number ≢ other.number) (λ other. other.number ≢ k) (λ other differs same. differs (is ∙ sym same)) cs apart

-- a number is carried once at most
once_at_most : (k : ℕ) (cs : List Commit) → NumbersDiffer cs → length (carrying k cs) ≤ 1
once_at_most k [] differ = omega arith
once_at_most k (c ∷ cs) differ =
    elim (cases_eq c.number k) [
      | inl is ↦ let match : (c.number == k) ≡ true = eq-eqb c.number k is in
          simp (match, none_carrying k cs (others_apart c k cs is differ.0)) (omega arith)
      | inr apart ↦ let no_match : (c.number == k) ≡ false = ne_eqb c.number k apart in simp no_match (once_at_most k cs differ.1)
    ]

-- how many carry a number from 1 to m
abbrev carried : ℕ → List Commit → ℕ
carried zero cs = 0
carried (suc m) cs = carried m cs + length (carrying (suc m) cs)

carried_none : (m : ℕ) → carried m [] ≡ 0
carried_none zero = refl
carried_none (suc m) = omega (arith, carried_none m)

carried_past : (m : ℕ) (c : Commit) (cs : List Commit) → m < c.number → carried m (c ∷ cs) ≡ carried m cs
carried_past zero c cs later = refl
carried_past (suc m) c cs later =
    let no_match : (c.number == suc m) ≡ false = ne_eqb c.number (suc m) (omega arith) in
    simp no_match (omega (arith, carried_past m c cs (omega arith)))

carried_more : (m : ℕ) (c : Commit) (cs : List Commit) → 1 ≤ c.number → c.number ≤ m → carried m (c ∷ cs) ≡ carried m cs + 1
carried_more zero c cs positive within = absurd (omega arith)
carried_more (suc m) c cs positive within =
    elim (cases_eq c.number (suc m)) [
      | inl is ↦ let match : (c.number == suc m) ≡ true = eq-eqb c.number (suc m) is in
          simp match (omega (arith, carried_past m c cs (omega arith)))
      | inr apart ↦ let no_match : (c.number == suc m) ≡ false = ne_eqb c.number (suc m) apart in
          simp no_match (omega (arith, carried_more m c cs positive (omega arith)))
    ]

-- where all are from 1 to m, all are counted
all_carried : (m : ℕ) (cs : List Commit) → AllByRecursion (λ c. (1 ≤ c.number) × (c.number ≤ m)) cs → carried m cs ≡ length cs
all_carried m [] within = carried_none m
all_carried m (c ∷ cs) within = omega (arith, carried_more m c cs within.0.0 within.0.1, all_carried m cs within.1)

carried_bound : (m : ℕ) (cs : List Commit) → NumbersDiffer cs → carried m cs ≤ m
carried_bound zero cs differ = omega arith
carried_bound (suc m) cs differ = omega (arith, carried_bound m cs differ, once_at_most (suc m) cs differ)

-- with a number that none carries they are fewer
carried_fewer : (m k : ℕ) (cs : List Commit) → NumbersDiffer cs → 1 ≤ k → k ≤ m → length (carrying k cs) ≡ 0 → carried m cs < m
carried_fewer zero k cs differ positive within none = absurd (omega arith)
carried_fewer (suc m) k cs differ positive within none =
    elim (cases_eq k (suc m)) [
      | inl is ↦ let here : length (carrying (suc m) cs) ≡ 0 = subst (λ (j : ℕ). length (carrying j cs) ≡ 0) is none in
          omega (arith, here, carried_bound m cs differ)
      | inr apart ↦ omega (arith, carried_fewer m k cs differ positive (omega arith) none, once_at_most (suc m) cs differ)
    ]

-- each number from 1 to the count of commits is carried once
pub carried_once : (cs : List Commit) (k : ℕ) → AllByRecursion (λ c. (1 ≤ c.number) × (c.number ≤ length cs)) cs → NumbersDiffer cs
    → 1 ≤ k → k ≤ length cs → length (filter (λ c. c.number == k) cs) ≡ 1
carried_once cs k within differ positive most =
    elim (cases_eq (length (carrying k cs)) 0) [
      | inl none ↦ absurd (omega (arith, carried_fewer (length cs) k cs differ positive most none, all_carried (length cs) cs within))
      | inr some ↦ omega (arith, once_at_most k cs differ, some)
    ]

-- ---- the history

-- the requests of the commits that carry a number, where one of them is known
numbered_at : (k i : ℕ) (c : Commit) (cs : List Commit) → NumbersDiffer cs → i < length cs → get_or cs i c ≡ c → c.number ≡ k
    → requests_numbered k cs ≡ c.request ∷ []
numbered_at k i c [] differ short is carries = absurd (omega arith)
numbered_at k zero c (d ∷ cs) differ short is carries =
    let same : d.number ≡ k = ap (λ (x : Commit). x.number) is ∙ carries in
    let match : (d.number == k) ≡ true = eq-eqb d.number k same in
    simp (match, none_carrying k cs (others_apart d k cs same differ.0)) (ap (λ (x : Commit). x.request ∷ []) is)
numbered_at k (suc i) c (d ∷ cs) differ short is carries =
    let apart : d.number ≢ c.number = every_contained (λ other. d.number ≢ other.number) cs c differ.0 (i, (omega arith), is) in
    let no_match : (d.number == k) ≡ false = ne_eqb d.number k (omega (arith, apart)) in
    simp no_match (numbered_at k i c cs differ.1 (omega arith) is carries)

requests_length : (m : ℕ) (cs : List Commit) → ((k : ℕ) → 1 ≤ k → k ≤ m → length (carrying k cs) ≡ 1) → length (requests_to m cs) ≡ m
requests_length zero cs once = refl
requests_length (suc m) cs once =
    omega (
      arith,
      length-append (requests_to m cs) (requests_numbered (suc m) cs),
      requests_length m cs (λ k positive most. once k positive (omega arith)),
      length-map (carrying (suc m) cs) (λ c. c.request),
      once (suc m) (omega arith) (omega arith),
    )

get_front : {X : Type 0} (xs ys : List X) (i : ℕ) → i < length xs → slice_get (xs ++ ys) i ≡ slice_get xs i
get_front [] ys i short = absurd (omega arith)
get_front (x ∷ xs) ys zero short = refl
get_front (x ∷ xs) ys (suc i) short = get_front xs ys i (omega arith)

get_last : {X : Type 0} (xs : List X) (y : X) (i : ℕ) → length xs ≡ i → slice_get (xs ++ y ∷ []) i ≡ Some y
get_last [] y zero long = refl
get_last [] y (suc i) long = absurd (omega arith)
get_last (x ∷ xs) y zero long = absurd (omega arith)
get_last (x ∷ xs) y (suc i) long = get_last xs y i (omega arith)

request_at : (m k : ℕ) (cs : List Commit) (request : Request) → ((j : ℕ) → 1 ≤ j → j ≤ m → length (carrying j cs) ≡ 1)
    → requests_numbered k cs ≡ request ∷ [] → 1 ≤ k → k ≤ m → slice_get (requests_to m cs) (k - 1) ≡ Some request
request_at zero k cs request once is positive most = absurd (omega arith)
request_at (suc m) k cs request once is positive most =
    let front : length (requests_to m cs) ≡ m = requests_length m cs (λ j from to. once j from (omega arith)) in
    elim (cases_eq k (suc m)) [
      | inl last ↦
          ap (λ (back : List Request). slice_get (requests_to m cs ++ back) (k - 1)) (ap (λ (j : ℕ). requests_numbered j cs) (sym last) ∙ is)
          ∙ get_last (requests_to m cs) request (k - 1) (omega (arith, front))
      | inr apart ↦
          get_front (requests_to m cs) (requests_numbered (suc m) cs) (k - 1) (omega (arith, front))
          ∙ request_at m k cs request (λ j from to. once j from (omega arith)) is positive (omega arith)
    ]

-- the history has as many requests as there are commits
pub requests_all : (cs : List Commit) → AllByRecursion (λ x. (1 ≤ x.number) × (x.number ≤ length cs)) cs → NumbersDiffer cs
    → length (requests_to (length cs) cs) ≡ length cs
requests_all cs within differ = requests_length (length cs) cs (λ j from to. carried_once cs j within differ from to)

-- the request of the commit that carries k is the k-th
pub request_kth : (cs : List Commit) (c : Commit) → AllByRecursion (λ x. (1 ≤ x.number) × (x.number ≤ length cs)) cs → NumbersDiffer cs
    → Contains cs c → slice_get (requests_to (length cs) cs) (c.number - 1) ≡ Some c.request
request_kth cs c within differ listed =
    let range : (1 ≤ c.number) × (c.number ≤ length cs) = every_contained (λ x. (1 ≤ x.number) × (x.number ≤ length cs)) cs c within listed in
    request_at (length cs) c.number cs c.request (λ j from to. carried_once cs j within differ from to)
    (numbered_at c.number listed.0 c cs differ listed.1 listed.2 refl) range.0 range.1
