-- Commits that carry the next numbers in the order of their lines, and the history that they give.
use Rattle.std.proofs.Common.{◌≡◌, ◌≢◌, ℕ, zero, suc, ◌+◌, ◌≤◌, ◌==◌, true, false, List, [], ◌∷◌, ◌++◌, length, map, take, drop, refl, ap, sym, ◌∙◌, arith}
use Rattle.std.proofs.lemmas.Bool.{eq-eqb, ne_eqb}
use Rattle.std.proofs.lemmas.List.{length-map, take_all, take_at, map-append}
use Rattle.std.specs.Prelude.{⊤}
use Rattle.std.specs.List.{AllByRecursion}
use Rattle.pol_model.specs.declared.request.Request.{Request}
use Rattle.pol_run.specs.Spots.{Spot}
use Rattle.pol_run.specs.History.{Commit, commits_of, requests_numbered, requests_to, history_of}
use Rattle.pol_run.specs.Run.{NumbersDiffer}
use Rattle.pol_run.proofs.Lists.{every_weaker}

-- the commits carry n + 1, n + 2 and so on
abbrev pub IsCountedFrom : ℕ → List Commit → Type 0
IsCountedFrom n [] = ⊤
IsCountedFrom n (c ∷ cs) = (c.number ≡ n + 1) × IsCountedFrom (n + 1) cs

abbrev pub requests_in : List Commit → List Request
requests_in commits = map (λ c. c.request) commits

-- each number is one of those
pub counted_within : (n : ℕ) (cs : List Commit) → IsCountedFrom n cs
    → AllByRecursion (λ c. (n + 1 ≤ c.number) × (c.number ≤ n + length cs)) cs
counted_within n [] counted = tt
counted_within n (c ∷ cs) counted = (
  omega (arith, counted.0),
  every_weaker (λ x. (n + 1 + 1 ≤ x.number) × (x.number ≤ n + 1 + length cs)) (λ x. (n + 1 ≤ x.number) × (x.number ≤ n + suc (length cs)))
      (λ x within. omega (arith, within.0, within.1)) cs (counted_within (n + 1) cs counted.1),
)

-- no number is carried twice
pub counted_differ : (n : ℕ) (cs : List Commit) → IsCountedFrom n cs → NumbersDiffer cs
counted_differ n [] counted = tt
counted_differ n (c ∷ cs) counted = (
  every_weaker (λ x. (n + 1 + 1 ≤ x.number) × (x.number ≤ n + 1 + length cs)) (λ x. c.number ≢ x.number)
      (λ x within. omega (arith, within.0, counted.0)) cs (counted_within (n + 1) cs counted.1),
  counted_differ (n + 1) cs counted.1,
)

-- ---- the history

-- no commit carries a number that came before
none_numbered : (n k : ℕ) (cs : List Commit) → k ≤ n → IsCountedFrom n cs → requests_numbered k cs ≡ []
none_numbered n k [] early counted = refl
none_numbered n k (c ∷ cs) early counted =
    let apart : (c.number == k) ≡ false = ne_eqb c.number k (omega (arith, counted.0)) in
    simp apart (none_numbered (n + 1) k cs (omega arith) counted.1)

-- the commit at index m carries n + m + 1
one_numbered : (n m : ℕ) (cs : List Commit) → IsCountedFrom n cs → requests_numbered (suc (n + m)) cs ≡ take 1 (drop m (requests_in cs))
one_numbered n zero [] counted = refl
one_numbered n (suc m) [] counted = refl
one_numbered n zero (c ∷ cs) counted =
    let same : (c.number == suc (n + 0)) ≡ true = eq-eqb c.number (suc (n + 0)) (omega (arith, counted.0)) in
    let others : requests_numbered (suc (n + 0)) cs ≡ [] = none_numbered (n + 1) (suc (n + 0)) cs (omega arith) counted.1 in
    simp same (ap (λ (rest : List Request). c.request ∷ rest) others)
one_numbered n (suc m) (c ∷ cs) counted =
    let apart : (c.number == suc (n + suc m)) ≡ false = ne_eqb c.number (suc (n + suc m)) (omega (arith, counted.0)) in
    let moved : suc (n + suc m) ≡ suc (n + 1 + m) = omega arith in
    simp apart (ap (λ (k : ℕ). requests_numbered k cs) moved ∙ one_numbered (n + 1) m cs counted.1)

-- one element more of a front
take_one_more : {X : Type 0} (m : ℕ) (xs : List X) → take (suc m) xs ≡ take m xs ++ take 1 (drop m xs)
take_one_more zero xs = refl
take_one_more (suc m) [] = refl
take_one_more (suc m) (x ∷ xs) = ap (λ (rest : List _). x ∷ rest) (take_one_more m xs)

-- the requests of the commits that carry 1 to m are the first m
requests_counted : (m : ℕ) (cs : List Commit) → IsCountedFrom 0 cs → requests_to m cs ≡ take m (requests_in cs)
requests_counted zero cs counted = refl
requests_counted (suc m) cs counted =
    let moved : suc m ≡ suc (0 + m) = omega arith in
    let last : requests_numbered (suc m) cs ≡ take 1 (drop m (requests_in cs)) =
    ap (λ (k : ℕ). requests_numbered k cs) moved ∙ one_numbered 0 m cs counted in
    ap (λ (front : List Request). front ++ requests_numbered (suc m) cs) (requests_counted m cs counted)
    ∙ ap (λ (back : List Request). take m (requests_in cs) ++ back) last
    ∙ sym (take_one_more m (requests_in cs))

-- the history is the requests of the commits, in the order of their lines
pub history_counted : (spots : List Spot) → IsCountedFrom 0 (commits_of spots) → history_of spots ≡ requests_in (commits_of spots)
history_counted spots counted =
    requests_counted (length (commits_of spots)) (commits_of spots) counted
    ∙ take_all (length (commits_of spots)) (requests_in (commits_of spots)) (omega (arith, length-map (commits_of spots) (λ c. c.request)))

-- the requests of the first lines' commits begin it
pub history_front : (spots : List Spot) (front back : List Commit) → commits_of spots ≡ front ++ back → IsCountedFrom 0 (commits_of spots)
    → take (length front) (history_of spots) ≡ requests_in front
history_front spots front back split counted =
    ap (λ (requests : List Request). take (length front) requests)
    (history_counted spots counted ∙ ap (λ (cs : List Commit). requests_in cs) split ∙ map-append (λ c. c.request) front back)
    ∙ take_at (requests_in front) (requests_in back) (length front) (length-map front (λ c. c.request))
