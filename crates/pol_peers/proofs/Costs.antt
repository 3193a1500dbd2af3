-- How many match steps a hold takes.
use Rattle.std.proofs.Common.{◌≡◌, ℕ, ◌+◌, ◌*◌, ◌≤◌, List, [], ◌∷◌, ◌++◌, sym, ap, ◌∙◌, arith}
use Rattle.std.proofs.lemmas.List.Sums.{sum_by-append, sum_by-cons}
use Rattle.pol_rule.specs.declared.policy.Peer.{Peer}
use Rattle.pol_selcache.specs.Held.{steps_of}
use Rattle.pol_peers.specs.References.{steps_to_hold}

joined : (old loop new taken one all : ℕ) → loop ≤ old + taken → new ≤ loop + one → all ≡ taken + one → new ≤ old + all
joined old loop new taken one all so_far step sum = omega (arith, so_far, step, sum)

one_more : (peers : List Peer) (p : Peer) (rows : ℕ) → steps_to_hold (peers ++ p ∷ []) rows ≡ steps_to_hold peers rows + steps_of p * rows
one_more peers p rows =
    sum_by-append (λ p. steps_of p * rows) peers (p ∷ [])
    ∙ ap (λ n. steps_to_hold peers rows + n) (sum_by-cons (λ p. steps_of p * rows) p [] ∙ none_more (steps_of p * rows))
  where
    none_more : (n : ℕ) → n + 0 ≡ n
    none_more n = omega arith

-- one peer more
pub cost_more : (peers : List Peer) (p : Peer) (rows old loop new : ℕ) → loop ≤ old + steps_to_hold peers rows → new ≤ loop + steps_of p * rows → new ≤ old + steps_to_hold (peers ++ p ∷ []) rows
cost_more peers p rows old loop new so_far step =
    joined old loop new (steps_to_hold peers rows) (steps_of p * rows) (steps_to_hold (peers ++ p ∷ []) rows) so_far step (one_more peers p rows)

-- the first of the peers take no more than all of them
pub cost_of_all : (first others all : List Peer) (rows old new : ℕ) → first ++ others ≡ all → new ≤ old + steps_to_hold first rows → new ≤ old + steps_to_hold all rows
cost_of_all first others all rows old new are so_far =
    wider (steps_to_hold first rows) (steps_to_hold others rows) (steps_to_hold all rows)
    (ap (λ peers. steps_to_hold peers rows) (sym are) ∙ sum_by-append (λ p. steps_of p * rows) first others) so_far
  where
    wider : (a b c : ℕ) → c ≡ a + b → new ≤ old + a → new ≤ old + c
    wider a b c sum some = omega (arith, sum, some)
