-- The newest change on a selector's chain, and a log before one more change.
use Rattle.std.proofs.Common.{◌≡◌, ◌≢◌, ℕ, zero, suc, ◌<◌, ◌≤◌, ◌%◌, ◌==◌, nat_eq, Bool, true, false, cond, nat_lt, List, [], ◌∷◌, map, take, filter, Some, None, refl, sym, ap, ◌∙◌, arith}
use Rattle.std.specs.List.{AllByRecursion, IsDistinct}
use Rattle.std.proofs.lemmas.Bool.{eq-eqb, le-ltb, ne_eqb}
use Rattle.pol_arena.specs.Twin.{Entry, Twin, newest_on, on_chain, value_of}
use Rattle.pol_set_changes.specs.declared.change.SetChange.{SetChange}
use Rattle.pol_set_changes.specs.Log.{Log, recorded, newest_of, is_later_of, shares_chain, unchanged_since, InOrder, IsSound}
use Rattle.pol_set_changes.specs.Net.{net}
use Rattle.pol_set_changes.specs.Recorded.{StaysUnchanged}
use Rattle.pol_set_changes.specs.Nodes.{values, log_of, IsKept}
use Rattle.pol_set_changes.proofs.LogLemmas.{none_later, revision_at}
use Rattle.pol_set_changes.proofs.Walk.{and_nothing, from_newest, from_node, from_used, used_entry}

-- ---- the chain's nodes have the changes that share the chain
chained : (selector : ℕ) (es : List (Entry SetChange)) → AllByRecursion (λ e. e.chain ≡ e.value.selector % 65536) es → values (on_chain (selector % 65536) es) ≡ filter (shares_chain selector) (values es)
chained selector [] placed = refl
chained selector (e ∷ es) placed =
    by (e.chain == selector % 65536) (shares_chain selector e.value) (ap (λ (own : ℕ). own == selector % 65536) placed.0) (chained selector es placed.1)
  where
    by : (b c : Bool) → b ≡ c → values (on_chain (selector % 65536) es) ≡ filter (shares_chain selector) (values es)
        → values (cond b (e ∷ on_chain (selector % 65536) es) (on_chain (selector % 65536) es)) ≡ cond c (e.value ∷ filter (shares_chain selector) (values es)) (filter (shares_chain selector) (values es))
    by true true same rest = ap (λ cs. e.value ∷ cs) rest
    by false false same rest = rest
    by true false same rest = absurd (let wrong : true ≡ false = same in cc)
    by false true same rest = absurd (let wrong : false ≡ true = same in cc)

module _ (nodes : Twin SetChange) (count horizon latest spare selector : ℕ) (kept : IsKept nodes count horizon latest spare) (distinct : IsDistinct nat_eq (map (λ e. e.node) nodes.ages)) where
  chain_of : values (on_chain (selector % 65536) nodes.ages) ≡ filter (shares_chain selector) (values nodes.ages)
  chain_of = chained selector nodes.ages kept.placed

  pub newest_node : (node : ℕ) (c : SetChange) → newest_on (selector % 65536) nodes.ages ≡ Some node → value_of node nodes.ages ≡ Some c → c.revision ≡ unchanged_since selector (log_of nodes horizon spare)
  newest_node node c is its =
      let used = used_entry node nodes.ages c its in
      let first = sym (from_newest (selector % 65536) nodes.ages distinct) ∙ ap (λ o. from_node o nodes.ages) is ∙ from_used node nodes.ages used.0 distinct used.1 in
      ap (λ (d : SetChange). d.revision) (sym used.2) ∙ ap (λ es. newest_of horizon (values es)) (sym first) ∙ ap (newest_of horizon) chain_of

  pub no_node : newest_on (selector % 65536) nodes.ages ≡ None → horizon ≡ unchanged_since selector (log_of nodes horizon spare)
  no_node is =
      let none = sym (from_newest (selector % 65536) nodes.ages distinct) ∙ ap (λ o. from_node o nodes.ages) is in
      ap (λ es. newest_of horizon (values es)) (sym none) ∙ ap (newest_of horizon) chain_of

-- ---- what is in order
newest_among : (p : SetChange → Bool) (horizon : ℕ) (cs : List SetChange) → InOrder horizon cs → newest_of horizon (filter p cs) ≤ newest_of horizon cs
newest_among p horizon [] order = omega arith
newest_among p horizon (c ∷ cs) order = by (p c) (newest_among p horizon cs order.1)
  where
    by : (b : Bool) → newest_of horizon (filter p cs) ≤ newest_of horizon cs → newest_of horizon (cond b (c ∷ filter p cs) (filter p cs)) ≤ c.revision
    by true rest = omega arith
    by false rest = let next = order.0 in omega arith

-- a set is unchanged since a revision that isn't above the newest change's
pub unchanged_within : (selector : ℕ) (log : Log) → IsSound log → unchanged_since selector log ≤ newest_of log.horizon log.kept
unchanged_within selector log sound = newest_among (shares_chain selector) log.horizon log.kept sound.in_order

horizon_first : (horizon : ℕ) (cs : List SetChange) → InOrder horizon cs → horizon ≤ newest_of horizon cs
horizon_first horizon [] order = omega arith
horizon_first horizon (c ∷ cs) order = let rest = horizon_first horizon cs order.1 in let next = order.0 in omega arith

horizon_within : (p : SetChange → Bool) (horizon : ℕ) (cs : List SetChange) → InOrder horizon cs → horizon ≤ newest_of horizon (filter p cs)
horizon_within p horizon [] order = omega arith
horizon_within p horizon (c ∷ cs) order = by (p c) (horizon_within p horizon cs order.1) (horizon_first horizon (c ∷ cs) order)
  where
    by : (b : Bool) → horizon ≤ newest_of horizon (filter p cs) → horizon ≤ c.revision → horizon ≤ newest_of horizon (cond b (c ∷ filter p cs) (filter p cs))
    by true rest first = first
    by false rest first = rest

-- and since it no change is the selector's
later_on_chain : (selector revision horizon : ℕ) (cs : List SetChange) → InOrder horizon cs → newest_of horizon (filter (shares_chain selector) cs) ≤ revision → filter (is_later_of selector revision) cs ≡ []
later_on_chain selector revision horizon [] order most = refl
later_on_chain selector revision horizon (c ∷ cs) order most = by (shares_chain selector c) refl (later_on_chain selector revision horizon cs order.1) most
  where
    by : (b : Bool) → shares_chain selector c ≡ b → (newest_of horizon (filter (shares_chain selector) cs) ≤ revision → filter (is_later_of selector revision) cs ≡ [])
        → newest_of horizon (cond b (c ∷ filter (shares_chain selector) cs) (filter (shares_chain selector) cs)) ≤ revision → filter (is_later_of selector revision) (c ∷ cs) ≡ []
    by true own rest most = none_later selector revision horizon (c ∷ cs) order most
    by false other rest most =
        rw (ne_eqb c.selector selector (λ same. let wrong = sym (eq-eqb (c.selector % 65536) (selector % 65536) (ap (λ n. n % 65536) same)) ∙ other in cc), and_nothing (nat_lt revision c.revision))
        (rest most)

pub stays_unchanged : StaysUnchanged
stays_unchanged log selector revision sound most =
    let within = horizon_within (shares_chain selector) log.horizon log.kept sound.in_order in
    rw (le-ltb revision log.horizon (omega (arith, within, most)))
    (ap (λ cs. Some (net selector cs)) (later_on_chain selector revision log.horizon log.kept sound.in_order most))

-- what is left out is at most as new as the first of it
among_kept : (p : SetChange → Bool) (at n horizon : ℕ) (cs : List SetChange) → InOrder horizon cs → newest_of (revision_at n cs horizon) (filter p (take n cs)) ≤ at → newest_of horizon (filter p cs) ≤ at
among_kept p at zero horizon [] order most = most
among_kept p at (suc n) horizon [] order most = most
among_kept p at zero horizon (c ∷ cs) order most = let all = newest_among p horizon (c ∷ cs) order in omega arith
among_kept p at (suc n) horizon (c ∷ cs) order most = by (p c) (among_kept p at n horizon cs order.1) most
  where
    by : (b : Bool) → (newest_of (revision_at n cs horizon) (filter p (take n cs)) ≤ at → newest_of horizon (filter p cs) ≤ at)
        → newest_of (revision_at n cs horizon) (cond b (c ∷ filter p (take n cs)) (filter p (take n cs))) ≤ at → newest_of horizon (cond b (c ∷ filter p cs) (filter p cs)) ≤ at
    by true rest most = most
    by false rest most = rest most

-- Where a set is unchanged since a revision before that of a change, the change is of another selector, and the set was unchanged since then.
module _ (selector at : ℕ) (log : Log) (c : SetChange) (sound : IsSound log) (since : unchanged_since selector (recorded log c) ≤ at) (before : at < c.revision) where
  pub unchanged_before : (c.selector ≢ selector) × (unchanged_since selector log ≤ at)
  unchanged_before = by (shares_chain selector c) refl since
    where
      by : (b : Bool) → shares_chain selector c ≡ b
          → newest_of (revision_at 65535 log.kept log.horizon) (cond b (c ∷ filter (shares_chain selector) (take 65535 log.kept)) (filter (shares_chain selector) (take 65535 log.kept))) ≤ at
          → (c.selector ≢ selector) × (unchanged_since selector log ≤ at)
      by true own most = absurd (omega (arith, most, before))
      by false other most = (
        (λ same. let wrong = sym (eq-eqb (c.selector % 65536) (selector % 65536) (ap (λ n. n % 65536) same)) ∙ other in cc),
        among_kept (shares_chain selector) at 65535 log.horizon log.kept sound.in_order most,
      )
