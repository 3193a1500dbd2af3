-- A walk along a chain, from its newest node to the first that isn't later.
use Rattle.std.proofs.Common.{◌≡◌, ◌≢◌, ℕ, ◌<◌, ◌≤◌, ◌%◌, ◌==◌, nat_eq, Bool, true, false, cond, ◌&&◌, nat_lt, List, [], ◌∷◌, ◌++◌, length, map, filter, Option, Some, None, refl, sym, ap, subst, ◌∙◌, inl, inr, arith}
use Rattle.std.specs.Prelude.{IfSome, option_map}
use Rattle.std.specs.List.{AllByRecursion, IsDistinct, find}
use Rattle.std.proofs.lemmas.Bool.{cases_eq, cases_lt, eq-eqb, ne_eqb, lt-ltb, le-ltb}
use Rattle.std.proofs.lemmas.List.{append_assoc, append-nil}
use Rattle.std.proofs.lemmas.Option.{same_Some}
use Rattle.pol_arena.specs.Twin.{Entry, Twin, IsInUse, IsSound, on_chain, newest_on, entry_of, value_of, older_than}
use Rattle.pol_set_changes.specs.declared.change.SetChange.{SetChange}
use Rattle.pol_set_changes.specs.Log.{is_later_of, since, newest_of, InOrder}
use Rattle.pol_set_changes.specs.Nodes.{values, log_of, found_in, IsKept}
use Rattle.pol_set_changes.specs.Net.{came, went, net}
use Rattle.pol_set_changes.proofs.LogLemmas.{none_later}

-- the entries of a chain from a node on
abbrev pub from_node : Option ℕ → List (Entry SetChange) → List (Entry SetChange)
from_node None es = []
from_node (Some node) [] = []
from_node (Some node) (e ∷ es) = cond (e.node == node) (e ∷ on_chain e.chain es) (from_node (Some node) es)

-- ---- what holds of all nodes holds of the newest of a chain, and of the next older one
newest_among : (P : ℕ → Type 0) (chain : ℕ) (es : List (Entry SetChange)) → AllByRecursion P (map (λ e. e.node) es) → IfSome (newest_on chain es) P
newest_among P chain [] all = tt
newest_among P chain (e ∷ es) all =
    elim (e.chain == chain) as (λ b. IfSome (option_map (λ (f : Entry SetChange). f.node) (cond b (Some e) (find (λ f. f.chain == chain) es))) P) [
      | true ↦ all.0
      | false ↦ newest_among P chain es all.1
    ]

older_among : (P : ℕ → Type 0) (node : ℕ) (es : List (Entry SetChange)) → AllByRecursion P (map (λ e. e.node) es) → IfSome (older_than node es) P
older_among P node [] all = tt
older_among P node (e ∷ es) all =
    elim (e.node == node) as (λ b. IfSome (cond b (newest_on e.chain es) (older_than node es)) P) [
      | true ↦ newest_among P e.chain es all.1
      | false ↦ older_among P node es all.1
    ]

-- a node of the rest isn't the first
past_first : (e : Entry SetChange) (es : List (Entry SetChange)) (next : Option ℕ) → IfSome next (λ node. nat_eq e.node node ≡ false) → from_node next (e ∷ es) ≡ from_node next es
past_first e es None other = refl
past_first e es (Some node) other = rw other refl

-- ---- the walk
pub from_newest : (chain : ℕ) (es : List (Entry SetChange)) → IsDistinct nat_eq (map (λ e. e.node) es) → from_node (newest_on chain es) es ≡ on_chain chain es
unfolding IsDistinct
from_newest chain [] distinct = refl
from_newest chain (e ∷ es) distinct =
    elim (cases_eq e.chain chain) [
      | inl same ↦ rw (eq-eqb e.chain chain same, eq-eqb e.node e.node refl) (ap (λ own. e ∷ on_chain own es) same)
      | inr differs ↦
          rw (ne_eqb e.chain chain differs)
          (past_first e es (newest_on chain es) (newest_among (λ node. nat_eq e.node node ≡ false) chain es distinct.0) ∙ from_newest chain es distinct.1)
    ]

pub from_used : (node : ℕ) (es : List (Entry SetChange)) (e : Entry SetChange) → IsDistinct nat_eq (map (λ f. f.node) es) → entry_of node es ≡ Some e → from_node (Some node) es ≡ e ∷ from_node (older_than node es) es
unfolding IsDistinct
from_used node [] e distinct is = cc
from_used node (f ∷ es) e distinct is =
    elim (cases_eq f.node node) [
      | inl same ↦
          let first : f ≡ e = (let found : Some f ≡ Some e = rw (eq-eqb f.node node same) at is in cc) in
          rw (eq-eqb f.node node same)
          (λ i. first i ∷ sym (past_first f es (newest_on f.chain es) (newest_among (λ own. nat_eq f.node own ≡ false) f.chain es distinct.0) ∙ from_newest f.chain es distinct.1) i)
      | inr differs ↦
          rw (ne_eqb f.node node differs)
          (from_used node es e distinct.1 (rw (ne_eqb f.node node differs) at is)
          ∙ ap (λ rest. e ∷ rest) (sym (past_first f es (older_than node es) (older_among (λ own. nat_eq f.node own ≡ false) node es distinct.0))))
    ]

-- the entry of a node in use
pub used_entry : (node : ℕ) (es : List (Entry SetChange)) (c : SetChange) → value_of node es ≡ Some c → (e : Entry SetChange) × (entry_of node es ≡ Some e) × (e.value ≡ c)
used_entry node es c is =
    elim (entry_of node es) as (λ o. option_map (λ (e : Entry SetChange). e.value) o ≡ Some c → (e : Entry SetChange) × (o ≡ Some e) × (e.value ≡ c)) [
      | None ↦ λ is. cc
      | Some e ↦ λ is. (e, refl, same_Some e.value c is)
    ] is

-- what a node in use adds to what is found from it on
module _ (selector revision node : ℕ) (es : List (Entry SetChange)) (c : SetChange) (distinct : IsDistinct nat_eq (map (λ e. e.node) es)) (is : value_of node es ≡ Some c) where
  abbrev later_from : Option ℕ → List SetChange
  later_from next = found_in selector revision (from_node next es)

  from_change : (P : List (Entry SetChange) → Type 0) → ((e : Entry SetChange) → e.value ≡ c → P (e ∷ from_node (older_than node es) es)) → P (from_node (Some node) es)
  from_change P each =
      let used = used_entry node es c is in
      subst P (sym (from_used node es used.0 distinct used.1)) (each used.0 used.2)

  pub walk_stops : c.revision ≤ revision → later_from (Some node) ≡ []
  walk_stops past =
      from_change (λ fs. found_in selector revision fs ≡ []) (λ e same.
      rw (same, le-ltb revision c.revision past) refl)

  pub walk_takes : revision < c.revision → c.selector ≡ selector → later_from (Some node) ≡ c ∷ later_from (older_than node es)
  walk_takes later own =
      from_change (λ fs. found_in selector revision fs ≡ c ∷ later_from (older_than node es)) (λ e same.
      rw (same, lt-ltb revision c.revision later, eq-eqb c.selector selector own) refl)

  pub walk_passes : revision < c.revision → c.selector ≢ selector → later_from (Some node) ≡ later_from (older_than node es)
  walk_passes later other =
      from_change (λ fs. found_in selector revision fs ≡ later_from (older_than node es)) (λ e same.
      rw (same, lt-ltb revision c.revision later, ne_eqb c.selector selector other) refl)

  pub walk_falls : length (from_node (older_than node es) es) < length (from_node (Some node) es)
  walk_falls = from_change (λ fs. length (from_node (older_than node es) es) < length fs) (λ e same. omega arith)

-- ---- what the walk finds is what a scan of all changes finds
pub and_nothing : (b : Bool) → (b && false) ≡ false
and_nothing true = refl
and_nothing false = refl

pub found_by_scan : (selector revision horizon : ℕ) (es : List (Entry SetChange)) → AllByRecursion (λ e. e.chain ≡ e.value.selector % 65536) es → InOrder horizon (values es)
    → found_in selector revision (on_chain (selector % 65536) es) ≡ filter (is_later_of selector revision) (values es)
found_by_scan selector revision horizon [] placed order = refl
found_by_scan selector revision horizon (e ∷ es) placed order =
    let rest = found_by_scan selector revision horizon es placed.1 order.1 in
    elim (cases_eq e.chain (selector % 65536)) [
      | inl same ↦ elim (cases_lt revision e.value.revision) [
        | inl later ↦
            rw (eq-eqb e.chain (selector % 65536) same, lt-ltb revision e.value.revision later)
            (λ i. cond (e.value.selector == selector) (e.value ∷ rest i) (rest i))
        | inr past ↦
            rw (eq-eqb e.chain (selector % 65536) same)
            (let stops : nat_lt revision e.value.revision ≡ false = le-ltb revision e.value.revision past in
            rw stops (sym (none_later selector revision horizon (values es) order.1 (let next : newest_of horizon (values es) ≤ e.value.revision = order.0 in omega arith))))
      ]
      | inr differs ↦
          let other : (e.value.selector == selector) ≡ false =
          ne_eqb e.value.selector selector (λ same. differs (placed.0 ∙ ap (λ own. own % 65536) same)) in
          rw (ne_eqb e.chain (selector % 65536) differs, other, and_nothing (nat_lt revision e.value.revision)) rest
    ]

-- ---- the walk's invariant: what came and went so far, and what is found from here on, is all that came and went
pub record IsAhead (nodes : Twin SetChange) (selector revision : ℕ) (next : Option ℕ) (came_so_far went_so_far : List ℕ) : Type 0 where
  pub sound : IsSound nodes
  pub used : IfSome next (IsInUse nodes)
  pub all_came : came_so_far ++ came (found_in selector revision (from_node next nodes.ages)) ≡ came (found_in selector revision (on_chain (selector % 65536) nodes.ages))
  pub all_went : went_so_far ++ went (found_in selector revision (from_node next nodes.ages)) ≡ went (found_in selector revision (on_chain (selector % 65536) nodes.ages))

-- the net change by what came and went
pub record IsThere (nodes : Twin SetChange) (selector revision : ℕ) (came_ids went_ids : List ℕ) : Type 0 where
  pub all_came : came_ids ≡ came (found_in selector revision (on_chain (selector % 65536) nodes.ages))
  pub all_went : went_ids ≡ went (found_in selector revision (on_chain (selector % 65536) nodes.ages))

module _ (nodes : Twin SetChange) (selector revision node : ℕ) (c : SetChange) (came_ids went_ids : List ℕ) (ahead : IsAhead nodes selector revision (Some node) came_ids went_ids) (is : value_of node nodes.ages ≡ Some c) where
  pub ahead_taken : revision < c.revision → c.selector ≡ selector → IfSome (older_than node nodes.ages) (IsInUse nodes) → IsAhead nodes selector revision (older_than node nodes.ages) (came_ids ++ c.gained) (went_ids ++ c.lost)
  ahead_taken later own used =
      let found = walk_takes selector revision node nodes.ages c ahead.sound.distinct is later own in
      record {
        sound = ahead.sound;
        used = used;
        all_came = append_assoc came_ids c.gained _ ∙ ap (λ cs. came_ids ++ came cs) (sym found) ∙ ahead.all_came;
        all_went = append_assoc went_ids c.lost _ ∙ ap (λ cs. went_ids ++ went cs) (sym found) ∙ ahead.all_went;
      }

  pub ahead_passed : revision < c.revision → c.selector ≢ selector → IfSome (older_than node nodes.ages) (IsInUse nodes) → IsAhead nodes selector revision (older_than node nodes.ages) came_ids went_ids
  ahead_passed later other used =
      let found = walk_passes selector revision node nodes.ages c ahead.sound.distinct is later other in
      record {
        sound = ahead.sound;
        used = used;
        all_came = ap (λ cs. came_ids ++ came cs) (sym found) ∙ ahead.all_came;
        all_went = ap (λ cs. went_ids ++ went cs) (sym found) ∙ ahead.all_went;
      }

  pub ahead_stopped : c.revision ≤ revision → IsThere nodes selector revision came_ids went_ids
  ahead_stopped past =
      let found = walk_stops selector revision node nodes.ages c ahead.sound.distinct is past in
      record {
        all_came = sym (append-nil came_ids) ∙ ap (λ cs. came_ids ++ came cs) (sym found) ∙ ahead.all_came;
        all_went = sym (append-nil went_ids) ∙ ap (λ cs. went_ids ++ went cs) (sym found) ∙ ahead.all_went;
      }

pub ahead_ended : (nodes : Twin SetChange) (selector revision : ℕ) (came_ids went_ids : List ℕ) → IsAhead nodes selector revision None came_ids went_ids → IsThere nodes selector revision came_ids went_ids
ahead_ended nodes selector revision came_ids went_ids ahead = record {
  all_came = sym (append-nil came_ids) ∙ ahead.all_came;
  all_went = sym (append-nil went_ids) ∙ ahead.all_went;
}

-- what the walk finds is the log's answer
pub since_found : (nodes : Twin SetChange) (count horizon latest spare selector revision : ℕ) → IsKept nodes count horizon latest spare → horizon ≤ revision
    → Some (net selector (found_in selector revision (on_chain (selector % 65536) nodes.ages))) ≡ since (log_of nodes horizon spare) selector revision
since_found nodes count horizon latest spare selector revision kept within =
    rw (le-ltb revision horizon within)
    (ap (λ cs. Some (net selector cs)) (found_by_scan selector revision horizon nodes.ages kept.placed kept.sound.in_order))
