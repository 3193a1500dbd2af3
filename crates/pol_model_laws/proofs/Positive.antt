-- No identity has the number 0.
use Rattle.std.proofs.Common.{ℕ, ◌<◌, ◌==◌, ◌&&◌, not, Bool, true, false, cond, List, [], ◌∷◌, map, Option, None, Some, nat_lt, arith}
use Rattle.std.proofs.lemmas.List.Elements.{All-cons, All-filter, All-from_recursion, All-map, All-weaker}
use Rattle.std.proofs.lemmas.List.Sorted.{All-permutation, IsPermutation-insert}
use Rattle.std.specs.List.{All}
use Rattle.pol_addr.specs.declared.network.Prefix.{Prefix}
use Rattle.pol_labels.specs.declared.label.Label.{Label}
use Rattle.pol_rule.specs.Prefixes.{policy_prefixes}
use Rattle.pol_model.specs.After.{start, after, after_all, changed, state_of}
use Rattle.pol_model.specs.Identities.{reserved_identities, recounted, is_reserved, held_or_new, number_of_labels, labels_held, number_released}
use Rattle.pol_model.specs.Policies.{policy_at, prefixes_of}
use Rattle.pol_model.specs.Prefixes.{number_of_prefix, prefix_held, prefixes_held, prefixes_released}
use Rattle.pol_model.specs.State.{State}
use Rattle.pol_model.specs.declared.limits.TheConstants.{CLUSTER_FIRST, LOCAL_FIRST}
use Rattle.pol_model.specs.declared.options.Options.{Options}
use Rattle.pol_model.specs.declared.request.Request.{Request}
use Rattle.pol_model.specs.declared.request.Request.TheVariants.{AddEndpoint, RemoveEndpoint, AddIdentity, RemoveIdentity, Apply, Remove, SetMode}
use Rattle.pol_model.specs.declared.row.IdentityRow.{IdentityRow}
use Rattle.pol_model.proofs.LeastFree.{first-le}

abbrev IsPositive : IdentityRow → Type 0
IsPositive row = 0 < row.number

abbrev ArePositive : List IdentityRow → Type 0
ArePositive rows = All IsPositive rows

recounted_positive : (number : ℕ) (count : ℕ → ℕ) (rows : List IdentityRow) → ArePositive rows → ArePositive (map (recounted number count) rows)
recounted_positive number count rows all =
    All-map IsPositive (recounted number count) rows
    (All-weaker IsPositive (λ row. IsPositive (recounted number count row)) (λ row p. same ((row.number == number) && not (is_reserved number)) row p) rows all)
  where
    same : (b : Bool) (row : IdentityRow) → IsPositive row → IsPositive (cond b (record row { holders = count row.holders }) row)
    same true row p = p
    same false row p = p

held_positive : (found : Option ℕ) (new : IdentityRow) (rows : List IdentityRow) → IsPositive new → ArePositive rows → ArePositive (held_or_new found new rows)
held_positive (Some number) new rows own all = recounted_positive number _ rows all
held_positive None new rows own all =
    All-permutation IsPositive (new ∷ rows) _ (IsPermutation-insert rows _ new) (All-cons IsPositive new rows own all)

released_positive : (number : Option ℕ) (rows : List IdentityRow) → ArePositive rows → ArePositive (number_released number rows)
released_positive None rows all = all
released_positive (Some number) rows all = All-filter (λ row. nat_lt 0 row.holders) IsPositive _ (recounted_positive number _ rows all)

labels_positive : (labels : List Label) (rows : List IdentityRow) → ArePositive rows → ArePositive (labels_held labels rows)
labels_positive labels rows all =
    held_positive (number_of_labels labels rows) _ rows (omega (arith, first-le CLUSTER_FIRST (map (λ row. row.number) rows))) all

prefixes_held_positive : (prefixes : List Prefix) (rows : List IdentityRow) → ArePositive rows → ArePositive (prefixes_held prefixes rows)
prefixes_held_positive [] rows all = all
prefixes_held_positive (prefix ∷ others) rows all =
    prefixes_held_positive others (prefix_held prefix rows)
    (held_positive (number_of_prefix prefix rows) _ rows (omega (arith, first-le LOCAL_FIRST (map (λ row. row.number) rows))) all)

prefixes_released_positive : (prefixes : List Prefix) (rows : List IdentityRow) → ArePositive rows → ArePositive (prefixes_released prefixes rows)
prefixes_released_positive [] rows all = all
prefixes_released_positive (prefix ∷ others) rows all =
    prefixes_released_positive others _ (released_positive (number_of_prefix prefix rows) rows all)

changed_positive : (s : State) (request : Request) → ArePositive s.identities → ArePositive (changed s request).identities
changed_positive s (AddEndpoint name labels address) all = labels_positive labels s.identities all
changed_positive s (RemoveEndpoint name) all = released_positive _ s.identities all
changed_positive s (AddIdentity name labels) all = labels_positive labels s.identities all
changed_positive s (RemoveIdentity name) all = released_positive _ s.identities all
changed_positive s (Apply policy) all =
    prefixes_released_positive (prefixes_of (policy_at policy.key s.policies)) _ (prefixes_held_positive (policy_prefixes policy) s.identities all)
changed_positive s (Remove key) all = prefixes_released_positive (prefixes_of (policy_at key s.policies)) s.identities all
changed_positive s (SetMode mode) all = all

after_all_positive : (s : State) (requests : List Request) → ArePositive s.identities → ArePositive (after_all s requests).identities
after_all_positive s [] all = all
after_all_positive s (request ∷ requests) all = after_all_positive (after s request) requests (changed_positive s request all)

pub rows_positive : (options : Options) (requests : List Request) → All (λ (row : IdentityRow). 0 < row.number) (state_of options requests).identities
rows_positive options requests =
    after_all_positive (start options) requests
    (All-from_recursion IsPositive reserved_identities
    (omega arith, (omega arith, (omega arith, (omega arith, (omega arith, (omega arith, (omega arith, (omega arith, (omega arith, (omega arith, tt)))))))))))
