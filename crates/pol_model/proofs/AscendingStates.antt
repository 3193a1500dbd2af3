-- The rows of each state ascend by number, and its endpoints by slot.
use Rattle.std.proofs.Common.{zero, suc, ◌≡◌, ℕ, ◌+◌, ◌<◌, ◌==◌, ◌&&◌, not, Bool, true, false, cond, List, [], ◌∷◌, map, Option, None, Some, nat_lt, refl, arith}
use Rattle.std.specs.List.{AllByRecursion}
use Rattle.pol_addr.specs.declared.network.Prefix.{Prefix}
use Rattle.pol_labels.specs.declared.label.Label.{Label}
use Rattle.pol_model.specs.declared.options.Options.{Options}
use Rattle.pol_model.specs.declared.request.Request.{Request}
use Rattle.pol_model.specs.declared.request.Request.TheVariants.{AddEndpoint, RemoveEndpoint, AddIdentity, RemoveIdentity, Apply, Remove, SetMode}
use Rattle.pol_model.specs.declared.row.IdentityRow.{IdentityRow}
use Rattle.pol_model.specs.State.{State}
use Rattle.pol_model.specs.Ascending.{Ascends}
use Rattle.pol_model.specs.Identities.{held_or_new, is_reserved, reserved_identities, free_number, number_of_labels, labels_held, number_released, recounted}
use Rattle.pol_model.specs.declared.limits.TheConstants.{CLUSTER_FIRST, LOCAL_FIRST}
use Rattle.pol_rule.specs.Prefixes.{policy_prefixes}
use Rattle.pol_model.specs.Prefixes.{number_of_prefix, prefix_held, prefixes_held, prefixes_released}
use Rattle.pol_model.specs.Policies.{policy_at, prefixes_of}
use Rattle.pol_model.specs.After.{start, after, after_all, changed, state_of}
use Rattle.pol_model.proofs.Ascents.{filter_ascends, placed_ascends}
use Rattle.pol_model.proofs.LeastFree.{least_free-free}

-- the rows ascend by number
abbrev pub RowsAscend : List IdentityRow → Type 0
RowsAscend rows = Ascends (map (λ row. row.number) rows)

recounted_if : (b : Bool) (count : ℕ) (row : IdentityRow) → (cond b (record row { holders = count }) row).number ≡ row.number
recounted_if true count row = refl
recounted_if false count row = refl

recounted_numbers : (number : ℕ) (count : ℕ → ℕ) (rows : List IdentityRow) → map (λ row. row.number) (map (recounted number count) rows) ≡ map (λ row. row.number) rows
recounted_numbers number count [] = refl
recounted_numbers number count (row ∷ rows) =
    let here = recounted_if ((row.number == number) && not (is_reserved number)) (count row.holders) row in
    let others = recounted_numbers number count rows in
    rw (here, others) refl

pub recounted_ascend : (number : ℕ) (count : ℕ → ℕ) (rows : List IdentityRow) → RowsAscend rows → RowsAscend (map (recounted number count) rows)
recounted_ascend number count rows ascend = rw (recounted_numbers number count rows) ascend

pub held_ascend : (found : Option ℕ) (new : IdentityRow) (first : ℕ) (rows : List IdentityRow) → new.number ≡ free_number first rows → RowsAscend rows → RowsAscend (held_or_new found new rows)
held_ascend (Some number) new first rows free ascend = recounted_ascend number _ rows ascend
held_ascend None new first rows free ascend =
    placed_ascends (λ row. row.number) new rows ascend (rw free (least_free-free first (map (λ row. row.number) rows) ascend))

pub released_ascend : (number : Option ℕ) (rows : List IdentityRow) → RowsAscend rows → RowsAscend (number_released number rows)
released_ascend None rows ascend = ascend
released_ascend (Some number) rows ascend =
    filter_ascends (λ row. row.number) (λ row. nat_lt 0 row.holders) _ (recounted_ascend number _ rows ascend)

pub labels_ascend : (labels : List Label) (rows : List IdentityRow) → RowsAscend rows → RowsAscend (labels_held labels rows)
labels_ascend labels rows ascend = held_ascend (number_of_labels labels rows) _ CLUSTER_FIRST rows refl ascend

pub prefixes_held_ascend : (prefixes : List Prefix) (rows : List IdentityRow) → RowsAscend rows → RowsAscend (prefixes_held prefixes rows)
prefixes_held_ascend [] rows ascend = ascend
prefixes_held_ascend (prefix ∷ others) rows ascend =
    prefixes_held_ascend others (prefix_held prefix rows) (held_ascend (number_of_prefix prefix rows) _ LOCAL_FIRST rows refl ascend)

pub prefixes_released_ascend : (prefixes : List Prefix) (rows : List IdentityRow) → RowsAscend rows → RowsAscend (prefixes_released prefixes rows)
prefixes_released_ascend [] rows ascend = ascend
prefixes_released_ascend (prefix ∷ others) rows ascend =
    prefixes_released_ascend others _ (released_ascend (number_of_prefix prefix rows) rows ascend)

-- the rows and the endpoints of the state ascend
pub record BothAscend (s : State) : Type 0 where
  pub rows : RowsAscend s.identities
  pub slots : Ascends (map (λ endpoint. endpoint.slot) s.endpoints)

pub changed_ascend : (s : State) (request : Request) → BothAscend s → BothAscend (changed s request)
changed_ascend s (AddEndpoint name labels address) both = record {
  rows = labels_ascend labels s.identities both.rows;
  slots = placed_ascends (λ endpoint. endpoint.slot) _ s.endpoints both.slots (least_free-free 0 _ both.slots);
}
changed_ascend s (RemoveEndpoint name) both = record {
  rows = released_ascend _ s.identities both.rows;
  slots = filter_ascends (λ endpoint. endpoint.slot) _ s.endpoints both.slots;
}
changed_ascend s (AddIdentity name labels) both = record {
  rows = labels_ascend labels s.identities both.rows;
  slots = both.slots;
}
changed_ascend s (RemoveIdentity name) both = record {
  rows = released_ascend _ s.identities both.rows;
  slots = both.slots;
}
changed_ascend s (Apply policy) both = record {
  rows =
      let taken = prefixes_held_ascend (policy_prefixes policy) s.identities both.rows in
      prefixes_released_ascend (prefixes_of (policy_at policy.key s.policies)) (prefixes_held (policy_prefixes policy) s.identities) taken;
  slots = both.slots;
}
changed_ascend s (Remove key) both = record {
  rows = prefixes_released_ascend (prefixes_of (policy_at key s.policies)) s.identities both.rows;
  slots = both.slots;
}
changed_ascend s (SetMode mode) both = record { rows = both.rows; slots = both.slots }

after_all_ascend : (s : State) (requests : List Request) → BothAscend s → BothAscend (after_all s requests)
after_all_ascend s [] both = both
after_all_ascend s (request ∷ requests) both =
    let next = changed_ascend s request both in
    after_all_ascend (after s request) requests (record { rows = next.rows; slots = next.slots })

-- so many numbers from the first on
abbrev numbers_from : ℕ → ℕ → List ℕ
numbers_from first zero = []
numbers_from first (suc count) = first ∷ numbers_from (first + 1) count

numbers_above : (m first count : ℕ) → m < first → AllByRecursion (λ n. m < n) (numbers_from first count)
numbers_above m first zero less = tt
numbers_above m first (suc count) less = (less, numbers_above m (first + 1) count (omega arith))

numbers_ascend : (first count : ℕ) → Ascends (numbers_from first count)
numbers_ascend first zero = tt
numbers_ascend first (suc count) = (numbers_above first (first + 1) count (omega arith), numbers_ascend (first + 1) count)

pub reserved_ascend : RowsAscend reserved_identities
reserved_ascend = numbers_ascend 1 10

start_ascend : (options : Options) → BothAscend (start options)
start_ascend options = record { rows = reserved_ascend; slots = tt }

pub state_rows_ascend : (options : Options) (requests : List Request) → RowsAscend (state_of options requests).identities
state_rows_ascend options requests = (after_all_ascend (start options) requests (start_ascend options)).rows

pub state_slots_ascend : (options : Options) (requests : List Request) → Ascends (map (λ endpoint. endpoint.slot) (state_of options requests).endpoints)
state_slots_ascend options requests = (after_all_ascend (start options) requests (start_ascend options)).slots
