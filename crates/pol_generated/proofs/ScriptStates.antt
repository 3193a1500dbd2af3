-- The states of a generated script: whose labels and which policies they have.
use Rattle.std.proofs.Common.{◌≡◌, ℕ, ◌-◌, ◌+◌, ◌<◌, ◌==◌, ◌&&◌, not, nat_lt, Bool, true, false, cond, List, [], ◌∷◌, map, count_by, codes, Option, None, Some, ◌⊎◌, inl, inr, refl}
use Rattle.std.specs.List.{AllByRecursion}
use Rattle.pol_addr.specs.declared.network.Prefix.{Prefix}
use Rattle.pol_data.proofs.Every.{every-insert, every-kept, every-map, every-weaker}
use Rattle.pol_labels.specs.declared.label.Label.{Label}
use Rattle.pol_model.specs.After.{after, start}
use Rattle.pol_model.specs.Identities.{free_number, held_or_new, is_reserved, number_of_labels, number_released, recounted}
use Rattle.pol_model.specs.Policies.{applied, is_of_key, policy_at, prefixes_of}
use Rattle.pol_model.specs.Prefixes.{number_of_prefix, prefix_held, prefix_released, prefix_row, prefixes_held, prefixes_released}
use Rattle.pol_model.specs.State.{State}
use Rattle.pol_model.specs.Worlds.{reserved_label, world_around}
use Rattle.pol_model.specs.declared.limits.TheConstants.{CLUSTER_FIRST, LOCAL_FIRST}
use Rattle.pol_model.specs.declared.options.Options.{Options}
use Rattle.pol_model.specs.declared.request.Request.{Request}
use Rattle.pol_model.specs.declared.request.Request.TheVariants.{AddEndpoint, Apply}
use Rattle.pol_model.specs.declared.row.IdentityRow.{IdentityRow}
use Rattle.pol_model.specs.declared.row.Stamped.{Stamped}
use Rattle.pol_rule.specs.Plain.{rule_of}
use Rattle.pol_rule.specs.Prefixes.{policy_prefixes}
use Rattle.pol_rule.specs.declared.policy.Policy.{Policy}
use Rattle.pol_rule.specs.declared.policy.Rule.{Rule}
use Rattle.pol_generated.specs.Asked.{entry_of, labels_of, pods_of, policy_key}

-- ---- what a request of the script brings

-- a rule of one entry, which denies or allows
abbrev pub ruling : Bool → ℕ → ℕ → ℕ → ℕ → Rule
ruling denies app from first last =
    cond denies
    (record (rule_of (pods_of app)) { ingress_deny = entry_of from first last ∷ [] })
    (record (rule_of (pods_of app)) { ingress = entry_of from first last ∷ [] })

-- one of 64 policies, with such a rule
pub record IsScriptPolicy (policy : Policy) : Type 0 where
  pub name : ℕ
  pub low : name < 64
  pub denies : Bool
  pub app : ℕ
  pub from : ℕ
  pub first : ℕ
  pub last : ℕ
  pub is : policy ≡ record { key = policy_key name; rules = ruling denies app from first last ∷ [] }

abbrev pub IsScriptRequest : Request → Type 0
IsScriptRequest (AddEndpoint name labels address) = (app : ℕ) × (labels ≡ labels_of app)
IsScriptRequest (Apply policy) = IsScriptPolicy policy
IsScriptRequest _ = ⊥

-- ---- what a state has

-- labels of an application, or the one label of a reserved identity or a world
abbrev pub AreScriptLabels : List Label → Type 0
AreScriptLabels labels = ((name : List ℕ) × (labels ≡ reserved_label name ∷ [])) ⊎ ((app : ℕ) × (labels ≡ labels_of app))

abbrev pub IsScriptRow : IdentityRow → Type 0
IsScriptRow row = AreScriptLabels row.labels

abbrev pub IsScriptStamped : Stamped → Type 0
IsScriptStamped stamped = IsScriptPolicy stamped.policy

pub record IsScriptState (s : State) : Type 0 where
  pub rows : AllByRecursion IsScriptRow s.identities
  pub policies : AllByRecursion IsScriptStamped s.policies

-- ---- rows

recounted_by : (b : Bool) (row : IdentityRow) (count : ℕ) → IsScriptRow row → IsScriptRow (cond b (record row { holders = count }) row)
recounted_by true row count is = is
recounted_by false row count is = is

recounted_rows : (number : ℕ) (count : ℕ → ℕ) (rows : List IdentityRow) → AllByRecursion IsScriptRow rows
    → AllByRecursion IsScriptRow (map (recounted number count) rows)
recounted_rows number count rows all =
    every-map IsScriptRow (recounted number count) rows
    (every-weaker IsScriptRow (λ row. IsScriptRow (recounted number count row))
    (λ row is. recounted_by ((row.number == number) && not (is_reserved number)) row (count row.holders) is) rows all)

held_rows : (o : Option ℕ) (new : IdentityRow) (rows : List IdentityRow) → IsScriptRow new → AllByRecursion IsScriptRow rows
    → AllByRecursion IsScriptRow (held_or_new o new rows)
held_rows (Some number) new rows is all = recounted_rows number (λ count. count + 1) rows all
held_rows None new rows is all =
    every-insert IsScriptRow rows (count_by (λ (row : IdentityRow). nat_lt row.number new.number) rows) new all is

held_prefixes : (prefixes : List Prefix) (rows : List IdentityRow) → AllByRecursion IsScriptRow rows
    → AllByRecursion IsScriptRow (prefixes_held prefixes rows)
held_prefixes [] rows all = all
held_prefixes (prefix ∷ others) rows all =
    held_prefixes others (prefix_held prefix rows)
    (held_rows (number_of_prefix prefix rows) (prefix_row prefix (free_number LOCAL_FIRST rows)) rows (inl ((world_around prefix).name, refl)) all)

released_rows : (o : Option ℕ) (rows : List IdentityRow) → AllByRecursion IsScriptRow rows → AllByRecursion IsScriptRow (number_released o rows)
released_rows None rows all = all
released_rows (Some number) rows all =
    every-kept IsScriptRow (λ (row : IdentityRow). nat_lt 0 row.holders) (map (recounted number (λ count. count - 1)) rows)
    (recounted_rows number (λ count. count - 1) rows all)

released_prefixes : (prefixes : List Prefix) (rows : List IdentityRow) → AllByRecursion IsScriptRow rows
    → AllByRecursion IsScriptRow (prefixes_released prefixes rows)
released_prefixes [] rows all = all
released_prefixes (prefix ∷ others) rows all =
    released_prefixes others (prefix_released prefix rows) (released_rows (number_of_prefix prefix rows) rows all)

-- ---- policies

applied_by : (b : Bool) (new old : Stamped) (others left : List Stamped) → IsScriptStamped new → IsScriptStamped old
    → AllByRecursion IsScriptStamped others → AllByRecursion IsScriptStamped left
    → AllByRecursion IsScriptStamped (cond b (new ∷ others) (old ∷ left))
applied_by true new old others left here there all rest = (here, all)
applied_by false new old others left here there all rest = (there, rest)

applied_policies : (new : Stamped) (policies : List Stamped) → IsScriptStamped new → AllByRecursion IsScriptStamped policies
    → AllByRecursion IsScriptStamped (applied new policies)
applied_policies new [] is all = (is, tt)
applied_policies new (old ∷ others) is all =
    applied_by (is_of_key new.policy.key old) new old others (applied new others) is all.0 all.1 (applied_policies new others is all.1)

-- ---- states

pub script_start : (options : Options) → IsScriptState (start options)
script_start options = record {
  rows = (inl (codes "host", refl), (inl (codes "world", refl), (inl (codes "unmanaged", refl), (inl (codes "health", refl), (inl (codes "init", refl), (inl (codes "remote-node", refl), (inl (codes "kube-apiserver", refl), (inl (codes "ingress", refl), (inl (codes "world-ipv4", refl), (inl (codes "world-ipv6", refl), tt))))))))));
  policies = tt;
}

pub script_after : (s : State) (request : Request) → IsScriptRequest request → IsScriptState s → IsScriptState (after s request)
script_after s (AddEndpoint name labels address) brings is = record {
  rows = held_rows (number_of_labels labels s.identities)
      (record { number = free_number CLUSTER_FIRST s.identities; labels = labels; prefix = None; holders = 1 }) s.identities (inr brings) is.rows;
  policies = is.policies;
}
script_after s (Apply policy) brings is = record {
  rows = released_prefixes (prefixes_of (policy_at policy.key s.policies)) (prefixes_held (policy_prefixes policy) s.identities)
      (held_prefixes (policy_prefixes policy) s.identities is.rows);
  policies = applied_policies (record { policy = policy; stamp = s.revision + 1 }) s.policies brings is.policies;
}
script_after s request brings is = absurd brings
