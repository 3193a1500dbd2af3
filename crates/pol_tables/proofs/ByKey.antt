-- Policies under their keys.
use Rattle.std.proofs.Common.{zero, suc, ◌≡◌, ℕ, ◌+◌, ◌⊎◌, true, false, cond, List, [], ◌∷◌, ◌++◌, remove, slice_set, None, Some, inl, inr, refl, sym, ap, ◌∙◌, subst}
use Rattle.std.specs.List.{AllByRecursion}
use Rattle.std.specs.Map.{lookup}
use Rattle.std.proofs.lemmas.Bool.{cases_Bool}
use Rattle.std.proofs.lemmas.List.{length-set}
use Rattle.pol_rule.specs.declared.policy.PolicyKey.{PolicyKey}
use Rattle.pol_rule.specs.Keys.{same_key}
use Rattle.pol_rule.specs.contracts.policy.PolicyKeyPartialEq.TheImpl as policy_key
use Rattle.pol_rule.proofs.Equality.{policy_key_eq-Decides}
use Rattle.pol_model.specs.declared.row.Stamped.{Stamped}
use Rattle.pol_model.specs.Policies.{applied, is_of_key}
use Rattle.pol_tables.specs.Numbered.{number_of, place_of}
use Rattle.pol_tables.specs.Tied.{ArePolicies}
use Rattle.pol_model_laws.proofs.PolicyHolders.{same_key-Decides}
use Rattle.pol_tables.proofs.Deciding.{same_tests}
use Rattle.pol_tables.proofs.Places.{ascends-push, ascends-remove, later_of, length-gone, length-push, less_push, less_remove, nobody, number_gone, number_push, number_set, number_stays, once-push, once-remove, once-set, zero_of}

one_test : (key other : PolicyKey) → policy_key.ghosts.eq key other ≡ same_key key other
one_test key other = same_tests policy_key_eq-Decides same_key-Decides key other

-- the policy of that key, or a test of another one of it
key_is : (key : PolicyKey) (one : Stamped) → is_of_key key one ≡ true → one.policy.key ≡ key
key_is key one here = (same_key-Decides one.policy.key key).0 here

same_tested : (new one : Stamped) → is_of_key new.policy.key one ≡ true → (key : PolicyKey) → is_of_key key new ≡ is_of_key key one
same_tested new one here key = ap (λ k. same_key k key) (sym (key_is new.policy.key one here))

module _ (new : Stamped) where
  -- in its place the policy is applied
  pub applied_at : (rows : List Stamped) (i : ℕ) → place_of (is_of_key new.policy.key) rows ≡ Some i → slice_set rows i new ≡ applied new rows
  applied_at [] i is = absurd cc
  applied_at (row ∷ rows) zero is =
      let here = zero_of (is_of_key new.policy.key) (is_of_key new.policy.key row) (place_of (is_of_key new.policy.key) rows) is in
      rw here refl
  applied_at (row ∷ rows) (suc i) is =
      let other = later_of (is_of_key new.policy.key) (is_of_key new.policy.key row) (place_of (is_of_key new.policy.key) rows) i is in
      rw other.0 (ap (λ others. row ∷ others) (applied_at rows i other.1))

  last_of_none : (rows : List Stamped) → AllByRecursion (λ row. is_of_key new.policy.key row ≡ false) rows → rows ++ new ∷ [] ≡ applied new rows
  last_of_none [] none = refl
  last_of_none (row ∷ rows) none = rw none.0 (ap (λ others. row ∷ others) (last_of_none rows none.1))

  pub applied_last : (rows : List Stamped) → place_of (is_of_key new.policy.key) rows ≡ None → rows ++ new ∷ [] ≡ applied new rows
  applied_last rows none = last_of_none rows (nobody (is_of_key new.policy.key) rows none)

  pub stands-replaced : (rows : List Stamped) (arrivals : List ℕ) (next : ℕ) (by_key : List (PolicyKey × ℕ)) (i : ℕ) → ArePolicies rows arrivals next by_key → place_of (is_of_key new.policy.key) rows ≡ Some i
      → ArePolicies (slice_set rows i new) arrivals next by_key
  stands-replaced rows arrivals next by_key i is at =
      record {
        long = is.long ∙ sym (length-set rows i new);
        ascend = is.ascend;
        less = is.less;
        once = λ key. once-set (is_of_key new.policy.key) (is_of_key key) new rows i at (λ one here. same_tested new one here key) (is.once key);
        found = λ key. is.found key ∙ sym (number_set (is_of_key new.policy.key) (is_of_key key) new rows arrivals i at (λ one here. same_tested new one here key));
      }

  pub stands-pushed : (rows : List Stamped) (arrivals : List ℕ) (next : ℕ) (old now : List (PolicyKey × ℕ)) → ArePolicies rows arrivals next old → place_of (is_of_key new.policy.key) rows ≡ None
      → ((key : PolicyKey) → lookup (policy_key.ghosts.eq key) now ≡ cond (policy_key.ghosts.eq new.policy.key key) (Some next) (lookup (policy_key.ghosts.eq key) old))
      → ArePolicies (rows ++ new ∷ []) (arrivals ++ next ∷ []) (next + 1) now
  stands-pushed rows arrivals next old now is none updates =
      record {
        long = length-push next arrivals ∙ ap (λ n. n + 1) is.long ∙ sym (length-push new rows);
        ascend = ascends-push next arrivals is.less is.ascend;
        less = less_push next arrivals is.less;
        once = λ key. once-push (λ row. false) (is_of_key key) new rows (free key) (is.once key);
        found = λ key. updates key
            ∙ (λ i. cond (one_test new.policy.key key i) (Some next) (is.found key i))
            ∙ sym (number_push (λ row. false) (is_of_key key) new next rows arrivals is.long (free key));
      }
    where
      free : (key : PolicyKey) → is_of_key key new ≡ true → AllByRecursion (λ row. is_of_key key row ≡ false) rows
      free key here = subst (λ k. AllByRecursion (λ row. is_of_key k row ≡ false) rows) (key_is key new here) (nobody (is_of_key new.policy.key) rows none)

pub stands-gone : (key : PolicyKey) (rows : List Stamped) (arrivals : List ℕ) (next : ℕ) (old now : List (PolicyKey × ℕ)) (i : ℕ) → ArePolicies rows arrivals next old → place_of (is_of_key key) rows ≡ Some i
    → ((other : PolicyKey) → lookup (policy_key.ghosts.eq other) now ≡ cond (policy_key.ghosts.eq key other) None (lookup (policy_key.ghosts.eq other) old))
    → ArePolicies (remove rows i) (remove arrivals i) next now
stands-gone key rows arrivals next old now i is at updates =
    record {
      long = length-gone arrivals rows i is.long;
      ascend = ascends-remove arrivals i is.ascend;
      less = less_remove next arrivals i is.less;
      once = λ other. once-remove (is_of_key other) rows i (is.once other);
      found = λ other. updates other ∙ found other (cases_Bool (policy_key.ghosts.eq key other));
    }
  where
    found : (other : PolicyKey) → (policy_key.ghosts.eq key other ≡ true) ⊎ (policy_key.ghosts.eq key other ≡ false)
        → cond (policy_key.ghosts.eq key other) None (lookup (policy_key.ghosts.eq other) old) ≡ number_of (is_of_key other) (remove rows i) (remove arrivals i)
    found other (inl same) =
        let one : key ≡ other = (policy_key_eq-Decides key other).0 same in
        ap (λ b. cond b None (lookup (policy_key.ghosts.eq other) old)) same
        ∙ subst (λ k. None ≡ number_of (is_of_key k) (remove rows i) (remove arrivals i)) one (sym (number_gone (is_of_key key) rows arrivals i at (is.once key)))
    found other (inr differ) =
        ap (λ b. cond b None (lookup (policy_key.ghosts.eq other) old)) differ
        ∙ is.found other
        ∙ sym (number_stays (is_of_key key) (is_of_key other) rows arrivals i is.long at (λ one here. ap (λ k. same_key k other) (key_is key one here) ∙ sym (one_test key other) ∙ differ))
