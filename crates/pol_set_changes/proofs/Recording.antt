-- A log before and after one more change.
use Rattle.std.proofs.Common.{◌≡◌, ℕ, suc, ◌+◌, ◌-◌, ◌<◌, ◌≤◌, ◌%◌, min, ◌∷◌, length, take, Option, Some, None, refl, sym, ap, subst, ◌∙◌, inl, inr, arith}
use Rattle.std.specs.Prelude.{slice_get, option_map}
use Rattle.std.specs.Option.{option_map_or}
use Rattle.std.proofs.Math.Nat.{add-sub_cancel}
use Rattle.std.proofs.lemmas.Bool.{cases_lt, lt-ltb, le-ltb}
use Rattle.std.proofs.lemmas.List.{length-map, length-take, take_all, take-map}
use Rattle.std.proofs.lemmas.Option.{slice_get_past, slice_get-map}
use Rattle.pol_data.proofs.Every.{every-take}
use Rattle.pol_arena.specs.Twin.{Entry, Twin, after_push}
use Rattle.pol_set_changes.specs.declared.change.SetChange.{SetChange}
use Rattle.pol_set_changes.specs.Log.{recorded, newest_of, IsSound}
use Rattle.pol_set_changes.specs.Nodes.{values, log_of, IsKept, with_place, horizon_with_place}
use Rattle.pol_set_changes.proofs.LogLemmas.{recorded_sound}

-- the revision of a node's change
revision_of_value : (horizon : ℕ) (o : Option (Entry SetChange)) → option_map_or (λ c. c.revision) (option_map (λ e. e.value) o) horizon ≡ option_map_or (λ e. e.value.revision) o horizon
revision_of_value horizon None = refl
revision_of_value horizon (Some e) = refl

-- ---- room for the changes to come
room_left : (spare count nodes : ℕ) → min spare (65536 - count) ≤ nodes → count < 65536 → 1 ≤ spare → min (spare - 1) (65536 - min 65536 (count + 1)) ≤ nodes - 1
room_left spare count nodes room below some = omega arith

room_full : (spare count nodes : ℕ) → 65536 ≤ count → min (spare - 1) (65536 - min 65536 (count + 1)) ≤ nodes
room_full spare count nodes full = omega arith

count_more : (count len : ℕ) → count ≡ len → len < 65536 → min 65536 (count + 1) ≡ suc len
count_more count len same below = omega arith

count_full : (count len taken : ℕ) → count ≡ len → len ≡ 65536 → taken ≡ min 65535 len → min 65536 (count + 1) ≡ suc taken
count_full count len taken same full is = omega arith

module _ (nodes : Twin SetChange) (count horizon latest spare : ℕ) (kept : IsKept nodes count horizon latest spare) (c : SetChange) (node : ℕ) where
  -- the nodes after the change
  abbrev pub nodes_after : Twin SetChange
  nodes_after = after_push (with_place nodes) (c.selector % 65536) c node

  -- as many as may be are kept, or fewer
  at_most : length nodes.ages ≤ 65536
  at_most = let few = kept.sound.few in let same = length-map nodes.ages (λ (e : Entry SetChange). e.value) in omega arith

  pub log_after : log_of nodes_after (horizon_with_place nodes horizon) (spare - 1) ≡ recorded (log_of nodes horizon spare) c
  log_after =
      let same : length (values nodes.ages) ≡ length nodes.ages = length-map nodes.ages (λ (e : Entry SetChange). e.value) in
      elim (cases_lt (length nodes.ages) 65536) [
        | inl below ↦
            let all : take 65535 (values nodes.ages) ≡ values nodes.ages = take_all 65535 (values nodes.ages) (omega arith) in
            let none : slice_get (values nodes.ages) 65535 ≡ None = slice_get_past (values nodes.ages) 65535 (omega arith) in
            rw (lt-ltb (length nodes.ages) 65536 below)
            (λ i. record {
              kept = c ∷ sym all i;
              horizon = option_map_or (λ (d : SetChange). d.revision) (sym none i) horizon;
              spare = spare - 1;
            })
        | inr above ↦
            let full : length nodes.ages ≡ 65536 = omega (arith, at_most) in
            let last : slice_get (values nodes.ages) 65535 ≡ option_map (λ e. e.value) (slice_get nodes.ages 65535) = slice_get-map (λ (e : Entry SetChange). e.value) nodes.ages 65535 in
            rw (le-ltb (length nodes.ages) 65536 above, full)
            (λ i. record {
              kept = c ∷ sym (take-map (λ (e : Entry SetChange). e.value) 65535 nodes.ages) i;
              horizon = sym (ap (λ o. option_map_or (λ (d : SetChange). d.revision) o horizon) last ∙ revision_of_value horizon (slice_get nodes.ages 65535)) i;
              spare = spare - 1;
            })
      ]

  pub kept_after : newest_of horizon (values nodes.ages) ≤ c.revision → 1 ≤ spare → IsKept nodes_after (min 65536 (count + 1)) (horizon_with_place nodes horizon) c.revision (spare - 1)
  kept_after order some =
      let sound = subst (λ l. IsSound l) (sym log_after) (recorded_sound (log_of nodes horizon spare) c kept.sound order) in
      let chains = λ (_ : 0 < spare - 1). kept.chains some in
      elim (cases_lt (length nodes.ages) 65536) [
        | inl below ↦ record {
          sound = sound;
          newest = refl;
          counted = rw (lt-ltb (length nodes.ages) 65536 below) (count_more count (length nodes.ages) kept.counted below);
          placed = rw (lt-ltb (length nodes.ages) 65536 below) (refl, kept.placed);
          room = rw (lt-ltb (length nodes.ages) 65536 below) (room_left spare count nodes.spare kept.room (rw kept.counted below) some);
          chains = rw (lt-ltb (length nodes.ages) 65536 below) chains;
        }
        | inr above ↦
            let full : length nodes.ages ≡ 65536 = omega (arith, at_most) in
            record {
              sound = sound;
              newest = refl;
              counted = rw (le-ltb (length nodes.ages) 65536 above) (count_full count (length nodes.ages) _ kept.counted full (length-take (length nodes.ages - 1) nodes.ages ∙ ap (λ n. min (n - 1) (length nodes.ages)) full));
              placed = rw (le-ltb (length nodes.ages) 65536 above) (refl, every-take (λ (e : Entry SetChange). e.chain ≡ e.value.selector % 65536) (length nodes.ages - 1) nodes.ages kept.placed);
              room = rw (le-ltb (length nodes.ages) 65536 above, add-sub_cancel nodes.spare 1) (room_full spare count nodes.spare (rw kept.counted above));
              chains = rw (le-ltb (length nodes.ages) 65536 above) chains;
            }
      ]
