-- A log keeps the last of all changes, and they tell the net change since the horizon.
use Rattle.std.proofs.Common.{◌≡◌, ℕ, zero, suc, ◌≤◌, cond, List, [], ◌∷◌, take, filter, Some, refl, sym, ap, ◌∙◌, inl, inr, arith}
use Rattle.std.specs.Prelude.{slice_get}
use Rattle.std.specs.Option.{option_map_or}
use Rattle.std.proofs.lemmas.Bool.{cases_lt, lt-ltb, le-ltb}
use Rattle.std.proofs.lemmas.List.{length-take}
use Rattle.pol_set_changes.specs.declared.change.SetChange.{SetChange}
use Rattle.pol_set_changes.specs.Log.{Log, recorded, is_later_of, newest, newest_of, InOrder, IsSound}
use Rattle.pol_set_changes.specs.Net.{net}
use Rattle.pol_set_changes.specs.Recorded.{horizon_of, LogsKeepLast, KeptChangesTell}

-- ---- what is kept
take_take : (n m : ℕ) (cs : List SetChange) → n ≤ m → take n (take m cs) ≡ take n cs
take_take zero m cs within = refl
take_take (suc n) zero cs within = absurd (omega arith)
take_take (suc n) (suc m) [] within = refl
take_take (suc n) (suc m) (c ∷ cs) within = ap (λ ds. c ∷ ds) (take_take n m cs (omega arith))

next_kept : (n : ℕ) (c : SetChange) (kept all : List SetChange) → kept ≡ take n all → take n (c ∷ kept) ≡ take n (c ∷ all)
next_kept zero c kept all keeps = refl
next_kept (suc n) c kept all keeps = ap (λ ds. c ∷ ds) (ap (take n) keeps ∙ take_take n (suc n) all (omega arith))

-- the revision of the change that exactly so many follow, or else this one
abbrev pub revision_at : ℕ → List SetChange → ℕ → ℕ
revision_at n cs other = option_map_or (λ c. c.revision) (slice_get cs n) other

-- the first of the changes that are left out, or where all are kept what was before
left_out : (n : ℕ) (all : List SetChange) → revision_at n (take (suc n) all) (revision_at (suc n) all 0) ≡ revision_at n all 0
left_out n [] = refl
left_out zero (c ∷ all) = refl
left_out (suc n) (c ∷ all) = left_out n all

next_horizon : (n : ℕ) (kept all : List SetChange) (horizon : ℕ) → kept ≡ take (suc n) all → horizon ≡ revision_at (suc n) all 0 → revision_at n kept horizon ≡ revision_at n all 0
next_horizon n kept all horizon keeps is = (λ i. revision_at n (keeps i) (is i)) ∙ left_out n all

pub logs_keep_last : LogsKeepLast
logs_keep_last = record {
  first = record { kept = refl; horizon = refl };
  next = λ log all c keeps. record {
    kept = next_kept 65536 c log.kept all keeps.kept;
    horizon = next_horizon 65535 log.kept all log.horizon keeps.kept keeps.horizon;
  };
}

-- ---- a log stays in order
order_kept : (n horizon : ℕ) (cs : List SetChange) → InOrder horizon cs → (newest_of (revision_at n cs horizon) (take n cs) ≡ newest_of horizon cs) × InOrder (revision_at n cs horizon) (take n cs)
order_kept zero horizon [] order = (refl, tt)
order_kept (suc n) horizon [] order = (refl, tt)
order_kept zero horizon (c ∷ cs) order = (refl, tt)
order_kept (suc n) horizon (c ∷ cs) order =
    let rest = order_kept n horizon cs order.1 in
    (refl, (rw rest.0 order.0, rest.1))

pub recorded_sound : (log : Log) (c : SetChange) → IsSound log → newest log ≤ c.revision → IsSound (recorded log c)
recorded_sound log c sound order =
    let rest = order_kept 65535 log.horizon log.kept sound.in_order in
    record {
      few = omega (arith, length-take 65535 log.kept);
      in_order = (rw rest.0 order, rest.1);
    }

-- ---- what is left out isn't later than the horizon
pub none_later : (selector revision horizon : ℕ) (cs : List SetChange) → InOrder horizon cs → newest_of horizon cs ≤ revision → filter (is_later_of selector revision) cs ≡ []
none_later selector revision horizon [] order most = refl
none_later selector revision horizon (c ∷ cs) order most =
    let next : newest_of horizon cs ≤ c.revision = order.0 in
    rw (le-ltb revision c.revision most) (none_later selector revision horizon cs order.1 (omega arith))

kept_tell : (selector revision n : ℕ) (cs : List SetChange) → InOrder 0 cs → revision_at n cs 0 ≤ revision → filter (is_later_of selector revision) (take n cs) ≡ filter (is_later_of selector revision) cs
kept_tell selector revision zero [] order most = refl
kept_tell selector revision (suc n) [] order most = refl
kept_tell selector revision zero (c ∷ cs) order most = sym (none_later selector revision 0 (c ∷ cs) order most)
kept_tell selector revision (suc n) (c ∷ cs) order most =
    let rest = kept_tell selector revision n cs order.1 most in
    λ i. cond (is_later_of selector revision c) (c ∷ rest i) (rest i)

pub kept_changes_tell : KeptChangesTell
kept_changes_tell log all keeps order selector revision =
    rw (keeps.horizon, keeps.kept)
    (elim (cases_lt revision (horizon_of all)) [
      | inl below ↦ rw (lt-ltb revision (horizon_of all) below) refl
      | inr above ↦
          rw (le-ltb revision (horizon_of all) above)
          (ap (λ cs. Some (net selector cs)) (kept_tell selector revision 65536 all order above))
    ])
