-- The connections that a change opens or shuts, by the maps, are those by the scan.
use Rattle.std.proofs.Common.{◌≡◌, ℕ, ◌<◌, Bool, true, false, cond, List, [], ◌∷◌, ◌++◌, filter, is_some, Option, None, Some, option_map, refl, sym, ap, subst, ◌∙◌}
use Rattle.std.specs.List.{cons_option, flat_map}
use Rattle.pol_ports.specs.declared.Proto.{Proto}
use Rattle.pol_model.specs.declared.options.Options.{Options}
use Rattle.pol_model.specs.State.{State}
use Rattle.pol_port_ranges.specs.Ranges.{all_ports}
use Rattle.pol_connections.specs.declared.end.Connection.{Connection}
use Rattle.pol_connections.specs.declared.end.EndName.{EndName}
use Rattle.pol_connections.specs.Connections.{all_ranges, halves_before, halves_of, has_end, is_asked, pair_ranges, said_changed}
use Rattle.pol_connections.specs.Ends.{End, end_of, same_name}
use Rattle.pol_connection_maps.specs.Lists.{changed_from, changed_list, changed_pair, kept_ends, seen_of}
use Rattle.pol_connection_maps.specs.Seen.{Kept, Seen, kept_asked, seen_changed}
use Rattle.pol_connection_maps.proofs.Alike.{Agrees, AllAgree, passed, same_asked, same_halves, same_pair}

module _ (halves : Bool) (options : Options) (s t : State) (before : List End) where
  -- an end of the second state, and what is seen of it in both
  record AgreesBoth (end : End) (kept : Kept) : Type 0 where
    old : End
    found : end_of end.name before ≡ Some old
    was : Agrees options s old kept.before
    is : Agrees options t end kept.after
    told : kept.halves ≡ halves

  abbrev BothAgree : List End → List Kept → Type 0
  BothAgree [] [] = Unit {0}
  BothAgree (end ∷ ends) (kept ∷ others) = AgreesBoth end kept × BothAgree ends others
  BothAgree _ _ = ⊥

  same_said : (from to : End) (kf kt : Kept) → AgreesBoth from kf → AgreesBoth to kt → (proto : Proto) (port : ℕ) → port < all_ports
      → seen_changed kf kt proto port ≡ said_changed halves options s before t from to proto port
  same_said from to kf kt one other proto port small =
      let was = same_halves options s one.old other.old kf.before kt.before one.was other.was proto port small in
      let now = same_halves options t from to kf.after kt.after one.is other.is proto port small in
      (λ i. record { before = Some (was i); after = now i; halves = one.told i })
      ∙ sym (λ i. record { before = halves_before options s (one.found i) (other.found i) proto port; after = halves_of options t from to proto port; halves = halves })

  abbrev pair : End → End → List Connection
  pair from to = pair_ranges all_ports (said_changed halves options s before t from to) from to

  pairs : (from : End) (kf : Kept) → AgreesBoth from kf → (ends : List End) (kept : List Kept) → BothAgree ends kept
      → flat_map (changed_pair kf) (filter (kept_asked kf) kept) ≡ flat_map (pair from) (filter (is_asked from) ends)
  pairs from kf one [] [] all = refl
  pairs from kf one [] (x ∷ xs) all = absurd all
  pairs from kf one (e ∷ es) [] all = absurd all
  pairs from kf one (e ∷ es) (x ∷ xs) all =
      passed (changed_pair kf) (pair from) (kept_asked kf) (is_asked from) x e xs es
      (same_asked options t from e kf.after x.after one.is all.0.is)
      (same_pair (seen_changed kf x) (said_changed halves options s before t from e) from e kf.after x.after one.is.name all.0.is.name (same_said from e kf x one all.0))
      (pairs from kf one es xs all.1)

  froms : (ends fs : List End) (kept xs : List Kept) → BothAgree ends kept → BothAgree fs xs
      → flat_map (changed_from kept) xs ≡ flat_map (λ from. flat_map (pair from) (filter (is_asked from) ends)) fs
  froms ends [] kept [] all own = refl
  froms ends [] kept (x ∷ xs) all own = absurd own
  froms ends (f ∷ fs) kept [] all own = absurd own
  froms ends (f ∷ fs) kept (x ∷ xs) all own =
      let here = pairs f x own.0 ends kept all in
      let rest = froms ends fs kept xs all own.1 in
      λ i. here i ++ rest i

-- ---- the ends that both states have
module _ (options : Options) (s : State) (name : EndName) where
  -- what is found by a name in both lists
  abbrev FoundAlike : Option End → Option Seen → Type 0
  FoundAlike None None = Unit {0}
  FoundAlike (Some end) (Some seen) = Agrees options s end seen
  FoundAlike _ _ = ⊥

  found : (ends : List End) (seen : List Seen) → AllAgree options s ends seen → FoundAlike (end_of name ends) (seen_of name seen)
  found [] [] all = tt
  found [] (x ∷ xs) all = absurd all
  found (e ∷ es) [] all = absurd all
  found (e ∷ es) (x ∷ xs) all = by (same_name e.name name) (same_name x.name name) (ap (λ n. same_name n name) all.0.name) (found es xs all.1)
    where
      by : (a b : Bool) → b ≡ a → FoundAlike (end_of name es) (seen_of name xs) → FoundAlike (cond a (Some e) (end_of name es)) (cond b (Some x) (seen_of name xs))
      by true true _ rest = all.0
      by true false wrong rest = absurd (let no : ⊥ = cc in no)
      by false true wrong rest = absurd (let no : ⊥ = cc in no)
      by false false _ rest = rest

module _ (halves : Bool) (options : Options) (s t : State) (before : List End) (was : List Seen) (old : AllAgree options s before was) where
  both : (ends : List End) (seen : List Seen) → AllAgree options t ends seen → BothAgree halves options s t before (filter (has_end before) ends) (kept_ends halves was seen)
  both [] [] all = tt
  both [] (x ∷ xs) all = absurd all
  both (e ∷ es) [] all = absurd all
  both (e ∷ es) (x ∷ xs) all =
      by (end_of e.name before) (seen_of x.name was) refl
      (subst (λ p. FoundAlike options s e.name (end_of e.name before) p) (sym (ap (λ n. seen_of n was) all.0.name)) (found options s e.name before was old))
      (both es xs all.1)
    where
      by : (o : Option End) (p : Option Seen) → end_of e.name before ≡ o → FoundAlike options s e.name o p → BothAgree halves options s t before (filter (has_end before) es) (kept_ends halves was xs)
          → BothAgree halves options s t before (cond (is_some o) (e ∷ filter (has_end before) es) (filter (has_end before) es)) (cons_option (option_map (λ (was : Seen). record { before = was; after = x; halves = halves }) p) (kept_ends halves was xs))
      by None None is alike rest = rest
      by None (Some q) is alike rest = absurd alike
      by (Some d) None is alike rest = absurd alike
      by (Some d) (Some q) is alike rest = (record { old = d; found = is; was = alike; is = all.0; told = refl }, rest)

  pub changed : (ends : List End) (seen : List Seen) → AllAgree options t ends seen
      → changed_list (kept_ends halves was seen) ≡ all_ranges all_ports (said_changed halves options s before t) (filter (has_end before) ends)
  changed ends seen all =
      let all_both = both ends seen all in
      froms halves options s t before (filter (has_end before) ends) (filter (has_end before) ends) (kept_ends halves was seen) (kept_ends halves was seen) all_both all_both
