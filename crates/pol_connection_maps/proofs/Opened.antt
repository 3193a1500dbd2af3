-- The open connections by the maps are those by the scan.
use Rattle.std.proofs.Common.{◌≡◌, false, List, [], ◌∷◌, ◌++◌, filter, None, refl}
use Rattle.std.specs.List.{flat_map}
use Rattle.pol_model.specs.declared.options.Options.{Options}
use Rattle.pol_model.specs.State.{State}
use Rattle.pol_port_ranges.specs.Ranges.{all_ports}
use Rattle.pol_connections.specs.declared.end.Connection.{Connection}
use Rattle.pol_connections.specs.Connections.{all_ranges, is_asked, pair_ranges, said_alone}
use Rattle.pol_connections.specs.Ends.{End}
use Rattle.pol_connection_maps.specs.Lists.{open_from, open_list, open_pair}
use Rattle.pol_connection_maps.specs.Seen.{Seen, seen_alone, seen_asked}
use Rattle.pol_connection_maps.proofs.Alike.{Agrees, AllAgree, passed, same_asked, same_halves, same_pair}

module _ (options : Options) (s : State) where
  abbrev pair : End → End → List Connection
  pair from to = pair_ranges all_ports (said_alone options s from to) from to

  open_pairs : (from : End) (sf : Seen) → Agrees options s from sf → (ends : List End) (seen : List Seen) → AllAgree options s ends seen
      → flat_map (open_pair sf) (filter (seen_asked sf) seen) ≡ flat_map (pair from) (filter (is_asked from) ends)
  open_pairs from sf one [] [] all = refl
  open_pairs from sf one [] (x ∷ xs) all = absurd all
  open_pairs from sf one (e ∷ es) [] all = absurd all
  open_pairs from sf one (e ∷ es) (x ∷ xs) all =
      passed (open_pair sf) (pair from) (seen_asked sf) (is_asked from) x e xs es (same_asked options s from e sf x one all.0)
      (same_pair (seen_alone sf x) (said_alone options s from e) from e sf x one.name all.0.name
      (λ proto port small i. record { before = None; after = same_halves options s from e sf x one all.0 proto port small i; halves = false }))
      (open_pairs from sf one es xs all.1)

  open_froms : (ends fs : List End) (seen xs : List Seen) → AllAgree options s ends seen → AllAgree options s fs xs
      → flat_map (open_from seen) xs ≡ flat_map (λ from. flat_map (pair from) (filter (is_asked from) ends)) fs
  open_froms ends [] seen [] all own = refl
  open_froms ends [] seen (x ∷ xs) all own = absurd own
  open_froms ends (f ∷ fs) seen [] all own = absurd own
  open_froms ends (f ∷ fs) seen (x ∷ xs) all own =
      let here = open_pairs f x own.0 ends seen all in
      let rest = open_froms ends fs seen xs all own.1 in
      λ i. here i ++ rest i

  pub opened : (ends : List End) (seen : List Seen) → AllAgree options s ends seen → open_list seen ≡ all_ranges all_ports (said_alone options s) ends
  opened ends seen all = open_froms ends ends seen seen all all
