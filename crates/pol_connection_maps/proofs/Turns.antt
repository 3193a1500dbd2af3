-- Turns of loops that go from the last element to the first.
use Rattle.std.proofs.Common.{◌≡◌, ℕ, ◌+◌, ◌-◌, ◌<◌, ◌≤◌, List, [], ◌∷◌, drop, get_or, length, map, refl, sym, ap, ◌∙◌, arith}
use Rattle.std.specs.BTreeSet.{insert_key}
use Rattle.std.proofs.lemmas.List.{drop_more}
use Rattle.pol_addr.specs.contracts.network.PrefixOrd.TheImpl as prefix_ord
use Rattle.pol_addr.specs.declared.network.Prefix.{Prefix}
use Rattle.pol_addr.specs.Order.{prefix_cmp}
use Rattle.pol_addr.proofs.Order.{cmp-prefix_cmp}
use Rattle.pol_model.specs.declared.row.Endpoint.{Endpoint}
use Rattle.pol_connections.specs.Regions.{prefixes_in_order}
use Rattle.pol_connection_maps.specs.EndRows.{endpoint_row, number_row}

-- the element before those behind it
pub split_before : {X : Type 0} (xs : List X) (i : ℕ) (x : X) → 0 < i → i ≤ length xs → x ≡ get_or xs (i - 1) x → drop (i - 1) xs ≡ x ∷ drop i xs
split_before xs i x some within is =
    let next : i - 1 + 1 ≡ i = omega arith in
    drop_more xs (i - 1) x (omega arith) ∙ (λ j. sym is j ∷ drop (next j) xs)

pub same_order : prefix_ord.ghosts.cmp ≡ prefix_cmp
same_order i p q = cmp-prefix_cmp p q i

pub region_more : (prefix : Prefix) (prefixes keys new : List Prefix) → keys ≡ prefixes_in_order prefixes → new ≡ insert_key prefix_ord.ghosts.cmp keys prefix → new ≡ prefixes_in_order (prefix ∷ prefixes)
unfolding prefixes_in_order
region_more prefix prefixes keys new so_far made = made ∙ (λ i. insert_key (same_order i) (so_far i) prefix)

-- ---- endpoints by name
pub number_rows : (endpoints : List Endpoint) → map number_row (map (λ (endpoint : Endpoint). (endpoint.name, endpoint.identity)) endpoints) ≡ map endpoint_row endpoints
number_rows [] = refl
number_rows (endpoint ∷ endpoints) = ap (λ rows. endpoint_row endpoint ∷ rows) (number_rows endpoints)

pub no_region : (keys : List Prefix) → keys ≡ [] → keys ≡ prefixes_in_order []
unfolding prefixes_in_order
no_region keys none = none
