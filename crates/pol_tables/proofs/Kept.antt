-- How endpoints fit together after one has come or gone, and what is found among them.
use Rattle.std.proofs.Common.{◌≡◌, ℕ, ◌<◌, ◌==◌, false, not, cond, nat_le, nat_lt, List, length, map, count_by, Option, None, Some, option_map, refl, sym, ap, ◌∙◌, subst, arith}
use Rattle.std.specs.List.{AllByRecursion, IsDistinct, insert, list_any}
use Rattle.std.specs.Map.{keys_of, lookup, remove_entry, values_of}
use Rattle.std.specs.Str.{bytes_eq}
use Rattle.std.specs.String.{string_bytes, string_eq}
use Rattle.std.specs.declared.string.String.{String}
use Rattle.std.proofs.lemmas.List.Sums.{count_by-le-length}
use Rattle.std.proofs.lemmas.Option.{same_Some}
use Rattle.pol_addr.specs.declared.address.Addr.{Addr}
use Rattle.pol_addr.specs.Address.{same_addr}
use Rattle.pol_addr.specs.contracts.address.AddrPartialEq.TheImpl as addr
use Rattle.pol_addr.proofs.ByFamily.{same_addr-Decides}
use Rattle.pol_data.proofs.Every.{every-insert, every-kept}
use Rattle.pol_model.specs.declared.limits.TheConstants.{ENDPOINTS_MAX}
use Rattle.pol_model.specs.declared.row.Endpoint.{Endpoint}
use Rattle.pol_model.specs.Ascending.{Ascends}
use Rattle.pol_model.specs.Endpoints.{endpoint_of, free_slot, without_endpoint}
use Rattle.pol_model.specs.Numbers.{placed_by}
use Rattle.pol_model.specs.Remote.{endpoint_at}
use Rattle.pol_model.proofs.Ascents.{filter_ascends, placed_ascends}
use Rattle.pol_model.proofs.LeastFree.{least_free-free}
use Rattle.pol_model_laws.proofs.Distinct.{differ_filtered, differ_inserted}
use Rattle.pol_model_laws.proofs.Keyed.{found_by_number}
use Rattle.pol_model_laws.proofs.Membership.{find-In, find-none}
use Rattle.pol_model_laws.proofs.PrefixHolders.{least_free-within}
use Rattle.pol_tables.specs.Tables.{endpoint_in}
use Rattle.pol_tables.specs.Tied.{IsEndpoints, IsKeyed}
use Rattle.pol_tables.proofs.Addresses.{tells_placed, tells_removed}
use Rattle.pol_tables.proofs.ByName.{names_once, removed_by_name}
use Rattle.pol_tables.proofs.Entries.{keyed-remove, values-insert}

abbrev slots : List Endpoint → List ℕ
slots list = map (λ endpoint. endpoint.slot) list

pub values_placed : {A : Type 0} (es new : List (String A × Endpoint)) (endpoint : Endpoint) (key : String A)
    → new ≡ insert es (count_by (λ e. nat_lt e.slot endpoint.slot) (values_of es)) (key, endpoint) → values_of new ≡ placed_by (λ e. e.slot) endpoint (values_of es)
values_placed es new endpoint key put = ap values_of put ∙ values-insert es (count_by (λ e. nat_lt e.slot endpoint.slot) (values_of es)) (key, endpoint)

pub values_left : {A : Type 0} (es new : List (String A × Endpoint)) (old : List (Addr × ℕ)) → IsEndpoints es old → (name : List ℕ)
    → new ≡ remove_entry (λ key. bytes_eq name (string_bytes key)) es → values_of new ≡ without_endpoint name (values_of es)
values_left es new old is name less = ap values_of less ∙ removed_by_name (λ (e : Endpoint). e.name) name es is.keyed is.names

module _ {A : Type 0} (es new : List (String A × Endpoint)) (old now : List (Addr × ℕ)) (is : IsEndpoints es old) (apart : IsDistinct string_eq (keys_of new)) (endpoint : Endpoint) where
  module _ (key : String A) (put : new ≡ insert es (count_by (λ e. nat_lt e.slot endpoint.slot) (values_of es)) (key, endpoint)) where
    pub kept_placed : string_bytes key ≡ endpoint.name → endpoint.slot ≡ free_slot (values_of es) → endpoint.slot < ENDPOINTS_MAX → endpoint_at endpoint.address (values_of es) ≡ None
        → ((address : Addr) → lookup (addr.ghosts.eq address) now ≡ cond (addr.ghosts.eq endpoint.address address) (Some endpoint.slot) (lookup (addr.ghosts.eq address) old)) → IsEndpoints new now
    kept_placed name free few unused updates =
        let list = values_of es in
        let placed = values_placed es new endpoint key put in
        let place = count_by (λ (e : Endpoint). nat_lt e.slot endpoint.slot) list in
        let not_taken : list_any (λ n. n == endpoint.slot) (slots list) ≡ false = subst (λ slot. list_any (λ n. n == slot) (slots list) ≡ false) (sym free) (least_free-free 0 (slots list) is.slots) in
        record {
          keyed = subst (IsKeyed string_bytes (λ e. e.name)) (sym put) (every-insert _ es place (key, endpoint) is.keyed name);
          names = apart;
          slots = subst (λ l. Ascends (slots l)) (sym placed) (placed_ascends (λ e. e.slot) endpoint list is.slots not_taken);
          few = subst (AllByRecursion (λ (e : Endpoint). e.slot < ENDPOINTS_MAX)) (sym placed) (every-insert _ list place endpoint is.few few);
          addresses = subst (λ (l : List Endpoint). IsDistinct same_addr (map (λ e. e.address) l)) (sym placed) (differ_inserted (λ (e : Endpoint). e.address) same_addr-Decides endpoint place list (find-none (λ (e : Endpoint). same_addr e.address endpoint.address) list unused) is.addresses);
          found = λ address. tells_placed old now endpoint list is.found place updates unused address ∙ ap (λ l. option_map (λ (e : Endpoint). e.slot) (endpoint_at address l)) (sym placed);
        }

  module _ (name : List ℕ) (less : new ≡ remove_entry (λ key. bytes_eq name (string_bytes key)) es) where
    pub kept_removed : endpoint_of name (values_of es) ≡ Some endpoint
        → ((address : Addr) → lookup (addr.ghosts.eq address) now ≡ cond (addr.ghosts.eq endpoint.address address) None (lookup (addr.ghosts.eq address) old)) → IsEndpoints new now
    kept_removed there updates =
        let list = values_of es in
        let left = values_left es new old is name less in
        let stays = λ (e : Endpoint). not (bytes_eq e.name name) in
        record {
          keyed = subst (IsKeyed string_bytes (λ e. e.name)) (sym less) (keyed-remove string_bytes (λ (e : Endpoint). e.name) _ es is.keyed);
          names = apart;
          slots = subst (λ l. Ascends (slots l)) (sym left) (filter_ascends (λ e. e.slot) stays list is.slots);
          few = subst (AllByRecursion (λ (e : Endpoint). e.slot < ENDPOINTS_MAX)) (sym left) (every-kept _ stays list is.few);
          addresses = subst (λ (l : List Endpoint). IsDistinct same_addr (map (λ e. e.address) l)) (sym left) (differ_filtered (λ (e : Endpoint). e.address) same_addr-Decides stays list is.addresses);
          found = λ address.
              tells_removed old now endpoint list is.found (λ e. bytes_eq e.name name) (names_once (λ (e : Endpoint). e.name) name es is.keyed is.names) there is.addresses updates address
              ∙ ap (λ l. option_map (λ (e : Endpoint). e.slot) (endpoint_at address l)) (sym left);
        }

-- the slot that an address has is that of its endpoint
pub at_its_slot : (list : List Endpoint) → Ascends (slots list) → (address : Addr) (slot : ℕ) → Some slot ≡ option_map (λ endpoint. endpoint.slot) (endpoint_at address list) → endpoint_in slot list ≡ endpoint_at address list
at_its_slot list ascends address slot told = by (endpoint_at address list) refl told
  where
    by : (o : Option Endpoint) → endpoint_at address list ≡ o → Some slot ≡ option_map (λ endpoint. endpoint.slot) o → endpoint_in slot list ≡ o
    by None is told = absurd (let wrong : ⊥ = cc in wrong)
    by (Some endpoint) is told =
        let same : slot ≡ endpoint.slot = same_Some _ _ told in
        ap (λ n. endpoint_in n list) same ∙ found_by_number (λ e. e.slot) endpoint list ascends (find-In (λ (e : Endpoint). same_addr e.address address) endpoint list is).0

-- the least free slot is no greater than the number of endpoints
pub free_slot-few : (list : List Endpoint) (m : ℕ) → length list < m → free_slot list < m
free_slot-few list m few = omega (arith, few, least_free-within (λ (e : Endpoint). e.slot) 0 list, count_by-le-length (λ (e : Endpoint). nat_le 0 e.slot) list)
