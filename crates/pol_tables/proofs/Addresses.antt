-- The index by address, as an endpoint comes and goes.
use Rattle.std.proofs.Common.{◌≡◌, ℕ, Bool, true, false, not, cond, List, map, filter, find, Option, None, Some, option_map, inl, inr, refl, sym, ap, ◌∙◌}
use Rattle.std.specs.List.{IsDistinct, insert}
use Rattle.std.specs.Map.{lookup}
use Rattle.std.proofs.lemmas.Bool.{both_ways, cases_Bool, false_from_ne_true}
use Rattle.pol_addr.specs.declared.address.Addr.{Addr}
use Rattle.pol_addr.specs.Address.{same_addr}
use Rattle.pol_addr.specs.contracts.address.AddrPartialEq.TheImpl as addr
use Rattle.pol_addr.proofs.ByFamily.{same_addr-Decides}
use Rattle.pol_addr.proofs.Equality.{addr_eq-Decides}
use Rattle.pol_data.proofs.Members.{every-from_in}
use Rattle.pol_model.specs.declared.row.Endpoint.{Endpoint}
use Rattle.pol_model.specs.Remote.{endpoint_at}
use Rattle.pol_model_laws.proofs.Distinct.{one_of_key}
use Rattle.pol_model_laws.proofs.Membership.{In-filter, find-In}
use Rattle.pol_tables.proofs.Deciding.{same_tests}
use Rattle.pol_tables.specs.Numbered.{PassOnce}
use Rattle.pol_tables.proofs.Entries.{find-inserted, find-kept, find-no, one_passes}

-- each address has the slot of the endpoint that has it
abbrev pub Tells : List (Addr × ℕ) → List Endpoint → Type 0
Tells by_address list = (address : Addr) → lookup (addr.ghosts.eq address) by_address ≡ option_map (λ endpoint. endpoint.slot) (endpoint_at address list)

-- both tests decide whether two addresses are one
same_test : (a b : Addr) → addr.ghosts.eq a b ≡ same_addr a b
same_test a b = same_tests addr_eq-Decides same_addr-Decides a b

module _ (old new : List (Addr × ℕ)) (endpoint : Endpoint) (list : List Endpoint) (tells : Tells old list) where
  pub tells_placed : (i : ℕ) → ((address : Addr) → lookup (addr.ghosts.eq address) new ≡ cond (addr.ghosts.eq endpoint.address address) (Some endpoint.slot) (lookup (addr.ghosts.eq address) old))
      → endpoint_at endpoint.address list ≡ None → Tells new (insert list i endpoint)
  tells_placed i updates free address =
      let here = same_test endpoint.address address in
      let found = find-inserted (λ (e : Endpoint). same_addr e.address address) i endpoint list
      (λ same. ap (λ a. endpoint_at a list) (sym ((same_addr-Decides endpoint.address address).0 same)) ∙ free) in
      updates address
      ∙ (λ j. cond (here j) (Some endpoint.slot) (tells address j))
      ∙ either (same_addr endpoint.address address) (endpoint_at address list)
      ∙ ap (option_map (λ e. e.slot)) (sym found)
    where
      either : (b : Bool) (o : Option Endpoint) → cond b (Some endpoint.slot) (option_map (λ e. e.slot) o) ≡ option_map (λ e. e.slot) (cond b (Some endpoint) o)
      either true o = refl
      either false o = refl

  -- the endpoint that passes has gone, and so has its address
  pub at_without : (p : Endpoint → Bool) → PassOnce p list → find p list ≡ Some endpoint → IsDistinct same_addr (map (λ e. e.address) list) → (address : Addr)
      → endpoint_at address (filter (λ e. not (p e)) list) ≡ cond (same_addr endpoint.address address) None (endpoint_at address list)
  at_without p once is apart address =
      let own = find-In p endpoint list is in
      elim (cases_Bool (same_addr endpoint.address address)) [
        | inl same ↦
            find-no (λ (e : Endpoint). same_addr e.address address) (filter (λ e. not (p e)) list)
            (every-from_in (λ (e : Endpoint). same_addr e.address address ≡ false) (filter (λ e. not (p e)) list) (λ e there.
            let stays = In-filter (λ e. not (p e)) e list there in
            false_from_ne_true (same_addr e.address address) (λ its.
            let both = (same_addr-Decides e.address address).0 its ∙ sym ((same_addr-Decides endpoint.address address).0 same) in
            let one = one_of_key (λ (e : Endpoint). e.address) same_addr-Decides e endpoint list apart stays.0 own.0 both in
            both_ways (p e) (not_true (p e) stays.1) (ap p one ∙ own.1))))
            ∙ sym (ap (λ b. cond b None (endpoint_at address list)) same)
        | inr differ ↦
            find-kept p (λ (e : Endpoint). same_addr e.address address) list (λ e there passes.
            ap (λ (x : Endpoint). same_addr x.address address) (one_passes p e endpoint list once is there passes) ∙ differ)
            ∙ sym (ap (λ b. cond b None (endpoint_at address list)) differ)
      ]
    where
      not_true : (b : Bool) → not b ≡ true → b ≡ false
      not_true true h = absurd cc
      not_true false h = refl

  pub tells_removed : (p : Endpoint → Bool) → PassOnce p list → find p list ≡ Some endpoint → IsDistinct same_addr (map (λ e. e.address) list)
      → ((address : Addr) → lookup (addr.ghosts.eq address) new ≡ cond (addr.ghosts.eq endpoint.address address) None (lookup (addr.ghosts.eq address) old))
      → Tells new (filter (λ e. not (p e)) list)
  tells_removed p once is apart updates address =
      let here = same_test endpoint.address address in
      updates address
      ∙ (λ j. cond (here j) None (tells address j))
      ∙ either (same_addr endpoint.address address) (endpoint_at address list)
      ∙ ap (option_map (λ e. e.slot)) (sym (at_without p once is apart address))
    where
      either : (b : Bool) (o : Option Endpoint) → cond b None (option_map (λ e. e.slot) o) ≡ option_map (λ (e : Endpoint). e.slot) (cond b None o)
      either true o = refl
      either false o = refl
