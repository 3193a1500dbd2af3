-- The numbers of live endpoints and of named identities have rows, and aren't prefixes'.
use Rattle.std.proofs.Common.{◌≡◌, ℕ, ◌==◌, true, false, List, Option, None, Some, option_map, inl, inr, refl, sym, ap, ◌∙◌, arith}
use Rattle.std.specs.Str.{bytes_eq}
use Rattle.std.proofs.lemmas.Bool.{eqb-true, lt-leb}
use Rattle.pol_data.proofs.Members.{every-in}
use Rattle.pol_model.specs.declared.limits.TheConstants.{LOCAL_FIRST}
use Rattle.pol_model.specs.declared.row.Endpoint.{Endpoint}
use Rattle.pol_model.specs.declared.row.NamedIdentity.{NamedIdentity}
use Rattle.pol_model.specs.State.{State}
use Rattle.pol_model.specs.Endpoints.{endpoint_of, named_of}
use Rattle.pol_model.specs.Identities.{is_local}
use Rattle.pol_model_laws.specs.Holding.{has_row}
use Rattle.pol_model_laws.specs.Keeps.{IsLiveIn, IsNamedIn, Keeps}
use Rattle.pol_model_laws.proofs.Membership.{find-In, list_any-In}
use Rattle.pol_tables.specs.Tables.{number_named}
use Rattle.pol_store.specs.Store.{StandsForSome, Stored}

-- the number may be released
pub record MayGo (number : ℕ) (s : State) : Type 0 where
  pub held : has_row number s.identities ≡ true
  pub not_local : is_local number ≡ false

pub live_number : (s : State) → Keeps s → (name : List ℕ) (endpoint : Endpoint) → endpoint_of name s.endpoints ≡ Some endpoint → MayGo endpoint.identity s
live_number s keeps name endpoint is =
    let own = find-In (λ e. bytes_eq e.name name) endpoint s.endpoints is in
    let it = every-in (IsLiveIn s) s.endpoints keeps.endpoints endpoint own.0 in
    let at = find-In (λ row. row.number == endpoint.identity) it.row s.identities it.there in
    record {
      held = list_any-In (λ row. row.number == endpoint.identity) it.row s.identities at.0 at.1;
      not_local = elim (it.number) as (λ _. is_local endpoint.identity ≡ false) [
        | inl init ↦ lt-leb LOCAL_FIRST endpoint.identity (omega (arith, init))
        | inr within ↦ let upto = within.1 in lt-leb LOCAL_FIRST endpoint.identity (omega (arith, upto))
      ];
    }

pub held_name : (s : State) → Keeps s → (name : List ℕ) (identity : NamedIdentity) → named_of name s.named ≡ Some identity → MayGo identity.number s
held_name s keeps name identity is =
    let own = find-In (λ i. bytes_eq i.name name) identity s.named is in
    let it = every-in (IsNamedIn s) s.named keeps.named identity own.0 in
    let at = find-In (λ row. row.number == identity.number) it.row s.identities it.there in
    let same = eqb-true it.row.number identity.number at.1 in
    let upto = it.cluster.number.1 in
    record {
      held = list_any-In (λ row. row.number == identity.number) it.row s.identities at.0 at.1;
      not_local = lt-leb LOCAL_FIRST identity.number (omega (arith, same, upto));
    }

-- the same of the rows that a settled store has
module _ (stored : Stored) (settled : StandsForSome stored) where
  pub endpoint_held : (name : List ℕ) (number : ℕ) → Some number ≡ option_map (λ (endpoint : Endpoint). endpoint.identity) (endpoint_of name stored.state.endpoints) → has_row number stored.state.identities ≡ true
  endpoint_held name number is = by (endpoint_of name stored.state.endpoints) refl is
    where
      by : (o : Option Endpoint) → endpoint_of name stored.state.endpoints ≡ o → Some number ≡ option_map (λ (endpoint : Endpoint). endpoint.identity) o → has_row number stored.state.identities ≡ true
      by None found same = absurd cc
      by (Some endpoint) found same =
          let like = settled.stands.like in
          let own : number ≡ endpoint.identity = cc in
          (λ i. has_row (own i) (like.identities i))
          ∙ (live_number settled.state settled.keeps name endpoint (sym (ap (endpoint_of name) like.endpoints) ∙ found)).held

  pub name_held : (name : List ℕ) (number : ℕ) → Some number ≡ number_named name stored.state.named → has_row number stored.state.identities ≡ true
  name_held name number is = by (named_of name settled.state.named) refl (is ∙ settled.stands.like.named name)
    where
      by : (o : Option NamedIdentity) → named_of name settled.state.named ≡ o → Some number ≡ option_map (λ (identity : NamedIdentity). identity.number) o → has_row number stored.state.identities ≡ true
      by None found same = absurd cc
      by (Some identity) found same =
          let own : number ≡ identity.number = cc in
          (λ i. has_row (own i) (settled.stands.like.identities i)) ∙ (held_name settled.state settled.keeps name identity found).held
