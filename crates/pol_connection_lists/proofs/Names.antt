-- The labels that names hold, as requests commit.
use Rattle.std.proofs.Common.{◌≡◌, ℕ, ◌==◌, ◌&&◌, not, Bool, true, false, cond, List, [], ◌∷◌, Option, None, Some, option_map, refl, sym, ap, ◌∙◌, inl, inr, arith}
use Rattle.std.specs.Option.{option_map_or, option_or}
use Rattle.std.specs.Str.{bytes_eq}
use Rattle.std.specs.Cmp.Lexicographic.{bytes_decides}
use Rattle.std.proofs.lemmas.Bool.{cases_Bool, eqb-true, lt-leb}
use Rattle.std.proofs.lemmas.List.Folds.{find-append}
use Rattle.pol_data.proofs.Members.{Contains-from_In, In, every-in}
use Rattle.pol_labels.specs.declared.label.Label.{Label}
use Rattle.pol_model.specs.declared.request.Request.{Request}
use Rattle.pol_model.specs.declared.request.Request.TheVariants.{AddEndpoint, RemoveEndpoint, AddIdentity, RemoveIdentity, Apply, Remove, SetMode}
use Rattle.pol_model.specs.declared.row.IdentityRow.{IdentityRow}
use Rattle.pol_model.specs.declared.row.NamedIdentity.{NamedIdentity}
use Rattle.pol_model.specs.After.{after}
use Rattle.pol_model.specs.Endpoints.{named_of}
use Rattle.pol_model.specs.declared.limits.TheConstants.{LOCAL_FIRST}
use Rattle.pol_model.specs.Fault.{is_init}
use Rattle.pol_model.specs.Identities.{is_local, number_for, number_of_labels}
use Rattle.pol_model.specs.State.{State}
use Rattle.pol_model_laws.specs.Holding.{row_of}
use Rattle.pol_model_laws.specs.Keeps.{IsNamedIn, Keeps}
use Rattle.pol_model_laws.specs.WithoutFaults.{MayCommit}
use Rattle.pol_model_laws.proofs.FoundRows.{found-labels}
use Rattle.pol_model_laws.proofs.Done.{identity-added}
use Rattle.pol_model_laws.proofs.HoldingLaws.{labels_row_is}
use Rattle.pol_model_laws.proofs.Lives.{found_kept, found_lost}
use Rattle.pol_model_laws.proofs.Membership.{find-In}
use Rattle.pol_model_laws.proofs.StateLaws.{keeps-after, row-stays}
use Rattle.pol_connections.specs.Ends.{labels_of}
use Rattle.pol_connection_lists.specs.Names.{labels_named, number_allowed}

-- the labels of the row of a number
pub labels_there : (number : ℕ) (rows : List IdentityRow) (row : IdentityRow) → row_of number rows ≡ Some row → labels_of number rows ≡ row.labels
labels_there number rows row is = ap (λ o. option_map_or (λ (r : IdentityRow). r.labels) o []) is

-- the row of a named identity
named_row : (s : State) → Keeps s → (name : List ℕ) (x : NamedIdentity) → named_of name s.named ≡ Some x → IsNamedIn s x
named_row s it name x found = every-in (IsNamedIn s) s.named it.named x (find-In (λ (i : NamedIdentity). bytes_eq i.name name) x s.named found).0

module _ (s : State) (request : Request) (it : Keeps s) (may : MayCommit s request) where
  abbrev t : State
  t = after s request

  kept_after : Keeps t
  kept_after = keeps-after s request it may

  -- what a name holds before and after
  stays : (name : List ℕ) (x : NamedIdentity) → named_of name s.named ≡ Some x → named_of name t.named ≡ Some x → labels_of x.number t.identities ≡ labels_of x.number s.identities
  stays name x was is =
      let old = named_row s it name x was in
      let new = named_row t kept_after name x is in
      let one = find-In (λ (r : IdentityRow). r.number == x.number) old.row s.identities old.there in
      let other = find-In (λ (r : IdentityRow). r.number == x.number) new.row t.identities new.there in
      let numbers : old.row.number ≡ new.row.number = eqb-true old.row.number x.number one.1 ∙ sym (eqb-true new.row.number x.number other.1) in
      let same = row-stays s request old.row new.row it.identities.numbers (Contains-from_In s.identities old.row one.0) (Contains-from_In t.identities new.row other.0) numbers in
      labels_there x.number t.identities new.row new.there ∙ sym same.0 ∙ sym (labels_there x.number s.identities old.row old.there)

  -- a name that is found as it was
  same_labels : (name : List ℕ) → named_of name t.named ≡ named_of name s.named → labels_named t name ≡ labels_named s name
  same_labels name same = by (named_of name s.named) refl
    where
      by : (o : Option NamedIdentity) → named_of name s.named ≡ o → labels_named t name ≡ labels_named s name
      by None was =
          ap (option_map (λ (x : NamedIdentity). labels_of x.number t.identities)) (same ∙ was)
          ∙ sym (ap (option_map (λ (x : NamedIdentity). labels_of x.number s.identities)) was)
      by (Some x) was =
          ap (option_map (λ (x : NamedIdentity). labels_of x.number t.identities)) (same ∙ was)
          ∙ ap Some (stays name x was (same ∙ was))
          ∙ sym (ap (option_map (λ (x : NamedIdentity). labels_of x.number s.identities)) was)

-- ---- a name that comes
module _ (s : State) (n : List ℕ) (labels : List Label) (it : Keeps s) (may : MayCommit s (AddIdentity n labels)) where
  abbrev u : State
  u = after s (AddIdentity n labels)

  abbrev new : NamedIdentity
  new = record { name = n; number = number_for labels s.identities }

  own_labels : labels_named u n ≡ Some labels
  own_labels =
      let there : named_of n u.named ≡ Some new = identity-added s n labels it may in
      let is = named_row u (keeps-after s (AddIdentity n labels) it may) n new there in
      ap (option_map (λ (x : NamedIdentity). labels_of x.number u.identities)) there
      ∙ ap Some (labels_there new.number u.identities is.row is.there ∙ labels_row_is labels s.identities it.identities.numbers is.row is.there)

  or_none : (o : Option NamedIdentity) → option_or o None ≡ o
  or_none None = refl
  or_none (Some x) = refl

  others_stay : (name : List ℕ) → bytes_eq n name ≡ false → named_of name u.named ≡ named_of name s.named
  others_stay name other =
      find-append (λ (i : NamedIdentity). bytes_eq i.name name) s.named (new ∷ [])
      ∙ ap (λ b. option_or (named_of name s.named) (cond b (Some new) None)) other ∙ or_none (named_of name s.named)

  pub name_comes : (name : List ℕ) → labels_named u name ≡ cond (bytes_eq n name) (Some labels) (labels_named s name)
  name_comes name = elim (cases_Bool (bytes_eq n name)) [
    | inl same ↦
        (let is = (bytes_decides n name).0 same in
        ap (labels_named u) (sym is) ∙ own_labels ∙ sym (ap (λ b. cond b (Some labels) (labels_named s name)) same))
    | inr other ↦ same_labels s (AddIdentity n labels) it may name (others_stay name other) ∙ sym (ap (λ b. cond b (Some labels) (labels_named s name)) other)
  ]

-- ---- a name that goes
differ : (n m name : List ℕ) → bytes_eq n name ≡ false → bytes_eq m name ≡ true → not (bytes_eq m n) ≡ true
differ n m name other same = by (bytes_eq m n) refl
  where
    by : (b : Bool) → bytes_eq m n ≡ b → not b ≡ true
    by true is =
        let one : m ≡ n = (bytes_decides m n).0 is in
        absurd (let wrong : true ≡ false = sym same ∙ ap (λ k. bytes_eq k name) one ∙ other in cc)
    by false is = refl

alike : (n m name : List ℕ) → n ≡ name → bytes_eq m name ≡ true → not (bytes_eq m n) ≡ false
alike n m name is same = ap (λ k. not (bytes_eq m k)) is ∙ ap not same

module _ (s : State) (n : List ℕ) (it : Keeps s) (may : MayCommit s (RemoveIdentity n)) where
  abbrev v : State
  v = after s (RemoveIdentity n)

  pub name_goes : (name : List ℕ) → labels_named v name ≡ cond (bytes_eq n name) None (labels_named s name)
  name_goes name = elim (cases_Bool (bytes_eq n name)) [
    | inl same ↦
        (let is = (bytes_decides n name).0 same in
        ap (option_map (λ (x : NamedIdentity). labels_of x.number v.identities))
        (found_lost (λ (i : NamedIdentity). bytes_eq i.name name) (λ (i : NamedIdentity). not (bytes_eq i.name n)) s.named (λ i passes. alike n i.name name is passes))
        ∙ sym (ap (λ b. cond b None (labels_named s name)) same))
    | inr other ↦
        same_labels s (RemoveIdentity n) it may name
        (found_kept (λ (i : NamedIdentity). bytes_eq i.name name) (λ (i : NamedIdentity). not (bytes_eq i.name n)) s.named (λ i passes. differ n i.name name other passes))
        ∙ sym (ap (λ b. cond b None (labels_named s name)) other)
  ]

-- ---- all else
abbrev pub IsOfNoName : Request → Type 0
IsOfNoName (AddIdentity name labels) = ⊥
IsOfNoName (RemoveIdentity name) = ⊥
IsOfNoName _ = Unit {0}

pub others : (s : State) (request : Request) → Keeps s → MayCommit s request → IsOfNoName request → (name : List ℕ) → labels_named (after s request) name ≡ labels_named s name
others s (AddEndpoint n labels address) it may unnamed name = same_labels s (AddEndpoint n labels address) it may name refl
others s (RemoveEndpoint n) it may unnamed name = same_labels s (RemoveEndpoint n) it may name refl
others s (AddIdentity n labels) it may unnamed name = absurd unnamed
others s (RemoveIdentity n) it may unnamed name = absurd unnamed
others s (Apply policy) it may unnamed name = same_labels s (Apply policy) it may name refl
others s (Remove key) it may unnamed name = same_labels s (Remove key) it may name refl
others s (SetMode mode) it may unnamed name = same_labels s (SetMode mode) it may name refl

-- ---- the number of a named identity is that of its labels
pub cluster_number : (s : State) → Keeps s → (x : NamedIdentity) → In x s.named → number_allowed s.identities (labels_of x.number s.identities) ≡ Some x.number
cluster_number s it x there =
    let is = every-in (IsNamedIn s) s.named it.named x there in
    let at = find-In (λ (r : IdentityRow). r.number == x.number) is.row s.identities is.there in
    let number : is.row.number ≡ x.number = eqb-true is.row.number x.number at.1 in
    let high = is.cluster.number.1 in
    let small : is_local is.row.number ≡ false = lt-leb LOCAL_FIRST is.row.number (omega (arith, high)) in
    let found : number_of_labels is.row.labels s.identities ≡ Some x.number = found-labels s.identities it.identities is.row (Contains-from_In s.identities is.row at.0) small ∙ ap Some number in
    ap (number_allowed s.identities) (labels_there x.number s.identities is.row is.there)
    ∙ ap (λ b. cond (b && not (is_init is.row.labels)) None (number_of_labels is.row.labels s.identities)) is.cluster.not_reserved ∙ found

pub no_name : (request : Request) → ((name : List ℕ) (labels : List Label) → request ≡ AddIdentity name labels → ⊥) → ((name : List ℕ) → request ≡ RemoveIdentity name → ⊥) → IsOfNoName request
no_name (AddEndpoint n labels address) adds removes = tt
no_name (RemoveEndpoint n) adds removes = tt
no_name (AddIdentity n labels) adds removes = adds n labels refl
no_name (RemoveIdentity n) adds removes = removes n refl
no_name (Apply policy) adds removes = tt
no_name (Remove key) adds removes = tt
no_name (SetMode mode) adds removes = tt
