-- The identities of a table of names are those of the state, by name.
use Rattle.std.proofs.Common.{◌≡◌, ℕ, Bool, true, false, cond, List, [], ◌∷◌, Option, None, Some, option_map, refl, sym, ap, subst, ◌∙◌, inl, inr, Bor}
use Rattle.std.specs.BTreeMap.{BTreeMap, IsOrdered, get, is_at}
use Rattle.std.specs.Cmp.Lexicographic.{bytes_decides, slice_cmp}
use Rattle.std.specs.List.{AllByRecursion, cons_option, filter_map}
use Rattle.std.specs.List.Sorted.{IsStrictlySortedBy}
use Rattle.std.specs.Map.{keys_of, lookup}
use Rattle.std.specs.Ordering.{is_eq, nat_cmp}
use Rattle.std.specs.Str.{bytes_eq}
use Rattle.std.specs.declared.cmp.Ordering.TheVariants.{Less}
use Rattle.std.proofs.lemmas.Cmp.{nat_list_cmp_total, on_total}
use Rattle.std.proofs.lemmas.Map.Text.{is_eq-slice_cmp}
use Rattle.std.proofs.lemmas.Option.{same_Some}
use Rattle.pol_data.proofs.Ascending.{same_members}
use Rattle.pol_data.proofs.Members.{Contains-from_In, In, every-in}
use Rattle.pol_labels.specs.declared.label.Label.{Label}
use Rattle.pol_model.specs.declared.row.IdentityRow.{IdentityRow}
use Rattle.pol_model.specs.declared.row.NamedIdentity.{NamedIdentity}
use Rattle.pol_model.specs.Endpoints.{named_of}
use Rattle.pol_model.specs.State.{State}
use Rattle.pol_model_laws.specs.Keeps.{Keeps}
use Rattle.pol_model_laws.proofs.Membership.{find-In}
use Rattle.pol_model_laws.proofs.StateLaws.{found-identity}
use Rattle.pol_connections.specs.Ends.{by_name, labels_of}
use Rattle.pol_connection_maps.proofs.Ordered.{from_by_name, in_by_name, name_cmp, sorted_by_name}
use Rattle.pol_connection_lists.specs.Names.{AreLabelsIn, identities_by, identity_by, labels_named, number_allowed}
use Rattle.pol_connection_lists.proofs.Names.{cluster_number}

-- ---- what a filter_map has
module _ {X Y : Type 0} (f : X → Option Y) where
  in_filter_map : (y : Y) (es : List X) → In y (filter_map f es) → (e : X) × In e es × (f e ≡ Some y)
  in_filter_map y [] there = elim there [ ]
  in_filter_map y (e ∷ es) there = by (f e) refl there (in_filter_map y es)
    where
      by : (o : Option Y) → f e ≡ o → In y (cons_option o (filter_map f es)) → (In y (filter_map f es) → (d : X) × In d es × (f d ≡ Some y)) → (d : X) × In d (e ∷ es) × (f d ≡ Some y)
      by None is at rest = let one = rest at in (one.0, inr one.1, one.2)
      by (Some z) is (inl same) rest = (e, inl refl, is ∙ ap Some same)
      by (Some z) is (inr at) rest = let one = rest at in (one.0, inr one.1, one.2)

  filter_map_in : (y : Y) (e : X) (es : List X) → In e es → f e ≡ Some y → In y (filter_map f es)
  filter_map_in y e [] there is = elim there [ ]
  filter_map_in y e (d ∷ es) (inl same) is = subst (λ o. In y (cons_option o (filter_map f es))) (sym (ap f same ∙ is)) (inl refl)
  filter_map_in y e (d ∷ es) (inr later) is = by (f d) (filter_map_in y e es later is)
    where
      by : (o : Option Y) → In y (filter_map f es) → In y (cons_option o (filter_map f es))
      by None rest = rest
      by (Some z) rest = inr rest

abbrev Held : Type 0
Held = List ℕ × Bor (List Label)

-- ---- look-ups among names in order
found_in : (name : List ℕ) (es : List Held) (l : Bor (List Label)) → lookup (is_at (slice_cmp nat_cmp name)) es ≡ Some l → In (name, l) es
found_in name [] l is = absurd (let wrong : ⊥ = cc in wrong)
found_in name (e ∷ es) l is = by (is_at (slice_cmp nat_cmp name) e.0) refl is (found_in name es l)
  where
    by : (b : Bool) → is_at (slice_cmp nat_cmp name) e.0 ≡ b → cond b (Some e.1) (lookup (is_at (slice_cmp nat_cmp name)) es) ≡ Some l
        → (lookup (is_at (slice_cmp nat_cmp name)) es ≡ Some l → In (name, l) es) → In (name, l) (e ∷ es)
    by true at is rest =
        let same : name ≡ e.0 = (bytes_decides name e.0).0 (sym (is_eq-slice_cmp name e.0) ∙ at) in
        inl (λ i. (sym same i, same_Some e.1 l is i))
    by false at is rest = inr (rest is)

self_at : (name : List ℕ) → is_at (slice_cmp nat_cmp name) name ≡ true
self_at name = is_eq-slice_cmp name name ∙ (bytes_decides name name).1 refl

in_keys : (e : Held) (es : List Held) → In e es → In e.0 (keys_of es)
in_keys e [] there = elim there [ ]
in_keys e (d ∷ es) (inl same) = inl (ap (λ (h : Held). h.0) same)
in_keys e (d ∷ es) (inr later) = inr (in_keys e es later)

looked_up : (es : List Held) (e : Held) → IsStrictlySortedBy (slice_cmp nat_cmp) (keys_of es) → In e es → lookup (is_at (slice_cmp nat_cmp e.0)) es ≡ Some e.1
unfolding IsStrictlySortedBy
looked_up [] e sorted there = elim there [ ]
looked_up (d ∷ es) e sorted (inl same) =
    ap (λ b. cond b (Some d.1) (lookup (is_at (slice_cmp nat_cmp e.0)) es)) (ap (λ n. is_at (slice_cmp nat_cmp e.0) n) (ap (λ (h : Held). h.0) same) ∙ self_at e.0)
    ∙ ap (λ (h : Held). Some h.1) same
looked_up (d ∷ es) e sorted (inr later) =
    ap (λ b. cond b (Some d.1) (lookup (is_at (slice_cmp nat_cmp e.0)) es)) (other (is_at (slice_cmp nat_cmp e.0) d.0) refl) ∙ looked_up es e sorted.1 later
  where
    other : (b : Bool) → is_at (slice_cmp nat_cmp e.0) d.0 ≡ b → b ≡ false
    other true at =
        let below : slice_cmp nat_cmp d.0 e.0 ≡ Less = every-in (λ k. slice_cmp nat_cmp d.0 k ≡ Less) (keys_of es) sorted.0 e.0 (in_keys e es later) in
        let same : e.0 ≡ d.0 = (bytes_decides e.0 d.0).0 (sym (is_eq-slice_cmp e.0 d.0) ∙ at) in
        let wrong : true ≡ false = sym (ap (λ k. is_eq (slice_cmp nat_cmp d.0 k)) same ∙ self_at d.0) ∙ ap is_eq below in
        absurd cc
    other false at = refl

-- ---- in the order of names
module _ (rows : List IdentityRow) where
  own_name : (e : Held) (y : NamedIdentity) → identity_by rows e ≡ Some y → y.name ≡ e.0
  own_name e y is = by (number_allowed rows e.1.now) is
    where
      by : (o : Option ℕ) → option_map (λ (number : ℕ). record { name = e.0; number = number }) o ≡ Some y → y.name ≡ e.0
      by None is = absurd (let wrong : ⊥ = cc in wrong)
      by (Some number) is = sym (ap (λ (x : NamedIdentity). x.name) (same_Some (record { name = e.0; number = number }) y is))

  above : (e : Held) (y : NamedIdentity) (es : List Held) → y.name ≡ e.0 → AllByRecursion (λ k. slice_cmp nat_cmp e.0 k ≡ Less) (keys_of es)
      → AllByRecursion (λ z. name_cmp (λ (x : NamedIdentity). x.name) y z ≡ Less) (identities_by rows es)
  above e y [] own all = tt
  above e y (d ∷ es) own all = by (identity_by rows d) refl (above e y es own all.1)
    where
      by : (o : Option NamedIdentity) → identity_by rows d ≡ o → AllByRecursion (λ z. name_cmp (λ (x : NamedIdentity). x.name) y z ≡ Less) (identities_by rows es) → AllByRecursion (λ z. name_cmp (λ (x : NamedIdentity). x.name) y z ≡ Less) (cons_option o (identities_by rows es))
      by None is rest = rest
      by (Some z) is rest = ((λ i. slice_cmp nat_cmp (own i) (own_name d z is i)) ∙ all.0, rest)

  in_order : (es : List Held) → IsStrictlySortedBy (slice_cmp nat_cmp) (keys_of es) → IsStrictlySortedBy (name_cmp (λ (x : NamedIdentity). x.name)) (identities_by rows es)
  unfolding IsStrictlySortedBy
  in_order [] sorted = tt
  in_order (e ∷ es) sorted = by (identity_by rows e) refl (in_order es sorted.1)
    where
      by : (o : Option NamedIdentity) → identity_by rows e ≡ o → IsStrictlySortedBy (name_cmp (λ (x : NamedIdentity). x.name)) (identities_by rows es) → IsStrictlySortedBy (name_cmp (λ (x : NamedIdentity). x.name)) (cons_option o (identities_by rows es))
      by None is rest = rest
      by (Some y) is rest = (above e y es (own_name e y is) sorted.0, rest)

-- ---- the same identities
module _ (s : State) (it : Keeps s) (held : BTreeMap (List ℕ) (Bor (List Label))) (are : AreLabelsIn s held) (ordered : IsOrdered (slice_cmp nat_cmp) held) where
  abbrev name : NamedIdentity → List ℕ
  name x = x.name

  made : (x : NamedIdentity) (e : Held) → In x s.named → e.0 ≡ x.name → e.1.now ≡ labels_of x.number s.identities → identity_by s.identities e ≡ Some x
  made x e there own labels =
      ap (option_map (λ number. record { name = e.0; number = number })) (ap (number_allowed s.identities) labels ∙ cluster_number s it x there)
      ∙ (λ i. Some (record { name = own i; number = x.number }))

  to : (x : NamedIdentity) → In x (by_name name s.named) → In x (identities_by s.identities held.entries)
  to x there =
      let at = from_by_name name x s.named there in
      let found : named_of x.name s.named ≡ Some x = found-identity s it x (Contains-from_In s.named x at) in
      let labels : option_map (λ (l : Bor (List Label)). l.now) (get (slice_cmp nat_cmp) held x.name) ≡ Some (labels_of x.number s.identities) =
      are x.name ∙ ap (option_map (λ (y : NamedIdentity). labels_of y.number s.identities)) found in
      by at (get (slice_cmp nat_cmp) held x.name) refl labels
    where
      by : In x s.named → (o : Option (Bor (List Label))) → get (slice_cmp nat_cmp) held x.name ≡ o → option_map (λ (l : Bor (List Label)). l.now) o ≡ Some (labels_of x.number s.identities)
          → In x (identities_by s.identities held.entries)
      by at None is labels = absurd (let wrong : ⊥ = cc in wrong)
      by at (Some l) is labels =
          filter_map_in (identity_by s.identities) x (x.name, l) held.entries (found_in x.name held.entries l is)
          (made x (x.name, l) at refl (same_Some l.now (labels_of x.number s.identities) labels))

  back : (x : NamedIdentity) → In x (identities_by s.identities held.entries) → In x (by_name name s.named)
  back x there =
      let one = in_filter_map (identity_by s.identities) x held.entries there in
      let e = one.0 in
      let found : get (slice_cmp nat_cmp) held e.0 ≡ Some e.1 = looked_up held.entries e ordered one.1 in
      let labels : Some e.1.now ≡ labels_named s e.0 = sym (ap (option_map (λ (l : Bor (List Label)). l.now)) found) ∙ are e.0 in
      by e one.2 (named_of e.0 s.named) refl labels
    where
      by : (e : Held) → identity_by s.identities e ≡ Some x → (o : Option NamedIdentity) → named_of e.0 s.named ≡ o → Some e.1.now ≡ option_map (λ (y : NamedIdentity). labels_of y.number s.identities) o
          → In x (by_name name s.named)
      by e is None none labels = absurd (let wrong : ⊥ = cc in wrong)
      by e is (Some y) found labels =
          let at = find-In (λ (i : NamedIdentity). bytes_eq i.name e.0) y s.named found in
          let own : e.0 ≡ y.name = sym ((bytes_decides y.name e.0).0 at.1) in
          let same : y ≡ x = same_Some y x (sym (made y e at.0 own (same_Some e.1.now (labels_of y.number s.identities) labels)) ∙ is) in
          subst (λ z. In z (by_name name s.named)) same (in_by_name name y s.named at.0)

  pub by_names : identities_by s.identities held.entries ≡ by_name name s.named
  by_names =
      same_members (on_total name nat_list_cmp_total) (identities_by s.identities held.entries) (by_name name s.named)
      (in_order s.identities held.entries ordered) (sorted_by_name name s.named it.identity_names) back to
