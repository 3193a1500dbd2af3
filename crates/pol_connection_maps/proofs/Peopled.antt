-- The ends with their maps are those of the state.
use Rattle.std.proofs.Common.{◌≡◌, ℕ, ◌<◌, ◌==◌, ◌↔◌, not, Bool, true, false, cond, List, [], ◌∷◌, ◌++◌, map, filter, find, is_some, IsTrue, None, Some, option_map, refl, sym, ap, subst, ◌∙◌, inl, inr, arith}
use Rattle.std.specs.Prelude.{codes}
use Rattle.std.specs.List.{All, AllByRecursion}
use Rattle.std.specs.Option.{option_map_or}
use Rattle.std.proofs.lemmas.Bool.{both_ways, eqb-true, lt-leb, cases_lt, eq-eqb}
use Rattle.std.proofs.lemmas.List.{map-append}
use Rattle.pol_data.proofs.Members.{All-from_Contains, Contains-from_In, In, In-from_Contains, every-from_in, every-in}
use Rattle.pol_addr.specs.declared.network.Prefix.{Prefix}
use Rattle.pol_labels.specs.declared.label.Label.{Label}
use Rattle.pol_labels.specs.SameLaws.{same_labels-Decides}
use Rattle.pol_model.specs.declared.limits.TheConstants.{EVERY_IDENTITY, INIT_IDENTITY, LOCAL_FIRST}
use Rattle.pol_model.specs.declared.options.Options.{Options}
use Rattle.pol_model.specs.declared.row.Endpoint.{Endpoint}
use Rattle.pol_model.specs.declared.row.IdentityRow.{IdentityRow}
use Rattle.pol_model.specs.declared.row.NamedIdentity.{NamedIdentity}
use Rattle.pol_model.specs.Fault.{has_reserved, is_init}
use Rattle.pol_model.specs.Identities.{is_local}
use Rattle.pol_model.specs.PolicyMap.{policy_map}
use Rattle.pol_model.specs.State.{State}
use Rattle.pol_model.specs.Worlds.{reserved_label}
use Rattle.pol_model_laws.specs.Holding.{row_of}
use Rattle.pol_model_laws.specs.Keeps.{IsLiveIn, IsNamedIn, Keeps}
use Rattle.pol_model_laws.proofs.FoundRows.{none-zero}
use Rattle.pol_model_laws.proofs.Lives.{found_kept}
use Rattle.pol_model_laws.proofs.Membership.{find-In, none-In}
use Rattle.pol_model_laws.proofs.StateLaws.{found-init}
use Rattle.pol_sets.specs.declared.sets.SetRow.{SetRow}
use Rattle.pol_sets.specs.Sets.{has_set}
use Rattle.pol_distill.specs.Distilled.{distilled, filters_at}
use Rattle.pol_distill.proofs.FilterLaw.{distilled_is}
use Rattle.pol_distill.proofs.MapLaw.{read_is_verdict}
use Rattle.pol_filters.specs.Resolved.{filters_for}
use Rattle.pol_connections.specs.Connections.{half}
use Rattle.pol_connections.specs.Ends.{End, by_name, endpoint_end, ends_of, labels_of, named_end, named_subject, region_end, reserved_end, stands_alone}
use Rattle.pol_connection_maps.specs.declared.end_row.EndRow.{EndRow}
use Rattle.pol_connection_maps.specs.declared.rows.StateRows.{StateRows}
use Rattle.pol_connection_maps.specs.EndRows.{alone_row, end_rows, endpoint_row, named_row, region_row, row_of_end}
use Rattle.pol_connection_maps.specs.Lists.{AreSeenOf}
use Rattle.pol_connection_maps.specs.Maps.{NumberEntries, entries_at, label_entries, may_be_subject, number_maps, row_entries}
use Rattle.pol_connection_maps.specs.Rows.{AreRowsOf}
use Rattle.pol_connection_maps.specs.Seen.{Seen, seen_half, seen_row}
use Rattle.pol_connection_maps.specs.Sets.{AreExact, AreSetsOf, peers_of}
use Rattle.pol_connection_maps.proofs.Alike.{Agrees, AllAgree, all-append}
use Rattle.pol_connection_maps.proofs.Listed.{filters_have, filters_serve, parts_agree}
use Rattle.pol_connection_maps.proofs.Ordered.{every_by_name}

find_map : {X Y : Type 0} (p : Y → Bool) (f : X → Y) (xs : List X) → find p (map f xs) ≡ option_map f (find (λ x. p (f x)) xs)
find_map p f [] = refl
find_map p f (x ∷ xs) = by (p (f x)) (find_map p f xs)
  where
    by : (b : Bool) → find p (map f xs) ≡ option_map f (find (λ x. p (f x)) xs) → cond b (Some (f x)) (find p (map f xs)) ≡ option_map f (cond b (Some x) (find (λ x. p (f x)) xs))
    by true rest = refl
    by false rest = rest

-- a label set of the cluster isn't that of a subject without labels
not_init : (labels : List Label) → has_reserved labels ≡ false → is_init labels ≡ true → ⊥
not_init labels none is =
    let same : labels ≡ reserved_label (codes "init") ∷ [] = (same_labels-Decides labels (reserved_label (codes "init") ∷ [])).0 is in
    both_ways (has_reserved labels) none (ap has_reserved same)

module _ (options : Options) (s : State) (keeps : Keeps s) where
  -- no identity has the number 0
  positive : All (λ (row : IdentityRow). 0 < row.number) s.identities
  positive = All-from_Contains (λ (row : IdentityRow). 0 < row.number) s.identities (λ row there.
      elim (cases_lt 0 row.number) [
        | inl above ↦ above
        | inr zero ↦ absurd (both_ways (row.number == EVERY_IDENTITY)
            (none-In (λ r. r.number == EVERY_IDENTITY) row s.identities (none-zero s.identities keeps.identities) (In-from_Contains s.identities row there))
            (eq-eqb row.number EVERY_IDENTITY (omega arith)))
      ])

  module _ (rows : StateRows) (are : AreRowsOf options s rows) (sets : List SetRow) (exact : AreSetsOf rows.identities.now (peers_of rows.policies.now) sets) where
    abbrev maps : List NumberEntries
    maps = number_maps rows sets

    -- ---- the map of a number
    found_map : (n : ℕ) (row : IdentityRow) → is_local n ≡ false → row_of n s.identities ≡ Some row → entries_at n maps ≡ Some (label_entries rows sets row.labels)
    found_map n row small found =
        let ids = rows.identities.now in
        let own : find (λ (r : IdentityRow). r.number == n) ids ≡ Some row = ap (λ (rs : List IdentityRow). find (λ (r : IdentityRow). r.number == n) rs) are.identities ∙ found in
        let kept = found_kept (λ (r : IdentityRow). r.number == n) may_be_subject ids (λ r is. ap (λ m. not (is_local m)) (eqb-true r.number n is) ∙ ap not small) in
        ap (option_map (λ (own : NumberEntries). own.entries))
        (find_map (λ (m : NumberEntries). m.number == n) (row_entries rows sets) (filter may_be_subject ids) ∙ ap (option_map (row_entries rows sets)) (kept ∙ own))

    map_is : (e : Endpoint) (labels : List Label) → labels ≡ e.labels → ((e.identity ≡ INIT_IDENTITY) ↔ IsTrue (is_init e.labels)) → label_entries rows sets labels ≡ policy_map options s e
    map_is e labels same init =
        let every = subst (λ ps. AllByRecursion (λ p. IsTrue (has_set sets p)) (peers_of ps)) are.policies exact.every in
        let right = subst (λ ids. AreExact ids sets) are.identities exact.exact in
        (λ i. distilled (filters_for (are.policies i) (same i) (are.mode i) (are.localhost i)) sets)
        ∙ distilled_is options s e init sets (parts_agree s.identities sets right (filters_at options s e) (filters_serve sets (filters_at options s e) (filters_have sets s.policies e.labels s.mode options.localhost every)))

    -- an end with a policy of its own
    subject_agrees : (end : End) (row : EndRow) (e : Endpoint) (own : IdentityRow) → row.name ≡ end.name → row.number ≡ end.number → end.number ≡ e.identity → row.own ≡ true → end.subject ≡ Some e
        → is_local e.identity ≡ false → row_of e.identity s.identities ≡ Some own → own.labels ≡ e.labels → ((e.identity ≡ INIT_IDENTITY) ↔ IsTrue (is_init e.labels))
        → Agrees options s end (seen_row maps row)
    subject_agrees end row e own name number its has is small found labels init =
        let one : entries_at e.identity maps ≡ Some (policy_map options s e) = found_map e.identity own small found ∙ ap Some (map_is e own.labels labels init) in
        let entries : (seen_row maps row).entries ≡ Some (policy_map options s e) =
        (λ i. cond (has i) (entries_at ((number ∙ its) i) maps) None) ∙ one
        in record {
          name = name;
          number = number;
          policy = ap is_some entries ∙ sym (ap is_some is);
          half = λ dir n proto port low.
              ap (λ o. seen_half o dir n proto port) entries ∙ read_is_verdict options s e dir n proto port positive low
              ∙ sym (ap (λ o. half options s o dir n proto port) is);
        }

    endpoint_agrees : (e : Endpoint) → In e s.endpoints → Agrees options s (endpoint_end e) (seen_row maps (endpoint_row e))
    endpoint_agrees e there =
        let is = every-in (IsLiveIn s) s.endpoints keeps.endpoints e there in
        let small : is_local e.identity ≡ false = elim (is.number) as (λ _. is_local e.identity ≡ false) [
          | inl init ↦ lt-leb LOCAL_FIRST e.identity (omega (arith, init))
          | inr within ↦ (let upto = within.1 in lt-leb LOCAL_FIRST e.identity (omega (arith, upto)))
        ] in
        subject_agrees (endpoint_end e) (endpoint_row e) e is.row refl refl refl refl refl small is.there is.labels (found-init s keeps e (Contains-from_In s.endpoints e there))

    named_agrees : (identity : NamedIdentity) → In identity s.named → Agrees options s (named_end s identity) (seen_row maps (named_row identity))
    named_agrees identity there =
        let is = every-in (IsNamedIn s) s.named keeps.named identity there in
        let number : is.row.number ≡ identity.number = eqb-true is.row.number identity.number (find-In (λ (r : IdentityRow). r.number == identity.number) is.row s.identities is.there).1 in
        let low = is.cluster.number.0 in
        let high = is.cluster.number.1 in
        let small : is_local identity.number ≡ false = lt-leb LOCAL_FIRST identity.number (omega (arith, high, number)) in
        let labels : is.row.labels ≡ labels_of identity.number s.identities = sym (ap (λ o. option_map_or (λ (r : IdentityRow). r.labels) o []) is.there) in
        subject_agrees (named_end s identity) (named_row identity) (named_subject s identity) is.row refl refl refl refl refl small is.there labels (
          λ init. absurd (omega (arith, low, number, init)),
          λ init. absurd (not_init is.row.labels is.cluster.not_reserved (ap is_init labels ∙ init)),
        )

    reserved_agrees : (row : IdentityRow) → Agrees options s (reserved_end row) (seen_row maps (alone_row row))
    reserved_agrees row = record { name = refl; number = refl; policy = refl; half = λ dir n proto port low. refl }

    region_agrees : (region : Prefix) → Agrees options s (region_end s region) (seen_row maps (region_row s.identities region))
    region_agrees region = record { name = refl; number = refl; policy = refl; half = λ dir n proto port low. refl }

    -- ---- all of them
    all_of : {X : Type 0} (end : X → End) (row : X → EndRow) (xs : List X) → AllByRecursion (λ x. Agrees options s (end x) (seen_row maps (row x))) xs
        → AllAgree options s (map end xs) (map (seen_row maps) (map row xs))
    all_of end row [] all = tt
    all_of end row (x ∷ xs) all = (all.0, all_of end row xs all.1)

    every_of : {X : Type 0} (P : X → Type 0) (xs : List X) → ((x : X) → P x) → AllByRecursion P xs
    every_of P xs f = every-from_in P xs (λ x _. f x)

    module _ (regions : List Prefix) where
      abbrev a : List EndRow
      a = map endpoint_row (by_name (λ (e : Endpoint). e.name) s.endpoints)

      abbrev b : List EndRow
      b = map named_row (by_name (λ (n : NamedIdentity). n.name) s.named)

      abbrev c : List EndRow
      c = map alone_row (filter stands_alone s.identities)

      abbrev d : List EndRow
      d = map (region_row s.identities) regions

      these : end_rows rows regions ≡ a ++ b ++ c ++ d
      these = λ i.
          map endpoint_row (by_name (λ (e : Endpoint). e.name) (are.endpoints i)) ++ map named_row (are.named i)
          ++ map alone_row (filter stands_alone (are.identities i)) ++ map (region_row (are.identities i)) regions

      in_parts : map (seen_row maps) (a ++ b ++ c ++ d) ≡ map (seen_row maps) a ++ map (seen_row maps) b ++ map (seen_row maps) c ++ map (seen_row maps) d
      in_parts =
          map-append (seen_row maps) (a ++ b ++ c) d
          ∙ ap (λ xs. xs ++ map (seen_row maps) d) (map-append (seen_row maps) (a ++ b) c ∙ ap (λ xs. xs ++ map (seen_row maps) c) (map-append (seen_row maps) a b))

      all_agree : AllAgree options s (ends_of regions s) (map (seen_row maps) (end_rows rows regions))
      unfolding ends_of
      all_agree =
          let es = by_name (λ (e : Endpoint). e.name) s.endpoints in
          let ns = by_name (λ (n : NamedIdentity). n.name) s.named in
          let own = all_of endpoint_end endpoint_row es (every_by_name (λ (e : Endpoint). e.name) (λ e. Agrees options s (endpoint_end e) (seen_row maps (endpoint_row e))) s.endpoints
          (every-from_in (λ e. Agrees options s (endpoint_end e) (seen_row maps (endpoint_row e))) s.endpoints endpoint_agrees)) in
          let named = all_of (named_end s) named_row ns (every_by_name (λ (n : NamedIdentity). n.name) (λ n. Agrees options s (named_end s n) (seen_row maps (named_row n))) s.named
          (every-from_in (λ n. Agrees options s (named_end s n) (seen_row maps (named_row n))) s.named named_agrees)) in
          let alone = all_of reserved_end alone_row (filter stands_alone s.identities) (every_of (λ r. Agrees options s (reserved_end r) (seen_row maps (alone_row r))) (filter stands_alone s.identities) reserved_agrees) in
          let around = all_of (region_end s) (region_row s.identities) regions (every_of (λ r. Agrees options s (region_end s r) (seen_row maps (region_row s.identities r))) regions region_agrees) in
          subst (AllAgree options s (ends_of regions s)) (sym (ap (map (seen_row maps)) these ∙ in_parts))
          (all-append options s (map endpoint_end es ++ map (named_end s) ns ++ map reserved_end (filter stands_alone s.identities)) (map (region_end s) regions) _ _
          (all-append options s (map endpoint_end es ++ map (named_end s) ns) (map reserved_end (filter stands_alone s.identities)) _ _
          (all-append options s (map endpoint_end es) (map (named_end s) ns) _ _ own named) alone) around)

pub peopled : (options : Options) (s : State) (rows : StateRows) (regions : List Prefix) (ends : List Seen) → Keeps s → AreRowsOf options s rows → AreSeenOf rows regions ends
    → AllAgree options s (ends_of regions s) ends
peopled options s rows regions ends keeps are seen =
    subst (AllAgree options s (ends_of regions s)) (sym seen.is) (all_agree options s keeps rows are seen.sets seen.are regions)

-- ---- the rows alone
map-map : {X Y Z : Type 0} (f : Y → Z) (g : X → Y) (xs : List X) → map f (map g xs) ≡ map (λ x. f (g x)) xs
map-map f g [] = refl
map-map f g (x ∷ xs) = ap (λ ys. f (g x) ∷ ys) (map-map f g xs)

pub rows_are : (options : Options) (s : State) (rows : StateRows) (regions : List Prefix) → AreRowsOf options s rows → end_rows rows regions ≡ map row_of_end (ends_of regions s)
unfolding ends_of
rows_are options s rows regions are =
    let es = map endpoint_end (by_name (λ (e : Endpoint). e.name) s.endpoints) in
    let ns = map (named_end s) (by_name (λ (n : NamedIdentity). n.name) s.named) in
    let cs = map reserved_end (filter stands_alone s.identities) in
    let ds = map (region_end s) regions in
    (λ i.
    map endpoint_row (by_name (λ (e : Endpoint). e.name) (are.endpoints i)) ++ map named_row (are.named i)
    ++ map alone_row (filter stands_alone (are.identities i)) ++ map (region_row (are.identities i)) regions)
    ∙ sym (
    map-append row_of_end (es ++ ns ++ cs) ds
    ∙ ap (λ xs. xs ++ map row_of_end ds) (map-append row_of_end (es ++ ns) cs ∙ ap (λ xs. xs ++ map row_of_end cs) (map-append row_of_end es ns))
    ∙ (λ i. map-map row_of_end endpoint_end (by_name (λ (e : Endpoint). e.name) s.endpoints) i ++ map-map row_of_end (named_end s) (by_name (λ (n : NamedIdentity). n.name) s.named) i
    ++ map-map row_of_end reserved_end (filter stands_alone s.identities) i ++ map-map row_of_end (region_end s) regions i)
    )
