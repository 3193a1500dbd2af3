-- What is told of a held number is what its row has.
use Rattle.std.proofs.Common.{◌≡◌, ℕ, ◌==◌, Bool, false, List, Option, Some, None, option_map, refl, sym, ap, ◌∙◌}
use Rattle.std.specs.Option.{option_and_then, option_map_or}
use Rattle.std.proofs.lemmas.Option.{same_Some}
use Rattle.std.proofs.lemmas.Bool.{eqb-true}
use Rattle.pol_addr.specs.declared.network.Prefix.{Prefix}
use Rattle.pol_labels.specs.declared.label.Label.{Label}
use Rattle.pol_rule.specs.declared.policy.Peer.{Peer}
use Rattle.pol_model_laws.specs.Holding.{row_of}
use Rattle.pol_model_laws.proofs.Membership.{find-In}
use Rattle.pol_model.specs.declared.row.IdentityRow.{IdentityRow}
use Rattle.pol_model.specs.Selects.{known_as, selects, selects_row}
use Rattle.pol_ident.specs.Look.{labels_at, prefix_at, selects_held}

pub held_is : (rows : List IdentityRow) (p : Peer) (n : ℕ) (labels : List Label) (prefix : Option Prefix) → Some labels ≡ labels_at n rows → prefix ≡ prefix_at n rows
    → selects (known_as n labels prefix) p ≡ selects_held rows p n
held_is rows p n labels prefix its_labels its_prefix = by (row_of n rows) refl
  where
    by : (o : Option IdentityRow) → row_of n rows ≡ o → selects (known_as n labels prefix) p ≡ option_map_or (selects_row p) o false
    by None is = absurd (let none : labels_at n rows ≡ None = ap (λ o. option_map (λ (row : IdentityRow). row.labels) o) is in let wrong : ⊥ = cc in wrong)
    by (Some row) is =
        let at : row.number ≡ n = eqb-true row.number n (find-In (λ r. r.number == n) row rows is).1 in
        let same_labels : labels ≡ row.labels = same_Some labels row.labels (its_labels ∙ ap (λ o. option_map (λ (r : IdentityRow). r.labels) o) is) in
        let same_prefix : prefix ≡ row.prefix = its_prefix ∙ ap (λ o. option_and_then (λ (r : IdentityRow). r.prefix) o) is in
        let give : ℕ → List Label → Option Prefix → Bool = λ m ls o. selects (known_as m ls o) p in
        λ i. give (sym at i) (same_labels i) (same_prefix i)
