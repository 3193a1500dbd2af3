-- Whether a direction is enforced, by the labels of an endpoint.
use Rattle.std.proofs.Common.{◌≡◌, ◌==◌, Bool, true, false, ◌||◌, List, IsTrue, ◌↔◌, refl, sym, ap}
use Rattle.std.proofs.lemmas.Bool.{eq-eqb, eqb-true}
use Rattle.std.specs.List.{list_any}
use Rattle.pol_ports.specs.declared.Direction.{Direction}
use Rattle.pol_model.specs.declared.limits.TheConstants.{INIT_IDENTITY}
use Rattle.pol_model.specs.declared.options.Mode.{Mode}
use Rattle.pol_model.specs.declared.options.Mode.TheVariants.{Default, Always, Never}
use Rattle.pol_model.specs.declared.row.Endpoint.{Endpoint}
use Rattle.pol_model.specs.declared.row.Stamped.{Stamped}
use Rattle.pol_model.specs.Enforced.{enforced, has_rule}
use Rattle.pol_model.specs.Fault.{is_init}
use Rattle.pol_filters.specs.Resolved.{labels_enforced, policy_says}

-- two tests that hold together are one
same_test : (x y : Bool) → (x ≡ true → y ≡ true) → (y ≡ true → x ≡ true) → x ≡ y
same_test true y to back = sym (to refl)
same_test false true to back = back refl
same_test false false to back = refl

pub enforced_by_labels : (mode : Mode) (policies : List Stamped) (endpoint : Endpoint) (dir : Direction)
    → ((endpoint.identity ≡ INIT_IDENTITY) ↔ IsTrue (is_init endpoint.labels))
    → labels_enforced mode policies endpoint.labels dir ≡ enforced mode policies endpoint dir
unfolding policy_says has_rule
enforced_by_labels Always policies endpoint dir init = refl
enforced_by_labels Never policies endpoint dir init = refl
enforced_by_labels Default policies endpoint dir init =
    let number : is_init endpoint.labels ≡ (endpoint.identity == INIT_IDENTITY) =
    same_test (is_init endpoint.labels) (endpoint.identity == INIT_IDENTITY) (λ t. eq-eqb endpoint.identity INIT_IDENTITY (init.1 t))
    (λ t. init.0 (eqb-true endpoint.identity INIT_IDENTITY t)) in
    ap (λ b. b || list_any (policy_says endpoint.labels dir) policies) number
