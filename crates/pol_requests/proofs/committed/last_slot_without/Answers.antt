use Rattle.std.proofs.Common.{◌≡◌, ℕ, List, ◌+◌, ◌-◌, ◌<◌, false, drop, get_or, length, sym, ap, ◌∙◌, arith}
use Rattle.std.specs.Str.{bytes_eq}
use Rattle.std.proofs.lemmas.Bool.{not-true}
use Rattle.std.proofs.lemmas.List.{get_or_default}
use Rattle.pol_data.proofs.Members.{In-get_or, every-in}
use Rattle.pol_model.specs.declared.limits.TheConstants.{ENDPOINTS_MAX}
use Rattle.pol_model.specs.declared.row.Endpoint.{Endpoint}
use Rattle.pol_model.specs.Endpoints.{without_endpoint}
use Rattle.pol_requests.proofs.Answering.{last_kept}
use Rattle.pol_requests.proofs.committed.last_slot_without.Goals as goal

pub returns-then-ne : goal.returns-then-ne
returns-then-ne c = record {
  slots = λ ascends few.
      let endpoints = c.args.endpoints.now in
      let name = c.args.name.now in
      let i = c.loop-i.i - 1 in
      let d = c.index-endpoints-i-then-ne.result in
      let first = c.index-endpoints-i.result in
      let more = c.loop-i-test.true in
      let bound = c.loop-i.auto.i in
      let within : i < length endpoints = omega (arith, more, bound) in
      let back : i + 1 ≡ c.loop-i.i = omega (arith, more) in
      let differs = not-true (bytes_eq c.as_str.result.now name) (sym c.ne.ensures ∙ c.if-ne.true) in
      let other : bytes_eq (get_or endpoints i d).name name ≡ false =
      ap (λ (e : Endpoint). bytes_eq e.name name) (get_or_default endpoints i d first within) ∙ ap (λ (n : List ℕ). bytes_eq n name) (sym c.as_str.ensures) ∙ differs in
      let few_here = every-in (λ (endpoint : Endpoint). endpoint.slot < ENDPOINTS_MAX) endpoints few (get_or endpoints i d) (In-get_or endpoints i d within) in
      let kept = last_kept name endpoints i d ascends within other (ap (λ n. without_endpoint name (drop n endpoints)) back ∙ c.loop-i.invariant) in
      let told = c.saturating_add.ensures in
      omega (arith, told, kept, few_here);
}
