-- The line of a policy is read as its request.
use Rattle.std.proofs.Common.{◌≡◌, ℕ, ◌<◌, ◌≤◌, ◌==◌, Bool, true, false, cond, codes, List, [], ◌∷◌, ◌++◌, Ok, refl, sym, ap, subst, ◌∙◌, arith}
use Rattle.std.specs.Fmt.{decimal}
use Rattle.pol_gen.specs.Generated.{policy_entry, policy_head}
use Rattle.pol_model.specs.declared.request.Request.TheVariants as request
use Rattle.pol_script.specs.declared.command.Command.TheVariants as command
use Rattle.pol_script.specs.Reading.{reading_of}
use Rattle.pol_script.specs.Steps.{◌>>=◌}
use Rattle.pol_generated.specs.Asked.{apply_policy, entry_of, rule_of}
use Rattle.pol_generated.proofs.Digits.{IsDigits, digits_of}
use Rattle.pol_generated.proofs.PolicyRead.{Written, policy_with, policy_is_read}
use Rattle.pol_generated.proofs.PolicyText.{Numbers, AreDigits, end_of, line_of, line_data, pieces, plain, one_line_of, ended_is, read_line}
use Rattle.pol_generated.proofs.Pieces.{text_of, five_fields}
use Rattle.pol_generated.proofs.Printing.{reading_from}
use Rattle.pol_generated.proofs.LinesRead.{Reads, one}

abbrev numbers : ℕ → ℕ → ℕ → ℕ → Numbers
numbers name app from first = record { name = decimal name; app = decimal app; from = decimal from; first = decimal first }

-- the draws of a policy
pub record AreDrawn (name app from first last : ℕ) : Type 0 where
  pub name_drawn : name < 64
  pub app_drawn : app < 8
  pub from_drawn : from < 8
  pub some : 1 ≤ first
  pub low : first ≤ 1024
  pub high : last ≤ 2000

module _ (name app from first last : ℕ) (drawn : AreDrawn name app from first last) where
  digits : AreDigits (numbers name app from first)
  digits = record {
    name = digits_of name (omega (arith, drawn.name_drawn));
    app = digits_of app (omega (arith, drawn.app_drawn));
    from = digits_of from (omega (arith, drawn.from_drawn));
    first = digits_of first (omega (arith, drawn.low));
  }

  last_digits : IsDigits (decimal last)
  last_digits = digits_of last (omega (arith, drawn.high))

  written : Written (numbers name app from first) first last
  written = record { digits = digits; is_first = refl; some = drawn.some; low = omega (arith, drawn.low); high = omega (arith, drawn.high) }

  line_read : (denies : Bool) → reading_of (line_of denies (numbers name app from first) (decimal last))
      ≡ Ok (command.Commit 1 (request.Apply (policy_with denies (numbers name app from first) (entry_of from first last).ports)))
  line_read denies =
      let n = numbers name app from first in
      reading_from (line_of denies n (decimal last)) (line_data denies n last) (plain denies n (decimal last) digits last_digits)
      (read_line denies n last digits (omega (arith, drawn.high))) refl
      ∙ ap (λ r. r >>= λ policy. Ok (command.Commit 1 (request.Apply policy))) (policy_is_read denies n first last written)

  reads : (denies : Bool) → Reads (text_of (pieces denies (numbers name app from first)) (end_of (decimal last) (codes "\n")))
      (command.Commit 1 (request.Apply (policy_with denies (numbers name app from first) (entry_of from first last).ports)) ∷ [])
  reads denies =
      let n = numbers name app from first in
      subst (λ t. Reads t (command.Commit 1 (request.Apply (policy_with denies n (entry_of from first last).ports)) ∷ [])) (ended_is denies n (decimal last))
      (one (line_of denies n (decimal last)) (command.Commit 1 (request.Apply (policy_with denies n (entry_of from first last).ports)))
      (one_line_of denies n (decimal last) digits last_digits) (line_read denies))

-- the text of the definition, put together
abbrev joined_with : List ℕ → ℕ → ℕ → ℕ → ℕ → ℕ → List ℕ
joined_with section name app from first last =
    (codes "{\"op\":\"apply\",\"policy\":{\"apiVersion\":\"cilium.io/v2\",\"kind\":\"CiliumNetworkPolicy\",\"metadata\":{\"name\":\"p" ++ decimal name
    ++ codes "\"},\"spec\":{\"endpointSelector\":{\"matchLabels\":{\"app\":\"a" ++ decimal app
    ++ section) ++ policy_entry from first last

fields : (section : List ℕ) (name app from first last : ℕ) → joined_with section name app from first last ≡ (
    codes "{\"op\":\"apply\",\"policy\":{\"apiVersion\":\"cilium.io/v2\",\"kind\":\"CiliumNetworkPolicy\",\"metadata\":{\"name\":\"p" ++ (decimal name
    ++ (codes "\"},\"spec\":{\"endpointSelector\":{\"matchLabels\":{\"app\":\"a" ++ (decimal app
    ++ (section ++ (codes "{\"fromEndpoints\":[{\"matchLabels\":{\"app\":\"a" ++ (decimal from
    ++ (codes "\"}}],\"toPorts\":[{\"ports\":[{\"port\":\"" ++ (decimal first
    ++ (codes "\",\"endPort\":" ++ (decimal last ++ codes ",\"protocol\":\"TCP\"}]}]}]}}}\n"))))))))))
    )
fields section name app from first last =
    five_fields (codes "{\"op\":\"apply\",\"policy\":{\"apiVersion\":\"cilium.io/v2\",\"kind\":\"CiliumNetworkPolicy\",\"metadata\":{\"name\":\"p") (decimal name)
    (codes "\"},\"spec\":{\"endpointSelector\":{\"matchLabels\":{\"app\":\"a") (decimal app) section
    (codes "{\"fromEndpoints\":[{\"matchLabels\":{\"app\":\"a") (decimal from) (codes "\"}}],\"toPorts\":[{\"ports\":[{\"port\":\"") (decimal first)
    (codes "\",\"endPort\":") (decimal last) (codes ",\"protocol\":\"TCP\"}]}]}]}}}\n")

joined_at : (denies : Bool) (name app from first last section : ℕ) → (section == 0) ≡ denies
    → policy_head name app section ++ policy_entry from first last ≡ text_of (pieces denies (numbers name app from first)) (end_of (decimal last) (codes "\n"))
joined_at true name app from first last section is =
    ap (λ b. joined_with (cond b (codes "\"}},\"ingressDeny\":[") (codes "\"}},\"ingress\":[")) name app from first last) is
    ∙ fields (codes "\"}},\"ingressDeny\":[") name app from first last
joined_at false name app from first last section is =
    ap (λ b. joined_with (cond b (codes "\"}},\"ingressDeny\":[") (codes "\"}},\"ingress\":[")) name app from first last) is
    ∙ fields (codes "\"}},\"ingress\":[") name app from first last

asked_at : (denies : Bool) (name app from first last section : ℕ) → (section == 0) ≡ denies
    → command.Commit 1 (request.Apply (policy_with denies (numbers name app from first) (entry_of from first last).ports))
    ≡ apply_policy name (rule_of app section (entry_of from first last))
asked_at true name app from first last section is = rw is refl
asked_at false name app from first last section is = rw is refl

pub apply_reads : (name app from first last section : ℕ) → AreDrawn name app from first last
    → Reads (policy_head name app section ++ policy_entry from first last) (apply_policy name (rule_of app section (entry_of from first last)) ∷ [])
apply_reads name app from first last section drawn =
    let denies = section == 0 in
    subst (λ t. Reads t (apply_policy name (rule_of app section (entry_of from first last)) ∷ [])) (sym (joined_at denies name app from first last section refl))
    (subst (λ c. Reads (text_of (pieces denies (numbers name app from first)) (end_of (decimal last) (codes "\n"))) (c ∷ [])) (asked_at denies name app from first last section refl)
    (reads name app from first last drawn denies))
