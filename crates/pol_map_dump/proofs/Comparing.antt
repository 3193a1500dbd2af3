-- Maps of two states are compared as the verdicts of their scans are.
use Rattle.std.proofs.Common.{◌≡◌, ℕ, ◌<◌, ◌^◌, ◌↔◌, List, sym, ◌∙◌}
use Rattle.pol_ports.specs.declared.Direction.{Direction}
use Rattle.pol_ports.specs.declared.Proto.{Proto}
use Rattle.pol_mapkey.specs.Entries.{read_map}
use Rattle.pol_mapkey.specs.declared.Word.{Word}
use Rattle.pol_audit.specs.Audit.{Alike, IsLeastDiffering}
use Rattle.pol_audit.specs.declared.packet.Packet.{Packet}
use Rattle.pol_model.specs.After.{state_of}
use Rattle.pol_model.specs.PolicyMap.{policy_map}
use Rattle.pol_model.specs.Verdict.{verdict_of}
use Rattle.pol_model.specs.declared.options.Options.{Options}
use Rattle.pol_model.specs.declared.request.Request.{Request}
use Rattle.pol_model.specs.declared.row.Endpoint.{Endpoint}
use Rattle.pol_model_laws.proofs.Positive.{rows_positive}
use Rattle.pol_distill.proofs.MapLaw.{read_is_verdict}

-- equal to equals
along : (a b v w : Word) → a ≡ v → b ≡ w → (a ≡ b) ↔ (v ≡ w)
along a b v w one two = (λ same. sym one ∙ same ∙ two, λ same. one ∙ same ∙ sym two)

-- the map of an endpoint, and the verdict of the scan
abbrev map_in : Options → List Request → Endpoint → Direction → ℕ → Proto → ℕ → Word
map_in options requests endpoint = read_map (policy_map options (state_of options requests) endpoint)

abbrev verdict_in : Options → List Request → Endpoint → Direction → ℕ → Proto → ℕ → Word
verdict_in options requests endpoint = verdict_of options (state_of options requests) endpoint

read : (options : Options) (requests : List Request) (endpoint : Endpoint) (dir : Direction) (number : ℕ) (proto : Proto) (port : ℕ) → port < 2 ^ 16
    → map_in options requests endpoint dir number proto port ≡ verdict_in options requests endpoint dir number proto port
read options requests endpoint dir number proto port small =
    read_is_verdict options (state_of options requests) endpoint dir number proto port (rows_positive options requests) small

pub agree : (options later : Options) (requests more : List Request) (endpoint other : Endpoint) (dir : Direction) (number : ℕ) (proto : Proto) (port : ℕ) → port < 2 ^ 16
    → (map_in options requests endpoint dir number proto port ≡ map_in later more other dir number proto port)
    ↔ (verdict_in options requests endpoint dir number proto port ≡ verdict_in later more other dir number proto port)
agree options later requests more endpoint other dir number proto port small =
    along _ _ _ _ (read options requests endpoint dir number proto port small) (read later more other dir number proto port small)

module _ (options later : Options) (requests more : List Request) (endpoint other : Endpoint) where
  pub same : Alike (policy_map options (state_of options requests) endpoint) (policy_map later (state_of later more) other)
      ↔ ((dir : Direction) (number : ℕ) (proto : Proto) (port : ℕ) → port < 2 ^ 16
      → verdict_in options requests endpoint dir number proto port ≡ verdict_in later more other dir number proto port)
  same = (
    λ alike dir number proto port small. (agree options later requests more endpoint other dir number proto port small).0 (alike dir number proto port small),
    λ verdicts dir number proto port small. (agree options later requests more endpoint other dir number proto port small).1 (verdicts dir number proto port small),
  )

  pub differ : (p : Packet) → p.port < 2 ^ 16
      → IsLeastDiffering (policy_map options (state_of options requests) endpoint) (policy_map later (state_of later more) other) p
      → (verdict_in options requests endpoint p.dir p.id p.proto p.port ≡ p.left) × (verdict_in later more other p.dir p.id p.proto p.port ≡ p.right)
  differ p small is = (
    sym (read options requests endpoint p.dir p.id p.proto p.port small) ∙ is.left_word,
    sym (read later more other p.dir p.id p.proto p.port small) ∙ is.right_word,
  )
