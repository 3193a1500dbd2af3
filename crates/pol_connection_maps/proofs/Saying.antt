-- What is found in the maps of two ends is what these say of a port.
use Rattle.std.proofs.Common.{◌≡◌, ℕ, ◌<◌, Bool, false, List, Some, None, ap, ◌∙◌}
use Rattle.pol_ports.specs.declared.Direction.TheVariants.{Ingress, Egress}
use Rattle.pol_ports.specs.declared.Proto.{Proto}
use Rattle.pol_audit.specs.declared.difference.Difference.{Difference}
use Rattle.pol_port_ranges.specs.Ranges.{ranges}
use Rattle.pol_shut_ports.specs.Pairs.{changed_at, halves_at, open_at}
use Rattle.pol_shut_ports.specs.Shut.{word_in}
use Rattle.pol_connection_maps.specs.Seen.{Kept, Seen, seen_alone, seen_changed, seen_half, seen_halves}
use Rattle.pol_connection_maps.proofs.Alike.{same_ranges}

-- the two halves, by what is found for the numbers m and n
module _ (from to f t : Seen) (proto : Proto) (one : f ≡ from) (other : t ≡ to) (sent received : List Difference) (m n : ℕ) (to_is : m ≡ t.number) (from_is : n ≡ f.number)
    (s : (port : ℕ) → port < 65536 → word_in sent port ≡ seen_half f.entries Egress m proto port)
    (r : (port : ℕ) → port < 65536 → word_in received port ≡ seen_half t.entries Ingress n proto port) where
  pub halves_said : (port : ℕ) → port < 65536 → halves_at sent received port ≡ seen_halves from to proto port
  halves_said port small =
      let left = s port small ∙ ap (λ k. seen_half f.entries Egress k proto port) to_is in
      let right = r port small ∙ ap (λ k. seen_half t.entries Ingress k proto port) from_is in
      (λ i. record { sent = left i; received = right i }) ∙ (λ i. seen_halves (one i) (other i) proto port)

pub alone_ranges : (from to : Seen) (proto : Proto) (sent received : List Difference) → ((port : ℕ) → port < 65536 → halves_at sent received port ≡ seen_halves from to proto port)
    → ranges (open_at sent received) ≡ ranges (seen_alone from to proto)
alone_ranges from to proto sent received same =
    same_ranges (open_at sent received) (seen_alone from to proto) (λ port small i. record { before = None; after = same port small i; halves = false })

pub both_ranges : (from to : Kept) (proto : Proto) (halves : Bool) (s0 r0 s r : List Difference) → halves ≡ from.halves → ((port : ℕ) → port < 65536 → halves_at s0 r0 port ≡ seen_halves from.before to.before proto port)
    → ((port : ℕ) → port < 65536 → halves_at s r port ≡ seen_halves from.after to.after proto port) → ranges (changed_at halves s0 r0 s r) ≡ ranges (seen_changed from to proto)
both_ranges from to proto halves s0 r0 s r told was now =
    same_ranges (changed_at halves s0 r0 s r) (seen_changed from to proto) (λ port small i. record { before = Some (was port small i); after = now port small i; halves = told i })
