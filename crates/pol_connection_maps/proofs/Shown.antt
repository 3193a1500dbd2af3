-- Where an end stays as it was, nothing is told.
use Rattle.std.proofs.Common.{◌≡◌, ℕ, zero, suc, ◌+◌, not, Bool, true, false, cond, [], None, refl, ap, ◌∙◌}
use Rattle.std.proofs.lemmas.Bool.{and_parts}
use Rattle.pol_ports.specs.declared.Direction.TheVariants.{Ingress, Egress}
use Rattle.pol_ports.specs.declared.Proto.{Proto}
use Rattle.pol_port_ranges.specs.declared.said.Halves.{Halves}
use Rattle.pol_port_ranges.specs.declared.said.PortSaid.{PortSaid}
use Rattle.pol_port_ranges.specs.Ranges.{all_ports, joined, ranges, ranges_from}
use Rattle.pol_port_ranges.specs.Said.{changes, differ, is_open, is_told, same_halves}
use Rattle.pol_port_ranges.proofs.Front.{from_more, from_none}
use Rattle.pol_port_ranges.proofs.Same.{same_said-self}
use Rattle.pol_connection_maps.specs.Seen.{Kept, StayAsTheyAre, seen_changed, seen_half, seen_halves}

-- where nothing is told there is no range
none_from : (f : ℕ → PortSaid) → ((q : ℕ) → is_told (f q) ≡ false) → (count port : ℕ) → ranges_from count port f ≡ []
none_from f none zero port = from_none f port
none_from f none (suc count) port =
    from_more f count port
    ∙ ap (λ b. cond b (joined port port (f port) (ranges_from count (port + 1) f)) (ranges_from count (port + 1) f)) (none port)
    ∙ none_from f none count (port + 1)

no_ranges : (f : ℕ → PortSaid) → ((q : ℕ) → is_told (f q) ≡ false) → ranges f ≡ []
no_ranges f none = none_from f none all_ports 0

same_halves-self : (h : Halves) → same_halves h h ≡ true
same_halves-self h = (and_parts (same_halves h h) true (same_said-self (record { before = None; after = h; halves = false }))).0

nothing_changes : (halves : Bool) (h : Halves) → changes halves h h ≡ false
nothing_changes true h = ap not (same_halves-self h)
nothing_changes false h = by (is_open h)
  where
    by : (b : Bool) → differ b b ≡ false
    by true = refl
    by false = refl

module _ (from to : Kept) (stay : StayAsTheyAre from to) where
  same_words : (proto : Proto) (port : ℕ) → seen_halves from.before to.before proto port ≡ seen_halves from.after to.after proto port
  same_words proto port = λ i. record {
    sent = seen_half (stay.0.entries i) Egress (stay.1.number i) proto port;
    received = seen_half (stay.1.entries i) Ingress (stay.0.number i) proto port;
  }

  nothing_told : (proto : Proto) (port : ℕ) → is_told (seen_changed from to proto port) ≡ false
  nothing_told proto port =
      let after : Halves = seen_halves from.after to.after proto port in
      ap (λ h. changes from.halves h after) (same_words proto port) ∙ nothing_changes from.halves after

  -- so no range is told
  pub stays_none : (proto : Proto) → ranges (seen_changed from to proto) ≡ []
  stays_none proto = no_ranges (seen_changed from to proto) (nothing_told proto)
