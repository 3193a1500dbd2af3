-- An end, and what is seen of it.
use Rattle.std.proofs.Common.{◌≡◌, ℕ, ◌<◌, not, ◌&&◌, Bool, true, false, cond, List, [], ◌∷◌, ◌++◌, map, filter, is_some, refl, ap, ◌∙◌}
use Rattle.std.specs.List.{flat_map}
use Rattle.pol_ports.specs.declared.Direction.{Direction}
use Rattle.pol_ports.specs.declared.Direction.TheVariants.{Ingress, Egress}
use Rattle.pol_ports.specs.declared.Proto.{Proto}
use Rattle.pol_ports.specs.declared.Proto.TheVariants.{Tcp, Udp, Sctp}
use Rattle.pol_model.specs.declared.options.Options.{Options}
use Rattle.pol_model.specs.State.{State}
use Rattle.pol_port_ranges.specs.declared.said.PortSaid.{PortSaid}
use Rattle.pol_port_ranges.specs.Ranges.{all_ports, ranges}
use Rattle.pol_port_ranges.specs.Said.{told}
use Rattle.pol_port_ranges.proofs.Normal.{of_ports}
use Rattle.pol_connections.specs.Connections.{connection, half, halves_of, is_asked, pair_ranges}
use Rattle.pol_connections.specs.Ends.{End}
use Rattle.pol_connection_maps.specs.Lists.{pair_list}
use Rattle.pol_connection_maps.specs.Seen.{Seen, seen_asked, seen_half, seen_halves}

-- what is seen of an end in a state is told right
pub record Agrees (options : Options) (s : State) (end : End) (seen : Seen) : Type 0 where
  pub name : seen.name ≡ end.name
  pub number : seen.number ≡ end.number
  pub policy : is_some seen.entries ≡ is_some end.subject
  pub half : (dir : Direction) (number : ℕ) (proto : Proto) (port : ℕ) → port < 65536 → seen_half seen.entries dir number proto port ≡ half options s end.subject dir number proto port

-- and so of all ends, one after another
abbrev pub AllAgree : Options → State → List End → List Seen → Type 0
AllAgree options s [] [] = Unit {0}
AllAgree options s (end ∷ ends) (seen ∷ others) = Agrees options s end seen × AllAgree options s ends others
AllAgree options s _ _ = ⊥

pub all-append : (options : Options) (s : State) (es fs : List End) (xs ys : List Seen) → AllAgree options s es xs → AllAgree options s fs ys → AllAgree options s (es ++ fs) (xs ++ ys)
all-append options s [] fs [] ys one other = other
all-append options s [] fs (x ∷ xs) ys one other = absurd one
all-append options s (e ∷ es) fs [] ys one other = absurd one
all-append options s (e ∷ es) fs (x ∷ xs) ys one other = (one.0, all-append options s es fs xs ys one.1 other)

-- ranges of what is said alike of each port are one list
pub same_ranges : (f g : ℕ → PortSaid) → ((port : ℕ) → port < all_ports → f port ≡ g port) → ranges f ≡ ranges g
same_ranges f g same = (of_ports f g).1 (λ port small. ap told (same port small))

module _ (options : Options) (s : State) (from to : End) (sf st : Seen) (one : Agrees options s from sf) (other : Agrees options s to st) where
  pub same_halves : (proto : Proto) (port : ℕ) → port < 65536 → seen_halves sf st proto port ≡ halves_of options s from to proto port
  same_halves proto port small =
      let sent = one.half Egress st.number proto port small ∙ ap (λ n. half options s from.subject Egress n proto port) other.number in
      let received = other.half Ingress sf.number proto port small ∙ ap (λ n. half options s to.subject Ingress n proto port) one.number in
      λ i. record { sent = sent i; received = received i }

  pub same_asked : seen_asked sf st ≡ is_asked from to
  same_asked = λ i. not (not (one.policy i) && not (other.policy i))

-- the lists of a pair of which the same is said
pub same_pair : (f g : Proto → ℕ → PortSaid) (from to : End) (sf st : Seen) → sf.name ≡ from.name → st.name ≡ to.name
    → ((proto : Proto) (port : ℕ) → port < all_ports → f proto port ≡ g proto port) → pair_list f sf.name st.name ≡ pair_ranges all_ports g from to
same_pair f g from to sf st one other same =
    (λ i. pair_list f (one i) (other i))
    ∙ (λ i. map (connection from to Tcp) (tcp i) ++ (map (connection from to Udp) (udp i) ++ (map (connection from to Sctp) (sctp i) ++ [])))
  where
    tcp : ranges (f Tcp) ≡ ranges (g Tcp)
    tcp = same_ranges (f Tcp) (g Tcp) (same Tcp)

    udp : ranges (f Udp) ≡ ranges (g Udp)
    udp = same_ranges (f Udp) (g Udp) (same Udp)

    sctp : ranges (f Sctp) ≡ ranges (g Sctp)
    sctp = same_ranges (f Sctp) (g Sctp) (same Sctp)

-- one element more, where both tests say the same
pub passed : {X Y Z : Type 0} (f : X → List Z) (g : Y → List Z) (p : X → Bool) (q : Y → Bool) (x : X) (y : Y) (xs : List X) (ys : List Y)
    → p x ≡ q y → f x ≡ g y → flat_map f (filter p xs) ≡ flat_map g (filter q ys) → flat_map f (filter p (x ∷ xs)) ≡ flat_map g (filter q (y ∷ ys))
passed f g p q x y xs ys tests same rest = by (p x) (q y) refl refl tests
  where
    by : (a b : Bool) → p x ≡ a → q y ≡ b → a ≡ b → flat_map f (cond a (x ∷ filter p xs) (filter p xs)) ≡ flat_map g (cond b (y ∷ filter q ys) (filter q ys))
    by true true _ _ e = λ i. same i ++ rest i
    by true false _ _ e = absurd (let wrong : ⊥ = cc in wrong)
    by false true _ _ e = absurd (let wrong : ⊥ = cc in wrong)
    by false false _ _ e = rest
