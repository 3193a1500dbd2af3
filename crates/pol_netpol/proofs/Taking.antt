-- A peer's translation selects the numbers that the peer selects.
use Rattle.std.proofs.Common.{◌≡◌, ℕ, Bool, true, false, cond, not, ◌&&◌, ◌||◌, ◌==◌, List, [], ◌∷◌, ◌++◌, filter_map, Option, Some, None, option_map, refl, ap, ◌∙◌}
use Rattle.std.proofs.lemmas.Bool.{or_parts}
use Rattle.std.specs.List.{cons_option, list_any}
use Rattle.std.specs.Option.{option_map_or}
use Rattle.pol_addr.specs.Prefix.{covers, read_prefix}
use Rattle.pol_addr.specs.declared.network.Prefix.{Prefix}
use Rattle.pol_labels.specs.WellFormed.{all_well_formed}
use Rattle.pol_labels.specs.declared.requirement.Requirement.{Requirement}
use Rattle.pol_rule.specs.declared.policy.Peer.{Peer}
use Rattle.pol_rule.specs.declared.policy.Peer.TheVariants.{Cidr, Labels}
use Rattle.pol_rule.specs.declared.raw.RawCidrSet.{RawCidrSet}
use Rattle.pol_sanitize.specs.Peers.{exceptions_of}
use Rattle.pol_model.specs.Selects.{is_all, selects_number, selects_row}
use Rattle.pol_model.specs.declared.row.IdentityRow.{IdentityRow}
use Rattle.pol_netpol.specs.Faults.{asks_badly, has_bad_selector}
use Rattle.pol_netpol.specs.Meaning.{holds_prefix, meets_namespaces, meets_pods, peer_selects, takes_row}
use Rattle.pol_netpol.specs.Translated.{of_namespaces, of_pods, peer_by, peer_of, pods_peer}
use Rattle.pol_netpol.specs.declared.raw.RawNetPeer.{RawNetPeer}
use Rattle.pol_netpol.proofs.Formed.{pods_peer_formed}
use Rattle.pol_netpol.proofs.Selecting.{pods_peer_met}

-- ---- one row

-- what the peer, if there is one, says of the row
abbrev says_row : IdentityRow → Option Peer → Bool
says_row row o = option_map_or (λ p. selects_row p row) o false

pods_row : (own : List ℕ) (peer : RawNetPeer) (row : IdentityRow) → asks_badly peer ≡ false
    → says_row row (pods_peer own peer) ≡ (meets_pods peer.pods row.labels && meets_namespaces own peer.namespaces row.labels)
pods_row own peer row fine =
    let (pods, namespaces) = or_parts (has_bad_selector peer.pods) (has_bad_selector peer.namespaces) fine in
    let asked : List Requirement = of_pods peer.pods ++ of_namespaces own peer.namespaces in
    ap (λ b. says_row row (option_map Labels (cond b (Some asked) None))) (pods_peer_formed own peer.pods peer.namespaces pods namespaces)
    ∙ pods_peer_met own peer.pods peer.namespaces row.labels pods namespaces

excepted : (prefix : Prefix) (texts : List (List ℕ)) → list_any (λ range. covers range prefix) (filter_map read_prefix texts) ≡ list_any (holds_prefix prefix) texts
excepted prefix [] = refl
excepted prefix (text ∷ texts) =
    elim (read_prefix text) as (λ o. list_any (λ range. covers range prefix) (cons_option o (filter_map read_prefix texts)) ≡ (option_map_or (λ range. covers range prefix) o false || list_any (holds_prefix prefix) texts)) [
      | None ↦ excepted prefix texts
      | Some range ↦ ap (λ b. covers range prefix || b) (excepted prefix texts)
    ]

-- by the row's prefix, and by the range of the block
abbrev lies : Option Prefix → Prefix → Bool
lies prefix range = option_map_or (covers range) prefix false

block_prefix : (block : RawCidrSet) (range prefix : Option Prefix)
    → option_map_or (λ (r : Prefix). lies prefix r && not (list_any (lies prefix) (exceptions_of block))) range false
    ≡ option_map_or (λ (p : Prefix). option_map_or (λ (r : Prefix). covers r p) range false && not (list_any (holds_prefix p) block.except)) prefix false
block_prefix block None None = refl
block_prefix block None (Some p) = refl
block_prefix block (Some r) None = refl
block_prefix block (Some r) (Some p) = ap (λ b. covers r p && not b) (excepted p block.except)

block_row : (block : RawCidrSet) (row : IdentityRow) (range : Option Prefix)
    → says_row row (option_map (λ (r : Prefix). Cidr r (exceptions_of block)) range)
    ≡ option_map_or (λ (r : Prefix). lies row.prefix r && not (list_any (lies row.prefix) (exceptions_of block))) range false
block_row block row None = refl
block_row block row (Some r) = refl

row_by : (block : Option RawCidrSet) (own : List ℕ) (peer : RawNetPeer) (row : IdentityRow) → asks_badly peer ≡ false
    → says_row row (peer_by block own peer) ≡ takes_row block own peer row
row_by None own peer row fine = pods_row own peer row fine
row_by (Some block) own peer row fine = block_row block row (read_prefix block.cidr) ∙ block_prefix block (read_prefix block.cidr) row.prefix

-- ---- all rows
none_taken : (rows : List IdentityRow) (number : ℕ) → false ≡ list_any (λ row. (row.number == number) && false) rows
none_taken [] number = refl
none_taken (row ∷ rows) number =
    elim (row.number == number) as (λ b. false ≡ ((b && false) || list_any (λ row. (row.number == number) && false) rows)) [
      | true ↦ none_taken rows number
      | false ↦ none_taken rows number
    ]

by_rows : (o : Option Peer) (rows : List IdentityRow) (number : ℕ) → option_map_or is_all o false ≡ false
    → option_map_or (selects_number rows number) o false ≡ list_any (λ row. (row.number == number) && says_row row o) rows
by_rows None rows number not_all = none_taken rows number
by_rows (Some p) rows number not_all = ap (λ b. b || list_any (λ row. (row.number == number) && selects_row p row) rows) not_all

cidr_not_all : (block : RawCidrSet) (range : Option Prefix) → option_map_or is_all (option_map (λ (r : Prefix). Cidr r (exceptions_of block)) range) false ≡ false
cidr_not_all block None = refl
cidr_not_all block (Some r) = refl

pods_not_all : (requirements : List Requirement) (b : Bool) → option_map_or is_all (option_map Labels (cond b (Some requirements) None)) false ≡ false
pods_not_all requirements true = refl
pods_not_all requirements false = refl

not_all_by : (block : Option RawCidrSet) (own : List ℕ) (peer : RawNetPeer) → option_map_or is_all (peer_by block own peer) false ≡ false
not_all_by None own peer = pods_not_all _ (all_well_formed (of_pods peer.pods ++ of_namespaces own peer.namespaces))
not_all_by (Some block) own peer = cidr_not_all block (read_prefix block.cidr)

peer_number : (own : List ℕ) (peer : RawNetPeer) (rows : List IdentityRow) (number : ℕ) → asks_badly peer ≡ false
    → option_map_or (selects_number rows number) (peer_of own peer) false ≡ peer_selects own rows number peer
peer_number own peer rows number fine =
    by_rows (peer_of own peer) rows number (not_all_by peer.block own peer)
    ∙ (λ i. list_any (λ row. (row.number == number) && row_by peer.block own peer row fine i) rows)

any_cons : {X : Type 0} (test : X → Bool) (o : Option X) (xs : List X) → list_any test (cons_option o xs) ≡ (option_map_or test o false || list_any test xs)
any_cons test None xs = refl
any_cons test (Some x) xs = refl

pub peers_number : (own : List ℕ) (rows : List IdentityRow) (number : ℕ) (peers : List RawNetPeer) → list_any asks_badly peers ≡ false
    → list_any (selects_number rows number) (filter_map (peer_of own) peers) ≡ list_any (peer_selects own rows number) peers
peers_number own rows number [] fine = refl
peers_number own rows number (peer ∷ peers) fine =
    let (here, rest) = or_parts (asks_badly peer) (list_any asks_badly peers) fine in
    any_cons (selects_number rows number) (peer_of own peer) (filter_map (peer_of own) peers)
    ∙ (λ i. peer_number own peer rows number here i || peers_number own rows number peers rest i)
