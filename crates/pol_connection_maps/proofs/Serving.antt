-- A map that was made before a change serves after it, where its filters give the same and their peers have the same sets.
use Rattle.std.proofs.Common.{◌≡◌, ℕ, ◌+◌, ◌<◌, ◌≤◌, Bool, true, false, not, cond, List, [], ◌∷◌, ◌++◌, ◌==◌, Bor, IfSome, map, filter, get_or, length, take, Option, None, Some, refl, sym, ap, subst, ◌∙◌}
use Rattle.std.specs.Arc.{arc_value}
use Rattle.std.specs.List.{AllByRecursion}
use Rattle.std.specs.Option.{option_copied, option_map_or}
use Rattle.std.proofs.lemmas.List.{take_all, take_more}
use Rattle.pol_data.proofs.Every.{every-append, every-kept, every-map, every-weaker}
use Rattle.pol_data.proofs.Members.{every-in}
use Rattle.pol_ports.specs.declared.Direction.{Direction}
use Rattle.pol_ports.specs.declared.Direction.TheVariants.{Ingress, Egress}
use Rattle.pol_rule.specs.declared.policy.Entry.{Entry}
use Rattle.pol_rule.specs.declared.policy.Peer.{Peer}
use Rattle.pol_rule.specs.declared.policy.Peers.TheVariants.{Listed}
use Rattle.pol_model.specs.declared.row.IdentityRow.{IdentityRow}
use Rattle.pol_model.specs.PolicyMap.{canonical, raw_entries}
use Rattle.pol_model_laws.specs.MapFacts.{AgreeOnEntries, AgreeOnParts, AgreeOnPeers}
use Rattle.pol_model_laws.proofs.Membership.{find-In}
use Rattle.pol_model_laws.proofs.PeerSets.{map_same}
use Rattle.pol_sets.specs.declared.sets.SetRow.{SetRow}
use Rattle.pol_sets.specs.Sets.{set_given}
use Rattle.pol_filters.specs.declared.filter.Filter.{Filter}
use Rattle.pol_filters.specs.declared.filter.Filters.{Filters}
use Rattle.pol_filters.specs.FilterParts.{allowing, denying, enforced_in, entry_of, filter_parts, filters_of}
use Rattle.pol_distill.specs.Distilled.{distilled}
use Rattle.pol_connection_maps.specs.Again.{AgreeOnFilters, GiveTheSame, GiveTheSameList, IsMadeOf, part_of}
use Rattle.pol_connection_maps.specs.declared.rows.StateRows.{StateRows}
use Rattle.pol_connection_maps.specs.Maps.{NumberEntries, map_at, may_be_subject, number_maps, row_entries}
use Rattle.pol_connection_maps.specs.PeerRows.{first_row}
use Rattle.pol_connection_maps.proofs.Lookup.{map_turn}

-- ---- the same parts
pub same_entries : (one other : Filter) → one.peers ≡ other.peers → one.ports ≡ other.ports → entry_of one ≡ entry_of other
same_entries one other peers ports = λ i. record { peers = peers i; ports = ports i }

pub same_part : (one other : Filter) → one.deny ≡ other.deny → entry_of one ≡ entry_of other → part_of one ≡ part_of other
same_part one other deny entry = λ i. (deny i, entry i)

abbrev picked : (Bool → Bool) → List (Bool × Entry) → List Entry
picked test parts = map (λ (p : Bool × Entry). p.1) (filter (λ (p : Bool × Entry). test p.0) parts)

by_parts : (test : Bool → Bool) (fs : List Filter) → map entry_of (filter (λ (one : Filter). test one.deny) fs) ≡ picked test (map part_of fs)
by_parts test [] = refl
by_parts test (f ∷ fs) = by (test f.deny) (by_parts test fs)
  where
    by : (b : Bool) → map entry_of (filter (λ (one : Filter). test one.deny) fs) ≡ picked test (map part_of fs)
        → map entry_of (cond b (f ∷ filter (λ (one : Filter). test one.deny) fs) (filter (λ (one : Filter). test one.deny) fs))
        ≡ map (λ (p : Bool × Entry). p.1) (cond b (part_of f ∷ filter (λ (p : Bool × Entry). test p.0) (map part_of fs)) (filter (λ (p : Bool × Entry). test p.0) (map part_of fs)))
    by true same = ap (λ es. entry_of f ∷ es) same
    by false same = same

same_picked : (test : Bool → Bool) (xs ys : List Filter) → GiveTheSameList xs ys → map entry_of (filter (λ (one : Filter). test one.deny) xs) ≡ map entry_of (filter (λ (one : Filter). test one.deny) ys)
same_picked test xs ys same = by_parts test xs ∙ ap (picked test) same ∙ sym (by_parts test ys)

module _ (one other : Filters) (same : GiveTheSame one other) where
  enforced : (dir : Direction) → enforced_in one dir ≡ enforced_in other dir
  enforced Ingress = same.ingress_enforced
  enforced Egress = same.egress_enforced

  lists : (dir : Direction) → GiveTheSameList (filters_of one dir) (filters_of other dir)
  lists Ingress = same.ingress
  lists Egress = same.egress

  allows : (dir : Direction) → allowing (filters_of one dir) ≡ allowing (filters_of other dir)
  allows dir = same_picked not (filters_of one dir) (filters_of other dir) (lists dir)

  denies : (dir : Direction) → denying (filters_of one dir) ≡ denying (filters_of other dir)
  denies dir = same_picked (λ b. b) (filters_of one dir) (filters_of other dir) (lists dir)

  pub same_parts : filter_parts one ≡ filter_parts other
  same_parts = λ i. record {
    never = same.never i;
    enforced = λ dir. enforced dir i;
    localhost = same.localhost i;
    allows = λ dir. allows dir i;
    denies = λ dir. denies dir i;
  }

-- ---- the same sets
module _ (before after : List SetRow) where
  entries_agree : (test : Filter → Bool) (filters : List Filter) → AgreeOnFilters before after filters → AgreeOnEntries (set_given before) (set_given after) (map entry_of (filter test filters))
  entries_agree test filters all =
      every-map (λ entry. AgreeOnPeers (set_given before) (set_given after) entry.peers) entry_of (filter test filters)
      (every-kept (λ one. AgreeOnPeers (set_given before) (set_given after) one.peers) test filters all)

  module _ (filters : Filters) (ingress : AgreeOnFilters before after filters.ingress) (egress : AgreeOnFilters before after filters.egress) where
    in_direction : (dir : Direction) → AgreeOnFilters before after (filters_of filters dir)
    in_direction Ingress = ingress
    in_direction Egress = egress

    pub sets_agree : AgreeOnParts (set_given before) (set_given after) (filter_parts filters)
    sets_agree = record {
      allows = λ dir. entries_agree _ (filters_of filters dir) (in_direction dir);
      denies = λ dir. entries_agree _ (filters_of filters dir) (in_direction dir);
    }

  pub listed_agree : (peers : List Peer) → AllByRecursion (λ p. set_given before p ≡ set_given after p) peers → AgreeOnPeers (set_given before) (set_given after) (Listed peers)
  listed_agree peers all = every-weaker (λ p. set_given before p ≡ set_given after p) _ (λ p same _. same) peers all

  pub serves : (own : NumberEntries) (filters : Filters) → GiveTheSame own.filters filters → AgreeOnFilters before after own.filters.ingress → AgreeOnFilters before after own.filters.egress
      → IsMadeOf before own → own.entries ≡ distilled filters after
  serves own filters same ingress egress made =
      made ∙ map_same (set_given before) (set_given after) (filter_parts own.filters) (sets_agree own.filters ingress egress)
      ∙ ap (λ parts. canonical (raw_entries (set_given after) parts)) (same_parts own.filters filters same)

-- the first rows of a peer with equal sets
pub same_given : (before after : List SetRow) (p : Peer) (one other : SetRow) → Some one ≡ first_row before p → Some other ≡ first_row after p → arc_value one.set ≡ arc_value other.set
    → set_given before p ≡ set_given after p
same_given before after p one other first second same =
    sym (ap (λ o. option_map_or (λ (row : SetRow). arc_value row.set) o []) first) ∙ same ∙ ap (λ o. option_map_or (λ (row : SetRow). arc_value row.set) o []) second

-- ---- the maps of the state before
pub maps_made : (rows : StateRows) (sets : List SetRow) → AllByRecursion (IsMadeOf sets) (number_maps rows sets)
maps_made rows sets = each (filter may_be_subject rows.identities.now)
  where
    each : (rs : List IdentityRow) → AllByRecursion (IsMadeOf sets) (map (row_entries rows sets) rs)
    each [] = tt
    each (r ∷ rs) = (refl, each rs)

pub made_at : (sets : List SetRow) (maps : List NumberEntries) (number : ℕ) (found : Option (Bor NumberEntries)) → AllByRecursion (IsMadeOf sets) maps → option_copied found ≡ map_at number maps
    → IfSome found (λ own. IsMadeOf sets own.now)
made_at sets maps number None all is = tt
made_at sets maps number (Some own) all is = every-in (IsMadeOf sets) maps all own.now (find-In (λ (m : NumberEntries). m.number == number) own.now maps (sym is)).0

-- ---- turns of loops
pub every_turn : {X : Type 0} (P : X → Type 0) (xs : List X) (i : ℕ) (x : X) → AllByRecursion P (take i xs) → P x → i < length xs → x ≡ get_or xs i x → AllByRecursion P (take (i + 1) xs)
every_turn P xs i x all here within is =
    subst (AllByRecursion P) (sym (take_more xs i x within ∙ ap (λ q. take i xs ++ q ∷ []) (sym is))) (every-append P (take i xs) (x ∷ []) all (here, tt))

pub every_whole : {X : Type 0} (P : X → Type 0) (xs : List X) (i : ℕ) → AllByRecursion P (take i xs) → length xs ≤ i → AllByRecursion P xs
every_whole P xs i all end = subst (AllByRecursion P) (take_all i xs end) all

pub part_turn : (xs ys : List Filter) (i : ℕ) (x y : Filter) → map part_of (take i xs) ≡ map part_of (take i ys) → part_of x ≡ part_of y → i < length xs → length xs ≡ length ys
    → x ≡ get_or xs i x → y ≡ get_or ys i y → map part_of (take (i + 1) xs) ≡ map part_of (take (i + 1) ys)
part_turn xs ys i x y so_far here within same is its =
    sym (map_turn part_of part_of (take i ys) xs i y x (sym so_far) (sym here) within is) ∙ map_turn part_of part_of (take i ys) ys i y y refl refl (subst (λ n. i < n) same within) its

pub part_whole : (xs ys : List Filter) (i : ℕ) → map part_of (take i xs) ≡ map part_of (take i ys) → length xs ≤ i → length xs ≡ length ys → GiveTheSameList xs ys
part_whole xs ys i so_far end same =
    ap (map part_of) (sym (take_all i xs end)) ∙ so_far ∙ ap (map part_of) (take_all i ys (subst (λ n. n ≤ i) same end))

module _ (before after : List SetRow) where
  abbrev Alike : Peer → Type 0
  Alike p = set_given before p ≡ set_given after p

  pub peer_turn : (ps : List Peer) (i : ℕ) (p : Peer) → AllByRecursion (λ p. set_given before p ≡ set_given after p) (take i ps) → set_given before p ≡ set_given after p
      → i < length ps → p ≡ get_or ps i p → AllByRecursion (λ p. set_given before p ≡ set_given after p) (take (i + 1) ps)
  peer_turn ps i p all here within is = every_turn Alike ps i p all here within is

  pub peer_whole : (ps : List Peer) (i : ℕ) → AllByRecursion (λ p. set_given before p ≡ set_given after p) (take i ps) → length ps ≤ i
      → AllByRecursion (λ p. set_given before p ≡ set_given after p) ps
  peer_whole ps i all end = every_whole Alike ps i all end

  abbrev FilterAlike : Filter → Type 0
  FilterAlike one = AgreeOnPeers (set_given before) (set_given after) one.peers

  pub filter_turn : (fs : List Filter) (i : ℕ) (f : Filter) → AgreeOnFilters before after (take i fs) → AgreeOnPeers (set_given before) (set_given after) f.peers
      → i < length fs → f ≡ get_or fs i f → AgreeOnFilters before after (take (i + 1) fs)
  filter_turn fs i f all here within is = every_turn FilterAlike fs i f all here within is

  pub filter_whole : (fs : List Filter) (i : ℕ) → AgreeOnFilters before after (take i fs) → length fs ≤ i → AgreeOnFilters before after fs
  filter_whole fs i all end = every_whole FilterAlike fs i all end
