-- The live selectors of a cache, and what it is that their sets are exact. Equal peers share one selector; its number,
-- and that it goes with its last reference, are 'profile'.
use Rattle.std.specs.Prelude.{ℕ, ◌≡◌, ◌+◌, ◌-◌, ◌<◌, ◌==◌, not, nat_lt, Bool, true, false, if◌then◌else◌, List, map, filter, find, count_by, Option, option_map}
use Rattle.std.specs.List.{AllByRecursion, IsDistinct, list_any}
use Rattle.pol_rule.specs.contracts.policy.PeerPartialEq.TheImpl as peers
use Rattle.pol_rule.specs.declared.policy.Peer.{Peer}
use Rattle.pol_rule.specs.declared.policy.Peer.TheVariants as peer
use Rattle.pol_model.specs.Ascending.{Ascends}
use Rattle.pol_model.specs.declared.row.IdentityRow.{IdentityRow}
use Rattle.pol_model.specs.Selects.{set_at}
use Rattle.pol_set_changes.specs.Ids.{has}

-- a live selector: its number, its peer, how many references there are to it, and the numbers of its set
pub record Live : Type 0 where
  pub number : ℕ
  pub peer : Peer
  pub references : ℕ
  pub set : List ℕ

-- What the live selectors of every cache keep: their numbers ascend, each has a reference, and no two have equal peers.
pub record AreLive (live : List Live) : Type 0 where
  pub numbers : Ascends (map (λ s. s.number) live)
  pub referenced : AllByRecursion (λ s. 0 < s.references) live
  pub apart : IsDistinct peers.ghosts.eq (map (λ s. s.peer) live)

-- the rows whose number isn't one of these
abbrev pub rows_without : List ℕ → List IdentityRow → List IdentityRow
rows_without numbers rows = filter (λ row. not (has row.number numbers)) rows

-- each live selector's set has exactly the numbers of the rows that its peer selects
abbrev pub AreExact : List IdentityRow → List Live → Type 0
AreExact rows live = AllByRecursion (λ s. s.set ≡ set_at rows s.peer) live

-- the live selector of the number
abbrev pub selector_of : ℕ → List Live → Option Live
selector_of number live = find (λ s. s.number == number) live

abbrev pub is_live : ℕ → List Live → Bool
is_live number live = list_any (λ s. s.number == number) live

-- the number of the live selector of an equal peer
abbrev pub number_of : Peer → List Live → Option ℕ
number_of p live = option_map (λ s. s.number) (find (λ s. peers.ghosts.eq p s.peer) live)

-- the selector, changed so where its number is this one
abbrev pub where_number : ℕ → (Live → Live) → Live → Live
where_number number change s = if s.number == number then change s else s

abbrev pub one_more : Live → Live
one_more s = record s { references = s.references + 1 }

abbrev pub one_less : Live → Live
one_less s = record s { references = s.references - 1 }

abbrev pub with_count : ℕ → Live → Live
with_count references s = record s { references = references }

abbrev pub with_numbers : List ℕ → Live → Live
with_numbers set s = record s { set = set }

-- one reference more
abbrev pub with_reference : ℕ → List Live → List Live
with_reference number live = map (where_number number one_more) live

-- one reference less; a selector without one goes
abbrev pub without_reference : ℕ → List Live → List Live
without_reference number live = filter (λ s. nat_lt 0 s.references) (map (where_number number one_less) live)

-- another set
abbrev pub with_set : ℕ → List ℕ → List Live → List Live
with_set number set live = map (where_number number (with_numbers set)) live

abbrev pub is_label_peer : Peer → Bool
is_label_peer (peer.Labels selector) = true
is_label_peer _ = false

-- how many live selectors are label selectors
abbrev pub label_selectors : List Live → ℕ
label_selectors live = count_by (λ s. is_label_peer s.peer) live
