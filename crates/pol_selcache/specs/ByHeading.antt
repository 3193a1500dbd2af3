-- Numbers under the headings of the peers that select them. No public clause cites this module.
use Rattle.std.specs.Prelude.{ℕ, ◌≡◌, ◌==◌, ◌<◌, ◌^◌, ◌||◌, true, List, length}
use Rattle.std.specs.List.Sorted.{IsStrictlySortedBy}
use Rattle.std.specs.Ordering.{nat_cmp}
use Rattle.pol_set_changes.specs.Ids.{has}
use Rattle.pol_headings.specs.declared.heading.Heading.{Heading}
use Rattle.pol_headings.specs.Filed.{Drawers, is_filed}
use Rattle.pol_headings.specs.Heading.{heading_of}
use Rattle.pol_ident.specs.Look.{selects_held}
use Rattle.pol_model.specs.declared.row.IdentityRow.{IdentityRow}
use Rattle.pol_rule.specs.declared.policy.Peer.{Peer}
use Rattle.pol_selcache.specs.declared.by_heading.ByHeading.{ByHeading}

-- each of the numbers is filed under the heading of each peer that selects it, and nothing else is filed
pub record AreFiled (rows : List IdentityRow) (numbers : List ℕ) (filing : Drawers) : Type 0 where
  pub all : (n : ℕ) (p : Peer) → has n numbers ≡ true → selects_held rows p n ≡ true → is_filed filing (heading_of p) n ≡ true
  pub only : (heading : Heading) (n : ℕ) → is_filed filing heading n ≡ true → has n numbers ≡ true

-- what is filed has 32 bits
abbrev pub AreSmall : Drawers → Type 0
AreSmall filing = (heading : Heading) (n : ℕ) → is_filed filing heading n ≡ true → n < 2 ^ 32

-- where there are several numbers, they are filed
pub record IsByHeading (rows : List IdentityRow) (own : ByHeading) : Type 0 where
  pub filed : 1 < length own.numbers.now → AreFiled rows own.numbers.now own.filing
  pub small : AreSmall own.filing

-- beside what was filed, the number is under the heading of each peer that selects it, and nothing else is filed
pub record IsFiledToo (rows : List IdentityRow) (number : ℕ) (old new : Drawers) : Type 0 where
  pub own : (p : Peer) → selects_held rows p number ≡ true → is_filed new (heading_of p) number ≡ true
  pub kept : (heading : Heading) (n : ℕ) → is_filed old heading n ≡ true → is_filed new heading n ≡ true
  pub only : (heading : Heading) (n : ℕ) → is_filed new heading n ≡ true → (is_filed old heading n || (number == n)) ≡ true
  pub small : number < 2 ^ 32

-- some of the numbers, ascending, with all of them that the peer selects
pub record AreThoseFor (rows : List IdentityRow) (p : Peer) (numbers few : List ℕ) : Type 0 where
  pub ascend : IsStrictlySortedBy nat_cmp few
  pub all : (n : ℕ) → has n numbers ≡ true → selects_held rows p n ≡ true → has n few ≡ true
  pub only : (n : ℕ) → has n few ≡ true → has n numbers ≡ true
