-- The selectors that are tried. No public clause cites this module.
use Rattle.std.specs.Prelude.{ℕ, ◌≡◌, true, List, filter}
use Rattle.pol_set_changes.specs.Ids.{has}
use Rattle.pol_headings.specs.declared.heading.Heading.{Heading}
use Rattle.pol_headings.specs.Heading.{heading_of}
use Rattle.pol_headings.specs.Tried.{is_among}
use Rattle.pol_ident.specs.Look.{selects_held}
use Rattle.pol_model.specs.declared.row.IdentityRow.{IdentityRow}
use Rattle.pol_rule.specs.declared.policy.Peer.{Peer}
use Rattle.pol_selcache.specs.Live.{Live}

-- those whose numbers are among these
abbrev pub of_numbers : List ℕ → List Live → List Live
of_numbers numbers live = filter (λ s. has s.number numbers) live

-- each peer that selects the number has its heading here
abbrev pub HasAllAt : List IdentityRow → List Heading → ℕ → Type 0
HasAllAt rows headings number = (p : Peer) → selects_held rows p number ≡ true → is_among headings (heading_of p) ≡ true
