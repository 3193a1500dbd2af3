-- What it takes to judge a held number.
use Rattle.std.specs.Prelude.{ℕ, if◌then◌else◌, List, filter}
use Rattle.std.specs.Option.{option_map_or}
use Rattle.pol_model_laws.specs.Holding.{row_of}
use Rattle.pol_headings.specs.declared.heading.Heading.{Heading}
use Rattle.pol_headings.specs.declared.heading.Heading.TheVariants as heading
use Rattle.pol_headings.specs.Heading.{heading_of}
use Rattle.pol_headings.specs.Stands.{stands_under}
use Rattle.pol_model.specs.declared.row.IdentityRow.{IdentityRow}
use Rattle.pol_rule.specs.declared.policy.Peer.{Peer}
use Rattle.pol_rule.specs.declared.policy.Peer.TheVariants as peer
use Rattle.pol_selcache.specs.Live.{is_label_peer}

-- how many match steps it takes to judge one number
abbrev pub steps_of : Peer → ℕ
steps_of p = if is_label_peer p then 1 else 0

-- and how many to judge this one: none where it isn't held
abbrev pub steps_at : List IdentityRow → Peer → ℕ → ℕ
steps_at rows p number = option_map_or (λ (row : IdentityRow). steps_of p) (row_of number rows) 0

-- Under what the identities stand that are judged for a peer's new selector: under a prefix itself, and else under the
-- peer's heading.
abbrev pub judged_under : Peer → Heading
judged_under (peer.Labels selector) = heading_of (peer.Labels selector)
judged_under (peer.Cidr prefix except) = heading.Prefix prefix
judged_under (peer.Entity entity) = heading_of (peer.Entity entity)

-- the rows that are judged
abbrev pub rows_judged : List IdentityRow → Peer → List IdentityRow
rows_judged rows p = filter (stands_under (judged_under p)) rows
