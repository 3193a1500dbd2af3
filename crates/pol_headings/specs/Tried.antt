-- Which selectors are tried for an identity, and where the identity itself is filed.
use Rattle.std.specs.Prelude.{◌≡◌, ◌&&◌, Bool, true, List, Option}
use Rattle.std.specs.List.{list_any}
use Rattle.pol_addr.specs.declared.network.Prefix.{Prefix}
use Rattle.pol_headings.specs.declared.heading.Heading.{Heading}
use Rattle.pol_headings.specs.Heading.{heading_of, same_heading}
use Rattle.pol_headings.specs.Stands.{is_whole, stands_with}
use Rattle.pol_labels.specs.declared.label.Label.{Label}
use Rattle.pol_model.specs.declared.row.IdentityRow.{IdentityRow}
use Rattle.pol_model.specs.Selects.{selects_row}
use Rattle.pol_rule.specs.declared.policy.Peer.{Peer}

-- the heading is one of these
abbrev pub is_among : List Heading → Heading → Bool
is_among headings heading = list_any (same_heading heading) headings

-- the heading is one under which an identity of these labels and this prefix is filed: of those under which it stands,
-- the ones that may be a peer's
abbrev pub is_filed_as : List Label → Option Prefix → Heading → Bool
is_filed_as labels prefix heading = is_whole heading && stands_with labels prefix heading

-- each peer that selects an identity of these labels and this prefix has its heading here
abbrev pub HasAllOf : List Label → Option Prefix → List Heading → Type 0
HasAllOf labels prefix headings =
    (p : Peer) (row : IdentityRow) → row.labels ≡ labels → row.prefix ≡ prefix → selects_row p row ≡ true → is_among headings (heading_of p) ≡ true

-- the headings are all here too
abbrev pub AreKept : List Heading → List Heading → Type 0
AreKept old new = (heading : Heading) → is_among old heading ≡ true → is_among new heading ≡ true
