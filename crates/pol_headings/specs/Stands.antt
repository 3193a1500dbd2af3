-- Which identities stand under a heading.
use Rattle.std.specs.Prelude.{◌==◌, ◌%◌, Bool, true, false, List, Option}
use Rattle.std.specs.List.{list_any}
use Rattle.std.specs.Option.{option_map_or}
use Rattle.pol_addr.specs.declared.network.Prefix.{Prefix}
use Rattle.pol_addr.specs.Prefix.{covers}
use Rattle.pol_headings.specs.declared.heading.Heading.{Heading}
use Rattle.pol_headings.specs.declared.heading.Heading.TheVariants as heading
use Rattle.pol_headings.specs.Heading.{label_heading, same_heading}
use Rattle.pol_labels.specs.declared.label.Label.{Label}
use Rattle.pol_model.specs.declared.row.IdentityRow.{IdentityRow}

-- an identity of these labels and this prefix stands under the heading: some label has the key and value, whatever
-- its source; or the prefix lies in the heading's
abbrev pub stands_with : List Label → Option Prefix → Heading → Bool
stands_with labels prefix (heading.Label key value) = list_any (λ label. same_heading (label_heading label) (heading.Label key value)) labels
stands_with labels prefix (heading.Prefix within) = option_map_or (covers within) prefix false
stands_with labels prefix heading.Any = true

-- the row stands under the heading
abbrev pub stands_under : Heading → IdentityRow → Bool
stands_under heading row = stands_with row.labels row.prefix heading

-- it is no prefix, or one of whole octets: others are no peer's
abbrev pub is_whole : Heading → Bool
is_whole (heading.Label key value) = true
is_whole (heading.Prefix prefix) = prefix.len % 8 == 0
is_whole heading.Any = true
