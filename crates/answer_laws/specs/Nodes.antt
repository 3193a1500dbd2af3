-- How many nodes a value has: one of a text, a number or a word, two of the brackets around a list or an object, and one of a member's name.
use Rattle.std.specs.Prelude.{ℕ, ◌+◌}
use Rattle.serde_json.specs.Data.{Data, null, boolean, number, string, array, object, Items, no_items, item, Members, no_members, member}

abbrev mutual
  pub nodes : Data → ℕ
  nodes null = 1
  nodes (boolean b) = 1
  nodes (number n) = 1
  nodes (string s) = 1
  nodes (array ds) = 2 + items_nodes ds
  nodes (object ms) = 2 + members_nodes ms

  pub items_nodes : Items → ℕ
  items_nodes no_items = 0
  items_nodes (item d ds) = nodes d + items_nodes ds

  pub members_nodes : Members → ℕ
  members_nodes no_members = 0
  members_nodes (member k d ms) = 1 + nodes d + members_nodes ms
