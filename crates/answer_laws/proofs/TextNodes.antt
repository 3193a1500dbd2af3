-- So has the value of the JSON crate, whose objects keep one value of each key.
use Rattle.std.proofs.Common.{◌≡◌, ℕ, ◌+◌, ◌≤◌, List, length, Option, Some, None, option_map, option_and_then, Ordering, Less, Equal, Greater, subst, arith}
use Rattle.std.specs.Cmp.Lexicographic.{slice_cmp}
use Rattle.std.specs.Ordering.{match_ordering, nat_cmp}
use Rattle.json.specs.Json as json
use Rattle.json.specs.Lex.{tokens}
use Rattle.serde_json.specs.Data.{Data, Num, number, array, object, item, Members, no_members, member, put}
use Rattle.serde_json.specs.Read.{number_of, of_json, of_items, of_members, max_depth, read}
use Rattle.answer_laws.specs.Nodes.{nodes, items_nodes, members_nodes}
use Rattle.answer_laws.proofs.JsonNodes.{AtMostOf, text_nodes}
use Rattle.answer_laws.proofs.JsonNodes as text

AtMost-map : {A B : Type 0} (f : A → ℕ) (g : B → ℕ) (m n : ℕ) (h : A → B) → ((a : A) → f a ≤ m → g (h a) ≤ n) → (o : Option A) → AtMostOf f m o → AtMostOf g n (option_map h o)
AtMost-map f g m n h k None x = tt
AtMost-map f g m n h k (Some a) x = k a x

AtMost-and_then : {A B : Type 0} (f : A → ℕ) (g : B → ℕ) (m n : ℕ) (h : A → Option B) → ((a : A) → f a ≤ m → AtMostOf g n (h a)) → (o : Option A) → AtMostOf f m o
    → AtMostOf g n (option_and_then h o)
AtMost-and_then f g m n h k None x = tt
AtMost-and_then f g m n h k (Some a) x = k a x

one_number : (o : Option Num) → AtMostOf nodes 1 (option_map number o)
one_number None = tt
one_number (Some n) = omega arith

by_order : (o : Ordering) (a b c : Members) (n : ℕ) → members_nodes a ≤ n → members_nodes b ≤ n → members_nodes c ≤ n → members_nodes (match_ordering o a b c) ≤ n
by_order Less a b c n p q r = p
by_order Equal a b c n p q r = q
by_order Greater a b c n p q r = r

nodes-put : (k : List ℕ) (d : Data) (ms : Members) → members_nodes (put k d ms) ≤ 1 + nodes d + members_nodes ms
nodes-put k d no_members = omega arith
nodes-put k d (member l e ms) =
    by_order (slice_cmp nat_cmp k l) (member k d (member l e ms)) (member l d ms) (member l e (put k d ms)) (1 + nodes d + members_nodes (member l e ms)) (omega arith)
    (omega arith) (omega (arith, nodes-put k d ms))

mutual
  nodes-of_json : (j : json.Json) → AtMostOf nodes (text.nodes j) (of_json j)
  nodes-of_json json.null = omega arith
  nodes-of_json (json.boolean b) = omega arith
  nodes-of_json (json.number s) = one_number (number_of s)
  nodes-of_json (json.string s) = omega arith
  nodes-of_json (json.array js) = AtMost-map items_nodes nodes (text.items_nodes js) (2 + text.items_nodes js) array (λ a x. omega (arith, x)) (of_items js) (nodes-of_items js)
  nodes-of_json (json.object ms) =
      AtMost-map members_nodes nodes (text.members_nodes ms + 0) (2 + text.members_nodes ms) object (λ a x. omega (arith, x)) (of_members ms no_members) (nodes-of_members ms no_members 0 (omega arith))

  nodes-of_items : (js : json.Items) → AtMostOf items_nodes (text.items_nodes js) (of_items js)
  nodes-of_items json.no_items = omega arith
  nodes-of_items (json.item j js) =
      AtMost-and_then nodes items_nodes (text.nodes j) (text.nodes j + text.items_nodes js) (λ d. option_map (item d) (of_items js))
      (λ d x. AtMost-map items_nodes items_nodes (text.items_nodes js) (text.nodes j + text.items_nodes js) (item d) (λ ds y. omega (arith, x, y)) (of_items js) (nodes-of_items js))
      (of_json j) (nodes-of_json j)

  nodes-of_members : (ms : json.Members) (found : Members) (n : ℕ) → members_nodes found ≤ n → AtMostOf members_nodes (text.members_nodes ms + n) (of_members ms found)
  nodes-of_members json.no_members found n few = omega (arith, few)
  nodes-of_members (json.member name j ms) found n few =
      AtMost-and_then nodes members_nodes (text.nodes j) (text.members_nodes (json.member name j ms) + n) (λ d. of_members ms (put name d found))
      (λ d x. more_room (text.members_nodes ms + (1 + text.nodes j + n)) (text.members_nodes (json.member name j ms) + n) (of_members ms (put name d found)) (omega arith)
      (nodes-of_members ms (put name d found) (1 + text.nodes j + n) (omega (arith, nodes-put name d found, x, few)))) (of_json j) (nodes-of_json j)
    where
      more_room : (m n : ℕ) (o : Option Members) → m ≤ n → AtMostOf members_nodes m o → AtMostOf members_nodes n o
      more_room m n None room x = tt
      more_room m n (Some a) room x = omega (arith, x, room)

weaker : (m n : ℕ) (o : Option Data) → m ≤ n → AtMostOf nodes m o → AtMostOf nodes n o
weaker m n None room x = tt
weaker m n (Some a) room x = omega (arith, x, room)

pub read_nodes : (line : List ℕ) (d : Data) → read line ≡ Some d → nodes d ≤ length line + 1
read_nodes line d is =
    subst (AtMostOf nodes (length line + 1)) is
    (AtMost-and_then text.nodes nodes (length line + 1) (length line + 1) of_json (λ j x. weaker (text.nodes j) (length line + 1) (of_json j) x (nodes-of_json j))
    (option_and_then (λ p. json.if_last p.0 p.1) (json.value max_depth (tokens line))) (text_nodes max_depth line))
