-- What the JSON crate reads has the names of each object in order.
use Rattle.std.proofs.Common.{◌≡◌, ℕ, List, Option, None, Some, option_map, option_and_then, Ordering, Less, Equal, Greater, nat_cmp, refl, ap, subst, ◌∙◌}
use Rattle.std.proofs.lemmas.Cmp.{nat_list_cmp_total}
use Rattle.std.specs.Cmp.Lexicographic.{slice_cmp}
use Rattle.std.specs.Ordering.{match_ordering, ordering_reverse}
use Rattle.json.specs.Json as json
use Rattle.json.specs.Lex.{tokens}
use Rattle.serde_json.specs.Data.{Num, Data, number, array, object, Items, item, Members, no_members, member, put}
use Rattle.serde_json.specs.Read.{number_of, of_json, of_items, of_members, read, max_depth}
use Rattle.pol_json.specs.Look.{IsBelow, NamesAscend, ItemsAscend, MembersAscend}

-- ---- a member that is put among others

below_all : (k l : List ℕ) (ms : Members) → slice_cmp nat_cmp k l ≡ Less → IsBelow l ms → IsBelow k ms
below_all k l no_members less is = tt
below_all k l (member m d ms) less is = (nat_list_cmp_total.trans k l m less is.0, below_all k l ms less is.1)

below_put_at : (o : Ordering) (l k m : List ℕ) (d e : Data) (ms : Members) → slice_cmp nat_cmp l k ≡ Less → (slice_cmp nat_cmp l m ≡ Less) × IsBelow l ms
    → IsBelow l (put k d ms) → IsBelow l (match_ordering o (member k d (member m e ms)) (member m d ms) (member m e (put k d ms)))
below_put_at Less l k m d e ms less is more = (less, (is.0, is.1))
below_put_at Equal l k m d e ms less is more = is
below_put_at Greater l k m d e ms less is more = (is.0, more)

below_put : (l k : List ℕ) (d : Data) (ms : Members) → slice_cmp nat_cmp l k ≡ Less → IsBelow l ms → IsBelow l (put k d ms)
below_put l k d no_members less is = (less, tt)
below_put l k d (member m e ms) less is = below_put_at (slice_cmp nat_cmp k m) l k m d e ms less is (below_put l k d ms less is.1)

put_ascends_at : (o : Ordering) (k l : List ℕ) (d e : Data) (ms : Members) → slice_cmp nat_cmp k l ≡ o → NamesAscend d → MembersAscend (member l e ms)
    → MembersAscend (put k d ms) → MembersAscend (match_ordering o (member k d (member l e ms)) (member l d ms) (member l e (put k d ms)))
put_ascends_at Less k l d e ms is own ascend more = (own, (is, below_all k l ms is ascend.1), ascend)
put_ascends_at Equal k l d e ms is own ascend more = (own, ascend.1, ascend.2)
put_ascends_at Greater k l d e ms is own ascend more =
    let less : slice_cmp nat_cmp l k ≡ Less = nat_list_cmp_total.antisymm l k ∙ ap ordering_reverse is in
    (ascend.0, below_put l k d ms less ascend.1, more)

put_ascends : (k : List ℕ) (d : Data) (ms : Members) → NamesAscend d → MembersAscend ms → MembersAscend (put k d ms)
put_ascends k d no_members own ascend = (own, tt, tt)
put_ascends k d (member l e ms) own ascend =
    put_ascends_at (slice_cmp nat_cmp k l) k l d e ms refl own ascend (put_ascends k d ms own ascend.2)

-- ---- what is read

-- what an optional value is, if it is there
abbrev IfRead : {A : Type 0} → (A → Type 0) → Option A → Type 0
IfRead P None = Unit {0}
IfRead P (Some x) = P x

number_read : (n : Option Num) → IfRead NamesAscend (option_map number n)
number_read None = tt
number_read (Some n) = tt

array_read : (ds : Option Items) → IfRead ItemsAscend ds → IfRead NamesAscend (option_map array ds)
array_read None is = tt
array_read (Some ds) is = is

object_read : (ms : Option Members) → IfRead MembersAscend ms → IfRead NamesAscend (option_map object ms)
object_read None is = tt
object_read (Some ms) is = is

more_items : (d : Data) (ds : Option Items) → NamesAscend d → IfRead ItemsAscend ds → IfRead ItemsAscend (option_map (item d) ds)
more_items d None own is = tt
more_items d (Some ds) own is = (own, is)

item_read : (d : Option Data) (ds : Option Items) → IfRead NamesAscend d → IfRead ItemsAscend ds
    → IfRead ItemsAscend (option_and_then (λ x. option_map (item x) ds) d)
item_read None ds own is = tt
item_read (Some d) ds own is = more_items d ds own is

member_read : (d : Option Data) (next : Data → Option Members) → IfRead NamesAscend d → ((x : Data) → NamesAscend x → IfRead MembersAscend (next x))
    → IfRead MembersAscend (option_and_then next d)
member_read None next own is = tt
member_read (Some d) next own is = is d own

mutual
  json_read : (j : json.Json) → IfRead NamesAscend (of_json j)
  json_read json.null = tt
  json_read (json.boolean b) = tt
  json_read (json.number s) = number_read (number_of s)
  json_read (json.string s) = tt
  json_read (json.array js) = array_read (of_items js) (items_read js)
  json_read (json.object ms) = object_read (of_members ms no_members) (members_read ms no_members tt)

  items_read : (js : json.Items) → IfRead ItemsAscend (of_items js)
  items_read json.no_items = tt
  items_read (json.item j js) = item_read (of_json j) (of_items js) (json_read j) (items_read js)

  members_read : (ms : json.Members) (found : Members) → MembersAscend found → IfRead MembersAscend (of_members ms found)
  members_read json.no_members found ascend = ascend
  members_read (json.member k j ms) found ascend =
      member_read (of_json j) (λ d. of_members ms (put k d found)) (json_read j)
      (λ d own. members_read ms (put k d found) (put_ascends k d found own ascend))

text_read : (j : Option json.Json) → IfRead NamesAscend (option_and_then of_json j)
text_read None = tt
text_read (Some j) = json_read j

-- what is read of a text
pub read_ascends : (text : List ℕ) (d : Data) → read text ≡ Some d → NamesAscend d
read_ascends text d is =
    let all : IfRead NamesAscend (read text) =
    text_read (option_and_then (λ p. json.if_last p.0 p.1) (json.value max_depth (tokens text))) in
    subst (IfRead NamesAscend) is all
