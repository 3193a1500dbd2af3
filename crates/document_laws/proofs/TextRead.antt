-- A value whose names ascend, without other numbers than those of 64 bits, is read again from its text.
use Rattle.std.proofs.Common.{◌≡◌, ℕ, suc, ◌^◌, ◌<◌, ◌≤◌, max, List, [], Some, option_map, option_and_then, Less, Greater, nat_cmp, refl, sym, ap, ◌∙◌, append-nil, arith}
use Rattle.std.proofs.lemmas.Cmp.{nat_list_cmp_total}
use Rattle.std.specs.Cmp.Lexicographic.{slice_cmp}
use Rattle.std.specs.Ordering.{match_ordering, ordering_reverse}
use Rattle.json.specs.Json as json
use Rattle.json.specs.Print.{print}
use Rattle.json.specs.Tree as tree
use Rattle.json.proofs.Printed.Decimals.{IsNumber-decimal}
use Rattle.json.proofs.Printed.Tokens.{tokens-print}
use Rattle.json.proofs.Printed.Trees.{value-json_tokens, ArePrintable-json_tokens}
use Rattle.serde_json.specs.Data.{Num, unsigned, negative, float, Data, null, boolean, number, string, array, object, Items, no_items, item, Members, no_members, member, put, depth, items_depth, members_depth}
use Rattle.serde_json.specs.Read.{of_json, of_items, of_members, max_depth, read}
use Rattle.serde_json.specs.Written.{compact_text, items_outline, members_outline, outline}
use Rattle.serde_json.proofs.Numbers.{number_of-decimal}
use Rattle.serde_json.proofs.Texts.{print-outline}
use Rattle.pol_json.specs.Look.{IsBelow, NamesAscend, ItemsAscend, MembersAscend}

-- each number is a whole one of 64 bits
abbrev pub IsWhole : Num → Type 0
IsWhole (unsigned n) = n < 2 ^ 64
IsWhole (negative z) = ⊥
IsWhole (float x) = ⊥

abbrev mutual
  pub IsPlain : Data → Type 0
  IsPlain null = Unit {0}
  IsPlain (boolean b) = Unit {0}
  IsPlain (number n) = IsWhole n
  IsPlain (string s) = Unit {0}
  IsPlain (array ds) = ItemsPlain ds
  IsPlain (object ms) = MembersPlain ms

  pub ItemsPlain : Items → Type 0
  ItemsPlain no_items = Unit {0}
  ItemsPlain (item d ds) = IsPlain d × ItemsPlain ds

  pub MembersPlain : Members → Type 0
  MembersPlain no_members = Unit {0}
  MembersPlain (member name d ms) = IsPlain d × MembersPlain ms

-- ---- members that are put behind others

abbrev behind : Members → Members → Members
behind no_members ms = ms
behind (member k d front) ms = member k d (behind front ms)

-- each of the members comes before the name, and before each of the others
abbrev AllBelow : Members → List ℕ → Type 0
AllBelow no_members name = Unit {0}
AllBelow (member k d front) name = (slice_cmp nat_cmp k name ≡ Less) × AllBelow front name

abbrev AllBefore : Members → Members → Type 0
AllBefore front no_members = Unit {0}
AllBefore front (member name d ms) = AllBelow front name × AllBefore front ms

put_behind : (front : Members) (name : List ℕ) (d : Data) → AllBelow front name → put name d front ≡ behind front (member name d no_members)
put_behind no_members name d below = refl
put_behind (member k e front) name d below =
    let after : slice_cmp nat_cmp name k ≡ Greater = nat_list_cmp_total.antisymm name k ∙ ap ordering_reverse below.0 in
    ap (λ o. match_ordering o (member name d (member k e front)) (member k d front) (member k e (put name d front))) after
    ∙ ap (member k e) (put_behind front name d below.1)

with_nothing : (front : Members) → behind front no_members ≡ front
with_nothing no_members = refl
with_nothing (member k d front) = ap (member k d) (with_nothing front)

one_more : (front : Members) (name : List ℕ) (d : Data) (ms : Members) → behind (behind front (member name d no_members)) ms ≡ behind front (member name d ms)
one_more no_members name d ms = refl
one_more (member k e front) name d ms = ap (member k e) (one_more front name d ms)

below_too : (front : Members) (name later : List ℕ) (d : Data) → AllBelow front later → slice_cmp nat_cmp name later ≡ Less
    → AllBelow (behind front (member name d no_members)) later
below_too no_members name later d below less = (less, tt)
below_too (member k e front) name later d below less = (below.0, below_too front name later d below.1 less)

before_too : (ms front : Members) (name : List ℕ) (d : Data) → AllBefore front ms → IsBelow name ms → AllBefore (behind front (member name d no_members)) ms
before_too no_members front name d before is = tt
before_too (member later e ms) front name d before is = (below_too front name later d before.0 is.0, before_too ms front name d before.1 is.1)

before_all : (ms : Members) → AllBefore no_members ms
before_all no_members = tt
before_all (member name d ms) = (tt, before_all ms)

-- ---- the value of its outline

number_again : (n : Num) → IsWhole n → of_json (outline (number n)) ≡ Some (number n)
number_again (unsigned n) small = ap (option_map number) (number_of-decimal n small)
number_again (negative z) small = absurd small
number_again (float x) small = absurd small

mutual
  outline_again : (d : Data) → IsPlain d → NamesAscend d → of_json (outline d) ≡ Some d
  outline_again null plain ascend = refl
  outline_again (boolean b) plain ascend = refl
  outline_again (number n) plain ascend = number_again n plain
  outline_again (string s) plain ascend = refl
  outline_again (array ds) plain ascend = ap (option_map array) (items_again ds plain ascend)
  outline_again (object ms) plain ascend = ap (option_map object) (members_again ms no_members plain ascend (before_all ms))

  items_again : (ds : Items) → ItemsPlain ds → ItemsAscend ds → of_items (items_outline ds) ≡ Some ds
  items_again no_items plain ascend = refl
  items_again (item d ds) plain ascend =
      ap (option_and_then (λ e. option_map (item e) (of_items (items_outline ds)))) (outline_again d plain.0 ascend.0)
      ∙ ap (option_map (item d)) (items_again ds plain.1 ascend.1)

  members_again : (ms front : Members) → MembersPlain ms → MembersAscend ms → AllBefore front ms → of_members (members_outline ms) front ≡ Some (behind front ms)
  members_again no_members front plain ascend before = ap Some (sym (with_nothing front))
  members_again (member name d ms) front plain ascend before =
      ap (option_and_then (λ e. of_members (members_outline ms) (put name e front))) (outline_again d plain.0 ascend.0)
      ∙ ap (of_members (members_outline ms)) (put_behind front name d before.0)
      ∙ members_again ms (behind front (member name d no_members)) plain.1 ascend.2 (before_too ms front name d before.1 ascend.1)
      ∙ ap Some (one_more front name d ms)

-- ---- its numbers, and how deep it nests

number_has : (n : Num) → IsWhole n → tree.HasNumbers (outline (number n))
number_has (unsigned n) small = IsNumber-decimal n small
number_has (negative z) small = absurd small
number_has (float x) small = absurd small

mutual
  has_numbers : (d : Data) → IsPlain d → tree.HasNumbers (outline d)
  has_numbers null plain = tt
  has_numbers (boolean b) plain = tt
  has_numbers (number n) plain = number_has n plain
  has_numbers (string s) plain = tt
  has_numbers (array ds) plain = items_have ds plain
  has_numbers (object ms) plain = members_have ms plain

  items_have : (ds : Items) → ItemsPlain ds → tree.ItemsHaveNumbers (items_outline ds)
  items_have no_items plain = tt
  items_have (item d ds) plain = (has_numbers d plain.0, items_have ds plain.1)

  members_have : (ms : Members) → MembersPlain ms → tree.MembersHaveNumbers (members_outline ms)
  members_have no_members plain = tt
  members_have (member name d ms) plain = (has_numbers d plain.0, members_have ms plain.1)

mutual
  as_deep : (d : Data) → tree.depth (outline d) ≡ depth d
  as_deep null = refl
  as_deep (boolean b) = refl
  as_deep (number n) = refl
  as_deep (string s) = refl
  as_deep (array ds) = ap suc (items_as_deep ds)
  as_deep (object ms) = ap suc (members_as_deep ms)

  items_as_deep : (ds : Items) → tree.items_depth (items_outline ds) ≡ items_depth ds
  items_as_deep no_items = refl
  items_as_deep (item d ds) = λ i. max (as_deep d i) (items_as_deep ds i)

  members_as_deep : (ms : Members) → tree.members_depth (members_outline ms) ≡ members_depth ms
  members_as_deep no_members = refl
  members_as_deep (member name d ms) = λ i. max (as_deep d i) (members_as_deep ms i)

-- ---- its text

-- the JSON that is printed is read as its value
read_printed : (j : json.Json) → tree.HasNumbers j → tree.depth j ≤ max_depth → read (print (tree.json_tokens j)) ≡ of_json j
read_printed j numbers shallow =
    ap (λ o. option_and_then of_json (option_and_then (λ p. json.if_last p.0 p.1) o))
    (ap (json.value max_depth) (tokens-print (tree.json_tokens j) (ArePrintable-json_tokens j numbers) ∙ sym (append-nil (tree.json_tokens j)))
    ∙ value-json_tokens j max_depth [] shallow)

pub text_again : (d : Data) → IsPlain d → NamesAscend d → depth d ≤ max_depth → read (compact_text d) ≡ Some d
text_again d plain ascend shallow =
    ap read (sym (print-outline d)) ∙ read_printed (outline d) (has_numbers d plain) (omega (arith, as_deep d, shallow)) ∙ outline_again d plain ascend
