-- What was listed is the difference of the maps, and tells the size.
use Rattle.std.proofs.Common.{◌≡◌, ℕ, ◌+◌, ◌*◌, ◌^◌, ◌<◌, ◌≤◌, Bool, true, false, cond, nat_lt, List, [], ◌∷◌, ◌++◌, refl, sym, ◌∙◌, ap, subst, arith}
use Rattle.std.specs.FinMap as finite
use Rattle.std.specs.List.{AllByRecursion}
use Rattle.std.proofs.lemmas.Bool.{and_parts, both_ways, false_from_ne_true}
use Rattle.pol_data.proofs.Counts.{count_by-cons}
use Rattle.pol_ports.specs.declared.Direction.{Direction}
use Rattle.pol_ports.specs.declared.Direction.TheVariants.{Ingress, Egress}
use Rattle.pol_mapkey.specs.Entries.{Entry}
use Rattle.pol_mapkey.specs.MapKey.{same_key}
use Rattle.pol_mapkey.specs.declared.Kind.{Kind}
use Rattle.pol_mapkey.specs.declared.Kind.TheVariants.{Allow, Deny}
use Rattle.pol_mapkey.specs.declared.MapKey.{MapKey}
use Rattle.pol_mapkey.proofs.Equality.{same_key-is}
use Rattle.pol_mapkey.proofs.KeyOrder.{key_cmp_total}
use Rattle.pol_model.specs.PolicyMap.{canonical}
use Rattle.pol_distill.specs.Sorted.{IsSmall}
use Rattle.pol_map_changes.specs.declared.change.Change.{Change}
use Rattle.pol_map_changes.specs.Changes.{IsAscending, IsDifference, table_of}
use Rattle.pol_entry_tally.specs.declared.tally.Tally.{Tally}
use Rattle.pol_entry_tally.specs.Affected.{GoesOn, Lists, changes_at, has_key, says}
use Rattle.pol_entry_tally.specs.Counted.{IsTurnedTo, of_group, times_after, times_of}
use Rattle.pol_entry_tally.specs.Counts.{downs, held, times_at, turned, ups}
use Rattle.pol_entry_tally.specs.Numbers.{code_of, dir_place, fits, group_of, number_of, place_of}
use Rattle.pol_entry_tally.specs.Sizes.{clear_count, new_count}
use Rattle.pol_entry_tally.specs.Times.{Times, is_entry, is_under, kind_by, kind_of, same_kind, times}
use Rattle.pol_entry_tally.proofs.ByNumber.{fits_is, local_small, number_is}
use Rattle.pol_entry_tally.proofs.Differ.{differs, made_ascends}
use Rattle.pol_entry_tally.proofs.OfEntries.{none_kind, reads}
use Rattle.pol_entry_tally.proofs.Turned.{place_small}

group_small : (q : MapKey) → fits q ≡ true → group_of q < 2 ^ 33
group_small q fit = by q.dir (fits_is q fit).0
  where
    by : (d : Direction) → q.id < 2 ^ 32 → dir_place d * 2 ^ 32 + q.id < 2 ^ 33
    by Ingress small = omega (arith, small)
    by Egress small = omega (arith, small)

number_small : (q : MapKey) → fits q ≡ true → number_of q < 2 ^ 33 * 2 ^ 23
number_small q fit = omega (arith, number_is q, group_small q fit, local_small q fit)

-- all numbers are in the range
pub lists_all : (before after : Times) (list new : List Change) (size grown : ℕ) → list ≡ [] → ((q : MapKey) (k : Kind) → fits q ≡ false → before q k ≡ 0) → ((q : MapKey) (k : Kind) → fits q ≡ false → after q k ≡ 0)
    → GoesOn before after (0 * 2 ^ 23) (2 ^ 33 * 2 ^ 23) list new size grown → Lists before after new
lists_all before after list new size grown empty out out' goes = record {
  keys = goes.keys;
  ascends = goes.ascends;
  others = λ q none. by q none (fits q) refl;
  made = goes.made ∙ ap (λ l. l ++ changes_at before after goes.keys) empty;
}
  where
    by : (q : MapKey) → has_key q goes.keys ≡ false → (b : Bool) → fits q ≡ b → kind_of before q ≡ kind_of after q
    by q none true fit = goes.others q fit (omega arith) (number_small q fit) none
    by q none false not =
        (λ i. kind_by (is_under before q) (nat_lt 0 (out q Deny not i)) (nat_lt 0 (out q Allow not i))) ∙ none_kind (is_under before q)
        ∙ sym ((λ i. kind_by (is_under after q) (nat_lt 0 (out' q Deny not i)) (nat_lt 0 (out' q Allow not i))) ∙ none_kind (is_under after q))

pub sized_all : (before after : Times) (list new : List Change) (size grown : ℕ) → list ≡ [] → GoesOn before after (0 * 2 ^ 23) (2 ^ 33 * 2 ^ 23) list new size grown
    → grown + clear_count new ≡ size + new_count before new
sized_all before after list new size grown empty goes =
    let made : new ≡ changes_at before after goes.keys = goes.made ∙ ap (λ l. l ++ changes_at before after goes.keys) empty in
    omega (arith, goes.sized, ap clear_count made, ap (new_count before) made)

pub lists_ascend : (before after : Times) (changes : List Change) → Lists before after changes → IsAscending changes
lists_ascend before after changes lists = subst IsAscending (sym lists.made) (made_ascends (says before after) lists.keys lists.ascends)

pub of_out : (tally : Tally) (q : MapKey) (k : Kind) → fits q ≡ false → times_of tally q k ≡ 0
of_out tally q k out = ap (λ b. cond b (times_at (of_group tally (group_of q)) (place_of q k)) 0) out

pub after_out : (tally : Tally) (turns : List ℕ) (q : MapKey) (k : Kind) → fits q ≡ false → times_after tally turns q k ≡ 0
after_out tally turns q k out = ap (λ b. cond b (turned (group_of q) turns (of_group tally (group_of q)) (place_of q k)) 0) out

-- the tally has what was said that it would have
pub after_is : (old new : Tally) (turns : List ℕ) → IsTurnedTo old turns new → (q : MapKey) (k : Kind) → times_after old turns q k ≡ times_of new q k
after_is old new turns moved q k = by (fits q) refl
  where
    by : (b : Bool) → fits q ≡ b → cond b (turned (group_of q) turns (of_group old (group_of q)) (place_of q k)) 0 ≡ cond b (times_at (of_group new (group_of q)) (place_of q k)) 0
    by true fit = sym (moved (group_of q) (place_of q k) (place_small q k fit))
    by false out = refl

-- entries that fit give no key that doesn't
times_out : (es : List Entry) (q : MapKey) (k : Kind) → AllByRecursion (λ (e : Entry). fits e.0 ≡ true) es → fits q ≡ false → times es q k ≡ 0
times_out [] q k all out = refl
times_out (e ∷ es) q k all out =
    let no_entry : is_entry q k e ≡ false = false_from_ne_true (is_entry q k e) (λ t.
    both_ways (fits q) out (sym (ap fits (same_key-is e.0 q (and_parts (same_kind e.1 k) (same_key e.0 q) t).1)) ∙ all.0)) in
    count_by-cons (is_entry q k) e es ∙ (λ i. cond (no_entry i) 1 0 + times_out es q k all.1 out i)

module _ (old new : Tally) (turns : List ℕ) (come gone : List Entry) (moved : IsTurnedTo old turns new)
    (ups_are : (q : MapKey) (k : Kind) → fits q ≡ true → ups turns (code_of q k) ≡ times come q k)
    (downs_are : (q : MapKey) (k : Kind) → fits q ≡ true → downs turns (code_of q k) ≡ times gone q k)
    (fit_come : AllByRecursion (λ (e : Entry). fits e.0 ≡ true) come) (fit_gone : AllByRecursion (λ (e : Entry). fits e.0 ≡ true) gone) where
  pub counts_now : ((q : MapKey) (k : Kind) → times gone q k ≤ times_of old q k + times come q k) → (q : MapKey) (k : Kind) → times_of new q k + times gone q k ≡ times_of old q k + times come q k
  counts_now there q k = by (fits q) refl
    where
      by : (b : Bool) → fits q ≡ b → times_of new q k + times gone q k ≡ times_of old q k + times come q k
      by true fit =
          let was : times_of old q k ≡ times_at (of_group old (group_of q)) (place_of q k) = ap (λ b. cond b (times_at (of_group old (group_of q)) (place_of q k)) 0) fit in
          let is : times_of new q k ≡ times_at (of_group new (group_of q)) (place_of q k) = ap (λ b. cond b (times_at (of_group new (group_of q)) (place_of q k)) 0) fit in
          omega (arith, was, is, moved (group_of q) (place_of q k) (place_small q k fit), ups_are q k fit, downs_are q k fit, there q k)
      by false out = omega (arith, of_out old q k out, of_out new q k out, times_out come q k fit_come out, times_out gone q k fit_gone out)

module _ (was_times is_times : Times) (changes : List Change) (before after : List Entry)
    (was : (q : MapKey) (k : Kind) → was_times q k ≡ times before q k) (is : (q : MapKey) (k : Kind) → is_times q k ≡ times after q k) where
  was_all : was_times ≡ times before
  was_all i q k = was q k i

  is_all : is_times ≡ times after
  is_all i q k = is q k i

  pub listed_is : AllByRecursion IsSmall before → AllByRecursion IsSmall after → Lists was_times is_times changes → IsDifference changes (table_of (canonical before)) (table_of (canonical after))
  listed_is small small_after lists =
      subst (λ list. IsDifference list (table_of (canonical before)) (table_of (canonical after))) (sym lists.made)
      (differs (kind_of was_times) (kind_of is_times) lists.keys (table_of (canonical before)) (table_of (canonical after)) lists.ascends
      (λ q. finite.get-from_entries key_cmp_total (canonical before) q ∙ reads before small q ∙ ap (λ given. kind_of given q) (sym was_all))
      (λ q. finite.get-from_entries key_cmp_total (canonical after) q ∙ reads after small_after q ∙ ap (λ given. kind_of given q) (sym is_all))
      lists.others)

-- a tally that was filled
pub filled_counts : (old new : Tally) (turns : List ℕ) (entries : List Entry) → IsTurnedTo old turns new
    → ((q : MapKey) (k : Kind) → fits q ≡ true → ups turns (code_of q k) ≡ times entries q k)
    → ((q : MapKey) (k : Kind) → fits q ≡ true → downs turns (code_of q k) ≡ times [] q k)
    → AllByRecursion (λ (e : Entry). fits e.0 ≡ true) entries → ((g : ℕ) → of_group old g ≡ [])
    → (q : MapKey) (k : Kind) → times_of new q k ≡ times entries q k
filled_counts old new turns entries moved come gone fit none q k =
    let was : times_of old q k ≡ 0 = ap (λ l. held l q k) (none (group_of q)) ∙ nothing (fits q) in
    let now : times_of new q k + times [] q k ≡ times_of old q k + times entries q k =
    counts_now old new turns entries [] moved come gone fit tt (λ q k. omega arith) q k in
    let zero : times [] q k ≡ 0 = refl in
    omega (arith, was, now, zero)
  where
    nothing : (b : Bool) → cond {A = ℕ} b 0 0 ≡ 0
    nothing true = refl
    nothing false = refl
