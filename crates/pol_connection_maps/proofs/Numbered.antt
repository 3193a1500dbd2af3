-- Maps by number, in a table, and numbers whose maps stay.
use Rattle.std.proofs.Common.{◌≡◌, ℕ, ◌==◌, Bool, true, false, cond, List, [], ◌∷◌, Bor, Option, None, Some, IsTrue, is_some, option_map, refl, sym, ap, subst, ◌∙◌, rules}
use Rattle.std.specs.BTreeMap.{BTreeMap, get, is_at}
use Rattle.std.specs.Map.{lookup}
use Rattle.std.specs.Ordering.{nat_cmp}
use Rattle.std.proofs.lemmas.Bool.{eqb-true}
use Rattle.std.proofs.lemmas.Option.{same_Some}
use Rattle.pol_mapkey.specs.Entries.{Entry}
use Rattle.pol_connection_maps.specs.Maps.{AreMapsOf, NumberEntries, entries_at, map_at}
use Rattle.pol_connection_maps.specs.Seen.{Seen}
use Rattle.pol_connection_maps.specs.Stays.{AreOfOneKind, AreSeenAlike, HasItsMap, Stay, StayAt}

abbrev now : Option (Bor NumberEntries) → Option NumberEntries
now o = option_map (λ (one : Bor NumberEntries). one.now) o

number_tied : (a b : ℕ) → is_at (nat_cmp a) b ≡ (a == b)
number_tied a b = search rules

put_there : (b : Bool) (one : Bor NumberEntries) (o : Option (Bor NumberEntries)) → now (cond b (Some one) o) ≡ cond b (Some one.now) (now o)
put_there true one o = refl
put_there false one o = refl

pub map_more : (one : Bor NumberEntries) (key : ℕ) (rest : List NumberEntries) (old new : BTreeMap ℕ (Bor NumberEntries)) → key ≡ one.now.number
    → ((q : ℕ) → get nat_cmp new q ≡ cond (is_at (nat_cmp key) q) (Some one) (get nat_cmp old q)) → AreMapsOf rest old → AreMapsOf (one.now ∷ rest) new
map_more one key rest old new named updates are q =
    ap now (updates q) ∙ put_there (is_at (nat_cmp key) q) one (get nat_cmp old q)
    ∙ (λ i. cond ((number_tied key q ∙ ap (λ n. n == q) named) i) (Some one.now) (are q i))

pub none_mapped : (table : BTreeMap ℕ (Bor NumberEntries)) → table.entries ≡ [] → AreMapsOf [] table
none_mapped table none q = ap (λ es. now (lookup (is_at (nat_cmp q)) es)) none

-- ---- numbers whose maps stay
abbrev entries_in : Option NumberEntries → Option (List Entry)
entries_in o = option_map (λ (own : NumberEntries). own.entries) o

pub same_at : (old new : List NumberEntries) (number : ℕ) (one other : NumberEntries) → Some one ≡ map_at number old → Some other ≡ map_at number new → one.entries ≡ other.entries → StayAt old new number
same_at old new number one other first second same = sym (ap entries_in first) ∙ ap Some same ∙ ap entries_in second

pub none_stays : (was now : List NumberEntries) (table : BTreeMap ℕ Bool) → table.entries ≡ [] → Stay was now table
none_stays was now table none q is = absurd (no (ap (λ es. lookup (is_at (nat_cmp q)) es) (sym none) ∙ is))
  where
    no : {X : Type 0} {x : X} → None ≡ Some x → ⊥
    no e = cc

pub stay_more : (was now : List NumberEntries) (key : ℕ) (same : Bool) (old new : BTreeMap ℕ Bool)
    → ((q : ℕ) → get nat_cmp new q ≡ cond (is_at (nat_cmp key) q) (Some same) (get nat_cmp old q))
    → (IsTrue same → StayAt was now key) → Stay was now old → Stay was now new
stay_more was now key same old new updates here there q is = by (is_at (nat_cmp key) q) refl (sym (updates q) ∙ is)
  where
    by : (b : Bool) → is_at (nat_cmp key) q ≡ b → cond b (Some same) (get nat_cmp old q) ≡ Some true → StayAt was now q
    by true at e = subst (StayAt was now) (eqb-true key q (sym (number_tied key q) ∙ at)) (here (same_Some same true e))
    by false at e = there q e

-- ---- ends
-- of one kind, both with the maps of their numbers
pub same_kind : (maps : List NumberEntries) (one other : Seen) → HasItsMap maps one → HasItsMap maps other → AreOfOneKind one other → AreSeenAlike one other
same_kind maps one other its others kind = (kind.0, by one.entries other.entries its others kind.1)
  where
    by : (x y : Option (List Entry)) → (IsTrue (is_some x) → x ≡ entries_at one.number maps) → (IsTrue (is_some y) → y ≡ entries_at other.number maps) → is_some x ≡ is_some y → x ≡ y
    by None None _ _ _ = refl
    by (Some x) None _ _ e = absurd (let no : ⊥ = cc in no)
    by None (Some y) _ _ e = absurd (let no : ⊥ = cc in no)
    by (Some x) (Some y) a b _ = a refl ∙ ap (λ n. entries_at n maps) kind.0 ∙ sym (b refl)

-- an end without a policy, or with one whose number's map stays
pub as_it_was : (was now : List NumberEntries) (one other : Seen) → HasItsMap was one → HasItsMap now other → AreOfOneKind one other
    → (IsTrue (is_some other.entries) → StayAt was now other.number) → AreSeenAlike one other
as_it_was was now one other its others kind stays = (kind.0, by one.entries other.entries its others kind.1 stays)
  where
    by : (x y : Option (List Entry)) → (IsTrue (is_some x) → x ≡ entries_at one.number was) → (IsTrue (is_some y) → y ≡ entries_at other.number now) → is_some x ≡ is_some y
        → (IsTrue (is_some y) → StayAt was now other.number) → x ≡ y
    by None None _ _ _ _ = refl
    by (Some x) None _ _ e _ = absurd (let no : ⊥ = cc in no)
    by None (Some y) _ _ e _ = absurd (let no : ⊥ = cc in no)
    by (Some x) (Some y) a b _ stays = a refl ∙ ap (λ n. entries_at n was) kind.0 ∙ stays refl ∙ sym (b refl)
