-- A table has the first of each name, as they are put into it from the last to the first.
use Rattle.std.proofs.Common.{◌≡◌, ℕ, ◌+◌, ◌<◌, ◌||◌, not, Bool, true, false, cond, List, [], ◌∷◌, ◌++◌, Bor, map, filter, drop, get_or, length, Option, None, Some, is_some, option_map, refl, sym, ap, append_assoc, ◌∙◌}
use Rattle.std.specs.BTreeMap.{BTreeMap, get, is_at}
use Rattle.std.specs.List.{cons_option}
use Rattle.std.specs.Map.{lookup}
use Rattle.std.specs.Option.{option_copied}
use Rattle.std.proofs.lemmas.List.{drop_more}
use Rattle.pol_connections.specs.contracts.end.EndNameOrd.TheImpl as end_name
use Rattle.pol_connections.specs.declared.end.EndName.{EndName}
use Rattle.pol_connections.specs.Ends.{same_name}
use Rattle.pol_connections.proofs.Names.{name_tied}
use Rattle.pol_connection_maps.specs.declared.end_row.EndRow.{EndRow}
use Rattle.pol_connection_maps.specs.Lists.{has_name, kept_ends, names_alone, seen_of}
use Rattle.pol_connection_maps.specs.Named.{AreFirsts, first_named}
use Rattle.pol_connection_maps.specs.Seen.{Kept, Seen}

module _ {T : Type 0} (name_of : T → EndName) where
  abbrev now : Option (Bor T) → Option T
  now o = option_map (λ (one : Bor T). one.now) o

  put_there : (b : Bool) (one : Bor T) (o : Option (Bor T)) → now (cond b (Some one) o) ≡ cond b (Some one.now) (now o)
  put_there true one o = refl
  put_there false one o = refl

  pub first_more : (one : Bor T) (key : EndName) (rest : List T) (old new : BTreeMap EndName (Bor T)) → key ≡ name_of one.now
      → ((q : EndName) → get end_name.ghosts.cmp new q ≡ cond (is_at (end_name.ghosts.cmp key) q) (Some one) (get end_name.ghosts.cmp old q))
      → AreFirsts name_of rest old → AreFirsts name_of (one.now ∷ rest) new
  first_more one key rest old new named updates are q =
      ap now (updates q) ∙ put_there (is_at (end_name.ghosts.cmp key) q) one (get end_name.ghosts.cmp old q)
      ∙ (λ i. cond ((name_tied key q ∙ ap (λ n. same_name n q) named) i) (Some one.now) (are q i))

  pub none_first : (table : BTreeMap EndName (Bor T)) → table.entries ≡ [] → AreFirsts name_of [] table
  none_first table none q = ap (λ es. now (lookup (is_at (end_name.ghosts.cmp q)) es)) none

-- ---- names that none has
pub some_copied : {T : Type 0} (o : Option (Bor T)) → is_some o ≡ is_some (option_copied o)
some_copied None = refl
some_copied (Some one) = refl

pub has_some : (name : EndName) (rows : List EndRow) → is_some (first_named (λ (row : EndRow). row.name) name rows) ≡ has_name name rows
has_some name [] = refl
has_some name (row ∷ rows) = by (same_name row.name name) (has_some name rows)
  where
    by : (b : Bool) → is_some (first_named (λ (row : EndRow). row.name) name rows) ≡ has_name name rows
        → is_some (cond b (Some row) (first_named (λ (row : EndRow). row.name) name rows)) ≡ (b || has_name name rows)
    by true rest = refl
    by false rest = rest

-- what stands behind a place
pub split_at : {X : Type 0} (xs : List X) (i : ℕ) (x : X) → i < length xs → x ≡ get_or xs i x → drop i xs ≡ x ∷ drop (i + 1) xs
split_at xs i x within is = drop_more xs i x within ∙ (λ j. sym is j ∷ drop (i + 1) xs)

module _ (one all : List EndRow) (i : ℕ) (row : EndRow) (names : List EndName) (split : drop i all ≡ row ∷ drop (i + 1) all)
    (so_far : names ++ names_alone one (drop i all) ≡ names_alone one all) where
  abbrev alone_or : Bool → List EndName
  alone_or b = map (λ (r : EndRow). r.name) (cond (not b) (row ∷ filter (λ (r : EndRow). not (has_name r.name one)) (drop (i + 1) all)) (filter (λ (r : EndRow). not (has_name r.name one)) (drop (i + 1) all)))

  alone_is : (b : Bool) → has_name row.name one ≡ b → names ++ alone_or b ≡ names_alone one all
  alone_is b is = ap (λ c. names ++ alone_or c) (sym is) ∙ ap (λ rows. names ++ names_alone one rows) (sym split) ∙ so_far

  pub passed_over : has_name row.name one ≡ true → names ++ names_alone one (drop (i + 1) all) ≡ names_alone one all
  passed_over is = alone_is true is

  pub told_alone : (name : EndName) (new : List EndName) → has_name row.name one ≡ false → name ≡ row.name → new ≡ names ++ name ∷ []
      → new ++ names_alone one (drop (i + 1) all) ≡ names_alone one all
  told_alone name new is named pushed =
      ap (λ ns. ns ++ names_alone one (drop (i + 1) all)) (pushed ∙ ap (λ n. names ++ n ∷ []) named)
      ∙ append_assoc names (row.name ∷ []) (names_alone one (drop (i + 1) all)) ∙ alone_is false is

-- ---- ends that both states have
module _ (halves : Bool) (before all : List Seen) (i : ℕ) (end : Seen) (kept : List Kept) (split : drop i all ≡ end ∷ drop (i + 1) all)
    (so_far : kept ++ kept_ends halves before (drop i all) ≡ kept_ends halves before all) where
  abbrev kept_or : Option Seen → List Kept
  kept_or o = cons_option (option_map (λ (old : Seen). record { before = old; after = end; halves = halves }) o) (kept_ends halves before (drop (i + 1) all))

  kept_is : (o : Option Seen) → seen_of end.name before ≡ o → kept ++ kept_or o ≡ kept_ends halves before all
  kept_is o is = ap (λ p. kept ++ kept_or p) (sym is) ∙ ap (λ ends. kept ++ kept_ends halves before ends) (sym split) ∙ so_far

  pub not_kept : seen_of end.name before ≡ None → kept ++ kept_ends halves before (drop (i + 1) all) ≡ kept_ends halves before all
  not_kept is = kept_is None is

  pub one_kept : (old : Seen) (one : Kept) (new : List Kept) → seen_of end.name before ≡ Some old → one ≡ record { before = old; after = end; halves = halves } → new ≡ kept ++ one ∷ []
      → new ++ kept_ends halves before (drop (i + 1) all) ≡ kept_ends halves before all
  one_kept old one new is made pushed =
      ap (λ ks. ks ++ kept_ends halves before (drop (i + 1) all)) (pushed ∙ ap (λ k. kept ++ k ∷ []) made)
      ∙ append_assoc kept (record { before = old; after = end; halves = halves } ∷ []) (kept_ends halves before (drop (i + 1) all)) ∙ kept_is (Some old) is
