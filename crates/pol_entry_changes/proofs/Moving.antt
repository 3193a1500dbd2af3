-- The rows whose selectors moved, found one by one.
use Rattle.std.proofs.Common.{◌≡◌, ◌≢◌, ℕ, ◌+◌, ◌<◌, true, false, Bor, List, [], ◌∷◌, ◌++◌, take, get_or, length, Option, None, Some, find, MatchOption, refl, sym, ap, subst, ◌∙◌}
use Rattle.std.specs.List.{AllByRecursion, Contains}
use Rattle.std.proofs.lemmas.Bool.{both_ways}
use Rattle.std.proofs.lemmas.List.{take_more}
use Rattle.std.proofs.lemmas.Option.{same_Some}
use Rattle.pol_data.proofs.Every.{every-append, every-contained, every-weaker}
use Rattle.pol_data.proofs.Members.{find-gives}
use Rattle.pol_rule.specs.declared.policy.Peer.{Peer}
use Rattle.pol_rule.proofs.Equality.{peer_eq-Decides}
use Rattle.pol_sets.specs.declared.sets.Move.{Move}
use Rattle.pol_sets.specs.declared.sets.SetRow.{SetRow}
use Rattle.pol_sets.specs.Sets.{is_row_of}
use Rattle.pol_entry_changes.specs.PeerRow.{HaveMoved, HaveNoRow, IsFirstRow, IsMoveFor, IsMoveOf, IsMoveOfRow, Lacks, NamesMove, RowsMoved}
use Rattle.pol_entry_changes.specs.declared.rows.PlacedRow.{PlacedRow}

-- ---- one thing more at the end
module _ {X : Type 0} (P : X → Type 0) where
  pub front : (xs : List X) (x : X) → AllByRecursion P (xs ++ x ∷ []) → AllByRecursion P xs
  front [] x all = tt
  front (y ∷ xs) x all = (all.0, front xs x all.1)

  pub last : (xs : List X) (x : X) → AllByRecursion P (xs ++ x ∷ []) → P x
  last [] x all = all.0
  last (y ∷ xs) x all = last xs x all.1

-- the same of the first elements of a list, with the next one
pub taken_more : {X : Type 0} (P : X → Type 0) (xs : List X) (i : ℕ) (x : X) → i < length xs → x ≡ get_or xs i x → AllByRecursion P (take i xs) → P x → AllByRecursion P (take (i + 1) xs)
taken_more P xs i x within at before here =
    subst (AllByRecursion P) (sym (take_more xs i x within ∙ ap (λ y. take i xs ++ y ∷ []) (sym at))) (every-append P (take i xs) (x ∷ []) before (here, tt))

-- one selector more names what was named, and the move of its own
pub named_more : (few : List ℕ) (m : Move) (moves : List Move) → AllByRecursion (NamesMove few) moves → AllByRecursion (NamesMove (few ++ m.selector ∷ [])) moves
named_more few m moves named =
    every-weaker (NamesMove few) (NamesMove (few ++ m.selector ∷ [])) (λ other its lacks. its (front (λ one. one ≢ other.selector) few m.selector lacks)) moves named

pub named_own : (few : List ℕ) (m : Move) → NamesMove (few ++ m.selector ∷ []) m
named_own few m lacks = absurd (last (λ one. one ≢ m.selector) few m.selector lacks refl)

-- ---- first rows
-- a row has a first one of its peer
pub row_found : (rows : List SetRow) (row : SetRow) → Contains rows row → find (is_row_of row.peer) rows ≡ None → ⊥
row_found rows row there none =
    let found = subst (λ (r : Option SetRow). MatchOption r ((x : SetRow) → Contains rows x → is_row_of row.peer x ≡ false) (λ x. Contains rows x × (is_row_of row.peer x ≡ true))) none (find-gives (is_row_of row.peer) rows) in
    both_ways (is_row_of row.peer row) (found row there) ((peer_eq-Decides row.peer row.peer).1 refl)

-- what is found for a peer is a row of it
pub found_peer : (rows : List SetRow) (p : Peer) (row : SetRow) → find (is_row_of p) rows ≡ Some row → row.peer ≡ p
found_peer rows p row is =
    let found = subst (λ (r : Option SetRow). MatchOption r ((x : SetRow) → Contains rows x → is_row_of p x ≡ false) (λ x. Contains rows x × (is_row_of p x ≡ true))) is (find-gives (is_row_of p) rows) in
    (peer_eq-Decides row.peer p).0 found.1

pub found_there : (rows : List SetRow) (p : Peer) (row : SetRow) → find (is_row_of p) rows ≡ Some row → Contains rows row
found_there rows p row is =
    let found = subst (λ (r : Option SetRow). MatchOption r ((x : SetRow) → Contains rows x → is_row_of p x ≡ false) (λ x. Contains rows x × (is_row_of p x ≡ true))) is (find-gives (is_row_of p) rows) in
    found.0

-- it is the first of its own peer too
pub first_own : (rows : List SetRow) (p : Peer) (one : PlacedRow) → find (is_row_of p) rows ≡ Some one.row.now → IsFirstRow rows one
first_own rows p one is = subst (λ q. find (is_row_of q) rows ≡ Some one.row.now) (sym (found_peer rows p one.row.now is)) is

-- a row whose peer has none among them has none of the selectors, also with one more
module _ (selectors : List ℕ) where
  abbrev pub IsCovered : List PlacedRow → SetRow → Type 0
  IsCovered found row = HaveNoRow found row.peer → Lacks selectors row.selector

  pub covered_more : (found : List PlacedRow) (one : PlacedRow) (rows : List SetRow) → AllByRecursion (IsCovered found) rows → AllByRecursion (IsCovered (found ++ one ∷ [])) rows
  covered_more found one rows covered =
      every-weaker (IsCovered found) (IsCovered (found ++ one ∷ [])) (λ row its none. its (front (λ (f : PlacedRow). f.row.now.peer ≢ row.peer) found one none)) rows covered

  pub covered_own : (found : List PlacedRow) (one : PlacedRow) (row : SetRow) → one.row.now.peer ≡ row.peer → IsCovered (found ++ one ∷ []) row
  covered_own found one row same none = absurd (last (λ (f : PlacedRow). f.row.now.peer ≢ row.peer) found one none same)

-- so a peer that has none among them is unmoved
pub have_moved : (rows : List SetRow) (moves : List Move) (selectors : List ℕ) (few : List PlacedRow) → AllByRecursion (NamesMove selectors) moves → AllByRecursion (IsFirstRow rows) few
    → AllByRecursion (IsCovered selectors few) rows → HaveMoved (record { rows = rows; moves = moves }) few
have_moved rows moves selectors few named first covered = record {
  first = first;
  others = λ p none row is m there own.
      let same = found_peer rows p row is in
      let lacks = every-contained (IsCovered selectors few) rows row covered (found_there rows p row is) (subst (HaveNoRow few) (sym same) none) in
      every-contained (NamesMove selectors) moves m named there (subst (Lacks selectors) (sym own) lacks);
}

-- ---- what a look finds
pub moved_by : (is : RowsMoved) (p : Peer) (row : SetRow) → find (is_row_of p) is.rows ≡ Some row → (found : Option (Bor Move)) → IsMoveOf is.moves row.selector found → IsMoveFor is p found
moved_by is p row first None none = λ other found m there own.
    absurd (none m there (own ∙ ap (λ (r : SetRow). r.selector) (same_Some other row (sym found ∙ first))))
moved_by is p row first (Some m) its = subst (λ (r : Option SetRow). IsMoveOfRow is.moves r (Some m)) (sym first) its
