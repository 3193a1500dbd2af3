-- What makes small outputs placed in a written history: what each line owes, and tests that compute. Session n has pass n,
-- and the two beginnings of line i are the i-th of a list, also where it is a `phase` line, which stands between phases.
use Rattle.std.proofs.Common.{◌≡◌, ℕ, zero, suc, ◌+◌, ◌≤◌, Bool, true, false, not, ◌||◌, nat_le, List, [], ◌∷◌, Contains, length, take, slice_get, get_or, Some, Ok, Err, refl, subst, arith}
use Rattle.std.specs.Prelude.{⊤, count_by}
use Rattle.std.specs.List.{list_all}
use Rattle.std.proofs.lemmas.Bool.{leb-true, false≢true}
use Rattle.std.proofs.lemmas.List.Elements.{All-contains}
use Rattle.std.proofs.lemmas.List.Sums.{AllPass-from_list_all}
use Rattle.std.proofs.lemmas.Option.{get_or_from_slice_get, slice_get_within}
use Rattle.pol_model.specs.declared.options.Options.{Options}
use Rattle.pol_answer.specs.declared.answer.Answer.{Answer}
use Rattle.pol_answer.specs.declared.answer.Answer.TheVariants as answer
use Rattle.pol_script.specs.declared.command.Command.TheVariants as command
use Rattle.pol_run.specs.Spots.{Line, Reading, Spot, spots_of, stands_before}
use Rattle.pol_run.specs.ByIndex.{ComesBefore, IsLine, IsOf, is_phase}
use Rattle.pol_run.proofs.ByIndex.{spot_of, spot_listed, stands_before_known}
use Rattle.pol_history.specs.declared.event.HistoryEvent.{HistoryEvent}
use Rattle.pol_history.specs.declared.event.HistoryEvent.TheVariants as event
use Rattle.pol_history.specs.Commits.{commits_by}
use Rattle.pol_run_laws.specs.Placed.{Allows, IsLineOf, IsPlaced, requests_ok}
use Rattle.pol_history.proofs.Lists.{no_element}
use Rattle.pol_run_laws.proofs.Places.{same_element}
use Rattle.pol_run_laws.proofs.SessionCounts.{found_line, has_line}

passes : {X : Type 0} (p : X → Bool) (xs : List X) (x : X) → list_all p xs ≡ true → Contains xs x → p x ≡ true
passes p xs x all listed = All-contains (λ y. p y ≡ true) xs x (AllPass-from_list_all p xs all) listed

implied : (if_so then : Bool) → (not if_so || then) ≡ true → if_so ≡ true → then ≡ true
implied true then either so = either
implied false then either so = absurd (false≢true so)

module _ (options : Options) (history : List HistoryEvent) (lines : List Line) (views : List (ℕ × ℕ)) where
  abbrev before : ℕ → ℕ
  before i = (get_or views i (0, 0)).0

  abbrev after : ℕ → ℕ
  after i = (get_or views i (0, 0)).1

  -- what a line of a session owes
  pub record Owes (session i : ℕ) (reading : Reading) (told : Answer) : Type 0 where
    pub grows : nat_le (before i) (after i) ≡ true
    pub within : nat_le (after i) (length history) ≡ true
    pub own : commits_by session history ≡ requests_ok session lines
    pub allowed : Allows options session (take (before i) history) (take (after i) history) reading told

  abbrev pub LineOwes : ℕ → Reading → Answer → Type 0
  LineOwes i (Err fault) told = told ≡ answer.BadLine fault
  LineOwes i (Ok command.Phase) told = told ≡ answer.Phase (count_by is_phase (take i lines) + 1)
  LineOwes i (Ok (command.Commit session request)) told = Owes session i (Ok (command.Commit session request)) told
  LineOwes i (Ok (command.Look session query)) told = Owes session i (Ok (command.Look session query)) told
  LineOwes i (Ok (command.Trace session query)) told = Owes session i (Ok (command.Trace session query)) told
  LineOwes i (Ok (command.Sync session)) told = Owes session i (Ok (command.Sync session)) told

  abbrev pub EachOwes : ℕ → List Line → Type 0
  EachOwes i [] = ⊤
  EachOwes i (line ∷ others) = LineOwes i line.0 line.1 × EachOwes (suc i) others

  owes_at : (i : ℕ) (others : List Line) → EachOwes i others → (k : ℕ) (line : Line) → slice_get others k ≡ Some line → LineOwes (i + k) line.0 line.1
  owes_at i [] each k line there = absurd (no_element line there)
  owes_at i (first ∷ others) each zero line there =
      let same : i ≡ i + 0 = omega arith in
      subst (λ (l : Line). LineOwes (i + 0) l.0 l.1) (same_element first line there) (subst (λ (n : ℕ). LineOwes n first.0 first.1) same each.0)
  owes_at i (first ∷ others) each (suc k) line there =
      let same : suc i + k ≡ i + suc k = omega arith in
      subst (λ (n : ℕ). LineOwes n line.0 line.1) same (owes_at (suc i) others each.1 k line there)

  -- the tests
  abbrev pub all_in_order : Bool
  all_in_order =
      list_all (λ x. list_all (λ y. not (stands_before x y) || nat_le (after x.index) (before y.index)) (spots_of lines)) (spots_of lines)

  abbrev is_known : HistoryEvent → Bool
  is_known (event.Commit pass number request) = has_line lines pass
  is_known (event.Publish endpoint revision table) = true
  is_known (event.Blocked endpoint revision count) = true

  abbrev pub all_known : Bool
  all_known = list_all is_known history

  module _ (each : EachOwes 0 lines) (ordered : all_in_order ≡ true) (known : all_known ≡ true) where
    line_owes : (i : ℕ) (reading : Reading) (told : Answer) → IsLine lines i reading told → LineOwes i reading told
    line_owes i reading told line =
        let same : 0 + i ≡ i = omega arith in
        subst (λ (n : ℕ). LineOwes n reading told) same (owes_at 0 lines each i (reading, told) line.there)

    owes_of : (session i : ℕ) (reading : Reading) (told : Answer) → IsOf session reading → LineOwes i reading told → Owes session i reading told
    owes_of session i (Ok (command.Commit its request)) told of owes = subst (λ (s : ℕ). Owes s i (Ok (command.Commit its request)) told) of owes
    owes_of session i (Ok (command.Look its query)) told of owes = subst (λ (s : ℕ). Owes s i (Ok (command.Look its query)) told) of owes
    owes_of session i (Ok (command.Trace its query)) told of owes = subst (λ (s : ℕ). Owes s i (Ok (command.Trace its query)) told) of owes
    owes_of session i (Ok (command.Sync its)) told of owes = subst (λ (s : ℕ). Owes s i (Ok (command.Sync its)) told) of owes
    owes_of session i (Ok command.Phase) told of owes = absurd of
    owes_of session i (Err fault) told of owes = absurd of

    owes : (session i : ℕ) (reading : Reading) (told : Answer) → IsLineOf lines session i reading told → Owes session i reading told
    owes session i reading told of = owes_of session i reading told of.of (line_owes i reading told of.line)

    order : (i j : ℕ) (first second : Reading) (told later : Answer) → IsLine lines i first told → IsLine lines j second later
        → ComesBefore lines i first j second → after i ≤ before j
    order i j first second told later one other comes =
        let spots = spots_of lines in
        let x = spot_of lines i first told in
        let y = spot_of lines j second later in
        let behind = passes (λ (a : Spot). list_all (λ b. not (stands_before a b) || nat_le (after a.index) (before b.index)) spots) spots x ordered
        (spot_listed lines i first told one) in
        leb-true (after i) (before j)
        (implied (stands_before x y) (nat_le (after i) (before j))
        (passes (λ (b : Spot). not (stands_before x b) || nat_le (after x.index) (before b.index)) spots y behind (spot_listed lines j second later other))
        (stands_before_known lines i j first second told later comes))

    pub placed_so : IsPlaced options history lines
    placed_so = record {
      pass_of = λ session. session;
      before = before;
      after = after;
      grows = λ session i reading told of. leb-true (before i) (after i) (owes session i reading told of).grows;
      within = λ session i reading told of. leb-true (after i) (length history) (owes session i reading told of).within;
      in_order = λ session i first told other j second later of_first of_second comes.
          order i j first second told later of_first.line of_second.line comes;
      allowed = λ session i reading told of. (owes session i reading told of).allowed;
      faulty = λ i fault told line. line_owes i (Err fault) told line;
      phases = λ i told line. line_owes i (Ok command.Phase) told line;
      apart = λ session i first told other j second later of_first of_second same. same;
      own = λ session i reading told of. (owes session i reading told of).own;
      no_others = λ place pass number request there.
          let e = event.Commit pass number request in
          let has = passes is_known history e known (place, slice_get_within history place e there, get_or_from_slice_get history place e e there) in
          let line = found_line lines pass has in
          record { session = pass; i = line.i; reading = line.reading; told = line.told; line = line.line; same = refl };
    }
