-- Lines that are answered in input order: where they and their commits stand.
use Rattle.std.proofs.Common.{ℕ, ◌+◌, ◌≤◌, ◌<◌, List, [], ◌∷◌, Option, None, Some, Ok, Err, sym, subst, arith}
use Rattle.std.specs.Prelude.{⊤}
use Rattle.std.specs.List.{AllByRecursion, cons_option}
use Rattle.pol_model.specs.State.{State}
use Rattle.pol_model.specs.After.{after}
use Rattle.pol_model.specs.declared.answer.Fault.{Fault}
use Rattle.pol_model.specs.declared.options.Options.{Options}
use Rattle.pol_model.specs.declared.request.Request.{Request}
use Rattle.pol_answer.specs.declared.answer.Answer.{Answer}
use Rattle.pol_answer.specs.declared.answer.Answer.TheVariants as answer
use Rattle.pol_script.specs.declared.command.Command.TheVariants as command
use Rattle.pol_run.specs.Spots.{Reading, Spot, phase_after, spots_from}
use Rattle.pol_run.specs.History.{Commit, commit_at, commits_of}
use Rattle.pol_run.specs.Serial.{state_then, state_with}
use Rattle.pol_run.specs.SerialLines.{Seen, SerialAnswer, IsSerialFrom, IsNextCommit, seen_after}
use Rattle.pol_run.proofs.Lists.{every_weaker}
use Rattle.pol_run.proofs.Numbering.{IsCountedFrom}

-- a line at an index
abbrev pub spot_at : ℕ → ℕ → Reading → Answer → Spot
spot_at index phase reading answer = record { index = index; phase = phase; reading = reading; answer = answer }

-- A line commits its request, or makes no commit and leaves the state.
pub line_cases : (options : Options) (s : State) (phase : ℕ) (seen : Seen) (index : ℕ) (reading : Reading) (answer : Answer)
    (M : Option Commit → State → Type 0)
    → M None s
    → ((request : Request) (revision : ℕ) (printed : Option ℕ) → IsNextCommit s request revision printed
    → M (Some (record { number = revision; request = request; spot = spot_at index phase reading answer })) (after s request))
    → SerialAnswer options s phase seen reading answer
    → M (commit_at (spot_at index phase reading answer)) (state_then s reading)
line_cases options s phase seen index (Err fault) (answer.BadLine told) M stays commits serial = stays
line_cases options s phase seen index (Ok command.Phase) (answer.Phase number) M stays commits serial = stays
line_cases options s phase seen index (Ok (command.Commit session request)) (answer.Committed revision identity) M stays commits serial =
    let spot = spot_at index phase (Ok (command.Commit session request)) (answer.Committed revision identity) in
    subst (λ (f : Option Fault). M (commit_at spot) (state_with s request f)) (sym serial.no_fault) (commits request revision identity serial)
line_cases options s phase seen index (Ok (command.Commit session request)) (answer.Refused refused) M stays commits serial =
    subst (λ (f : Option Fault). M None (state_with s request f)) (sym serial.fault) stays
line_cases options s phase seen index (Ok (command.Sync session)) (answer.Synced revision full) M stays commits serial = stays
line_cases options s phase seen index (Ok (command.Look session query)) (answer.Verdict revision word) M stays commits serial = stays
line_cases options s phase seen index (Ok (command.Look session query)) (answer.NotYet revision) M stays commits serial = stays
line_cases options s phase seen index (Ok (command.Look session query)) (answer.NoEndpoint revision) M stays commits serial = stays
line_cases options s phase seen index (Ok (command.Trace session query)) (answer.Traced revision trace) M stays commits serial = stays
line_cases options s phase seen index (Ok (command.Trace session query)) (answer.NoEndpoint revision) M stays commits serial = stays
line_cases options s phase seen index reading other M stays commits serial = absurd serial

-- the commits carry the numbers from the state's revision on
pub serial_counted : (options : Options) (s : State) (index phase : ℕ) (seen : Seen) (lines : List (Reading × Answer))
    → IsSerialFrom options s phase seen lines → IsCountedFrom s.revision (commits_of (spots_from index phase lines))
serial_counted options s index phase seen [] serial = tt
serial_counted options s index phase seen (line ∷ lines) serial =
    let later = phase_after phase line.0 in
    let rest = commits_of (spots_from (index + 1) later lines) in
    line_cases options s phase seen index line.0 line.1
    (λ c next. IsCountedFrom next.revision rest → IsCountedFrom s.revision (cons_option c rest))
    (λ others. others)
    (λ request revision printed right others. (right.next, others))
    serial.0
    (serial_counted options (state_then s line.0) (index + 1) later (seen_after s seen line.0 line.1) lines serial.1)

pub phase_later : (phase : ℕ) (reading : Reading) → phase ≤ phase_after phase reading
phase_later phase (Err fault) = omega arith
phase_later phase (Ok (command.Commit session request)) = omega arith
phase_later phase (Ok (command.Look session query)) = omega arith
phase_later phase (Ok (command.Trace session query)) = omega arith
phase_later phase (Ok (command.Sync session)) = omega arith
phase_later phase (Ok command.Phase) = omega arith

-- a line stands at this index or later, in this phase or a later one
pub record IsFrom (first since : ℕ) (spot : Spot) : Type 0 where
  pub index : first ≤ spot.index
  pub phase : since ≤ spot.phase

pub from_index : (index phase : ℕ) (lines : List (Reading × Answer)) → AllByRecursion (IsFrom index phase) (spots_from index phase lines)
from_index index phase [] = tt
from_index index phase (line ∷ lines) = (
  record { index = omega arith; phase = omega arith },
  every_weaker (IsFrom (index + 1) (phase_after phase line.0)) (IsFrom index phase)
      (λ spot later. record { index = omega (arith, later.index); phase = omega (arith, later.phase, phase_later phase line.0) })
      (spots_from (index + 1) (phase_after phase line.0) lines)
      (from_index (index + 1) (phase_after phase line.0) lines),
)

-- a commit of a greater number, of such a line
pub record IsBehind (revision index phase : ℕ) (c : Commit) : Type 0 where
  pub number : revision < c.number
  pub spot : IsFrom index phase c.spot

-- commits behind a later revision are behind an earlier one
behind_rest : (now next index phase : ℕ) (reading : Reading) (rest : List Commit) → now ≤ next
    → AllByRecursion (IsBehind next (index + 1) (phase_after phase reading)) rest → AllByRecursion (IsBehind now index phase) rest
behind_rest now next index phase reading rest grows behind =
    every_weaker (IsBehind next (index + 1) (phase_after phase reading)) (IsBehind now index phase)
    (λ c later. record {
      number = omega (arith, later.number);
      spot = record { index = omega (arith, later.spot.index); phase = omega (arith, later.spot.phase, phase_later phase reading) };
    }) rest behind

-- the commits stand behind the state's revision and the first line's index and phase
pub serial_behind : (options : Options) (s : State) (index phase : ℕ) (seen : Seen) (lines : List (Reading × Answer))
    → IsSerialFrom options s phase seen lines → AllByRecursion (IsBehind s.revision index phase) (commits_of (spots_from index phase lines))
serial_behind options s index phase seen [] serial = tt
serial_behind options s index phase seen (line ∷ lines) serial =
    let later = phase_after phase line.0 in
    let rest = commits_of (spots_from (index + 1) later lines) in
    line_cases options s phase seen index line.0 line.1
    (λ c next. AllByRecursion (IsBehind next.revision (index + 1) later) rest
    → AllByRecursion (IsBehind s.revision index phase) (cons_option c rest))
    (λ others. behind_rest s.revision s.revision index phase line.0 rest (omega arith) others)
    (λ request revision printed right others. (
      record { number = omega (arith, right.next); spot = record { index = omega arith; phase = omega arith } },
      behind_rest s.revision (s.revision + 1) index phase line.0 rest (omega arith) others,
    ))
    serial.0
    (serial_behind options (state_then s line.0) (index + 1) later (seen_after s seen line.0 line.1) lines serial.1)

-- a commit after another: of a greater number, at a later index, in no earlier phase
pub record IsAfter (b c : Commit) : Type 0 where
  pub number : b.number < c.number
  pub index : b.spot.index < c.spot.index
  pub phase : b.spot.phase ≤ c.spot.phase

-- each commit comes after those before it
abbrev pub IsInOrder : List Commit → Type 0
IsInOrder [] = ⊤
IsInOrder (c ∷ cs) = AllByRecursion (IsAfter c) cs × IsInOrder cs

-- they come in order
pub serial_in_order : (options : Options) (s : State) (index phase : ℕ) (seen : Seen) (lines : List (Reading × Answer))
    → IsSerialFrom options s phase seen lines → IsInOrder (commits_of (spots_from index phase lines))
serial_in_order options s index phase seen [] serial = tt
serial_in_order options s index phase seen (line ∷ lines) serial =
    let later = phase_after phase line.0 in
    let rest = commits_of (spots_from (index + 1) later lines) in
    line_cases options s phase seen index line.0 line.1
    (λ c next. AllByRecursion (IsBehind next.revision (index + 1) later) rest → IsInOrder rest → IsInOrder (cons_option c rest))
    (λ behind others. others)
    (λ request revision printed right behind others. (
      every_weaker (IsBehind (s.revision + 1) (index + 1) later)
          (IsAfter (record { number = revision; request = request; spot = spot_at index phase line.0 line.1 }))
          (λ c after. record {
            number = omega (arith, after.number, right.next);
            index = omega (arith, after.spot.index);
            phase = omega (arith, after.spot.phase, phase_later phase line.0);
          }) rest behind,
      others,
    ))
    serial.0
    (serial_behind options (state_then s line.0) (index + 1) later (seen_after s seen line.0 line.1) lines serial.1)
    (serial_in_order options (state_then s line.0) (index + 1) later (seen_after s seen line.0 line.1) lines serial.1)
