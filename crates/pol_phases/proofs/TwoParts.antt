-- A script of two parts: its phases are those of the parts, the last of the one and the first of the other as one.
use Rattle.std.proofs.Common.{zero, suc, ◌≡◌, ℕ, List, [], ◌∷◌, ◌++◌, length, drop, map, replicate, Option, None, Some, Ok, Err, refl, sym, ap, ◌∙◌, append_assoc, arith}
use Rattle.std.specs.List.{AllByRecursion}
use Rattle.std.proofs.lemmas.List.{map-append}
use Rattle.pol_script.specs.declared.command.Command.{Command}
use Rattle.pol_run.specs.Spots.{Reading, session_of}
use Rattle.pol_run_laws.specs.Cut.{change_at, change_session, first_phase, list_at, script_of, with_command}
use Rattle.pol_phases.specs.declared.cut_script.CutScript.{CutScript}
use Rattle.pol_phases.specs.Cuts.{IsCutOf}
use Rattle.pol_phases.specs.Marks.{beside, joined, mark_of}
use Rattle.pol_phases.proofs.CutLines.{phases_each}

-- ---- one command more in front of the first part

module _ {X : Type 0} (x : X) where
  change-beside : (i : ℕ) (lists others : List (List X)) → change_at i (λ (xs : List X). x ∷ xs) (beside lists others) ≡ beside (change_at i (λ (xs : List X). x ∷ xs) lists) others
  change-beside i [] others = refl
  change-beside zero (xs ∷ lists) others = refl
  change-beside (suc i) (xs ∷ lists) others = ap (λ (ls : List (List X)). (xs ++ list_at others 0) ∷ ls) (change-beside i lists (drop 1 others))

  session-beside : (session : ℕ) (lists others : List (List X))
      → change_session session (λ (xs : List X). x ∷ xs) (beside lists others) ≡ beside (change_session session (λ (xs : List X). x ∷ xs) lists) others
  session-beside zero lists others = refl
  session-beside (suc i) lists others = change-beside i lists others

-- the first phase and the others are all, so there is one
abbrev IsWhole : List (List (List Command)) → Type 0
IsWhole phases = first_phase phases ∷ drop 1 phases ≡ phases

with_front : (n : ℕ) (c : Command) (o : Option ℕ) (phases later : List (List (List Command))) → IsWhole phases
    → with_command n c o (joined phases later) ≡ joined (with_command n c o phases) later
with_front n c o [] later whole = absurd (omega (arith, ap length whole))
with_front n c None (last ∷ []) later whole = refl
with_front n c (Some session) (last ∷ []) later whole = ap (λ (lists : List (List Command)). lists ∷ drop 1 later) (session-beside c session last (first_phase later))
with_front n c None (first ∷ next ∷ phases) later whole = refl
with_front n c (Some session) (first ∷ next ∷ phases) later whole = refl

stays_whole : (n : ℕ) (c : Command) (o : Option ℕ) (phases : List (List (List Command))) → IsWhole phases → IsWhole (with_command n c o phases)
stays_whole n c None phases whole = refl
stays_whole n c (Some session) [] whole = absurd (omega (arith, ap length whole))
stays_whole n c (Some session) (first ∷ later) whole = refl

script_whole : (n : ℕ) (lines : List Reading) → IsWhole (script_of n lines)
script_whole n [] = refl
script_whole n (Err fault ∷ lines) = script_whole n lines
script_whole n (Ok c ∷ lines) = stays_whole n c (session_of (Ok c)) (script_of n lines) (script_whole n lines)

-- ---- a first part without lines

none-beside : {X : Type 0} (n : ℕ) (others : List (List X)) → length others ≡ n → beside (replicate n []) others ≡ others
none-beside zero [] as_many = refl
none-beside zero (xs ∷ others) as_many = absurd (omega (arith, as_many))
none-beside (suc n) [] as_many = absurd (omega (arith, as_many))
none-beside (suc n) (xs ∷ others) as_many = ap (λ lists. xs ∷ lists) (none-beside n others (omega (arith, as_many)))

first_of_each : (n : ℕ) (phases : List (List (List Command))) → IsWhole phases → AllByRecursion (λ lines. length lines ≡ n) phases → length (first_phase phases) ≡ n
first_of_each n [] whole each = absurd (omega (arith, ap length whole))
first_of_each n (first ∷ phases) whole each = each.0

nothing_joined : (n : ℕ) (lines : List Reading) → script_of n lines ≡ joined (script_of n []) (script_of n lines)
nothing_joined n lines =
    let later = script_of n lines in let whole = script_whole n lines in
    sym (ap (λ (first : List (List Command)). first ∷ drop 1 later) (none-beside n (first_phase later) (first_of_each n later whole (phases_each n lines))) ∙ whole)

-- ---- both parts

pub script_joined : (n : ℕ) (lines more : List Reading) → script_of n (lines ++ more) ≡ joined (script_of n lines) (script_of n more)
script_joined n [] more = nothing_joined n more
script_joined n (Err fault ∷ lines) more = script_joined n lines more
script_joined n (Ok c ∷ lines) more =
    ap (λ (phases : List (List (List Command))). with_command n c (session_of (Ok c)) phases) (script_joined n lines more)
    ∙ with_front n c (session_of (Ok c)) (script_of n lines) (script_of n more) (script_whole n lines)

pub cut_followed : (n : ℕ) (lines more : List Reading) (script later both : CutScript) → both.phases.items ≡ joined script.phases.items later.phases.items
    → both.marks ≡ script.marks ++ later.marks → IsCutOf n lines script → IsCutOf n more later → IsCutOf n (lines ++ more) both
cut_followed n lines more script later both phases marks first second = record {
  phases = phases ∙ ap (λ (ps : List (List (List Command))). joined ps later.phases.items) first.phases
      ∙ ap (λ (ps : List (List (List Command))). joined (script_of n lines) ps) second.phases ∙ sym (script_joined n lines more);
  marks = marks ∙ ap (λ ms. ms ++ later.marks) first.marks ∙ ap (λ ms. map mark_of lines ++ ms) second.marks ∙ sym (map-append mark_of lines more);
}

-- ---- the last phase of a part, where it is taken off

pub joined-behind : {X : Type 0} (front : List (List (List X))) (last : List (List X)) (later : List (List (List X)))
    → joined (front ++ last ∷ []) later ≡ front ++ beside last (first_phase later) ∷ drop 1 later
joined-behind [] last later = refl
joined-behind (first ∷ []) last later = refl
joined-behind (first ∷ next ∷ front) last later = ap (λ phases. first ∷ phases) (joined-behind (next ∷ front) last later)

pub joined_so : {X : Type 0} (phases later front behind pushed both : List (List (List X))) (last first one : List (List X)) → phases ≡ front ++ last ∷ [] → first ≡ first_phase later
    → behind ≡ drop 1 later → one ≡ beside last first → pushed ≡ front ++ one ∷ [] → both ≡ pushed ++ behind → both ≡ joined phases later
joined_so phases later front behind pushed both last first one phases_are first_is behind_is one_is pushed_is both_are =
    both_are ∙ ap (λ ps. ps ++ behind) pushed_is ∙ append_assoc front (one ∷ []) behind ∙ ap (λ ps. front ++ one ∷ ps) behind_is
    ∙ ap (λ phase. front ++ phase ∷ drop 1 later) (one_is ∙ ap (λ lists. beside last lists) first_is)
    ∙ sym (joined-behind front last later) ∙ ap (λ ps. joined ps later) (sym phases_are)
