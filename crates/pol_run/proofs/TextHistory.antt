-- The commits of lines are told by the texts of their answers, where each answer tells its commit.
use Rattle.std.proofs.Common.{◌≡◌, ℕ, ◌+◌, ◌<◌, ◌^◌, ◌==◌, Bool, true, false, List, [], ◌∷◌, length, map, Ok, Err, IsTrue, Option, refl, sym, ap, ap₂, ◌∙◌, true≢false}
use Rattle.std.specs.List.{cons_option, list_all, zip}
use Rattle.pol_answer.specs.Shown.{has_read_parts}
use Rattle.pol_answer.specs.Text.{answer_words, texts_of, has_plain_names}
use Rattle.pol_answer.specs.declared.answer.Answer.{Answer}
use Rattle.pol_answer.specs.declared.answer.Answer.TheVariants as answer
use Rattle.pol_answer.proofs.AnswerLaws.{read_again}
use Rattle.pol_answer.proofs.Cutting.{head}
use Rattle.pol_answer.proofs.Rebuilt.{tells}
use Rattle.pol_answer.proofs.TextsTell.{plain}
use Rattle.pol_mapkey.specs.declared.Word.TheVariants.{Allowed, DeniedByRule, DeniedByDefault}
use Rattle.pol_model.specs.declared.options.Options.{Options}
use Rattle.pol_model.specs.declared.request.Request.{Request}
use Rattle.pol_script.proofs.KeyNames.{all_weaker}
use Rattle.pol_script.proofs.ScriptLaws.{both_parts}
use Rattle.pol_script.specs.Lines.{ended, lines_of}
use Rattle.pol_script.specs.declared.command.Command.TheVariants as command
use Rattle.pol_run.specs.History.{Commit, commit_at, commits_of}
use Rattle.pol_run.specs.Run.{IsRunOf, readings_of}
use Rattle.pol_run.specs.Spots.{Reading, phase_after, spots_from, spots_of}
use Rattle.pol_run.specs.Told.{tells_commit}
use Rattle.pol_run.proofs.Indices.{spot_at}
use Rattle.pol_run.proofs.RunsTell.{run_tells}

-- ---- texts of one line

tells_plain : (a : Answer) → tells_commit a ≡ true → has_plain_names a ≡ true
tells_plain (answer.Committed revision identity) is = refl
tells_plain a is = is

-- the lines of the texts are the answers' words again
pub words_again : (answers : List Answer) → IsTrue (list_all tells_commit answers) → lines_of (texts_of answers) ≡ map answer_words answers
words_again answers all = read_again answers (all_weaker tells_commit has_plain_names tells_plain answers all)

-- an answer with parts such as reading gives tells its commit
read_tells : (a : Answer) → has_read_parts a ≡ true → tells_commit a ≡ true
read_tells (answer.Committed revision identity) is = is
read_tells (answer.Synced revision full) is = plain (answer.Synced revision full) is
read_tells (answer.Phase number) is = refl
read_tells (answer.Verdict revision word) is = refl
read_tells (answer.NoEndpoint revision) is = refl
read_tells (answer.NotYet revision) is = refl
read_tells (answer.Traced revision trace) is = plain (answer.Traced revision trace) is
read_tells (answer.BadLine fault) is = refl
read_tells (answer.Refused refused) is = refl

-- ---- commits

abbrev is_committed : Answer → Bool
is_committed (answer.Committed revision identity) = true
is_committed a = false

-- only the text of `ok` begins with this byte
first_byte : (a : Answer) → (head (answer_words a) == 111) ≡ is_committed a
first_byte (answer.Committed revision identity) = refl
first_byte (answer.Synced revision full) = refl
first_byte (answer.Phase number) = refl
first_byte (answer.Verdict revision Allowed) = refl
first_byte (answer.Verdict revision DeniedByRule) = refl
first_byte (answer.Verdict revision DeniedByDefault) = refl
first_byte (answer.NoEndpoint revision) = refl
first_byte (answer.NotYet revision) = refl
first_byte (answer.Traced revision trace) = refl
first_byte (answer.BadLine fault) = refl
first_byte (answer.Refused refused) = refl

both_committed : (a b : Answer) → answer_words a ≡ answer_words b → is_committed a ≡ is_committed b
both_committed a b same = sym (first_byte a) ∙ ap (λ (text : List ℕ). head text == 111) same ∙ first_byte b

module _ (index phase session : ℕ) (request : Request) where
  abbrev commit_with : Answer → Option Commit
  commit_with a = commit_at (spot_at index phase (Ok (command.Commit session request)) a)

  commit_told : (a b : Answer) → tells_commit a ≡ true → tells_commit b ≡ true → answer_words a ≡ answer_words b → commit_with a ≡ commit_with b
  commit_told (answer.Committed r i) (answer.Committed q j) one two same = ap commit_with (tells (answer.Committed r i) (answer.Committed q j) one two (ap ended same))
  commit_told (answer.Committed r i) b one two same = absurd (true≢false (both_committed (answer.Committed r i) b same))
  commit_told a (answer.Committed q j) one two same = absurd (true≢false (sym (both_committed a (answer.Committed q j) same)))
  commit_told a b one two same = refl

commit_alike : (index phase : ℕ) (reading : Reading) (a b : Answer) → tells_commit a ≡ true → tells_commit b ≡ true → answer_words a ≡ answer_words b
    → commit_at (spot_at index phase reading a) ≡ commit_at (spot_at index phase reading b)
commit_alike index phase (Err fault) a b one two same = refl
commit_alike index phase (Ok (command.Commit session request)) a b one two same = commit_told index phase session request a b one two same
commit_alike index phase (Ok (command.Look session query)) a b one two same = refl
commit_alike index phase (Ok (command.Trace session query)) a b one two same = refl
commit_alike index phase (Ok (command.Sync session)) a b one two same = refl
commit_alike index phase (Ok command.Phase) a b one two same = refl

commits_alike : (index phase : ℕ) (readings : List Reading) (a b : List Answer) → list_all tells_commit a ≡ true → list_all tells_commit b ≡ true
    → map answer_words a ≡ map answer_words b → commits_of (spots_from index phase (zip readings a)) ≡ commits_of (spots_from index phase (zip readings b))
commits_alike index phase [] a b one two same = refl
commits_alike index phase (reading ∷ readings) [] [] one two same = refl
commits_alike index phase (reading ∷ readings) [] (y ∷ b) one two same = absurd cc
commits_alike index phase (reading ∷ readings) (x ∷ a) [] one two same = absurd cc
commits_alike index phase (reading ∷ readings) (x ∷ a) (y ∷ b) one two same =
    let first : answer_words x ≡ answer_words y = cc in
    let others : map answer_words a ≡ map answer_words b = cc in
    let ones = both_parts (tells_commit x) (list_all tells_commit a) one in
    let twos = both_parts (tells_commit y) (list_all tells_commit b) two in
    ap₂ (λ (c : Option Commit) (cs : List Commit). cons_option c cs) (commit_alike index phase reading x y ones.0 twos.0 first)
    (commits_alike (index + 1) (phase_after phase reading) readings a b ones.1 twos.1 others)

pub same_commits : (readings : List Reading) (a b : List Answer) → IsTrue (list_all tells_commit a) → IsTrue (list_all tells_commit b)
    → texts_of a ≡ texts_of b → commits_of (spots_of (zip readings a)) ≡ commits_of (spots_of (zip readings b))
same_commits readings a b one two same =
    commits_alike 0 1 readings a b one two (sym (words_again a one) ∙ ap lines_of same ∙ words_again b two)

pub parts_tell : (answers : List Answer) → IsTrue (list_all has_read_parts answers) → IsTrue (list_all tells_commit answers)
parts_tell answers all = all_weaker has_read_parts tells_commit read_tells answers all

-- ---- runs

pub runs_commit_alike : (options other : Options) (script written : List ℕ) (ended other_ended : ℕ) (a : IsRunOf options script written ended)
    (b : IsRunOf other script written other_ended) → length (lines_of script) < 2 ^ 64
    → commits_of (spots_of (zip (readings_of script) a.answers)) ≡ commits_of (spots_of (zip (readings_of script) b.answers))
runs_commit_alike options other script written ended other_ended a b small =
    same_commits (readings_of script) a.answers b.answers (run_tells options script written ended a small)
    (run_tells other script written other_ended b small) (sym a.text ∙ b.text)
