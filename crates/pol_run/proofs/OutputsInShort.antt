-- What an output says: one answer a line, and its status by the first words of its texts; and that this is all.
use Rattle.std.proofs.Common.{◌≡◌, ℕ, ◌||◌, if◌then◌else◌, List, [], ◌∷◌, length, map, zip, refl, ap, sym, ◌∙◌, subst, arith}
use Rattle.std.specs.List.{list_any}
use Rattle.std.proofs.lemmas.List.{length-map}
use Rattle.pol_mapkey.specs.declared.Word.TheVariants.{Allowed, DeniedByRule, DeniedByDefault}
use Rattle.pol_model.specs.declared.options.Options.{Options}
use Rattle.pol_script.specs.Lines.{lines_of}
use Rattle.pol_script.specs.Reading.{reading_of}
use Rattle.pol_answer.specs.Text.{text_of, texts_of}
use Rattle.pol_answer.specs.declared.answer.Answer.{Answer}
use Rattle.pol_answer.specs.declared.answer.Answer.TheVariants as answer
use Rattle.pol_run.specs.Spots.{Line, Reading, spots_of}
use Rattle.pol_run.specs.Run.{IsRun, IsRunOf, is_marked, readings_of}
use Rattle.pol_run.specs.InShort.{begins_marked, IsRunOfInShort}
use Rattle.pol_run.proofs.InShort.{run_in_short}
use Rattle.pol_run.proofs.FromShort.{run_from_short}

-- an answer makes the status 1 by the first word of its text
pub marked_by_word : (a : Answer) → is_marked a ≡ begins_marked (text_of a)
marked_by_word (answer.Committed revision identity) = refl
marked_by_word (answer.Synced revision full) = refl
marked_by_word (answer.Phase number) = refl
marked_by_word (answer.Verdict revision Allowed) = refl
marked_by_word (answer.Verdict revision DeniedByRule) = refl
marked_by_word (answer.Verdict revision DeniedByDefault) = refl
marked_by_word (answer.NoEndpoint revision) = refl
marked_by_word (answer.NotYet revision) = refl
marked_by_word (answer.Traced revision trace) = refl
marked_by_word (answer.BadLine fault) = refl
marked_by_word (answer.Refused refused) = refl

-- ---- pairs

firsts : (readings : List Reading) (answers : List Answer) → length answers ≡ length readings
    → map (λ (line : Line). line.0) (zip readings answers) ≡ readings
firsts [] answers same = refl
firsts (reading ∷ readings) [] same = absurd (omega arith)
firsts (reading ∷ readings) (a ∷ answers) same = ap (λ (rest : List Reading). reading ∷ rest) (firsts readings answers (omega arith))

seconds : (readings : List Reading) (answers : List Answer) → length answers ≡ length readings
    → map (λ (line : Line). line.1) (zip readings answers) ≡ answers
seconds [] [] same = refl
seconds [] (a ∷ answers) same = absurd (omega arith)
seconds (reading ∷ readings) [] same = absurd (omega arith)
seconds (reading ∷ readings) (a ∷ answers) same = ap (λ (rest : List Answer). a ∷ rest) (seconds readings answers (omega arith))

marked_lines : (readings : List Reading) (answers : List Answer) → length answers ≡ length readings
    → list_any is_marked answers ≡ list_any (λ (line : Line). begins_marked (text_of line.1)) (zip readings answers)
marked_lines [] [] same = refl
marked_lines [] (a ∷ answers) same = absurd (omega arith)
marked_lines (reading ∷ readings) [] same = absurd (omega arith)
marked_lines (reading ∷ readings) (a ∷ answers) same =
    ap (λ others. is_marked a || others) (marked_lines readings answers (omega arith))
    ∙ ap (λ here. here || list_any (λ (line : Line). begins_marked (text_of line.1)) (zip readings answers)) (marked_by_word a)

pub output_in_short : (options : Options) (script written : List ℕ) (ended : ℕ) → IsRunOf options script written ended
    → IsRunOfInShort options script written ended
output_in_short options script written ended run =
    let readings = readings_of script in
    let same : length run.answers ≡ length readings = run.one_each ∙ sym (length-map (lines_of script) reading_of) in
    record {
      lines = zip readings run.answers;
      one_each = firsts readings run.answers same;
      text = run.text ∙ ap (λ (answers : List Answer). texts_of answers) (sym (seconds readings run.answers same));
      run = run_in_short options (zip readings run.answers) run.run;
      status = run.status ∙ ap (λ marked. if marked then 1 else 0) (marked_lines readings run.answers same);
    }

-- ---- and back

zip_parts : (lines : List Line) → zip (map (λ (line : Line). line.0) lines) (map (λ (line : Line). line.1) lines) ≡ lines
zip_parts [] = refl
zip_parts (line ∷ lines) = ap (λ (rest : List Line). line ∷ rest) (zip_parts lines)

marked_answers : (lines : List Line) → list_any (λ (line : Line). begins_marked (text_of line.1)) lines
    ≡ list_any is_marked (map (λ (line : Line). line.1) lines)
marked_answers [] = refl
marked_answers (line ∷ lines) =
    ap (λ others. begins_marked (text_of line.1) || others) (marked_answers lines)
    ∙ ap (λ here. here || list_any is_marked (map (λ (l : Line). l.1) lines)) (sym (marked_by_word line.1))

pub output_from_short : (options : Options) (script written : List ℕ) (ended : ℕ) → IsRunOfInShort options script written ended
    → IsRunOf options script written ended
output_from_short options script written ended short =
    let answers = map (λ (line : Line). line.1) short.lines in
    record {
      answers = answers;
      one_each = length-map short.lines (λ (line : Line). line.1) ∙ sym (length-map short.lines (λ (line : Line). line.0))
          ∙ ap (λ (readings : List Reading). length readings) short.one_each ∙ length-map (lines_of script) reading_of;
      text = short.text;
      run = subst (λ (lines : List Line). IsRun options (spots_of lines))
          (sym (zip_parts short.lines) ∙ ap (λ (readings : List Reading). zip readings answers) short.one_each)
          (run_from_short options short.lines short.run);
      status = short.status ∙ ap (λ marked. if marked then 1 else 0) (marked_answers short.lines);
    }
