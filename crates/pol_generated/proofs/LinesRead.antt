-- Texts of lines that are read as commands, put together.
use Rattle.std.proofs.Common.{◌≡◌, ℕ, zero, suc, ◌+◌, ◌<◌, ◌≤◌, true, List, [], ◌∷◌, ◌++◌, map, Ok, refl, sym, ap, ap₂, ◌∙◌, arith, append-nil}
use Rattle.std.specs.Cmp.Derive.{both_true}
use Rattle.std.specs.List.{flat_map, list_all, range_with_len}
use Rattle.std.proofs.lemmas.List.{map-append}
use Rattle.std.proofs.lemmas.List.Folds.{list_all-append}
use Rattle.std.proofs.lemmas.Grind.{flat_map-append}
use Rattle.pol_script.specs.declared.command.Command.{Command}
use Rattle.pol_script.specs.Lines.{ended, is_one_line, lines_of}
use Rattle.pol_script.specs.Reading.{reading_of}
use Rattle.pol_script.proofs.ScriptLaws.{again}

-- the text is made of lines that are read as these commands
pub record Reads (text : List ℕ) (commands : List Command) : Type 0 where
  lines : List (List ℕ)
  written : text ≡ flat_map ended lines
  plain : list_all is_one_line lines ≡ true
  read : map reading_of lines ≡ map Ok commands

pub nothing : Reads [] []
nothing = record { lines = []; written = refl; plain = refl; read = refl }

pub one : (line : List ℕ) (command : Command) → is_one_line line ≡ true → reading_of line ≡ Ok command → Reads (ended line) (command ∷ [])
one line command plain read =
    record {
      lines = line ∷ [];
      written = sym (append-nil (ended line));
      plain = both_true plain refl;
      read = ap (λ r. r ∷ []) read;
    }

pub both : (a b : List ℕ) (c d : List Command) → Reads a c → Reads b d → Reads (a ++ b) (c ++ d)
both a b c d first second =
    record {
      lines = first.lines ++ second.lines;
      written =
          ap₂ (λ (x y : List ℕ). x ++ y) first.written second.written ∙ sym (flat_map-append ended first.lines second.lines);
      plain = list_all-append is_one_line first.lines second.lines ∙ both_true first.plain second.plain;
      read =
          map-append reading_of first.lines second.lines ∙ ap₂ (λ x y. x ++ y) first.read second.read ∙ sym (map-append Ok c d);
    }

pub each : (text : ℕ → List ℕ) (commands : ℕ → List Command) (bound a n : ℕ) → a + n ≤ bound → ((i : ℕ) → i < bound → Reads (text i) (commands i))
    → Reads (flat_map text (range_with_len a n)) (flat_map commands (range_with_len a n))
each text commands bound a zero within all = nothing
each text commands bound a (suc n) within all =
    both (text a) (flat_map text (range_with_len (a + 1) n)) (commands a) (flat_map commands (range_with_len (a + 1) n))
    (all a (omega (arith, within))) (each text commands bound (a + 1) n (omega (arith, within)) all)

pub all_read : (text : List ℕ) (commands : List Command) → Reads text commands → map reading_of (lines_of text) ≡ map Ok commands
all_read text commands is =
    ap (λ t. map reading_of (lines_of t)) is.written ∙ ap (map reading_of) (again is.lines is.plain) ∙ is.read
