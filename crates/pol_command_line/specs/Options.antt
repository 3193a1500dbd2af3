-- Which lists of words fit the command line of `connections`, and what they give.
use Rattle.std.specs.Prelude.{Bool, List, [], ◌∷◌, codes, Option, None, Some}
use Rattle.clap.specs.Words.{Row, Text, fault_of, first_of, matches_of}
use Rattle.clap.specs.Kinds.{Kinds}
use Rattle.pol_model.specs.declared.options.Mode.{Mode}
use Rattle.pol_command_line.specs.declared.connections.ConnectionWords.{ConnectionWords}
use Rattle.pol_command_line.specs.Given.{is_set, localhost_in, mode_in}
use Rattle.pol_command_line.specs.Grammar.{connections_grammar}

-- whether halves are told
abbrev pub halves_in : List Row → Bool
halves_in rows = is_set (first_of (codes "halves") rows)

-- the options of a run, and whether halves are told; no map has a limit
abbrev pub options_of : Option Mode → Option Bool → Bool → Option ConnectionWords
options_of (Some mode) (Some localhost) halves = Some (record {
  options = record { mode = mode; localhost = localhost; map_max = None };
  halves = halves;
})
options_of _ _ halves = None

abbrev pub options_in : List Row → Option ConnectionWords
options_in rows = options_of (mode_in rows) (localhost_in rows) (halves_in rows)

abbrev pub options_without : Kinds → List Text → Option ConnectionWords
options_without [] words = options_in (matches_of connections_grammar words)
options_without (kind ∷ kinds) words = None

-- What the words give, where they fit: clap finds no fault in them, and each option has a value of its own.
abbrev pub options_given : List Text → Option ConnectionWords
options_given words = options_without (fault_of connections_grammar words) words
