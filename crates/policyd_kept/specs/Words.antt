-- What the words of the command line ask for ('profile').
use Rattle.std.specs.Prelude.{ℕ, List, [], ◌∷◌, Option, None}
use Rattle.pol_model.specs.declared.options.Options.{Options}
use Rattle.pol_play_kept.specs.Words.{plays_with}

-- the options, where a file is named, and the other words are those of a script that is played
abbrev pub serves_with : List (List ℕ) → Option Options
serves_with [] = None
serves_with (path ∷ words) = plays_with words
