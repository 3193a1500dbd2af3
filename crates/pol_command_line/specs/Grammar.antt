-- The command lines, as clap reads them: of policyd eight options, of connections three, each once at most, and no other word.
use Rattle.std.specs.Prelude.{ℕ, true, [], ◌∷◌, codes, Some}
use Rattle.clap.specs.Words.{App, Rule, Text, new_app, new_rule, with_rule}
use Rattle.clap.specs.Simple.{on_top}
use Rattle.clap.specs.declared.builder.action.ArgAction.TheVariants as action
use Rattle.clap.specs.declared.builder.value_parser.ValueParser.TheVariants as parser

-- `--NAME` with a text
abbrev pub option : Text → Rule
option name = record (new_rule name) { long = Some name }

-- `--NAME` with a whole number, from the least to the greatest
abbrev pub number : Text → ℕ → ℕ → Rule
number name least greatest = record (option name) { parser = Some (parser.Unsigned least greatest) }

-- `--NAME` without a value
abbrev pub flag : Text → Rule
flag name = record (option name) { action = Some action.SetTrue }

-- what the option has where it isn't given
abbrev pub or_default : Text → Rule → Rule
or_default text rule = record rule { defaults = text ∷ [] }

-- The words are those behind the program's name.
abbrev pub no_options : Text → App
no_options name = on_top (λ shape. record shape { no_binary_name = true }) (new_app name)

abbrev pub grammar : App
grammar = with_rule
    (with_rule
    (with_rule
    (with_rule
    (with_rule
    (with_rule
    (with_rule
    (with_rule (no_options (codes "policyd")) (or_default (codes "2") (number (codes "workers") 0 8)))
    (or_default (codes "default") (option (codes "enable-policy"))))
    (or_default (codes "always") (option (codes "allow-localhost"))))
    (number (codes "policy-map-max") 256 65536))
    (number (codes "generate") 1 10000))
    (option (codes "map")))
    (flag (codes "audit")))
    (number (codes "crash-at") 1 1000000)

abbrev pub connections_grammar : App
connections_grammar = with_rule
    (with_rule
    (with_rule (no_options (codes "connections")) (or_default (codes "default") (option (codes "enable-policy"))))
    (or_default (codes "always") (option (codes "allow-localhost"))))
    (flag (codes "halves"))
