-- How ranges are made of the ports at which something may change.
use Rattle.std.specs.Prelude.{ℕ, ◌-◌, Bool, ◌&&◌, ◌==◌, List, [], ◌∷◌, ◌++◌, if◌then◌else◌}
use Rattle.pol_mapkey.specs.declared.Word.{Word}
use Rattle.pol_mapkey.specs.declared.Word.TheVariants.{Allowed, DeniedByRule, DeniedByDefault}
use Rattle.pol_audit.specs.declared.difference.Difference.{Difference}
use Rattle.pol_audit.specs.declared.difference.Numbers.{Numbers}
use Rattle.pol_audit.specs.declared.difference.Numbers.TheVariants.{EveryOther, One}
use Rattle.pol_audit.specs.declared.group.Group.{Group}

-- a number for each word
abbrev pub word_place : Word → ℕ
word_place Allowed = 0
word_place DeniedByRule = 1
word_place DeniedByDefault = 2

abbrev pub same_word : Word → Word → Bool
same_word a b = word_place a == word_place b

abbrev pub same_words : Word × Word → Word × Word → Bool
same_words a b = same_word a.0 b.0 && same_word a.1 b.1

-- 0 stands for every other number
abbrev pub numbers_of : ℕ → Numbers
numbers_of id = if id == 0 then EveryOther else One id

-- the range of these ports, where the words differ
abbrev pub piece : Group → ℕ → ℕ → Word × Word → List Difference
piece group first last said =
    if same_word said.0 said.1 then [] else
    (record { dir = group.dir; numbers = numbers_of group.id; proto = group.proto; first = first; last = last; left = said.0; right = said.1 } ∷ [])

-- The ranges from a port on: to the next of these ports on which other words are said, and so on.
unfoldable pub ranges_from : Group → (ℕ → Word × Word) → ℕ → List ℕ → List Difference
ranges_from group said first [] = piece group first 65535 (said first)
ranges_from group said first (port ∷ ports) =
    if same_words (said first) (said port) then ranges_from group said first ports else
    (piece group first (port - 1) (said first) ++ ranges_from group said port ports)
