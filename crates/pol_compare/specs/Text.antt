-- The line that tells what is found.
use Rattle.std.specs.Prelude.{ℕ, List, ◌++◌, codes}
use Rattle.std.specs.Fmt.{decimal}
use Rattle.pol_mapkey.specs.declared.Word.{Word}
use Rattle.pol_mapkey.specs.declared.Word.TheVariants.{Allowed, DeniedByRule, DeniedByDefault}
use Rattle.pol_mapkey.specs.KeyProto.{key_proto}
use Rattle.pol_audit.specs.declared.packet.Audit.TheVariants.{Same, Differs}
use Rattle.pol_audit.specs.declared.packet.Packet.{Packet}
use Rattle.pol_audit.specs.Text.{direction_word, proto_word, spaced}
use Rattle.pol_compare.specs.declared.finding.Finding.{Finding}
use Rattle.pol_compare.specs.declared.finding.Finding.TheVariants.{BadTable, NoDivider, Compared}

-- a verdict, as an answer tells it
abbrev pub word_text : Word → List ℕ
word_text Allowed = codes "allowed"
word_text DeniedByRule = codes "denied-by-rule"
word_text DeniedByDefault = codes "denied-by-default"

-- the packet on which two tables differ, with the word of each
abbrev pub packet_text : Packet → List ℕ
packet_text p =
    spaced (direction_word p.dir) (spaced (decimal p.id) (spaced (proto_word (key_proto p.proto))
    (spaced (decimal p.port) (spaced (word_text p.left) (word_text p.right)))))

-- what is found, in words
abbrev pub finding_words : Finding → List ℕ
finding_words (BadTable line) = codes "refused 60 bad-table " ++ decimal line
finding_words NoDivider = codes "refused 61 no-divider"
finding_words (Compared Same) = codes "same"
finding_words (Compared (Differs packet)) = codes "differs " ++ packet_text packet

-- its line, which ends with a newline byte ('profile')
abbrev pub finding_text : Finding → List ℕ
finding_text finding = finding_words finding ++ codes "\n"
