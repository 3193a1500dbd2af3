-- The line of a synchronisation is read as one.
use Rattle.std.proofs.Common.{◌≡◌, ◌≤◌, codes, [], ◌∷◌, Ok, refl, sym, ap, ◌∙◌, arith}
use Rattle.json.specs.Json as json
use Rattle.json.specs.Print.{escape_byte, print, print_from}
use Rattle.json.specs.Tree.{depth, json_tokens}
use Rattle.serde_json.specs.Data.{object, string, member, no_members}
use Rattle.serde_json.specs.Read.{read}
use Rattle.pol_script.specs.declared.command.Command.TheVariants as command
use Rattle.pol_script.specs.Reading.{reading_of}
use Rattle.pol_generated.proofs.Printing.{read_printed, reading_from}
use Rattle.pol_generated.proofs.LinesRead.{Reads, one}

abbrev value : json.Json
value = json.object (json.member (codes "op") (json.string (codes "sync")) json.no_members)

printed : print (json_tokens value) ≡ codes "{\"op\":\"sync\"}"
unfolding print_from escape_byte
printed = refl

line_read : reading_of (codes "{\"op\":\"sync\"}") ≡ Ok (command.Sync 1)
line_read =
    let shallow : depth value ≤ 127 = omega arith in
    reading_from (codes "{\"op\":\"sync\"}") (object (member (codes "op") (string (codes "sync")) no_members)) refl
    (ap read (sym printed) ∙ read_printed value (tt, tt) shallow) refl

pub sync_reads : Reads (codes "{\"op\":\"sync\"}\n") (command.Sync 1 ∷ [])
sync_reads = one (codes "{\"op\":\"sync\"}") (command.Sync 1) refl line_read
