-- Each line is read as the JSON value that it is written for.
use Rattle.std.proofs.Common.{◌≡◌, ℕ, ◌^◌, ◌<◌, ◌≤◌, Bool, true, false, Option, None, Some, codes, refl, arith}
use Rattle.std.specs.Prelude.{if◌then◌else◌}
use Rattle.json.specs.Json.{document, string, object}
use Rattle.json.specs.Print.{print}
use Rattle.json.specs.Tree.{HasNumbers, MembersHaveNumbers, depth, json_tokens, members_depth}
use Rattle.json.proofs.Printed.Decimals.{IsNumber-decimal}
use Rattle.json.proofs.Printed.Trees.{document-print}
use Rattle.pol_answer.specs.declared.answer.Answer.{Answer}
use Rattle.pol_port_ranges.specs.declared.said.Halves.{Halves}
use Rattle.pol_port_ranges.specs.Said.{is_open}
use Rattle.pol_connections.specs.declared.end.Connection.{Connection}
use Rattle.pol_connections.specs.declared.end.EndName.{EndName}
use Rattle.pol_connections.specs.declared.end.EndName.TheVariants as name
use Rattle.pol_connection_text.specs.declared.side.ChangeSide.{ChangeSide}
use Rattle.pol_connection_text.specs.Ends.{end_json}
use Rattle.pol_connection_text.specs.Lines.{both_members, connection_json, name_json, refusal_json, said_members}

-- ---- numbers and depths of the parts
end_numbers : (e : EndName) → HasNumbers (end_json e)
end_numbers (name.Endpoint text) = (tt, tt)
end_numbers (name.Identity text) = (tt, tt)
end_numbers (name.Reserved number) = (tt, tt)
end_numbers (name.Region prefix) = (tt, tt)

end_depth : (e : EndName) → depth (end_json e) ≡ 1
end_depth (name.Endpoint text) = refl
end_depth (name.Identity text) = refl
end_depth (name.Reserved number) = refl
end_depth (name.Region prefix) = refl

either_numbers : (b : Bool) (h : Halves) → HasNumbers (if b then string (codes "allowed") else object (both_members h))
either_numbers true h = tt
either_numbers false h = (tt, (tt, tt))

either_depth : (b : Bool) (h : Halves) → depth (if b then string (codes "allowed") else object (both_members h)) ≤ 1
either_depth true h = omega arith
either_depth false h = omega arith

said_numbers : (before : Option Halves) (after : Halves) → MembersHaveNumbers (said_members before after)
said_numbers None after = (either_numbers (is_open after) after, tt)
said_numbers (Some before) after = (either_numbers (is_open before) before, (either_numbers (is_open after) after, tt))

said_depth : (before : Option Halves) (after : Halves) → members_depth (said_members before after) ≤ 1
said_depth None after = omega (arith, either_depth (is_open after) after)
said_depth (Some before) after = omega (arith, either_depth (is_open before) before, either_depth (is_open after) after)

-- ---- lines
pub connection_read : (c : Connection) → c.range.first < 2 ^ 16 → c.range.last < 2 ^ 16
    → document (print (json_tokens (connection_json c))) ≡ Some (connection_json c)
connection_read c first last =
    let said = c.range.said in
    let numbers : HasNumbers (connection_json c) = (
      end_numbers c.from,
      (
        end_numbers c.to,
        (tt, ((IsNumber-decimal c.range.first (omega arith), (IsNumber-decimal c.range.last (omega arith), tt)), said_numbers said.before said.after)),
      ),
    ) in
    let shallow : depth (connection_json c) ≤ 128 = omega (arith, end_depth c.from, end_depth c.to, said_depth said.before said.after) in
    document-print (connection_json c) numbers shallow

pub name_read : (side : ChangeSide) (name : EndName) → document (print (json_tokens (name_json side name))) ≡ Some (name_json side name)
name_read side name =
    let numbers : HasNumbers (name_json side name) = (tt, (end_numbers name, tt)) in
    let shallow : depth (name_json side name) ≤ 128 = omega (arith, end_depth name) in
    document-print (name_json side name) numbers shallow

pub refusal_read : (side : Option ChangeSide) (line : ℕ) (answer : Answer) → line < 2 ^ 64
    → document (print (json_tokens (refusal_json side line answer))) ≡ Some (refusal_json side line answer)
refusal_read None line answer small =
    let numbers : HasNumbers (refusal_json None line answer) = (IsNumber-decimal line small, (tt, tt)) in
    let shallow : depth (refusal_json None line answer) ≤ 128 = omega arith in
    document-print (refusal_json None line answer) numbers shallow
refusal_read (Some side) line answer small =
    let numbers : HasNumbers (refusal_json (Some side) line answer) = (tt, (IsNumber-decimal line small, (tt, tt))) in
    let shallow : depth (refusal_json (Some side) line answer) ≤ 128 = omega arith in
    document-print (refusal_json (Some side) line answer) numbers shallow
