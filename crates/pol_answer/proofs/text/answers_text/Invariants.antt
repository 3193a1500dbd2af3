use Rattle.std.proofs.Common.{◌≡◌, take}
use Rattle.std.specs.String.{string_bytes}
use Rattle.pol_answer.specs.Text.{texts_of}
use Rattle.pol_answer.proofs.text.answers_text.Given as goal

-- what was written so far is the lines of the answers so far
abbrev pub invariant-loop-answer : goal.invariant-loop-answer
invariant-loop-answer l = string_bytes l.out ≡ texts_of (take l.answer-index l.answers)
