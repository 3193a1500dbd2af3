use Rattle.std.proofs.Common.{List, [], ◌++◌, length, ap, sym, ◌∙◌}
use Rattle.pol_answer.specs.Text.{texts_of}
use Rattle.pol_answer.specs.declared.answer.Answer.{Answer}
use Rattle.pol_run.specs.Run.{status_of}
use Rattle.pol_serial_run.specs.Accepted.{accepted}
use Rattle.pol_serial_run.proofs.OneText.{one_serial}
use Rattle.pol_crash_drill.specs.Drill.{found, lines_played, restart_text}
use Rattle.pol_crash_drill.proofs.laws.drills_have_one_text.Goals as goal

pub returns : goal.returns
returns c options call readings text other status number one also =
    let same = one_serial options [] (lines_played options call readings) one.answers also.answers one.serial also.serial in
    let count = found call (length (accepted options [] readings)) in (
      one.text_is ∙ ap (λ (answers : List Answer). texts_of answers ++ restart_text count) same ∙ sym also.text_is,
      one.status_is ∙ ap status_of same ∙ sym also.status_is,
    )
