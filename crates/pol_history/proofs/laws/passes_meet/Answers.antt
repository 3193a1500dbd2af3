use Rattle.pol_history.proofs.Meetings.{are_of-every}
use Rattle.pol_history.proofs.laws.passes_meet.Goals as goal

pub returns : goal.returns
returns c = λ options passes history before after one_each ours shown. record { history = history; shown = shown; commits = are_of-every passes history ours }
