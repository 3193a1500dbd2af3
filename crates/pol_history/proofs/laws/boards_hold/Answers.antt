use Rattle.pol_history.proofs.Contents.{content-commits, content-rows}
use Rattle.pol_history.proofs.laws.boards_hold.Goals as goal

pub returns : goal.returns
returns c = record { commits = content-commits; rows = λ options history name legal. content-rows options history legal name }
