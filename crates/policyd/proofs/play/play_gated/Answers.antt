use Rattle.std.proofs.Common.{refl, rules}
use Rattle.policyd.proofs.play.play_gated.Goals as goal

pub returns-in-Generate-clause-reads : goal.returns-in-Generate-clause-reads
returns-in-Generate-clause-reads g c = record {
  unread = λ is. refl;
  not_read = λ is. refl;
  taken = search rules;
  at_end = search rules;
}
