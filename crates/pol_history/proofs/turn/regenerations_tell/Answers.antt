use Rattle.pol_history.proofs.Taken.{already_full-tells, already-tells, full-tells, published-tells}
use Rattle.pol_history.proofs.turn.regenerations_tell.Goals as goal

pub returns : goal.returns
returns c = record {
  published = λ options slot synced old new revision shown. published-tells options slot synced old new shown revision;
  full = λ options slot synced old new row shown. full-tells options slot synced old new shown row;
  already = λ options slot synced old new revision legal shown longer. already-tells options slot synced old new legal shown longer revision;
  already_full = λ options slot synced old new row legal shown longer. already_full-tells options slot synced old new legal shown longer row;
}
