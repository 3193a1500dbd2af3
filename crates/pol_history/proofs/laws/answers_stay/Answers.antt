use Rattle.pol_history.proofs.Later.{absent-kept, accepted-kept, full-kept, has_publish-kept, is_gone-kept, published-kept, refused-kept, row-kept, traced-kept}
use Rattle.pol_history.proofs.laws.answers_stay.Goals as goal

pub returns : goal.returns
returns c = record {
  accepted = λ options pass shorter old new longer request done less more. accepted-kept options shorter old new longer less more pass request done;
  refused = λ options shorter old new longer request refused less more. refused-kept options shorter old new longer less more request refused;
  traced = λ options shorter old new longer query revision trace less more. traced-kept options shorter old new longer less more query revision trace;
  absent = λ options shorter old new longer query revision less more. absent-kept options shorter old new longer less more query revision;
  row = λ shorter old new longer synced row less more. row-kept shorter old new longer less more synced row;
  publish = λ shorter old new longer synced endpoint less more. has_publish-kept shorter old new longer less more synced endpoint;
  published = λ options slot shorter old new longer revision less more. published-kept options shorter old new longer less more slot revision;
  full = λ options slot shorter old new longer revision count less more. full-kept options shorter old new longer less more slot revision count;
  gone = λ options slot shorter old new longer less more. is_gone-kept options shorter old new longer less more slot;
}
