use Rattle.pol_selcache.proofs.Filed.{filed_too}
use Rattle.pol_selcache.proofs.by_heading.file_number.Goals as goal

pub returns : goal.returns
returns c =
    record { filed = filed_too c.args.identities.now c.args.number _ _ _ c.in_ok-add_number.ensures.all (rw c.as_slice.ensures at c.in_ok-file_under.ensures.filed) c.file_under.ensures.small }
