use Rattle.std.proofs.Common.{◌≡◌, ap, rules}
use Rattle.pol_disk.specs.declared.call.DiskCall.TheVariants.{Cut}
use Rattle.pol_disk.specs.MemDisk.{did}
use Rattle.pol_disk.specs.Record.{Held}
use Rattle.pol_disk.proofs.Calls.{cut_follows, held-more, one_moment}
use Rattle.pol_disk.proofs.mem_disk.MemDiskDisk.cut.Goals as goal

pub returns-clause-cut : goal.returns-clause-cut
returns-clause-cut c =
    let now : c.try_cut.new.self ≡ did (Cut c.args.len) c.args.self.now = search rules in
    rw now (ap (λ (h : Held). h.bytes) (held-more c.args.self.now.past (Cut c.args.len)))

pub returns-clause-crash : goal.returns-clause-crash
returns-clause-crash c =
    let now : c.try_cut.new.self ≡ did (Cut c.args.len) c.args.self.now = search rules in
    rw now (cut_follows c.args.self.now.past c.args.len)

pub returns-clause-time : goal.returns-clause-time
returns-clause-time c =
    let now : c.try_cut.new.self ≡ did (Cut c.args.len) c.args.self.now = search rules in
    rw now (one_moment c.args.self.now.past (Cut c.args.len))
