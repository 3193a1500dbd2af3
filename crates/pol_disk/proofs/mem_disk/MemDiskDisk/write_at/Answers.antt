use Rattle.std.proofs.Common.{◌≡◌, ap, rules}
use Rattle.pol_disk.specs.declared.call.DiskCall.TheVariants.{Write}
use Rattle.pol_disk.specs.MemDisk.{did}
use Rattle.pol_disk.specs.Record.{Held}
use Rattle.pol_disk.proofs.Calls.{write_follows, held-more, one_moment}
use Rattle.pol_disk.proofs.mem_disk.MemDiskDisk.write_at.Goals as goal

pub returns-clause-written : goal.returns-clause-written
returns-clause-written c =
    let now : c.try_write.new.self ≡ did (Write c.args.at c.args.bytes.now) c.args.self.now = search rules in
    rw now (ap (λ (h : Held). h.bytes) (held-more c.args.self.now.past (Write c.args.at c.args.bytes.now)))

pub returns-clause-crash : goal.returns-clause-crash
returns-clause-crash c =
    let now : c.try_write.new.self ≡ did (Write c.args.at c.args.bytes.now) c.args.self.now = search rules in
    rw now (write_follows c.args.self.now.past c.args.at c.args.bytes.now c.requires.place)

pub returns-clause-time : goal.returns-clause-time
returns-clause-time c =
    let now : c.try_write.new.self ≡ did (Write c.args.at c.args.bytes.now) c.args.self.now = search rules in
    rw now (one_moment c.args.self.now.past (Write c.args.at c.args.bytes.now))
