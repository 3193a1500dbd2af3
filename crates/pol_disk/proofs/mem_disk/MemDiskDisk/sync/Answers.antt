use Rattle.std.proofs.Common.{◌≡◌, sym, ◌∙◌, rules}
use Rattle.pol_disk.specs.declared.call.DiskCall.TheVariants.{Sync}
use Rattle.pol_disk.specs.MemDisk.{did}
use Rattle.pol_disk.proofs.Calls.{one_moment, sync_leaves, sync_settles}
use Rattle.pol_disk.proofs.mem_disk.MemDiskDisk.sync.Goals as goal

pub returns-clause-same : goal.returns-clause-same
returns-clause-same c =
    let now : c.try_sync.new.self ≡ did Sync c.args.self.now = search rules in
    rw now ((sync_settles c.args.self.now.past).read)

pub returns-clause-durable : goal.returns-clause-durable
returns-clause-durable c =
    let now : c.try_sync.new.self ≡ did Sync c.args.self.now = search rules in
    let settled = sync_settles c.args.self.now.past in
    rw now (λ left image. settled.only left image ∙ sym settled.read)

pub returns-clause-crash : goal.returns-clause-crash
returns-clause-crash c =
    let now : c.try_sync.new.self ≡ did Sync c.args.self.now = search rules in
    rw now (sync_leaves c.args.self.now.past)

pub returns-clause-time : goal.returns-clause-time
returns-clause-time c =
    let now : c.try_sync.new.self ≡ did Sync c.args.self.now = search rules in
    rw now (one_moment c.args.self.now.past Sync)
