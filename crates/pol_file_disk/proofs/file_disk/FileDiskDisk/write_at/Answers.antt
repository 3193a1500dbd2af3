use Rattle.std.proofs.Common.{List, length, subst}
use Rattle.std.specs.Prelude.{ℕ}
use Rattle.pol_disk.specs.Images.{Torn}
use Rattle.pol_disk.specs.MemDisk.{DiskState}
use Rattle.pol_disk.specs.Record.{IsImage, held}
use Rattle.pol_file_disk.specs.FileDisk.{FileState}
use Rattle.pol_file_disk.proofs.file_disk.FileDiskDisk.write_at.Goals as goal

pub returns-in-Err-write_all_at-clause-crash : goal.returns-in-Err-write_all_at-clause-crash
returns-in-Err-write_all_at-clause-crash c image now =
    subst (λ (s : FileState). (before : List ℕ) × IsImage (held s.mirror.past) before × Torn c.args.at (length c.args.bytes.now) before image) c.self.view_is
    (c.write_at.ensures.crash image (subst (λ (m : DiskState). IsImage (held m.past) image) c.failed-in-Err-write_all_at.ensures.mirror now))

pub returns-in-Ok-write_all_at-clause-crash : goal.returns-in-Ok-write_all_at-clause-crash
returns-in-Ok-write_all_at-clause-crash c image now =
    subst (λ (s : FileState). (before : List ℕ) × IsImage (held s.mirror.past) before × Torn c.args.at (length c.args.bytes.now) before image) c.self.view_is
    (c.write_at.ensures.crash image (subst (λ (s : FileState). IsImage (held s.mirror.past) image) c.passed.ensures.new now))
