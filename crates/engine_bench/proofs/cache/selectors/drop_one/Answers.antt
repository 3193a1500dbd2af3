use Rattle.std.proofs.Common.{sym}
use Rattle.pol_selcache.proofs.Sound.{found_lives}
use Rattle.engine_bench.proofs.cache.selectors.drop_one.Goals as goal

pub drop_ref-requires : goal.drop_ref-requires
drop_ref-requires c = record { live = found_lives _ c.in-Some.selector c.args.cache.now.live (sym c.in-Some.ensures.number) }
