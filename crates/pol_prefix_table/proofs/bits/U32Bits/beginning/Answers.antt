use Rattle.std.proofs.Common.{◌-◌, ap, arith}
use Rattle.std.proofs.lemmas.Nat.{shl_whole}
use Rattle.pol_addr.specs.declared.address.Addr.TheVariants.{V4}
use Rattle.pol_prefix_table.proofs.bits.U32Bits.beginning.Goals as goal

pub returns : goal.returns
returns c = ap V4 (shl_whole c.args.place c.args.len (32 - c.args.len) 32 c.requires.small (omega (arith, c.requires.few)))
