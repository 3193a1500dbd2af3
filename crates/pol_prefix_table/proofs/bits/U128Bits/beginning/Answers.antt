use Rattle.std.proofs.Common.{◌-◌, ◌*◌, ◌^◌, ◌%◌, ap, ◌∙◌, arith}
use Rattle.std.proofs.lemmas.Nat.{shl_whole}
use Rattle.pol_addr.specs.declared.address.Addr.TheVariants.{V6}
use Rattle.pol_prefix_table.proofs.bits.U128Bits.beginning.Goals as goal

pub returns : goal.returns
returns c =
    let by = 128 - c.args.len in
    ap V6 (ap (λ bits. bits * 2 ^ by % 2 ^ 128) c.from.ensures ∙ shl_whole c.args.place c.args.len by 128 c.requires.small (omega (arith, c.requires.few)))
