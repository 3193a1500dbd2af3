use Rattle.std.proofs.Common.{◌<◌, ◌^◌, arith}
use Rattle.pol_trie.proofs.KeyKinds.{empty_is, get_every}
use Rattle.pol_trie.proofs.key_set.KeySet.get.Goals as goal

pub returns-in-Every : goal.returns-in-Every
returns-in-Every c =
    let key = c.args.key.now in
    let below : key.port.bits < 2 ^ 16 = omega (arith, c.first_port.ensures, c.first_port.type_inv) in
    get_every c.args.self.now key.proto key.port c.in-Every.is (empty_is key.port (key.every_port c.in-Every.is) below)
