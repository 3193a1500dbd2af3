use Rattle.std.proofs.Common.{◌<◌, ◌^◌, None, arith}
use Rattle.pol_trie.proofs.KeyKinds.{empty_is, has_every, has_tcp, has_udp, has_sctp, taken_as}
use Rattle.pol_trie.proofs.key_set.KeySet.clear.Goals as goal

pub returns-in-Every : goal.returns-in-Every
returns-in-Every c =
    let key = c.args.key.now in
    let below : key.port.bits < 2 ^ 16 = omega (arith, c.first_port.ensures, c.first_port.type_inv) in
    has_every c.args.self.now key.proto key.port None c.in-Every.is (empty_is key.port (key.every_port c.in-Every.is) below)

pub returns-in-Tcp : goal.returns-in-Tcp
returns-in-Tcp c =
    let key = c.args.key.now in
    has_tcp c.args.self.now c.clear.new.self key.proto key.port None c.in-Tcp.is (taken_as c.args.self.now.tcp c.clear.new.self key.port c.clear.ensures)

pub returns-in-Udp : goal.returns-in-Udp
returns-in-Udp c =
    let key = c.args.key.now in
    has_udp c.args.self.now c.clear-in-Udp.new.self key.proto key.port None c.in-Udp.is (taken_as c.args.self.now.udp c.clear-in-Udp.new.self key.port c.clear-in-Udp.ensures)

pub returns-in-Sctp : goal.returns-in-Sctp
returns-in-Sctp c =
    let key = c.args.key.now in
    has_sctp c.args.self.now c.clear-in-Sctp.new.self key.proto key.port None c.in-Sctp.is (taken_as c.args.self.now.sctp c.clear-in-Sctp.new.self key.port c.clear-in-Sctp.ensures)
