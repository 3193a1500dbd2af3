use Rattle.std.proofs.Common.{◌<◌, ◌^◌, Some, arith}
use Rattle.pol_trie.proofs.KeyKinds.{empty_is, get_every, has_every, has_tcp, has_udp, has_sctp, put_as}
use Rattle.pol_trie.proofs.key_set.KeySet.set.Goals as goal

pub returns-in-Every-clause-ok : goal.returns-in-Every-clause-ok
returns-in-Every-clause-ok c =
    let key = c.args.key.now in
    let below : key.port.bits < 2 ^ 16 = omega (arith, c.first_port.ensures, c.first_port.type_inv) in
    has_every c.args.self.now key.proto key.port (Some c.args.kind) c.in-Every.is (empty_is key.port (key.every_port c.in-Every.is) below)

pub returns-in_ok-set-in-Tcp-clause-ok : goal.returns-in_ok-set-in-Tcp-clause-ok
returns-in_ok-set-in-Tcp-clause-ok c =
    let key = c.args.key.now in
    has_tcp c.args.self.now c.set.new.self key.proto key.port (Some c.args.kind) c.in-Tcp.is (put_as c.args.self.now.tcp c.set.new.self key.port c.args.kind c.in_ok-set-in-Tcp.ensures.ok)

pub returns-in_ok-set-in-Udp-clause-ok : goal.returns-in_ok-set-in-Udp-clause-ok
returns-in_ok-set-in-Udp-clause-ok c =
    let key = c.args.key.now in
    has_udp c.args.self.now c.set-in-Udp.new.self key.proto key.port (Some c.args.kind) c.in-Udp.is (put_as c.args.self.now.udp c.set-in-Udp.new.self key.port c.args.kind c.in_ok-set-in-Udp.ensures.ok)

pub returns-in_ok-set-in-Sctp-clause-ok : goal.returns-in_ok-set-in-Sctp-clause-ok
returns-in_ok-set-in-Sctp-clause-ok c =
    let key = c.args.key.now in
    has_sctp c.args.self.now c.set-in-Sctp.new.self key.proto key.port (Some c.args.kind) c.in-Sctp.is (put_as c.args.self.now.sctp c.set-in-Sctp.new.self key.port c.args.kind c.in_ok-set-in-Sctp.ensures.ok)

pub returns-in-Every-clause-had : goal.returns-in-Every-clause-had
returns-in-Every-clause-had c =
    let key = c.args.key.now in
    let below : key.port.bits < 2 ^ 16 = omega (arith, c.first_port.ensures, c.first_port.type_inv) in
    get_every c.args.self.now key.proto key.port c.in-Every.is (empty_is key.port (key.every_port c.in-Every.is) below)
