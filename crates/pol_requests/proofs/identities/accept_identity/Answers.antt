use Rattle.pol_requests.proofs.DoingNames.{name_may_stand, name_placed}
use Rattle.pol_requests.proofs.identities.accept_identity.Goals as goal

pub put_name-requires : goal.put_name-requires
put_name-requires c =
    let may = name_may_stand c.args.name c.args.number c.args.store.now c.requires.may in
    record { room = may.0; new = may.1 }

pub returns-clause-done : goal.returns-clause-done
returns-clause-done c = name_placed c.args.name c.args.number c.args.store.now c.put_name.new.self c.put_name.ensures.placed
