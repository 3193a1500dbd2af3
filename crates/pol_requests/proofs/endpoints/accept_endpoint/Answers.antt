use Rattle.pol_requests.proofs.Doing.{endpoint_may_stand, endpoint_placed}
use Rattle.pol_requests.proofs.endpoints.accept_endpoint.Goals as goal

pub put_endpoint-requires : goal.put_endpoint-requires
put_endpoint-requires c =
    let may = endpoint_may_stand c.args.endpoint c.args.name c.args.store.now c.requires.may in
    record {
      room = may.room;
      name = may.name_is;
      new_name = may.new_name;
      new_address = may.new_address;
      slot = may.slot;
      within = may.within;
    }

pub returns-clause-done : goal.returns-clause-done
returns-clause-done c = endpoint_placed c.args.endpoint c.args.name c.args.store.now c.put_endpoint.new.self c.put_endpoint.ensures.placed
