use Rattle.std.proofs.Common.{subst}
use Rattle.pol_peers.specs.Numbering.{LosesSelectors}
use Rattle.pol_store.specs.Store.{Stored}
use Rattle.pol_requests.proofs.UnderWay.{under_way}
use Rattle.pol_requests.proofs.change.accept.Goals as goal

pub accept-requires : goal.accept-requires
accept-requires c = record { fits = c.requires.ready.is_prepared.plan.fits; room = c.requires.room }

pub make_change-requires : goal.make_change-requires
make_change-requires c =
    let can = c.requires.ready in
    record {
      may = record {
        state = can.state;
        keeps = can.keeps;
        request = can.request;
        under_way = under_way can.state can.request c.args.store.now c.args.prepared c.accept.new.self can.is_prepared c.accept.ensures.begun c.accept.ensures.newest;
        asked = can.is_prepared.change;
      };
    }

pub returns-clause-done : goal.returns-clause-done
returns-clause-done c = λ s request keeps ready.
    c.make_change.ensures.done s request keeps (under_way s request c.args.store.now c.args.prepared c.accept.new.self ready c.accept.ensures.begun c.accept.ensures.newest) ready.change

pub returns-clause-selectors : goal.returns-clause-selectors
returns-clause-selectors c = subst (λ (t : Stored). LosesSelectors t.cache c.make_change.new.store.cache) c.accept.ensures.begun c.make_change.ensures.selectors
