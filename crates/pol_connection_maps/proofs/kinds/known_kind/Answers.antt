use Rattle.std.proofs.Common.{◌≡◌, ◌<◌, get_or, length, sym}
use Rattle.std.proofs.lemmas.Bool.{ltb-true}
use Rattle.pol_connection_maps.proofs.Lookup.{every_at, mapped_at}
use Rattle.pol_connection_maps.proofs.Peered.{every_under}
use Rattle.pol_connection_maps.proofs.kinds.known_kind.Goals as goal

pub returns-then-is_alike : goal.returns-then-is_alike
returns-then-is_alike g c = λ maps stand end.
    let firsts = c.args.firsts.now in
    let kind = c.in_ok-kind.field-0.now in
    let first = c.in_ok-first.first.now in
    let within : kind < length firsts = ltb-true kind (length firsts) (sym c.in_ok-first.ensures.lookup.0) in
    let is : first ≡ get_or firsts kind first = c.in_ok-first.ensures.lookup.1 in
    record {
      first = first.now;
      at = mapped_at (λ first. first.now) firsts kind first within is;
      alike =
          c.is_alike.ensures c.if-is_alike.true maps
          (every_at (λ first. g.E.Tells.stands maps first.now) firsts kind first (every_under (g.E.Tells.stands maps) (λ first. first.now) firsts stand) within is)
          end;
    }
