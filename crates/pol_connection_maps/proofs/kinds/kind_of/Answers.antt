use Rattle.std.proofs.Common.{length, sym, ap, ◌∙◌}
use Rattle.pol_connection_maps.proofs.Shared.{new_kind}
use Rattle.pol_connection_maps.proofs.kinds.kind_of.Goals as goal

pub returns : goal.returns
returns g c = λ maps firsts end.
    new_kind g.E.Tells.telling (g.E.Tells.stands maps) (λ first. first.now) c.args.firsts.now.items c.push.new.self.items c.args.end c.len-kind.result c.in_ok-push.ensures.items
    (c.len-kind.ensures ∙ sym c.deref.ensures.len ∙ ap length c.deref.ensures.value) firsts end
