use Rattle.std.proofs.Common.{sym, ap, ◌∙◌}
use Rattle.std.specs.Option.{option_copied}
use Rattle.pol_connection_maps.specs.PeerRows.{first_row}
use Rattle.pol_connection_maps.proofs.Peered.{row_in}
use Rattle.pol_connection_maps.proofs.peer_rows.PeerRows.get.Goals as goal

pub returns-in-Some : goal.returns-in-Some
returns-in-Some c =
    ap row_in (sym (ap option_copied c.in-Some.is) ∙ c.get.ensures.value) ∙ c.self.invariant c.args.peer.now
    ∙ ap (λ rows. first_row rows c.args.peer.now) c.self.view_is

pub returns-in-None : goal.returns-in-None
returns-in-None c =
    ap row_in (sym (ap option_copied c.in-None.is) ∙ c.get.ensures.value) ∙ c.self.invariant c.args.peer.now
    ∙ ap (λ rows. first_row rows c.args.peer.now) c.self.view_is
