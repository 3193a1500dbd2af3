use Rattle.std.proofs.Common.{subst}
use Rattle.pol_board_view.specs.declared.change.FaceChange.TheVariants as change
use Rattle.pol_history.specs.Content.{content_of}
use Rattle.pol_board_view.specs.declared.change.FaceChange.{FaceChange}
use Rattle.pol_board_view.specs.Room.{HaveRoom}
use Rattle.pol_board_view.proofs.Telling.{on_ok, taken-in-by}
use Rattle.pol_board_view.proofs.change.take_in.Goals as goal

pub returns-in-Nothing-clause-ok : goal.returns-in-Nothing-clause-ok
returns-in-Nothing-clause-ok c options history new count tells holds =
    taken-in-by options history c.args.rows.now c.args.commits count change.Nothing c.args.change.now c.in-Nothing.is new tells holds

pub returns-in-Added-clause-ok : goal.returns-in-Added-clause-ok
returns-in-Added-clause-ok c =
    on_ok c.add_row.result
    (λ told options history new count tells holds.
    taken-in-by options history c.add_row.new.rows c.args.commits count (change.Added c.in-Added.name) c.args.change.now c.in-Added.is new tells
    (told (content_of options history).live holds))
    c.add_row.ensures.ok

pub returns-in-Removed-clause-ok : goal.returns-in-Removed-clause-ok
returns-in-Removed-clause-ok c options history new count tells holds =
    taken-in-by options history c.remove_row.new.rows c.args.commits count (change.Removed c.in-Removed.name) c.args.change.now c.in-Removed.is new tells
    (c.remove_row.ensures (content_of options history).live holds)

pub returns-in-Published-clause-ok : goal.returns-in-Published-clause-ok
returns-in-Published-clause-ok c =
    on_ok c.publish.result
    (λ told options history new count tells holds.
    taken-in-by options history c.publish.new.rows c.args.commits count
    (change.Published c.in-Published.name c.in-Published.added c.in-Published.revision c.in-Published.changes c.in-Published.addresses)
    c.args.change.now c.in-Published.is new tells (λ map makes. told (content_of options history).live map holds makes))
    c.publish.ensures.ok

pub returns-in-Blocked-clause-ok : goal.returns-in-Blocked-clause-ok
returns-in-Blocked-clause-ok c options history new count tells holds =
    taken-in-by options history c.block.new.rows c.args.commits count (change.Blocked c.in-Blocked.name c.in-Blocked.added c.in-Blocked.revision)
    c.args.change.now c.in-Blocked.is new tells (c.block.ensures (content_of options history).live holds)

pub publish-requires : goal.publish-requires
publish-requires c = record { room = subst (λ (told : FaceChange). HaveRoom c.args.rows.now told) c.in-Published.is c.requires.room }
