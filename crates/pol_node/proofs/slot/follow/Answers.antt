-- What was taken may be applied where its endpoint is followed, and is followed afterwards.
use Rattle.std.proofs.Common.{Option, None, Some, IfSome, subst}
use Rattle.pol_node.specs.declared.kept.KeptEndpoint.{KeptEndpoint}
use Rattle.pol_node.specs.Kept.{IsKeptWith, Keeps, since_of}
use Rattle.pol_node.specs.Slot.{TellsMovesFrom}
use Rattle.pol_node.proofs.Following.{applies, went_on}
use Rattle.pol_node.proofs.Keeping.{keeps_start, keeps_went, with_went}
use Rattle.pol_node.proofs.slot.follow.Goals as goal

pub go_on-requires : goal.go_on-requires
go_on-requires g c =
    let options = g.N.NodeName.options in
    let history = c.args.pass.now.has.history in
    let taken = c.args.taken in
    let keeps : Keeps options history c.in-Some.known = subst (λ (o : Option KeptEndpoint). IfSome o (Keeps options history)) c.in-Some.is c.requires.keeps in
    let told : TellsMovesFrom options history (since_of (Some c.in-Some.known)) taken =
    subst (λ (o : Option KeptEndpoint). TellsMovesFrom options history (since_of o) taken) c.in-Some.is c.requires.moves in
    record { may = applies options history taken.endpoint.slot taken c.requires.taken c.in-Some.known.followed keeps.is.follows told }

pub returns-in-Some-clause-keeps : goal.returns-in-Some-clause-keeps
returns-in-Some-clause-keeps g c =
    let options = g.N.NodeName.options in
    let history = c.args.pass.now.has.history in
    let taken = c.args.taken in
    let known = c.in-Some.known in
    let keeps : Keeps options history known = subst (λ (o : Option KeptEndpoint). IfSome o (Keeps options history)) c.in-Some.is c.requires.keeps in
    let id : IsKeptWith history taken.endpoint (Some known) = subst (λ (o : Option KeptEndpoint). IsKeptWith history taken.endpoint o) c.in-Some.is c.requires.known in
    let follows = went_on options history taken.endpoint.slot taken c.requires.taken known.followed keeps.is.follows c.go_on.new.self id c.go_on.ensures.leads in
    keeps_went options history taken known c.go_on.new.self c.go_on.ensures.leads follows keeps

pub returns-in-Some-clause-known : goal.returns-in-Some-clause-known
returns-in-Some-clause-known g c =
    let known = c.in-Some.known in
    let id : IsKeptWith c.args.pass.now.has.history c.args.taken.endpoint (Some known) =
    subst (λ (o : Option KeptEndpoint). IsKeptWith c.args.pass.now.has.history c.args.taken.endpoint o) c.in-Some.is c.requires.known in
    with_went c.args.taken known.followed c.go_on.new.self c.go_on.ensures.leads id

pub returns-clause-keeps : goal.returns-clause-keeps
returns-clause-keeps g c =
    let history = c.args.pass.now.has.history in
    let taken = c.args.taken in
    let none : IsKeptWith history taken.endpoint None = subst (λ (o : Option KeptEndpoint). IsKeptWith history taken.endpoint o) c.in-None.is c.requires.known in
    keeps_start g.N.NodeName.options history taken.endpoint.slot taken c.requires.taken c.in_ok-start.field-0 c.in_ok-start.ensures.started none

pub returns-clause-known : goal.returns-clause-known
returns-clause-known g c =
    let started = c.in_ok-start.ensures.started in
    λ i. record { name = started.name i; added = started.added i }
