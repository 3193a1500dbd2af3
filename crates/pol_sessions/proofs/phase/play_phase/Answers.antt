use Rattle.std.proofs.Common.{◌≡◌, ℕ, List, length, map, sym, ap, subst, ◌∙◌}
use Rattle.std.proofs.lemmas.List.{length-map}
use Rattle.pol_history.specs.Grows.{PassState}
use Rattle.pol_history.specs.Meet.{HaveMet, meetings_of}
use Rattle.pol_run_laws.proofs.OneMore.{phase_of}
use Rattle.pol_sessions.proofs.Seats.{written-whole}
use Rattle.pol_sessions.proofs.phase.play_phase.Goals as goal

pub returns : goal.returns
returns g c =
    let options = g.N.NodeName.options in let handed_out = g.N.NodeName.passes in
    let done = c.in_ok-played.played in let news = c.meet.new.passes in
    let number = λ (pass : PassState). pass.number in
    let numbers = subst (λ (thens : List PassState). map number news ≡ map number thens) c.deref_mut.ensures.value c.meet.ensures.numbers in
    let met = subst (λ (thens : List PassState). HaveMet options handed_out (meetings_of thens news)) c.deref_mut.ensures.value c.meet.ensures.met in
    let same = sym (length-map news number) ∙ ap (λ (ns : List ℕ). length ns) numbers ∙ length-map done.passes.items number in
    rw (written-whole news done.passes.items done.passes.len same done.passes.ok.0)
    (phase_of options handed_out c.args.passes.items c.args.lines.items done.told.items done.passes.items news c.in_ok-played.ensures numbers met)
