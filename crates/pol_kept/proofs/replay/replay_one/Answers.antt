use Rattle.std.proofs.Common.{◌≡◌, ℕ, Bool, true, List, Some, None, Err, ap, ◌∙◌, subst}
use Rattle.pol_journal.specs.Records.{asked_behind}
use Rattle.pol_journal.specs.declared.record.RecordError.{RecordError}
use Rattle.pol_kept.specs.Keeps.{CommitsAgain}
use Rattle.pol_kept.proofs.Records.{fault_asked, nothing_asked, replayed}
use Rattle.pol_machine.specs.Stands.{options_in}
use Rattle.pol_record_log.specs.Records.{is_whole, next_in}
use Rattle.pol_kept.proofs.replay.replay_one.Goals as goal

pub returns-in-Ok-true-clause-ok : goal.returns-in-Ok-true-clause-ok
returns-in-Ok-true-clause-ok g c =
    let old = c.args.machine.now in
    let options = options_in old in
    let behind = c.behind_gate.ensures in
    (replayed options c.args.bytes.now c.args.at old c.requires.so_far c.in-Ok.request c.commit_again.new.machine c.in-Ok.next.now c.requires.is_open
    (subst (λ (b : List ℕ). is_whole b ≡ true) behind c.in-Ok.ensures.whole)
    (subst (λ (b : List ℕ). asked_behind b ≡ Some c.in-Ok.request) behind c.in-Ok.ensures.request)
    (c.in-Ok.ensures.next ∙ ap next_in behind)
    (subst (λ (b : Bool). CommitsAgain options c.in-Ok.request old c.commit_again.new.machine b) c.in-Ok-true.field-0-test c.in-Ok-true.ensures.done)).0

pub returns-in-Ok-true-clause-further : goal.returns-in-Ok-true-clause-further
returns-in-Ok-true-clause-further g c =
    let old = c.args.machine.now in
    let options = options_in old in
    let behind = c.behind_gate.ensures in
    (replayed options c.args.bytes.now c.args.at old c.requires.so_far c.in-Ok.request c.commit_again.new.machine c.in-Ok.next.now c.requires.is_open
    (subst (λ (b : List ℕ). is_whole b ≡ true) behind c.in-Ok.ensures.whole)
    (subst (λ (b : List ℕ). asked_behind b ≡ Some c.in-Ok.request) behind c.in-Ok.ensures.request)
    (c.in-Ok.ensures.next ∙ ap next_in behind)
    (subst (λ (b : Bool). CommitsAgain options c.in-Ok.request old c.commit_again.new.machine b) c.in-Ok-true.field-0-test c.in-Ok-true.ensures.done)).1

pub returns-in-Ok-false-clause-damaged : goal.returns-in-Ok-false-clause-damaged
returns-in-Ok-false-clause-damaged g c =
    let old = c.args.machine.now in
    let options = options_in old in
    let behind = c.behind_gate.ensures in
    fault_asked options c.args.bytes.now c.args.at old c.requires.so_far c.in-Ok.request c.requires.is_open
    (subst (λ (b : List ℕ). is_whole b ≡ true) behind c.in-Ok.ensures.whole)
    (subst (λ (b : List ℕ). asked_behind b ≡ Some c.in-Ok.request) behind c.in-Ok.ensures.request)
    (subst (λ (b : Bool). CommitsAgain options c.in-Ok.request old c.commit_again.new.machine b) c.in-Ok-false.field-0-test c.in-Ok-false.ensures.done)

pub returns-in-Err-Damaged-clause-damaged : goal.returns-in-Err-Damaged-clause-damaged
returns-in-Err-Damaged-clause-damaged g c =
    nothing_asked (options_in c.args.machine.now) c.args.bytes.now c.args.at c.args.machine.now c.requires.so_far c.requires.is_open
    (subst (λ (b : List ℕ). asked_behind b ≡ None) c.behind_gate.ensures (c.in-Err-Damaged.ensures.damaged (ap (λ (e : RecordError). Err e) c.in-Err-Damaged.field-0-is)))
