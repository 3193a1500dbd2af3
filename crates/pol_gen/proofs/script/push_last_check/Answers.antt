use Rattle.std.proofs.Common.{◌≡◌, ◌++◌, ◌∙◌, ℕ, List, ap, sym, subst}
use Rattle.std.specs.Prelude.{OnOk}
use Rattle.std.specs.String.{string_bytes}
use Rattle.std.proofs.Common.{append-nil}
use Rattle.pol_gen.specs.Generated.{check}
use Rattle.pol_gen.proofs.Rounds.{last_at_tenth, last_behind}
use Rattle.pol_gen.proofs.script.push_last_check.Goals as goal

pub returns-then-n-eq0 : goal.returns-then-n-eq0
returns-then-n-eq0 c = record {
  lines = sym (append-nil _) ∙ ap (λ (text : List ℕ). string_bytes c.args.out.now ++ text) (sym (last_at_tenth c.args.n c.if-n-eq0.true));
}

pub returns-else-n-eq0 : goal.returns-else-n-eq0
returns-else-n-eq0 c = record {
  lines = subst (λ (text : List ℕ). OnOk c.push_check.result (string_bytes c.push_check.new.out ≡ string_bytes c.args.out.now ++ text))
      (ap check c.requires.before ∙ sym (last_behind c.args.n c.if-n-eq0.false)) c.push_check.ensures.lines;
}
