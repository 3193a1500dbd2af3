use Rattle.std.proofs.Common.{◌++◌, ◌∙◌, ℕ, List, Vec, Global, ap}
use Rattle.std.specs.List.{flat_map, range_with_len}
use Rattle.pol_gen.specs.Generated.{endpoints, last_check, round_lines}
use Rattle.pol_gen.proofs.script.generated.Goals as goal

pub returns : goal.returns
returns c =
    let begun = c.in_ok-push_endpoints.ensures.lines
    ∙ ap (λ (text : List ℕ). text ++ endpoints c.from.result) c.new-out.ensures.bytes ∙ ap endpoints c.from.ensures in
    let played = c.in_ok-push_rounds.ensures.lines
    ∙ ap (λ (text : List ℕ). text ++ flat_map (round_lines c.args.n) (range_with_len 0 c.args.n)) begun in
    let whole = c.in_ok-push_last_check.ensures.lines ∙ ap (λ (text : List ℕ). text ++ last_check c.args.n) played in
    ap (λ (bytes : Vec ℕ Global). bytes.items) c.into_bytes.ensures.value ∙ whole
