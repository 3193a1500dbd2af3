use Rattle.std.proofs.Common.{arith}
use Rattle.std.proofs.lemmas.Str.Pattern.{strip_prefix_char}
use Rattle.pol_json.proofs.Steps.{no_dot}
use Rattle.pol_json.proofs.path.without_dot.Goals as goal

pub returns-in-None : goal.returns-in-None
returns-in-None c =
    let cases = strip_prefix_char 46 c.as_str.result.now c.strip_prefix.result c.strip_prefix.ensures.cases (omega arith) in
    let other = rw c.in-None.is at cases in
    rw (← c.as_str.ensures) (no_dot c.as_str.result.now other)
