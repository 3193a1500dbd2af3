use Rattle.std.proofs.lemmas.Str.Pattern.{starts_text}
use Rattle.pol_sanitize.specs.Keys.{namespace_labels}
use Rattle.pol_sanitize.proofs.keys.is_namespace_label.Goals as goal

pub returns : goal.returns
returns c = starts_text c.starts_with.result namespace_labels c.args.name.now c.starts_with.ensures.cases
