-- Parts of answers, for laws that write answers out (`answers`).
use Rattle.std.specs.Prelude.{ℕ, true, false, List, codes}
use Rattle.pol_mapkey.specs.declared.Word.{Word}
use Rattle.pol_model.specs.declared.answer.Fault.{Fault}
use Rattle.pol_model.specs.declared.answer.FullSlot.{FullSlot}
use Rattle.pol_rule.specs.declared.policy.Place.{Place}
use Rattle.pol_rule.specs.declared.policy.PolicyKey.{PolicyKey}
use Rattle.pol_rule.specs.declared.policy.Section.{Section}
use Rattle.pol_answer.specs.declared.answer.Answer.{Answer}
use Rattle.pol_answer.specs.declared.answer.Answer.TheVariants as answer

-- a policy of the namespace `default`, and a cluster-wide one
abbrev pub own : List ℕ → PolicyKey
own name = record { cluster_wide = false; namespace = codes "default"; name = name }

abbrev pub wide : List ℕ → PolicyKey
wide name = record { cluster_wide = true; namespace = codes ""; name = name }

abbrev pub place : PolicyKey → ℕ → Section → ℕ → Place
place key rule section entry = record { key = key; rule = rule; section = section; entry = entry }

abbrev pub traced : Word → List Place → List Place → Answer
traced word denies allows = answer.Traced 4 (record { word = word; remote = 257; denies = denies; allows = allows })

-- a map that is too large
abbrev pub full : List ℕ → ℕ → ℕ → FullSlot
full name revision count = record { name = name; revision = revision; count = count }

abbrev pub refused : Fault → Answer
refused fault = answer.Refused (record { revision = 7; fault = fault })
