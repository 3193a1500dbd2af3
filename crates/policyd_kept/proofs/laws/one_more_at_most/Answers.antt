use Rattle.std.proofs.Common.{◌≡◌, ℕ, ◌≤◌, List, [], ◌∷◌, ◌++◌, length, refl, ap, arith, length-append}
use Rattle.pol_journal.specs.Journal.{IsJournal}
use Rattle.pol_model.specs.declared.options.Options.{Options}
use Rattle.pol_model.specs.declared.request.Request.{Request}
use Rattle.pol_play_kept.proofs.Opened.{same_requests}
use Rattle.policyd_kept.specs.Acknowledged.{KeepsAcknowledged}
use Rattle.policyd_kept.proofs.laws.one_more_at_most.Goals as goal

two_more : (options : Options) (a b : Request) (c : List ℕ) → IsJournal options (a ∷ b ∷ []) c → KeepsAcknowledged options [] [] (a ∷ b ∷ []) c → ⊥
two_more options a b c journal it =
    let many : length it.more ≡ 2 = ap length (same_requests options (a ∷ b ∷ []) it.more c journal it.journal) in
    too_many (length it.more) many it.one_at_most
  where
    too_many : (n : ℕ) → n ≡ 2 → n ≤ 1 → ⊥
    too_many n many few = omega (arith, many, few)

not_accepted : (options : Options) (a : Request) (c : List ℕ) → IsJournal options (a ∷ []) c → KeepsAcknowledged options [] [] [] c → ⊥
not_accepted options a c journal it =
    let many : length it.more ≡ 1 = ap length (same_requests options (a ∷ []) it.more c journal it.journal) in
    let none : length (it.more ++ it.begins.0) ≡ 0 = ap length it.begins.1 in
    some it.more it.begins.0 many none
  where
    some : (more rest : List Request) → length more ≡ 1 → length (more ++ rest) ≡ 0 → ⊥
    some more rest many none = omega (arith, length-append more rest, many, none)

pub returns : goal.returns
returns c = record {
  one_more = λ options a b bytes journal. record { more = a ∷ []; one_at_most = omega arith; begins = (b ∷ [], refl); journal = journal };
  two_more = two_more;
  not_accepted = not_accepted;
}
