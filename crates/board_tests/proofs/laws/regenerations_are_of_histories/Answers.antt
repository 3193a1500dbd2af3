use Rattle.std.proofs.Common.{◌≡◌, true, false, [], None, Some, refl, inl, arith}
use Rattle.pol_history.proofs.LegalEvents.{each_legal}
use Rattle.pol_model.specs.declared.row.Endpoint.{Endpoint}
use Rattle.board_tests.proofs.laws.regenerations_are_of_histories.Goals as goal

pub returns-clause-nobody : goal.returns-clause-nobody
returns-clause-nobody c = λ options. record {
  seen = [];
  legal = each_legal options [] tt;
  is = record { revision = 0; between = record { from = omega arith; upto = omega arith }; gone = inl refl };
}

none_is_some : (row : Endpoint) → None ≡ Some row → ⊥
none_is_some row is = cc

pub returns-clause-before_any_commit : goal.returns-clause-before_any_commit
returns-clause-before_any_commit c = λ options it. none_is_some it.is.taken.row it.is.taken.live

false_is_true : false ≡ true → ⊥
false_is_true is = cc

pub returns-clause-full_though_it_fits : goal.returns-clause-full_though_it_fits
returns-clause-full_though_it_fits c = λ it. false_is_true (it.legal.too_many it.is.place it.is.endpoint 1 2 it.is.there)
