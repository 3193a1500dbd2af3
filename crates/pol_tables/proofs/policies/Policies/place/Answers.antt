use Rattle.std.proofs.Common.{ℕ, Some, count_by, nat_lt, option_map, ap, ◌∙◌}
use Rattle.pol_model.specs.Policies.{is_of_key}
use Rattle.pol_tables.specs.Numbered.{place_of}
use Rattle.pol_tables.specs.Tables.{PolicyTable}
use Rattle.pol_tables.proofs.Places.{place_by_number}
use Rattle.pol_tables.proofs.policies.Policies.place.Goals as goal

pub returns-in-Some : goal.returns-in-Some
returns-in-Some c =
    let old = c.self.inside in
    record {
      place = ap Some (c.count_less.ensures ∙ (λ i. count_by (λ n. nat_lt n c.in-Some.number.now) (c.as_slice.ensures.list i)))
          ∙ ap (option_map (λ (number : ℕ). count_by (λ n. nat_lt n number) old.arrivals.list)) (c.in-Some.ensures.value ∙ c.self.invariant.found c.args.key.now)
          ∙ place_by_number (is_of_key c.args.key.now) old.rows.list old.arrivals.list c.self.invariant.long c.self.invariant.ascend
          ∙ ap (λ (t : PolicyTable). place_of (is_of_key c.args.key.now) t.list) c.self.view_is;
    }

pub returns-in-None : goal.returns-in-None
returns-in-None c =
    let old = c.self.inside in
    record {
      place = ap (option_map (λ (number : ℕ). count_by (λ n. nat_lt n number) old.arrivals.list)) (c.in-None.ensures.value ∙ c.self.invariant.found c.args.key.now)
          ∙ place_by_number (is_of_key c.args.key.now) old.rows.list old.arrivals.list c.self.invariant.long c.self.invariant.ascend
          ∙ ap (λ (t : PolicyTable). place_of (is_of_key c.args.key.now) t.list) c.self.view_is;
    }
