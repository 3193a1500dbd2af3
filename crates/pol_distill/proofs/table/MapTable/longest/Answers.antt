use Rattle.std.proofs.Common.{◌≡◌, ◌+◌, ◌-◌, option_map, sym, ◌∙◌, ap, subst, inl, inr, arith}
use Rattle.std.proofs.lemmas.Bool.{cases_lt}
use Rattle.std.specs.List.{Contains}
use Rattle.pol_mapkey.specs.Entries.{Entry}
use Rattle.pol_mapkey.specs.MapKey.{port_key}
use Rattle.pol_mapkey.specs.declared.MapKey.{MapKey}
use Rattle.pol_distill.specs.Sorted.{IsKindOf}
use Rattle.pol_distill.proofs.Lookups.{found_at, key_at, last_found}
use Rattle.pol_distill.proofs.table.MapTable.longest.Goals as goal

-- the key that is looked for
pub returns-in-Some : goal.returns-in-Some
returns-in-Some c =
    let n = 16 - c.loop-shorter.shorter in
    let key : c.port_key-key.result ≡ key_at c.args.dir c.args.id c.args.proto c.args.port n =
    c.port_key-key.ensures ∙ ap (port_key c.args.dir c.args.id c.args.proto) c.prefix_at.ensures in
    let has = subst (λ k. Contains c.args.self.now (k, c.in-Some.kind)) key c.in-Some.ensures.kind in
    ap (option_map (λ (e : Entry). e.1)) (sym (found_at c.args.dir c.args.id c.args.proto c.args.port (omega arith) c.args.self.now c.in-Some.ensures.table n c.in-Some.kind (omega arith)
    (λ m kind most longer there. c.loop-shorter.invariant m kind most (omega (arith, longer)) there) has))

pub loop-shorter-preserved : goal.loop-shorter-preserved
loop-shorter-preserved c = λ m kind most far has.
    elim (cases_lt 16 (m + c.loop-shorter.shorter)) [
      | inl more ↦ c.loop-shorter.invariant m kind most more has
      | inr same ↦
          (let n = 16 - c.loop-shorter.shorter in
          let len : m ≡ n = omega (arith, far, same) in
          let key : c.port_key-key.result ≡ key_at c.args.dir c.args.id c.args.proto c.args.port n =
          c.port_key-key.ensures ∙ ap (port_key c.args.dir c.args.id c.args.proto) c.prefix_at.ensures in
          c.in-None.ensures.kind kind
          (subst (λ k. Contains c.args.self.now (k, kind)) (ap (key_at c.args.dir c.args.id c.args.proto c.args.port) len ∙ sym key) has))
    ]

pub returns : goal.returns
returns c =
    let found = subst (λ (k : MapKey). IsKindOf c.args.self.now k c.find-2.result) c.every_key.ensures c.find-2.ensures.kind in
    last_found c.args.dir c.args.id c.args.proto c.args.port (omega arith) c.args.self.now c.find-2.ensures.table c.find-2.result found
    (λ m kind most has. c.loop-shorter.invariant m kind most (omega arith) has)
