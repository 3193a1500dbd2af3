use Rattle.std.proofs.Common.{◌≡◌, ℕ, ◌^◌, max, true, false, not, Option, Some, None, is_some, refl, sym, ap, subst, ◌∙◌, arith}
use Rattle.std.specs.FinMap as map
use Rattle.pol_arena.specs.Pool.{Pool}
use Rattle.pol_mapkey.specs.declared.Kind.{Kind}
use Rattle.pol_trie.specs.declared.node.PortNode.{PortNode}
use Rattle.pol_trie.specs.Standing.{IsTrie, ports_of}
use Rattle.pol_trie.proofs.Prefixes.{takes_all}
use Rattle.pol_trie.proofs.Listing.{few_nodes, get-ports_of, IsTrie-room, ports_of-room, HasRoom-from}
use Rattle.pol_trie.proofs.ports.make_room.Goals as goal

none_of : (o : Option Kind) → is_some o ≡ false → o ≡ None
none_of None e = refl
none_of (Some k) e = absurd (cc)

some_of : (o : Option Kind) → is_some o ≡ true → o ≡ None → ⊥
some_of None e none = absurd (cc)
some_of (Some k) e none = absurd (cc)

pub reserve-requires : goal.reserve-requires
reserve-requires c = record { fits = omega (arith, few_nodes c.args.nodes.now c.args.root c.requires) }

pub returns-in-Ok-clause-trie : goal.returns-in-Ok-clause-trie
returns-in-Ok-clause-trie c = IsTrie-room c.args.nodes.now c.reserve.new.self c.args.root _ c.in-Ok.ensures.ok c.requires

pub returns-in-Ok-clause-takes : goal.returns-in-Ok-clause-takes
returns-in-Ok-clause-takes c = takes_all c.args.port.now (omega (arith, c.first_port.ensures, c.first_port.type_inv))

pub returns-in-Ok-clause-same : goal.returns-in-Ok-clause-same
returns-in-Ok-clause-same c = ports_of-room c.args.nodes.now c.reserve.new.self c.args.root _ c.in-Ok.ensures.ok

pub returns-in-Ok-clause-ok : goal.returns-in-Ok-clause-ok
returns-in-Ok-clause-ok c =
    let w = IsTrie-room c.args.nodes.now c.reserve.new.self c.args.root _ c.in-Ok.ensures.ok c.requires in
    let spare : c.reserve.new.self.spare ≡ max c.args.nodes.now.spare 2 = ap (λ (p : Pool PortNode). p.spare) c.in-Ok.ensures.ok in
    HasRoom-from c.reserve.new.self c.args.root w c.args.port.now (omega (arith, c.first_port.ensures, c.first_port.type_inv)) (λ none. omega (arith, spare))

same_trie : (old new : Pool PortNode) (root : Option ℕ) → new ≡ old → IsTrie old root → IsTrie new root
same_trie old new root same w = (let P : Pool PortNode → Type 0 = λ x. IsTrie x root in subst P (sym same) w)

pub kind_at-requires : goal.kind_at-requires
kind_at-requires c = (let w = same_trie c.args.nodes.now c.reserve.new.self c.args.root c.in-Err.ensures.err c.requires in record { tree = w.tree; lo = 0; hi = 2 ^ 16; len = 0; holds = w.holds })

pub returns-then-is_none-clause-trie : goal.returns-then-is_none-clause-trie
returns-then-is_none-clause-trie c = same_trie c.args.nodes.now c.reserve.new.self c.args.root c.in-Err.ensures.err c.requires

pub returns-then-is_none-clause-takes : goal.returns-then-is_none-clause-takes
returns-then-is_none-clause-takes c = takes_all c.args.port.now (omega (arith, c.first_port.ensures, c.first_port.type_inv))

pub returns-then-is_none-clause-same : goal.returns-then-is_none-clause-same
returns-then-is_none-clause-same c = ap (λ x. ports_of x c.args.root) c.in-Err.ensures.err

pub returns-then-is_none-clause-err : goal.returns-then-is_none-clause-err
returns-then-is_none-clause-err c =
    let w = same_trie c.args.nodes.now c.reserve.new.self c.args.root c.in-Err.ensures.err c.requires in
    ap (λ x. map.get (ports_of x c.args.root) c.args.port.now) (sym c.in-Err.ensures.err)
    ∙ get-ports_of c.reserve.new.self c.args.root w c.args.port.now
    ∙ sym (c.kind_at.ensures w.tree 0 (2 ^ 16) 0 w.holds)
    ∙ none_of c.kind_at.result (c.is_none.ensures ∙ ap not c.if-is_none.true)

pub returns-else-is_none-clause-trie : goal.returns-else-is_none-clause-trie
returns-else-is_none-clause-trie c = same_trie c.args.nodes.now c.reserve.new.self c.args.root c.in-Err.ensures.err c.requires

pub returns-else-is_none-clause-takes : goal.returns-else-is_none-clause-takes
returns-else-is_none-clause-takes c = takes_all c.args.port.now (omega (arith, c.first_port.ensures, c.first_port.type_inv))

pub returns-else-is_none-clause-same : goal.returns-else-is_none-clause-same
returns-else-is_none-clause-same c = ap (λ x. ports_of x c.args.root) c.in-Err.ensures.err

pub returns-else-is_none-clause-ok : goal.returns-else-is_none-clause-ok
returns-else-is_none-clause-ok c =
    let w = same_trie c.args.nodes.now c.reserve.new.self c.args.root c.in-Err.ensures.err c.requires in
    HasRoom-from c.reserve.new.self c.args.root w c.args.port.now (omega (arith, c.first_port.ensures, c.first_port.type_inv))
    (λ none. absurd (some_of c.kind_at.result (c.is_none.ensures ∙ ap not c.if-is_none.false) (c.kind_at.ensures w.tree 0 (2 ^ 16) 0 w.holds ∙ none)))
