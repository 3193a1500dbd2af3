use Rattle.std.proofs.Common.{◌≡◌, ◌-◌, arith, subst, ℕ}
use Rattle.std.specs.List.{range_with_len}
use Rattle.pol_hints.specs.Queue.{PutsSome}
use Rattle.pol_hints.proofs.Below.{put_behind}
use Rattle.pol_hints.proofs.round.put_all.Goals as goal

pub returns-in-None : goal.returns-in-None
returns-in-None c =
    let same : c.args.first - 0 ≡ c.args.first = omega arith in
    let new = c.put_each-in-None.new.waiting in
    record {
      put = put_behind (range_with_len c.args.first (c.args.slots - c.args.first)) (range_with_len 0 c.args.first) c.args.waiting.now c.put_each.new.waiting new
          c.in-None.ensures.all c.in-None.ensures.room
          (subst (λ (n : ℕ). PutsSome (range_with_len 0 n) c.put_each.new.waiting new) same c.put_each-in-None.ensures.put);
    }
