use Rattle.std.proofs.Common.{rules, ◌≡◌, ◌+◌, ◌++◌, ◌∷◌, [], List, length, sym, ◌∙◌, ap, subst, arith, length-append}
use Rattle.pol_history.specs.declared.event.HistoryEvent.{HistoryEvent}
use Rattle.pol_history.specs.Legal.{IsLegal}
use Rattle.pol_history.specs.MayFollow.{MayFollow}
use Rattle.pol_history.proofs.LegalEvents.{legal_more}
use Rattle.pol_history_log.proofs.Adding.{adds_moves}
use Rattle.pol_history_log.proofs.seen.Seen.add.Goals as goal

pub compare_exchange-found-requires : goal.compare_exchange-found-requires
compare_exchange-found-requires g c =
    let h = c.args.book.now.is_head in
    let offer = c.plain-offer.ensures in
    let pen = c.no_pen-pen.ensures in
    let seen = c.again-reached.ensures in
    let book = ap (λ s. s.book) seen ∙ (c.self.invariant.1 ∙ sym (ap (λ w. w.book) h)) in
    let long : length c.again-reached.result.log ≡ c.self.inside.events = ap (λ s. length s.log) seen ∙ sym c.self.invariant.0 in (
      ap (λ w. w.tracked) h,
      book,
      pen.0 ∙ book,
      offer.0,
      rw (ap (λ w. w.key) h, pen.1, offer.3 ∙ c.requires.fresh) (adds_moves c.again-reached.result.log c.plain-offer.result.ask c.self.inside.events long),
    )

pub invariant_of-result : goal.invariant_of-result
invariant_of-result g c =
    let e : HistoryEvent = g.bound-2.ask c.args.asked.now in
    let h = c.self.inside.reached.log in
    let all : c.compare_exchange-found.new.seen.log ≡ h ++ e ∷ [] = search rules in
    let may : MayFollow g.N.NodeName.options h e = rw c.self.view_is c.requires.may in
    let seen = c.again-reached.ensures in (
      (let n = ap length all in let m = length-append h (e ∷ []) in omega (arith, n, m, c.self.invariant.0)),
      c.compare_exchange-found.ensures.0 ∙ (ap (λ s. s.book) seen ∙ c.self.invariant.1),
      subst (λ (l : List HistoryEvent). IsLegal g.N.NodeName.options l) (sym all) (legal_more g.N.NodeName.options h e c.self.invariant.2 may),
    )
