-- One line more of a session, and where it stops: what was played, and which hints were put.
use Rattle.std.proofs.Common.{◌≡◌, ℕ, ◌+◌, List, [], ◌∷◌, ◌++◌, length, Result, Ok, Err, OnErr, refl, sym, ap, ◌∙◌, subst, append_assoc, length-append, arith}
use Rattle.std.specs.List.{zip}
use Rattle.std.proofs.lemmas.List.Elements.{filter_map-append}
use Rattle.pol_answer.specs.declared.answer.Answer.{Answer}
use Rattle.pol_model.specs.declared.options.Options.{Options}
use Rattle.pol_model.specs.declared.request.Request.{Request}
use Rattle.pol_script.specs.declared.command.Command.{Command}
use Rattle.pol_history.specs.Grows.{PassGrows, PassState}
use Rattle.pol_history.specs.Legal.{IsLegal}
use Rattle.pol_history.proofs.Meetings.{grows-same, passes-grow}
use Rattle.pol_hints.specs.Passes.{Pass as HintState}
use Rattle.pol_run_laws.specs.Placed.{Allows}
use Rattle.pol_run_laws.specs.Seats.{HasGoneOn}
use Rattle.pol_run_laws.specs.Session.{PlaysOn, request_done, requests_done}
use Rattle.pol_run_laws.proofs.PlayingOn.{plays_more}
use Rattle.pol_sessions.specs.Hinting.{HasHinted, HasHintedUntil, HaveHinted}
use Rattle.pol_sessions.specs.Sessions.{GoesOn}
use Rattle.pol_sessions.proofs.Hinted.{hinted_later, hinted_more}

pub zip-more : {A B : Type 0} (xs : List A) (ys : List B) (x : A) (y : B) → length ys ≡ length xs → zip (xs ++ x ∷ []) (ys ++ y ∷ []) ≡ zip xs ys ++ (x, y) ∷ []
zip-more [] [] x y same = refl
zip-more [] (other ∷ ys) x y same = absurd (omega (arith, same))
zip-more (other ∷ xs) [] x y same = absurd (omega (arith, same))
zip-more (one ∷ xs) (other ∷ ys) x y same = ap (λ pairs. (one, other) ∷ pairs) (zip-more xs ys x y (omega (arith, same)))

-- no call
pub pass-same : (options : Options) (pass : PassState) → IsLegal options pass.has.history → PassGrows options pass pass []
pass-same options pass legal = record { number = refl; grows = grows-same options pass.has legal }

pub gone-first : (options : Options) (pass : PassState) → IsLegal options pass.has.history → HasGoneOn options pass [] [] pass
gone-first options pass legal = record {
  number = refl;
  own = [];
  played = record { one_each = refl; plays = refl; committed = refl };
  grows = grows-same options pass.has legal;
}

pub gone-more : (options : Options) (old then new : PassState) (done : List Command) (answers : List Answer) (line : Command) (answer : Answer)
    → HasGoneOn options old done answers then → GoesOn options then line answer new → HasGoneOn options old (done ++ line ∷ []) (answers ++ answer ∷ []) new
gone-more options old then new done answers line answer gone on =
    let all = passes-grow options old then new gone.own (requests_done ((line, answer) ∷ [])) (record { number = gone.number; grows = gone.grows }) on.grows in
    let pairs = zip-more done answers line answer gone.played.one_each in record {
      number = all.number;
      own = gone.own ++ requests_done ((line, answer) ∷ []);
      played = record {
        one_each = omega (arith, gone.played.one_each, length-append answers (answer ∷ []), length-append done (line ∷ []));
        plays = subst (λ (played : List (Command × Answer)). PlaysOn options old.number old.has.history new.has.history played) (sym pairs)
            (plays_more options old.number old.has.history then.has.history new.has.history (zip done answers) line answer gone.played.plays on.grows.grows.goes_on
            (subst (λ (n : ℕ). Allows options n then.has.history new.has.history (Ok line) answer) gone.number on.allowed));
        committed = ap (λ (own : List Request). own ++ requests_done ((line, answer) ∷ [])) gone.played.committed
            ∙ sym (filter_map-append request_done (zip done answers) ((line, answer) ∷ [])) ∙ ap requests_done (sym pairs);
      };
      grows = all.grows;
    }

-- These lines were played so far, and those are left; each commit that was played has put its hints.
pub record IsHalfway (options : Options) (room : ℕ) (old : PassState) (lines left : List Command) (answers : List Answer) (then : PassState) (before now : HintState) : Type 0 where
  pub played : List Command
  pub cut : played ++ left ≡ lines
  pub gone_on : HasGoneOn options old played answers then
  pub hinted : HaveHinted options room then.has.history (zip played answers) before now

pub halfway-first : (options : Options) (room : ℕ) (pass : PassState) (lines : List Command) (hint : HintState) → IsLegal options pass.has.history
    → IsHalfway options room pass lines lines [] pass hint hint
halfway-first options room pass lines hint legal = record { played = []; cut = refl; gone_on = gone-first options pass legal; hinted = refl }

module _ (options : Options) (room : ℕ) (old then : PassState) (lines left : List Command) (answers : List Answer) (before now : HintState) (so_far : IsHalfway options room old lines left answers then before now) where
  pub halfway-more : (new : PassState) (rest : List Command) (more : List Answer) (line : Command) (answer : Answer) (after : HintState)
      → left ≡ line ∷ rest → more ≡ answers ++ answer ∷ [] → GoesOn options then line answer new → HasHinted options room new.has.history (line, answer) now after
      → IsHalfway options room old lines rest more new before after
  halfway-more new rest more line answer after is told on hints =
      let played = so_far.played in
      let history = new.has.history in
      let pairs : zip (played ++ line ∷ []) more ≡ zip played answers ++ (line, answer) ∷ [] =
      ap (zip (played ++ line ∷ [])) told ∙ zip-more played answers line answer so_far.gone_on.played.one_each
      in record {
        played = played ++ line ∷ [];
        cut = append_assoc played (line ∷ []) rest ∙ ap (λ (ls : List Command). played ++ ls) (sym is) ∙ so_far.cut;
        gone_on = subst (λ (told_so : List Answer). HasGoneOn options old (played ++ line ∷ []) told_so new) (sym told)
            (gone-more options old then new played answers line answer so_far.gone_on on);
        hinted = subst (λ (ps : List (Command × Answer)). HaveHinted options room history ps before after) (sym pairs)
            (hinted_more options room history (zip played answers) (line, answer) before now after
            (hinted_later options room then.has.history history on.grows.grows.goes_on (zip played answers) before now so_far.hinted) hints);
      }

  -- memory was wanting, and nothing was committed or put since
  pub halfway-until : (new : PassState) (after : HintState) → PassGrows options then new [] → after ≡ now → HasHintedUntil options room old lines new before after
  halfway-until new after nothing same = record {
    stopped = record {
      played = so_far.played;
      left = left;
      cut = so_far.cut;
      answers = answers;
      then = then;
      gone_on = so_far.gone_on;
      nothing = nothing;
    };
    hinted =
        (let pairs = zip so_far.played answers in
        subst (λ (hint : HintState). HaveHinted options room new.has.history pairs before hint) (sym same)
        (hinted_later options room then.has.history new.has.history nothing.grows.goes_on pairs before now so_far.hinted));
  }

pub on_err : {A E : Type 0} (P : Type 0) (r : Result A E) → P → OnErr r P
on_err P (Ok x) holds = tt
on_err P (Err e) holds = holds
