-- Selectors that live on keep their numbers.
use Rattle.std.proofs.Common.{◌≡◌, ℕ, ◌==◌, ◌<◌, Bool, true, false, cond, nat_lt, List, [], ◌∷◌, ◌++◌, map, filter, find, Option, Some, None, option_map, refl, sym, ap, ◌∙◌, subst, arith}
use Rattle.std.specs.List.{IsDistinct}
use Rattle.std.specs.Option.{option_or}
use Rattle.std.proofs.lemmas.Bool.{cond-false, cond-true}
use Rattle.std.proofs.lemmas.List.Folds.{find-append}
use Rattle.pol_data.proofs.Members.{every-in}
use Rattle.pol_model_laws.proofs.Membership.{find-In}
use Rattle.pol_rule.specs.contracts.policy.PeerPartialEq.TheImpl as peers
use Rattle.pol_rule.specs.declared.policy.Peer.{Peer}
use Rattle.pol_model.specs.declared.row.IdentityRow.{IdentityRow}
use Rattle.pol_model.specs.Selects.{set_at}
use Rattle.pol_selcache.specs.Cache.{Cache, added, added_by}
use Rattle.pol_selcache.specs.Live.{Live, AreLive, number_of, one_less, one_more, where_number, without_reference}
use Rattle.pol_peers.specs.References.{IsMoreBy, KeepsNumbers, references_of}
use Rattle.pol_peers.proofs.Found.{found_changed, found_of, is_of, peers_kept, refs, unlike_none}

pub kept_itself : (live : List Live) → KeepsNumbers live live
kept_itself live p number is = is

pub kept_further : (one two three : List Live) → KeepsNumbers one two → KeepsNumbers two three → KeepsNumbers one three
kept_further one two three first second p number is = second p number (first p number is)

-- ---- a change of one selector that leaves its peer and its number
module _ (number : ℕ) (change : Live → Live) (keeps_peer : (s : Live) → (change s).peer ≡ s.peer) (keeps_number : (s : Live) → (change s).number ≡ s.number) where
  number_kept : (o : Option Live) → option_map (λ s. s.number) (option_map (where_number number change) o) ≡ option_map (λ s. s.number) o
  number_kept None = refl
  number_kept (Some s) = ap Some (by (s.number == number))
    where
      by : (b : Bool) → (cond b (change s) s).number ≡ s.number
      by true = keeps_number s
      by false = refl

  pub numbers_changed : (q : Peer) (live : List Live) → number_of q (map (where_number number change) live) ≡ number_of q live
  numbers_changed q live = ap (option_map (λ s. s.number)) (found_changed number change keeps_peer q live) ∙ number_kept (find (is_of q) live)

-- ---- those that are left
found_left : (left : Live → Bool) (q : Peer) (live : List Live) (s : Live) → IsDistinct peers.ghosts.eq (map (λ s. s.peer) live) → find (is_of q) (filter left live) ≡ Some s → find (is_of q) live ≡ Some s
unfolding IsDistinct
found_left left q [] s apart is = is
found_left left q (t ∷ live) s apart is = by (found_left left q live s apart.1) (left t) (is_of q t) refl is
  where
    none_is_some : find (is_of q) live ≡ None → find (is_of q) live ≡ Some s → ⊥
    none_is_some none some = (let wrong : None ≡ Some s = sym none ∙ some in cc)

    by : (find (is_of q) (filter left live) ≡ Some s → find (is_of q) live ≡ Some s) → (b c : Bool) → is_of q t ≡ c → find (is_of q) (cond b (t ∷ filter left live) (filter left live)) ≡ Some s → cond c (Some t) (find (is_of q) live) ≡ Some s
    by rest true true same is = sym (cond-true (is_of q t) (Some t) (find (is_of q) (filter left live)) same) ∙ is
    by rest true false other is = rest (sym (cond-false (is_of q t) (Some t) (find (is_of q) (filter left live)) other) ∙ is)
    by rest false true same is = absurd (none_is_some (unlike_none q t live same apart.0) (rest is))
    by rest false false other is = rest is

numbers_left : (left : Live → Bool) (live : List Live) → IsDistinct peers.ghosts.eq (map (λ s. s.peer) live) → KeepsNumbers (filter left live) live
numbers_left left live apart q number is =
    let one = found_of q (filter left live) number is in
    ap (option_map (λ s. s.number)) (found_left left q live one.0 apart one.1) ∙ ap Some one.2

-- ---- one reference more or less
pub kept_less : (number : ℕ) (live : List Live) → AreLive live → KeepsNumbers (without_reference number live) live
kept_less number live are q own is =
    sym (numbers_changed number one_less (λ s. refl) (λ s. refl) q live)
    ∙ numbers_left (λ s. nat_lt 0 s.references) (map (where_number number one_less) live) (subst (IsDistinct peers.ghosts.eq) (sym (peers_kept number one_less (λ s. refl) live)) are.apart) q own is

kept_new : (live : List Live) (new : Live) → KeepsNumbers live (live ++ new ∷ [])
kept_new live new q number is =
    let one = found_of q live number is in
    ap (option_map (λ s. s.number)) (find-append (is_of q) live (new ∷ []) ∙ ap (λ o. option_or o (find (is_of q) (new ∷ []))) one.1) ∙ ap Some one.2

pub kept_added : (p : Peer) (rows : List IdentityRow) (cache : Cache) → KeepsNumbers cache.live (added p rows cache).live
kept_added p rows cache = by (number_of p cache.live)
  where
    by : (o : Option ℕ) → KeepsNumbers cache.live (added_by o p rows cache).live
    by (Some number) q own is = numbers_changed number one_more (λ s. refl) (λ s. refl) q cache.live ∙ is
    by None q own is = kept_new cache.live (record { number = cache.next; peer = p; references = 1; set = set_at rows p }) q own is

-- ---- what came and went again
pub kept_undone : (one two three : List Live) → AreLive one → KeepsNumbers one two → KeepsNumbers three two → IsMoreBy [] one three → KeepsNumbers one three
kept_undone one two three are first second same p number is = by (find (is_of p) three) refl
  where
    some_in_one : 0 < references_of p one
    some_in_one =
        let s = found_of p one number is in
        let more = every-in (λ s. 0 < s.references) one are.referenced s.0 (find-In (is_of p) s.0 one s.1).0 in
        subst (λ o. 0 < refs o) (sym s.1) more

    by : (o : Option Live) → find (is_of p) three ≡ o → number_of p three ≡ Some number
    by None none = absurd (omega (arith, some_in_one, same p, ap refs none))
    by (Some t) found =
        let its : number_of p three ≡ Some t.number = ap (option_map (λ s. s.number)) found in
        let both : Some t.number ≡ Some number = sym (second p t.number its) ∙ first p number is in
        its ∙ both
