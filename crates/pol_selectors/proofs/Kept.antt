-- What the table of selectors keeps, as one of them changes, goes or comes.
use Rattle.std.proofs.Common.{◌≡◌, ℕ, ◌==◌, ◌<◌, ◌&&◌, ◌||◌, not, Bool, true, false, cond, List, [], ◌∷◌, ◌++◌, map, find, Some, None, option_map, refl, sym, ap, subst, ◌∙◌}
use Rattle.std.specs.List.{IsDistinct, list_any}
use Rattle.std.specs.Map.{lookup}
use Rattle.std.proofs.lemmas.Bool.{and_parts, and_from, eq-eqb}
use Rattle.std.proofs.lemmas.List.Folds.{list_any-append}
use Rattle.pol_data.proofs.Every.{every-append}
use Rattle.pol_data.proofs.Members.{In}
use Rattle.pol_model_laws.proofs.Membership.{In-list_any, list_any-In}
use Rattle.pol_headings.specs.declared.heading.Heading.{Heading}
use Rattle.pol_headings.specs.Filed.{Drawers}
use Rattle.pol_headings.specs.Heading.{heading_of, same_heading}
use Rattle.pol_headings.specs.Tried.{is_among}
use Rattle.pol_model.specs.Ascending.{Ascends}
use Rattle.pol_rule.specs.contracts.policy.PeerPartialEq.TheImpl as peers
use Rattle.pol_rule.specs.declared.policy.Peer.{Peer}
use Rattle.pol_selectors.specs.declared.spots.Row.{Row}
use Rattle.pol_selectors.specs.declared.spots.Spot.{Spot}
use Rattle.pol_selectors.specs.Filed.{AreKnown, IsFiled, IsFiledToo, IsTable, IsUnfiled, stands_in, stands_under}
use Rattle.pol_selectors.specs.Inside.{IsLiveAt, IsPutAt, live_in, live_of, spot_numbers}
use Rattle.pol_selectors.specs.Live.{Live, AreLive, is_live, number_of, where_number}
use Rattle.pol_selectors.proofs.LiveLists.{AllReferenced, number_kept, numbers, peer_kept, unreference_keeps}
use Rattle.pol_selectors.proofs.Middle.{apart_pushed, number_gone, number_pushed, stands_gone}
use Rattle.pol_selectors.proofs.Placed.{live_ascend, live_row, parted, put_gone, put_there}

-- ---- selectors that keep their numbers and peers
module _ (n : ℕ) (change : Live → Live) (keeps_number : (s : Live) → (change s).number ≡ s.number) (keeps_peer : (s : Live) → (change s).peer ≡ s.peer) where
  stands_kept : (heading : Heading) (number : ℕ) (live : List Live) → list_any (stands_under heading number) (map (where_number n change) live) ≡ list_any (stands_under heading number) live
  stands_kept heading number [] = refl
  stands_kept heading number (s ∷ live) =
      λ i. (same_heading (heading_of (peer_kept n change keeps_number keeps_peer s i)) heading && (number_kept n change keeps_number keeps_peer s i == number)) || stands_kept heading number live i

  known_kept : (p : Peer) (live : List Live) → number_of p (map (where_number n change) live) ≡ number_of p live
  known_kept p [] = refl
  known_kept p (s ∷ live) =
      by (peers.ghosts.eq p (where_number n change s).peer) (known_kept p live)
      ∙ ap (λ q. option_map (λ (t : Live). t.number) (cond (peers.ghosts.eq p q) (Some s) (find (λ t. peers.ghosts.eq p t.peer) live))) (peer_kept n change keeps_number keeps_peer s)
    where
      by : (b : Bool) → number_of p (map (where_number n change) live) ≡ number_of p live
          → option_map (λ (t : Live). t.number) (cond b (Some (where_number n change s)) (find (λ t. peers.ghosts.eq p t.peer) (map (where_number n change) live))) ≡ option_map (λ (t : Live). t.number) (cond b (Some s) (find (λ t. peers.ghosts.eq p t.peer) live))
      by true rest = ap Some (number_kept n change keeps_number keeps_peer s)
      by false rest = rest

  pub table_changed : (known : List (Peer × ℕ)) (old new : List Spot) (drawers : Drawers) → IsTable known old drawers → spot_numbers new ≡ spot_numbers old
      → live_in new ≡ map (where_number n change) (live_in old) → AreLive (live_in new) → IsTable known new drawers
  table_changed known old new drawers table same is live = record {
    ascend = subst Ascends (sym same) table.ascend;
    live = live;
    known_by_peer = λ p. table.known_by_peer p ∙ sym (known_kept p (live_in old)) ∙ ap (number_of p) (sym is);
    filed = λ heading number. table.filed heading number ∙ sym (stands_kept heading number (live_in old)) ∙ ap (list_any (stands_under heading number)) (sym is);
  }

-- ---- one that goes
module _ (n i : ℕ) (old mid : List Spot) (at : IsLiveAt n old i) (are : AreLive (live_in old)) (put : IsPutAt i None old mid) where
  known_gone : (known others : List (Peer × ℕ)) → AreKnown known (live_in old)
      → ((p : Peer) → lookup (peers.ghosts.eq p) others ≡ cond (peers.ghosts.eq at.row.peer p) None (lookup (peers.ghosts.eq p) known)) → AreKnown others (live_in mid)
  known_gone known others all told p =
      let l = live_of n at.row in
      let part = parted old i at.spot l at.at (live_row n old i at) in
      told p
      ∙ ap (cond (peers.ghosts.eq at.row.peer p) None) (all p ∙ ap (number_of p) part.is)
      ∙ sym (number_gone part.front l part.back (subst (λ (live : List Live). IsDistinct peers.ghosts.eq (map (λ s. s.peer) live)) part.is are.apart) p)
      ∙ ap (number_of p) (sym (put_there i None l old mid part put))

  filed_gone : (drawers fewer : Drawers) → IsFiled drawers (live_in old) → IsUnfiled (heading_of at.row.peer) n drawers fewer → IsFiled fewer (live_in mid)
  filed_gone drawers fewer filed less heading number =
      let l = live_of n at.row in
      let part = parted old i at.spot l at.at (live_row n old i at) in
      less heading number
      ∙ (λ k. filed heading number k && not (same_heading (heading_of at.row.peer) heading && (n == number)))
      ∙ ap (λ live. list_any (stands_under heading number) live && not (stands_under heading number l)) part.is
      ∙ sym (stands_gone l heading number part.front part.back (subst (λ (live : List Live). Ascends (numbers live)) part.is are.numbers))
      ∙ ap (list_any (stands_under heading number)) (sym (put_there i None l old mid part put))

  pub table_gone : (known others : List (Peer × ℕ)) (drawers fewer : Drawers) (new : List Spot) → IsTable known old drawers → at.row.references ≡ 1
      → ((p : Peer) → lookup (peers.ghosts.eq p) others ≡ cond (peers.ghosts.eq at.row.peer p) None (lookup (peers.ghosts.eq p) known)) → IsUnfiled (heading_of at.row.peer) n drawers fewer
      → live_in new ≡ live_in mid → Ascends (spot_numbers new) → IsTable others new fewer
  table_gone known others drawers fewer new table last told less same ascend = record {
    ascend = ascend;
    live = subst AreLive (sym (same ∙ put_gone n i old mid at are.numbers are.referenced last put)) (unreference_keeps n (live_in old) are);
    known_by_peer = λ p. known_gone known others table.known_by_peer told p ∙ ap (number_of p) (sym same);
    filed = λ heading number. filed_gone drawers fewer table.filed less heading number ∙ ap (list_any (stands_under heading number)) (sym same);
  }

-- ---- one more
stands_more : (drawers more : Drawers) (live : List Live) (l : Live) → IsFiled drawers live → IsFiledToo (heading_of l.peer) l.number drawers more → IsFiled more (live ++ l ∷ [])
stands_more drawers more live l filed told heading number =
    told heading number ∙ ap (λ b. b || stands_under heading number l) (filed heading number)
    ∙ sym (list_any-append (stands_under heading number) live (l ∷ []) ∙ ap (λ b. list_any (stands_under heading number) live || b) (last (stands_under heading number l)))
  where
    last : (b : Bool) → (b || false) ≡ b
    last true = refl
    last false = refl

pub table_pushed : (known others : List (Peer × ℕ)) (old new : List Spot) (drawers more : Drawers) (n : ℕ) (row : Row) → IsTable known old drawers
    → live_in new ≡ live_in old ++ live_of n row ∷ [] → Ascends (spot_numbers new) → 0 < row.references → number_of row.peer (live_in old) ≡ None
    → ((p : Peer) → lookup (peers.ghosts.eq p) others ≡ cond (peers.ghosts.eq row.peer p) (Some n) (lookup (peers.ghosts.eq p) known)) → IsFiledToo (heading_of row.peer) n drawers more → IsTable others new more
table_pushed known others old new drawers more n row table is ascend referenced fresh told filed = record {
  ascend = ascend;
  live = record {
    numbers = live_ascend new ascend;
    referenced = subst AllReferenced (sym is) (every-append (λ (s : Live). 0 < s.references) (live_in old) (live_of n row ∷ []) table.live.referenced (referenced, tt));
    apart = subst (λ (live : List Live). IsDistinct peers.ghosts.eq (map (λ s. s.peer) live)) (sym is) (apart_pushed (live_in old) (live_of n row) table.live.apart fresh);
  };
  known_by_peer = λ p.
      told p ∙ ap (cond (peers.ghosts.eq row.peer p) (Some n)) (table.known_by_peer p)
      ∙ sym (number_pushed (live_in old) (live_of n row) fresh p) ∙ ap (number_of p) (sym is);
  filed = λ heading number. stands_more drawers more (live_in old) (live_of n row) table.filed filed heading number ∙ ap (list_any (stands_under heading number)) (sym is);
}

-- ---- what is filed under headings
pub stands_lives : (headings : List Heading) (n : ℕ) (live : List Live) → stands_in headings n live ≡ true → is_live n live ≡ true
stands_lives headings n live there =
    let under = In-list_any (λ heading. list_any (stands_under heading n) live) headings there in
    let found = In-list_any (stands_under under.0 n) live under.2 in
    list_any-In (λ (s : Live). s.number == n) found.0 live found.1 (and_parts (same_heading (heading_of found.0.peer) under.0) (found.0.number == n) found.2).1

pub In_stands : (headings : List Heading) (s : Live) (live : List Live) → In s live → is_among headings (heading_of s.peer) ≡ true → stands_in headings s.number live ≡ true
In_stands headings s live there among =
    let under = In-list_any (same_heading (heading_of s.peer)) headings among in
    list_any-In (λ heading. list_any (stands_under heading s.number) live) under.0 headings under.1
    (list_any-In (stands_under under.0 s.number) s live there (and_from (same_heading (heading_of s.peer) under.0) (s.number == s.number) under.2 (eq-eqb s.number s.number refl)))
