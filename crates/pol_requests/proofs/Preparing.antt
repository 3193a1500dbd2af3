-- What is shown of one set of rows holds for each state that they are like: a request is prepared, or it isn't.
use Rattle.std.proofs.Common.{◌≡◌, ℕ, ◌+◌, ◌≤◌, List, ◌++◌, None, Some, Ok, Err, sym, ap, subst, ◌∙◌, arith}
use Rattle.pol_rule.specs.declared.policy.Peer.{Peer}
use Rattle.pol_model.specs.declared.answer.Fault.{Fault as OneFault}
use Rattle.pol_model.specs.declared.request.Request.{Request}
use Rattle.pol_model.specs.declared.request.Request.TheVariants.{AddEndpoint, RemoveEndpoint, AddIdentity, RemoveIdentity, Apply, Remove, SetMode}
use Rattle.pol_model.specs.declared.row.IdentityRow.{IdentityRow}
use Rattle.pol_model.specs.declared.row.Stamped.{Stamped}
use Rattle.pol_model.specs.State.{State}
use Rattle.pol_model.specs.After.{after}
use Rattle.pol_model.specs.Fault.{fault_of}
use Rattle.pol_model.specs.Sizes.{IsShort}
use Rattle.pol_model_laws.specs.Holding.{rows_taken}
use Rattle.pol_model_laws.specs.Valid.{IsValid}
use Rattle.pol_set_changes.specs.Log.{newest}
use Rattle.pol_selcache.specs.Live.{AreExact}
use Rattle.pol_tables.specs.Tables.{number_named}
use Rattle.pol_allocator.specs.Held.{Prepares}
use Rattle.pol_rule.specs.Listed.{listed_peers}
use Rattle.pol_peers.specs.References.{RefsOf}
use Rattle.pol_requests.specs.declared.prepared.Prepared.{Prepared}
use Rattle.pol_requests.specs.declared.error.PrepareError.TheVariants.{Fault}
use Rattle.pol_store.specs.Store.{IsLike, Rooms, StandsFor, Stored, peers_of, peers_with, with_rooms}
use Rattle.pol_requests.specs.Prepared.{HasRoom, IsPrepared, PreparesOrNot, change_for}
use Rattle.pol_requests.proofs.Likeness.{like_after, like_change, like_fault, like_taken}

-- A request is prepared in the rows themselves.
pub record IsPreparedHere (request : Request) (old new : Stored) (prepared : Prepared) : Type 0 where
  pub valid : IsValid request
  pub no_fault : fault_of old.state request ≡ None
  pub short : IsShort request
  pub state : new.state ≡ record old.state { identities = rows_taken old.state request }
  pub refs : RefsOf (peers_of old.state.policies) old.cache.live → RefsOf (peers_with old.state request) new.cache.live
  pub exact : AreExact old.state.identities old.cache.live → AreExact old.state.identities new.cache.live
  pub plan : Prepares (old.state.revision + 1) (after old.state request).identities new.cache prepared.plan
  pub change : prepared.change ≡ change_for old.state request
  pub room : HasRoom request new.rooms

-- the peers are told by the policies
same_peers : (s t : State) (request : Request) → t.policies ≡ s.policies → peers_with t request ≡ peers_with s request
same_peers s t (AddEndpoint name labels address) same = ap peers_of same
same_peers s t (RemoveEndpoint name) same = ap peers_of same
same_peers s t (AddIdentity name labels) same = ap peers_of same
same_peers s t (RemoveIdentity name) same = ap peers_of same
same_peers s t (Apply policy) same = ap (λ (policies : List Stamped). listed_peers policy ++ peers_of policies) same
same_peers s t (Remove key) same = ap peers_of same
same_peers s t (SetMode mode) same = ap peers_of same

-- and so it is in each state that the store stands for
pub prepared_in : (request : Request) (old new : Stored) (prepared : Prepared) → IsPreparedHere request old new prepared → (s : State) → StandsFor s old → IsPrepared s request new prepared
prepared_in request old new prepared here s stands =
    let like = stands.like in
    let taken : rows_taken old.state request ≡ rows_taken s request = like_taken s old.state like request in
    record {
      may = record { valid = here.valid; no_fault = sym (like_fault s old.state like request) ∙ here.no_fault };
      short = here.short;
      like = record {
        revision = ap (λ (t : State). t.revision) here.state ∙ like.revision;
        mode = ap (λ (t : State). t.mode) here.state ∙ like.mode;
        identities = ap (λ (t : State). t.identities) here.state ∙ taken;
        named = λ name. ap (λ (t : State). number_named name t.named) here.state ∙ like.named name;
        policies = ap (λ (t : State). t.policies) here.state ∙ like.policies;
        endpoints = ap (λ (t : State). t.endpoints) here.state ∙ like.endpoints;
      };
      refs = subst (λ (peers : List Peer). RefsOf peers new.cache.live) (same_peers s old.state request like.policies)
          (here.refs (subst (λ (policies : List Stamped). RefsOf (peers_of policies) old.cache.live) (sym like.policies) stands.refs));
      exact = subst (λ (rows : List IdentityRow). AreExact rows new.cache.live) like.identities
          (here.exact (subst (λ (rows : List IdentityRow). AreExact rows old.cache.live) (sym like.identities) stands.exact));
      plan = subst (λ (rows : List IdentityRow). Prepares (s.revision + 1) rows new.cache prepared.plan) (like_after s old.state like request)
          (subst (λ (n : ℕ). Prepares (n + 1) (after old.state request).identities new.cache prepared.plan) like.revision here.plan);
      change = here.change ∙ like_change s old.state like request;
      room = here.room;
    }

pub all_prepared : (request : Request) (old new : Stored) (prepared : Prepared) → IsPreparedHere request old new prepared → PreparesOrNot request old new (Ok prepared)
all_prepared request old new prepared here s keeps stands = (prepared_in request old new prepared here s stands, tt, tt)

-- The store stands for what it stood for.
pub record IsAsBefore (old new : Stored) : Type 0 where
  pub state : new.state ≡ old.state
  pub refs : (peers : List Peer) → RefsOf peers old.cache.live → RefsOf peers new.cache.live
  pub exact : (rows : List IdentityRow) → AreExact rows old.cache.live → AreExact rows new.cache.live
  pub newest : newest new.cache.log ≤ newest old.cache.log

pub as_before : (rooms : Rooms) (old new : Stored) → new ≡ with_rooms rooms old → IsAsBefore old new
as_before rooms old new is = record {
  state = ap (λ (stored : Stored). stored.state) is;
  refs = λ peers refs. subst (λ (stored : Stored). RefsOf peers stored.cache.live) (sym is) refs;
  exact = λ rows exact. subst (λ (stored : Stored). AreExact rows stored.cache.live) (sym is) exact;
  newest = subst (λ (stored : Stored). newest stored.cache.log ≤ newest old.cache.log) (sym is) (omega arith);
}

pub stands_as_before : (s : State) (old new : Stored) → IsAsBefore old new → StandsFor s old → StandsFor s new
stands_as_before s old new same stands = record {
  like = subst (IsLike s) (sym same.state) stands.like;
  refs = same.refs (peers_of s.policies) stands.refs;
  exact = same.exact s.identities stands.exact;
  newest = let later = same.newest in let before = stands.newest in omega (arith, later, before);
}

-- it isn't prepared for its fault
pub refused : (request : Request) (old new : Stored) (fault : OneFault) → IsAsBefore old new → fault_of old.state request ≡ Some fault → PreparesOrNot request old new (Err (Fault fault))
refused request old new fault same is s keeps stands =
    (tt, stands_as_before s old new same stands, sym (like_fault s old.state stands.like request) ∙ is)

-- a call that failed left it so
pub same_before : (old new : Stored) → new ≡ old → IsAsBefore old new
same_before old new is = as_before old.rooms old new is

-- two calls in a row
pub before_both : (old mid new : Stored) → IsAsBefore old mid → IsAsBefore mid new → IsAsBefore old new
before_both old mid new first second = record {
  state = second.state ∙ first.state;
  refs = λ peers refs. second.refs peers (first.refs peers refs);
  exact = λ rows exact. second.exact rows (first.exact rows exact);
  newest = let one = first.newest in let other = second.newest in omega (arith, one, other);
}
