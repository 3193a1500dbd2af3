-- A table of names follows a request.
use Rattle.std.proofs.Common.{◌≡◌, ℕ, Bool, true, false, cond, List, [], ◌∷◌, ◌++◌, Bor, Option, None, Some, option_map, sym, ap, subst, ◌∙◌}
use Rattle.std.specs.BTreeMap.{BTreeMap, get, is_at}
use Rattle.std.specs.Cmp.Lexicographic.{slice_cmp}
use Rattle.std.specs.Map.{lookup}
use Rattle.std.specs.Ordering.{nat_cmp}
use Rattle.std.proofs.lemmas.Map.Text.{is_eq-slice_cmp}
use Rattle.pol_labels.specs.declared.label.Label.{Label}
use Rattle.pol_model.specs.declared.options.Options.{Options}
use Rattle.pol_model.specs.declared.request.Request.{Request}
use Rattle.pol_model.specs.declared.row.NamedIdentity.{NamedIdentity}
use Rattle.pol_model.specs.declared.request.Request.TheVariants.{AddIdentity, RemoveIdentity}
use Rattle.pol_model.specs.After.{after, state_of}
use Rattle.pol_model.specs.Endpoints.{named_of}
use Rattle.pol_model.proofs.Histories.{state_of-push}
use Rattle.pol_model.specs.State.{State}
use Rattle.pol_model_laws.specs.Keeps.{Keeps}
use Rattle.pol_model_laws.specs.WithoutFaults.{MayCommit, WithoutFaults}
use Rattle.pol_model_laws.proofs.KeepsAll.{state_keeps}
use Rattle.pol_model_laws.proofs.StateLaws.{commits-more}
use Rattle.pol_connections.specs.Ends.{labels_of}
use Rattle.pol_connection_lists.specs.Names.{AreLabelsIn}
use Rattle.pol_connection_lists.proofs.Names.{name_comes, name_goes}

abbrev pub Names : Type 0
Names = BTreeMap (List ℕ) (Bor (List Label))

abbrev pub seen : Option (Bor (List Label)) → Option (List Label)
seen o = option_map (λ (l : Bor (List Label)). l.now) o

put_there : (b : Bool) (l : Bor (List Label)) (o : Option (Bor (List Label))) → seen (cond b (Some l) o) ≡ cond b (Some l.now) (seen o)
put_there true l o = λ _. Some l.now
put_there false l o = λ _. seen o

taken_out : (b : Bool) (o : Option (Bor (List Label))) → seen (cond b None o) ≡ cond b None (seen o)
taken_out true o = λ _. None
taken_out false o = λ _. seen o

pub put_name : (s : State) (n : List ℕ) (l : Bor (List Label)) (old new : Names)
    → ((q : List ℕ) → get (slice_cmp nat_cmp) new q ≡ cond (is_at (slice_cmp nat_cmp n) q) (Some l) (get (slice_cmp nat_cmp) old q))
    → Keeps s → MayCommit s (AddIdentity n l.now) → AreLabelsIn s old → AreLabelsIn (after s (AddIdentity n l.now)) new
put_name s n l old new updates it may are name =
    ap seen (updates name) ∙ put_there (is_at (slice_cmp nat_cmp n) name) l (get (slice_cmp nat_cmp) old name)
    ∙ (λ i. cond (is_eq-slice_cmp n name i) (Some l.now) (are name i)) ∙ sym (name_comes s n l.now it may name)

pub drop_name : (s : State) (n : List ℕ) (old new : Names)
    → ((q : List ℕ) → get (slice_cmp nat_cmp) new q ≡ cond (is_at (slice_cmp nat_cmp n) q) None (get (slice_cmp nat_cmp) old q))
    → Keeps s → MayCommit s (RemoveIdentity n) → AreLabelsIn s old → AreLabelsIn (after s (RemoveIdentity n)) new
drop_name s n old new updates it may are name =
    ap seen (updates name) ∙ taken_out (is_at (slice_cmp nat_cmp n) name) (get (slice_cmp nat_cmp) old name)
    ∙ (λ i. cond (is_eq-slice_cmp n name i) None (are name i)) ∙ sym (name_goes s n it may name)

-- ---- from request to request
pub none_held : (s : State) (held : Names) → held.entries ≡ [] → s.named ≡ [] → AreLabelsIn s held
none_held s held none empty name =
    ap (λ es. seen (lookup (is_at (slice_cmp nat_cmp name)) es)) none
    ∙ sym (ap (λ named. option_map (λ (x : NamedIdentity). labels_of x.number s.identities) (named_of name named)) empty)

pub held_more : (options : Options) (requests : List Request) (request : Request) (old new : Names) → (WithoutFaults options requests → AreLabelsIn (state_of options requests) old)
    → ((s : State) → Keeps s → MayCommit s request → AreLabelsIn s old → AreLabelsIn (after s request) new)
    → WithoutFaults options (requests ++ request ∷ []) → AreLabelsIn (state_of options (requests ++ request ∷ [])) new
held_more options requests request old new so_far follows good =
    let parts = (commits-more options requests request).0 good in
    let s = state_of options requests in
    subst (λ t. AreLabelsIn t new) (sym (state_of-push options requests request)) (follows s (state_keeps options requests parts.0) parts.1 (so_far parts.0))
