-- The texts of paths, and what is found one step further from the top.
use Rattle.std.proofs.Common.{◌≡◌, ◌≢◌, ℕ, ◌==◌, if◌then◌else◌, List, [], ◌∷◌, ◌++◌, map, Bool, true, false, arith, Option, None, Some, is_none, option_map, Result, Ok, Err, refl, sym, ap, subst}
use Rattle.std.specs.Option.{option_or}
use Rattle.std.proofs.lemmas.List.{append-nil}
use Rattle.serde_json.specs.Data.{Data}
use Rattle.pol_json.specs.declared.fault.DocFault.{DocFault}
use Rattle.pol_json.specs.declared.fault.DocError.{DocError}
use Rattle.pol_json.specs.declared.fault.DocError.TheVariants as error
use Rattle.pol_json.specs.Gives.{Finds, Leads}
use Rattle.pol_json.specs.Path.{step_text, steps_text, fault_by, fault_below, fault_of, path_text, led, topped, without_dot}
use Rattle.pol_json.specs.Places.{Step, Place, Cause, unknown_name, left_out, wrong_shape, lacks, cause_of, content_cause, is_sound_leaf, Found, found_at, first_found, under, unless_absent, below, places}
use Rattle.pol_json.specs.Members.{is_null}
use Rattle.pol_json.specs.Table.{Shape, one}
use Rattle.pol_json.specs.declared.table.Content.{Content}
use Rattle.pol_json.specs.declared.table.Content.TheVariants.{Ignored, Text, Boolean, Number, PortNumber, Object}

-- a path of one step
pub one_step : (text : List ℕ) → text ++ [] ≡ text
one_step text = append-nil text

-- what was found, one step further from the top
abbrev pub further : Step → Found → Found
further step found = record { path = step ∷ found.path; cause = found.cause }

further_at : (step : Step) (path : List Step) (cause : Option Cause)
    → option_map (λ (c : Cause). let f : Found = record { path = step ∷ path; cause = c } in f) cause
    ≡ option_map (further step) (option_map (λ (c : Cause). let f : Found = record { path = path; cause = c } in f) cause)
further_at step path None = refl
further_at step path (Some c) = refl

or_further : (step : Step) (a b : Option Found) → option_or (option_map (further step) a) (option_map (further step) b) ≡ option_map (further step) (option_or a b)
or_further step None b = refl
or_further step (Some x) b = refl

-- what is found first among places that are one step further from the top
pub first_under : (step : Step) (ps : List Place) → first_found (map (under step) ps) ≡ option_map (further step) (first_found ps)
first_under step [] = refl
first_under step (p ∷ ps) =
    rw (further_at step p.path (cause_of p.shape p.value), first_under step ps)
    (or_further step (found_at p) (first_found ps))

or_assoc : {A : Type 0} (a b c : Option A) → option_or (option_or a b) c ≡ option_or a (option_or b c)
or_assoc None b c = refl
or_assoc (Some x) b c = refl

-- what is found first in two lists
pub first_of_both : (ps qs : List Place) → first_found (ps ++ qs) ≡ option_or (first_found ps) (first_found qs)
first_of_both [] qs = refl
first_of_both (p ∷ ps) qs = rw (first_of_both ps qs) (sym (or_assoc (found_at p) (first_found ps) (first_found qs)))

led_fault : (step : Step) (path : List Step) (cause : Cause) → led (step_text step) (fault_by steps_text path cause) ≡ fault_by steps_text (step ∷ path) cause
led_fault step path unknown_name = refl
led_fault step path (left_out name) = refl
led_fault step path wrong_shape = refl
led_fault step path (lacks name) = refl

topped_fault : (path : List Step) (cause : Cause) → topped (fault_by steps_text path cause) ≡ fault_by path_text path cause
topped_fault path unknown_name = refl
topped_fault path (left_out name) = refl
topped_fault path wrong_shape = refl
topped_fault path (lacks name) = refl

leads_none : {Y : Type 0} (step : Step) (found : Option Found) (result : Result Y DocError)
    → fault_below found ≡ None → Finds None result → Finds (fault_below (option_map (further step) found)) result
leads_none step None result none leads = leads
leads_none step (Some f) result none leads = cc

leads_some : {Y : Type 0} (step : Step) (found : Option Found) (fault : DocFault) (result : Result Y DocError)
    → fault_below found ≡ Some fault → Finds (Some (led (step_text step) fault)) result → Finds (fault_below (option_map (further step) found)) result
leads_some step None fault result is leads = cc
leads_some step (Some f) fault result is leads =
    let same : fault_by steps_text f.path f.cause ≡ fault = cc in
    rw (← led_fault step f.path f.cause, same) leads

-- the first fault below a step, seen from above
pub leads_further : {X Y : Type 0} (step : Step) (found : Option Found) (answer : Result X DocError) (result : Result Y DocError)
    → Finds (fault_below found) answer → Leads (led (step_text step)) answer result → Finds (fault_below (option_map (further step) found)) result
leads_further step found (Ok x) result finds leads = leads_none step found result finds leads
leads_further step found (Err error.Memory) result finds leads = rw leads tt
leads_further step found (Err (error.Fault fault)) result finds leads = leads_some step found fault result finds leads

-- the same, of all places of the value at the step
pub leads_places : {X Y : Type 0} (step : Step) (shape of_table : Shape) (d : Data) (answer : Result X DocError) (result : Result Y DocError)
    → shape ≡ of_table → Finds (fault_below (first_found (places shape d))) answer → Leads (led (step_text step)) answer result
    → Finds (fault_below (first_found (map (under step) (places of_table d)))) result
leads_places step shape of_table d answer result same finds leads =
    let at_table : Finds (fault_below (first_found (places of_table d))) answer =
    subst (λ s. Finds (fault_below (first_found (places s d))) answer) same finds in
    rw (first_under step (places of_table d)) (leads_further step (first_found (places of_table d)) answer result at_table leads)

no_cause : (cause : Option Cause) → is_none cause ≡ true → cause ≡ None
no_cause None none = refl
no_cause (Some c) none = cc

leaf_under : (step : Step) (content : Content) (d : Data) → content_cause content d ≡ None → below (one content) d ≡ [] → first_found (map (under step) (places (one content) d)) ≡ None
leaf_under step content d none empty = rw (first_under step (places (one content) d), none, empty) refl

-- nothing is wrong at a value that holds nothing and is sound
pub sound_leaf : (step : Step) (content : Content) (d : Data) → is_sound_leaf content d ≡ true → first_found (map (under step) (places (one content) d)) ≡ None
sound_leaf step Ignored d sound = leaf_under step Ignored d refl refl
sound_leaf step (Text form) d sound = leaf_under step (Text form) d (no_cause (content_cause (Text form) d) sound) refl
sound_leaf step Boolean d sound = leaf_under step Boolean d (no_cause (content_cause Boolean d) sound) refl
sound_leaf step Number d sound = leaf_under step Number d (no_cause (content_cause Number d) sound) refl
sound_leaf step PortNumber d sound = leaf_under step PortNumber d (no_cause (content_cause PortNumber d) sound) refl
sound_leaf step (Object kind) d sound = cc

-- a member that isn't null is there
pub there : {Y : Type 0} (d : Data) (ps : List Place) (r : Bool) (result : Result Y DocError) → r ≡ is_null d → r ≡ false
    → Finds (fault_below (first_found ps)) result → Finds (fault_below (first_found (unless_absent d ps))) result
there d ps r result null not_null finds = rw (← null, not_null) finds

tops_none : {Y : Type 0} (found : Option Found) (result : Result Y DocError) → fault_below found ≡ None → Finds None result → Finds (option_map fault_of found) result
tops_none None result none leads = leads
tops_none (Some f) result none leads = cc

tops_some : {Y : Type 0} (found : Option Found) (fault : DocFault) (result : Result Y DocError)
    → fault_below found ≡ Some fault → Finds (Some (topped fault)) result → Finds (option_map fault_of found) result
tops_some None fault result is leads = cc
tops_some (Some f) fault result is leads =
    let same : fault_by steps_text f.path f.cause ≡ fault = cc in
    rw (← topped_fault f.path f.cause, same) leads

-- the first fault of the whole policy
pub leads_policy : {X Y : Type 0} (found : Option Found) (answer : Result X DocError) (result : Result Y DocError)
    → Finds (fault_below found) answer → Leads topped answer result → Finds (option_map fault_of found) result
leads_policy found (Ok x) result finds leads = tops_none found result finds leads
leads_policy found (Err error.Memory) result finds leads = rw leads tt
leads_policy found (Err (error.Fault fault)) result finds leads = tops_some found fault result finds leads

no_dot_at : (b : ℕ) (rest : List ℕ) (r : Bool) → (b == 46) ≡ r → (b ≡ 46 → ⊥) → b ∷ rest ≡ (if r then rest else b ∷ rest)
no_dot_at b rest true is other = absurd (other (grind arith))
no_dot_at b rest false is other = refl

-- a text that begins with no dot
pub no_dot : (text : List ℕ) → ((rest : List ℕ) → text ≢ 46 ∷ rest) → text ≡ without_dot text
no_dot [] other = refl
no_dot (b ∷ rest) other = no_dot_at b rest (b == 46) refl (λ is. other rest (ap (λ x. x ∷ rest) is))
