-- A machine that does some events, and then others.
use Rattle.std.proofs.Common.{◌≡◌, ℕ, ◌+◌, ◌<◌, List, [], ◌∷◌, ◌++◌, length, take, drop, get_or, map, IfOk, Result, Ok, Err, refl, sym, ap, ◌∙◌, subst, append_assoc, append-nil}
use Rattle.std.specs.List.{flat_map}
use Rattle.std.proofs.lemmas.List.{drop_more, take-append-drop, take_more}
use Rattle.std.proofs.lemmas.List.Concat.{flat_map-append}
use mathlib.Core.List.{IsPrefix}
use Rattle.pol_history.specs.declared.machine.Event.{Event}
use Rattle.pol_history.specs.declared.machine.Event.TheVariants as step
use Rattle.pol_history.specs.declared.machine.Reply.{Reply}
use Rattle.pol_history.specs.Machine.{Machine, machine_from, step_of}
use Rattle.pol_history.proofs.Beginnings.{prefix_more, prefix_none, prefix_self, prefix_trans}
use Rattle.pol_model.specs.declared.options.Options.{Options}
use Rattle.pol_model.specs.declared.request.Query.{Query}
use Rattle.pol_model.specs.declared.request.Request.{Request}
use Rattle.pol_model.specs.declared.row.Endpoint.{Endpoint}
use Rattle.pol_machine.specs.Serial.{LedTo, SaidTo, StandsWithin, turn_of, turns_at}
use Rattle.pol_machine.specs.Stands.{Stands, StepsTo, Stored}
use Rattle.pol_machine.specs.declared.asked.Asked.TheVariants.{Commit, Look}
use Rattle.pol_machine.specs.declared.asked.SerialAnswer.{SerialAnswer}
use Rattle.pol_machine.specs.declared.asked.SerialAnswer.TheVariants.{Replied}

pub events_append : (options : Options) (m : Machine) (first later : List Event)
    → machine_from options m (first ++ later) ≡ machine_from options (machine_from options m first) later
events_append options m [] later = refl
events_append options m (event ∷ first) later = events_append options (step_of options m event).1 first later

prefix_behind : (first done events : List Event) → IsPrefix done events → IsPrefix (first ++ done) (first ++ events)
prefix_behind first done events begins = (begins.0, append_assoc first done begins.0 ∙ ap (λ (es : List Event). first ++ es) begins.1)

-- ---- after want of memory

-- nothing was done
pub left : (options : Options) (m : Machine) (events : List Event) (new : Stored) → Stands new m → StandsWithin options m events new
left options m events new stands = record { done = []; begins = prefix_none events; stands = stands }

-- all was done
pub all_done : (options : Options) (m : Machine) (events : List Event) (new : Stored) → Stands new (machine_from options m events) → StandsWithin options m events new
all_done options m events new stands = record { done = events; begins = prefix_self events; stands = stands }

-- a beginning of the first events was done
pub within_first : (options : Options) (m : Machine) (first later : List Event) (new : Stored) → StandsWithin options m first new
    → StandsWithin options m (first ++ later) new
within_first options m first later new was = record {
  done = was.done;
  begins = prefix_trans was.done first (first ++ later) was.begins (prefix_more first later);
  stands = was.stands;
}

-- the first events were done, and a beginning of the later ones
pub within_later : (options : Options) (m : Machine) (first later : List Event) (new : Stored) → StandsWithin options (machine_from options m first) later new
    → StandsWithin options m (first ++ later) new
within_later options m first later new was = record {
  done = first ++ was.done;
  begins = prefix_behind first was.done later was.begins;
  stands = subst (λ (n : Machine). Stands new n) (sym (events_append options m first was.done)) was.stands;
}

-- ---- one step

-- a finish after a take
pub finished : {E : Type 0} (options : Options) (m : Machine) (slot : ℕ) (new : Stored) (result : Result Reply E)
    → StepsTo options (step_of options m (step.Take slot)).1 (step.Finish slot) new result → LedTo options m (turn_of slot) new result
finished options m slot new (Ok reply) steps = steps.1
finished options m slot new (Err error) steps = record { done = step.Take slot ∷ []; begins = (step.Finish slot ∷ [], refl); stands = steps }

-- one event alone
pub stepped : {E : Type 0} (options : Options) (m : Machine) (event : Event) (new : Stored) (result : Result Reply E) → StepsTo options m event new result
    → LedTo options m (event ∷ []) new result
stepped options m event new (Ok reply) steps = steps.1
stepped options m event new (Err error) steps = left options m (event ∷ []) new steps

-- where all was done, whatever the answer is
pub led_all : {A : Type 0} {E : Type 0} (options : Options) (m : Machine) (events : List Event) (new : Stored) (result : Result A E)
    → Stands new (machine_from options m events) → LedTo options m events new result
led_all options m events new (Ok done) stands = stands
led_all options m events new (Err error) stands = all_done options m events new stands

-- ---- slots

turns_more : (slots : List ℕ) (slot : ℕ) → turns_at (slots ++ slot ∷ []) ≡ turns_at slots ++ turn_of slot
turns_more slots slot = flat_map-append turn_of slots (slot ∷ []) ∙ ap (λ (es : List Event). turns_at slots ++ es) (append-nil (turn_of slot))

-- the slots so far, and one more
pub slots_more : (options : Options) (m : Machine) (slots : List ℕ) (slot : ℕ) (new : Stored)
    → Stands new (machine_from options (machine_from options m (turns_at slots)) (turn_of slot)) → Stands new (machine_from options m (turns_at (slots ++ slot ∷ [])))
slots_more options m slots slot new stands =
    subst (λ (n : Machine). Stands new n) (sym (ap (machine_from options m) (turns_more slots slot) ∙ events_append options m (turns_at slots) (turn_of slot))) stands

-- within one slot of many
pub slots_within : (options : Options) (m : Machine) (all before later : List ℕ) (slot : ℕ) (new : Stored) → all ≡ before ++ slot ∷ later
    → StandsWithin options (machine_from options m (turns_at before)) (turn_of slot) new → StandsWithin options m (turns_at all) new
slots_within options m all before later slot new are was =
    let whole : turns_at before ++ (turn_of slot ++ turns_at later) ≡ turns_at all = sym (ap turns_at are ∙ flat_map-append turn_of before (slot ∷ later)) in
    subst (λ (es : List Event). StandsWithin options m es new) whole
    (within_later options m (turns_at before) (turn_of slot ++ turns_at later) new
    (within_first options (machine_from options m (turns_at before)) (turn_of slot) (turns_at later) new was))

-- one slot more of a list that is gone through, where the options haven't changed
pub slot_done : (options other : Options) → other ≡ options → (m : Machine) (slots : List ℕ) (i d : ℕ) (new : Stored) → i < length slots
    → Stands new (machine_from other (machine_from options m (turns_at (take i slots))) (turn_of (get_or slots i d)))
    → Stands new (machine_from options m (turns_at (take (i + 1) slots)))
slot_done options other same m slots i d new within stands =
    subst (λ (some : List ℕ). Stands new (machine_from options m (turns_at some))) (sym (take_more slots i d within))
    (slots_more options m (take i slots) (get_or slots i d) new
    (subst (λ (o : Options). Stands new (machine_from o (machine_from options m (turns_at (take i slots))) (turn_of (get_or slots i d)))) same stands))

pub slot_within : (options other : Options) → other ≡ options → (m : Machine) (slots : List ℕ) (i d : ℕ) (new : Stored) → i < length slots
    → StandsWithin other (machine_from options m (turns_at (take i slots))) (turn_of (get_or slots i d)) new → StandsWithin options m (turns_at slots) new
slot_within options other same m slots i d new within was =
    slots_within options m slots (take i slots) (drop (i + 1) slots) (get_or slots i d) new
    (sym (take-append-drop i slots) ∙ ap (λ (rest : List ℕ). take i slots ++ rest) (drop_more slots i d within))
    (subst (λ (o : Options). StandsWithin o (machine_from options m (turns_at (take i slots))) (turn_of (get_or slots i d)) new) same was)

-- the slots of endpoints
pub turns_of_slots : (endpoints : List Endpoint) → turns_at (map (λ (e : Endpoint). e.slot) endpoints) ≡ flat_map (λ (e : Endpoint). turn_of e.slot) endpoints
turns_of_slots [] = refl
turns_of_slots (e ∷ es) = ap (λ (events : List Event). turn_of e.slot ++ events) (turns_of_slots es)

-- ---- questions

pub said_commit : {E : Type 0} (options : Options) (m : Machine) (request : Request) (result : Result SerialAnswer E)
    → IfOk result (λ (said : SerialAnswer). said ≡ Replied (step_of options m (step.Commit request)).0) → SaidTo options m (Commit request) result
said_commit options m request (Ok said) is = is
said_commit options m request (Err error) is = tt

pub said_look : {E : Type 0} (options : Options) (m : Machine) (query : Query) (result : Result SerialAnswer E)
    → IfOk result (λ (said : SerialAnswer). said ≡ Replied (step_of options m (step.Look query)).0) → SaidTo options m (Look query) result
said_look options m query (Ok said) is = is
said_look options m query (Err error) is = tt
