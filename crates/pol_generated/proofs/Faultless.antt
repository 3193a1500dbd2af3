-- Each request of a generated script may commit, and each of its queries is for a live endpoint.
use Rattle.std.proofs.Common.{◌≡◌, ℕ, zero, suc, ◌+◌, ◌*◌, ◌%◌, ◌<◌, ◌≤◌, ◌==◌, Bool, true, false, cond, if◌then◌else◌, List, [], ◌∷◌, ◌++◌, map, Ok, refl, sym, ap, ◌∙◌, subst, arith, append_assoc}
use Rattle.std.specs.List.{AllByRecursion, flat_map, range_with_len}
use Rattle.pol_model_laws.specs.WithoutFaults.{WithoutFaults}
use Rattle.pol_gen.specs.Draws.{after as after_draws, drawn}
use Rattle.pol_gen.specs.Generated.{draws_before, generated}
use Rattle.pol_model.specs.After.{after, start}
use Rattle.pol_model.specs.State.{State}
use Rattle.pol_model.specs.declared.options.Options.{Options}
use Rattle.pol_model.specs.declared.request.Request.TheVariants as request
use Rattle.pol_rule.specs.Plain.{rule_of}
use Rattle.pol_rule.specs.Prefixes.{policy_prefixes}
use Rattle.pol_run.specs.Run.{readings_of, status_of}
use Rattle.pol_run.specs.Serial.{serial_answers}
use Rattle.pol_run.specs.Spots.{Reading}
use Rattle.pol_run.proofs.Lists.{every_append}
use Rattle.pol_script.specs.declared.command.Command.{Command}
use Rattle.pol_script.specs.declared.command.Command.TheVariants as command
use Rattle.pol_generated.specs.Asked as asked
use Rattle.pol_generated.specs.Requests.{requests_asked}
use Rattle.pol_generated.proofs.Plays.{LivesIn, Plays, behind, plays_commit, plays_more, plays_unmarked}
use Rattle.pol_generated.proofs.Script.{lines_are_read}
use Rattle.pol_generated.proofs.Settled.{Added, Settled, all_there, endpoint_added, endpoint_may, lives, policy_applied, policy_may}

-- ---- the endpoints

abbrev endpoints_from : ℕ → ℕ → ℕ → List Command
endpoints_from x a n = flat_map (λ i. asked.endpoint_command i (after_draws i x) ∷ []) (range_with_len a n)

endpoints_play : (x a n : ℕ) (s : State) → a + n ≤ 32 → Added a s → Plays s (endpoints_from x a n)
endpoints_play x a zero s within added = tt
endpoints_play x a (suc n) s within added =
    let app = drawn 0 (after_draws a x) 8 in (
      endpoint_may a app s (omega (arith, within)) added,
      endpoints_play x (a + 1) n (after s (request.AddEndpoint (asked.endpoint_name a) (asked.labels_of app) (asked.host_address (a + 1)))) (omega (arith, within))
          (endpoint_added a app s added),
    )

endpoints_added : (x a n : ℕ) (s : State) → Added a s → Added (a + n) (behind s (endpoints_from x a n))
endpoints_added x a zero s added = let same : a ≡ a + 0 = omega arith in subst (λ k. Added k s) same added
endpoints_added x a (suc n) s added =
    let app = drawn 0 (after_draws a x) 8 in
    let next = after s (request.AddEndpoint (asked.endpoint_name a) (asked.labels_of app) (asked.host_address (a + 1))) in
    let same : a + 1 + n ≡ a + suc n = omega arith in
    subst (λ k. Added k (behind next (endpoints_from x (a + 1) n))) same (endpoints_added x (a + 1) n next (endpoint_added a app s added))

none_added : (options : Options) → Added 0 (start options)
none_added options = record { endpoints = tt; there = λ j low. absurd (omega (arith, low)); few = omega arith; rows = omega arith }

-- ---- what comes behind them

-- a policy without prefixes, a synchronisation, or a query of one of the endpoints
abbrev IsQuiet : Command → Type 0
IsQuiet (command.Commit session (request.Apply policy)) = policy_prefixes policy ≡ []
IsQuiet (command.Look session query) = (j : ℕ) × (j < 32) × (query.endpoint ≡ asked.endpoint_name j)
IsQuiet (command.Sync session) = Unit {0}
IsQuiet other = ⊥

quiet_play : (commands : List Command) (s : State) → AllByRecursion IsQuiet commands → Settled s → Plays s commands
quiet_play [] s every is = tt
quiet_play (command.Commit session (request.Apply policy) ∷ others) s every is =
    (policy_may policy s every.0 is, quiet_play others (after s (request.Apply policy)) every.1 (policy_applied policy s every.0 is))
quiet_play (command.Look session query ∷ others) s every is =
    let live = lives s every.0.0 is every.0.1 in
    (subst (λ (name : List ℕ). LivesIn s name) (sym every.0.2) live, quiet_play others s every.1 is)
quiet_play (command.Sync session ∷ others) s every is = quiet_play others s every.1 is
quiet_play (other ∷ others) s every is = absurd every.0

each_quiet : (commands : ℕ → List Command) (bound a n : ℕ) → a + n ≤ bound → ((i : ℕ) → i < bound → AllByRecursion IsQuiet (commands i))
    → AllByRecursion IsQuiet (flat_map commands (range_with_len a n))
each_quiet commands bound a zero within every = tt
each_quiet commands bound a (suc n) within every =
    every_append IsQuiet (commands a) (flat_map commands (range_with_len (a + 1) n)) (every a (omega (arith, within)))
    (each_quiet commands bound (a + 1) n (omega (arith, within)) every)

rule_prefixes : (denies : Bool) (app from first last : ℕ) → let entry = asked.entry_of from first last in
    policy_prefixes (record {
      key = asked.policy_key 0;
      rules = cond denies
          (record (rule_of (asked.pods_of app)) { ingress_deny = entry ∷ [] })
          (record (rule_of (asked.pods_of app)) { ingress = entry ∷ [] }) ∷ [];
    }) ≡ []
rule_prefixes true app from first last = refl
rule_prefixes false app from first last = refl

apply_quiet : (x : ℕ) → IsQuiet (asked.apply_command x)
apply_quiet x = let port = drawn 3 x 1024 + 1 in rule_prefixes (drawn 5 x 4 == 0) (drawn 1 x 8) (drawn 2 x 8) port (port + drawn 4 x 100)

check_quiet : (x : ℕ) → AllByRecursion IsQuiet (asked.check x)
check_quiet x =
    (tt, each_quiet (λ i. asked.verdict_command i (after_draws (2 * i) x) ∷ []) 32 0 32 (omega arith) (λ i low. ((i, low, refl), tt)))

check_where : (b : Bool) (x : ℕ) → AllByRecursion IsQuiet (cond b (asked.check x) [])
check_where true x = check_quiet x
check_where false x = tt

no_check_where : (b : Bool) (x : ℕ) → AllByRecursion IsQuiet (cond b [] (asked.check x))
no_check_where true x = tt
no_check_where false x = check_quiet x

round_quiet : (n round : ℕ) → AllByRecursion IsQuiet (asked.round_commands n round)
round_quiet n round =
    (apply_quiet (after_draws (draws_before round) n), check_where ((round + 1) % 10 == 0) (after_draws (draws_before round + 6) n))

-- ---- the whole script

pub asked_plays : (options : Options) (n : ℕ) → Plays (start options) (asked.asked n)
asked_plays options n =
    let first = asked.endpoints n in
    let rounds = flat_map (asked.round_commands n) (range_with_len 0 n) in
    let there = all_there (behind (start options) first) (endpoints_added n 0 32 (start options) (none_added options)) in
    let all : Plays (start options) (first ++ (rounds ++ asked.last_check n)) =
    plays_more (start options) first (rounds ++ asked.last_check n) (endpoints_play n 0 32 (start options) (omega arith) (none_added options))
    (quiet_play (rounds ++ asked.last_check n) (behind (start options) first)
    (every_append IsQuiet rounds (asked.last_check n) (each_quiet (asked.round_commands n) n 0 n (omega arith) (λ round low. round_quiet n round))
    (no_check_where (n % 10 == 0) (after_draws (draws_before n) n))) there) in
    subst (λ (commands : List Command). Plays (start options) commands) (sym (append_assoc first rounds (asked.last_check n))) all

pub requests_commit : (options : Options) (n : ℕ) → WithoutFaults options (requests_asked n)
requests_commit options n = plays_commit (start options) (asked.asked n) (asked_plays options n)

pub none_is_marked : (options : Options) (n : ℕ) → status_of (serial_answers options (readings_of (generated n))) ≡ 0
none_is_marked options n =
    let read : readings_of (generated n) ≡ map Ok (asked.asked n) = lines_are_read n in
    ap (λ (readings : List Reading). status_of (serial_answers options readings)) read
    ∙ ap (λ (marked : Bool). if marked then 1 else 0) (plays_unmarked options (start options) 1 (asked.asked n) (asked_plays options n))
