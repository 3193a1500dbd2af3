-- A finish of the parts is one of the machine.
use Rattle.std.proofs.Common.{◌≡◌, ◌≢◌, ℕ, ◌==◌, ◌<◌, ◌≤◌, inl, inr, Bool, true, false, cond, List, [], ◌∷◌, ◌++◌, length, take, Option, None, Some, IfSome, Result, Ok, Err, nat_le, option_map, refl, sym, ap, ◌∙◌, subst, arith, bytes_eq}
use Rattle.std.specs.Arc.{arc_value}
use Rattle.std.specs.Cmp.Lexicographic.{bytes_decides}
use Rattle.std.specs.FinMap as finite
use Rattle.std.proofs.lemmas.Bool.{eqb-true}
use Rattle.std.proofs.lemmas.List.{length-take}
use Rattle.std.proofs.lemmas.Option.{same_Some}
use mathlib.Core.List.{IsPrefix}
use Rattle.pol_addr.specs.declared.address.Addr.{Addr}
use Rattle.pol_prefixes.specs.AddressTable.{number_in}
use Rattle.pol_kept_map.specs.Work.{map_of}
use Rattle.pol_distill.specs.Sorted.{HaveSets}
use Rattle.pol_map_changes.specs.Changes.{changed, table_of}
use Rattle.pol_model_laws.proofs.Lives.{added-within}
use Rattle.pol_slot_map.specs.declared.follow.Followed.{Followed}
use Rattle.pol_slot_map.specs.Followed.{Follows, id_in, table_then}
use Rattle.pol_slot_map.proofs.Keeping.{follows-later}
use Rattle.pol_history.specs.declared.event.EndpointId.{EndpointId}
use Rattle.pol_history.specs.declared.event.HistoryEvent.{HistoryEvent}
use Rattle.pol_history.specs.declared.event.HistoryEvent.TheVariants as event
use Rattle.pol_history.specs.declared.machine.Event.TheVariants as step
use Rattle.pol_history.specs.declared.machine.Reply.{Reply}
use Rattle.pol_history.specs.declared.machine.Reply.TheVariants as reply
use Rattle.pol_history.specs.Commits.{commits_in, if_added, live_endpoint, revision_of, state_after, state_now}
use Rattle.pol_history.specs.Content.{BoardRow, Content, content_of, numbers_in, row_blocked, row_published, with_change}
use Rattle.pol_history.specs.Held.{ShowsRow}
use Rattle.pol_history.specs.Machine.{Machine, Stepped, endpoint_id, is_reported, report_table, report_taken, report_unless, step_finish, step_of, with_event, with_taken}
use Rattle.pol_history.specs.Machine as machine
use Rattle.pol_history.specs.MachineKeeps.{IsSound}
use Rattle.pol_history.specs.Reports.{last_report, published_before, size_at}
use Rattle.pol_history.proofs.Beginnings.{prefix_more, prefix_self}
use Rattle.pol_history.proofs.Contents.{content-commits, content-more, content-rows}
use Rattle.pol_history.proofs.Lists.{no_element}
use Rattle.pol_history.proofs.Lives.{lives-then}
use Rattle.pol_history.proofs.Names.{live-id}
use Rattle.pol_history.proofs.Same.{live-parts, live-whole}
use Rattle.pol_history.proofs.Steps.{slots_apart, step_keeps}
use Rattle.pol_mapkey.specs.Entries.{Entry as MapEntry}
use Rattle.pol_model.specs.PolicyMap.{map_size, policy_map}
use Rattle.pol_model.specs.State.{State}
use Rattle.pol_model.specs.declared.options.Options.{Options}
use Rattle.pol_model.specs.declared.row.Endpoint.{Endpoint}
use Rattle.pol_repo.specs.Repository.{state_in}
use Rattle.pol_taken.specs.declared.taken.Taken.{Taken}
use Rattle.pol_machine.specs.Parts as parts
use Rattle.pol_machine.specs.Parts.{HasFewKeys, Finishes, FinishesSlot, FinishesTaken, IsMadeOf, MayFinishTaken, PublishesRow, TakesOf, WasFinished, WasGone, WasLeft, with_slot}
use Rattle.pol_machine.specs.Rows.{RowsOf, live_held, map_held, row_held, trie_of, with_one}
use Rattle.pol_machine.specs.Stands.{GoesFrom, IsKeptRow, IsKeptWork, IsTakenFor, Kept, StandsFor, Steps, options_of, taken_as}
use Rattle.pol_machine.specs.declared.row.MachineRow.{MachineRow}
use Rattle.pol_repo_history.proofs.AtHistory.{at_blocked, at_publish, revision_at}
use Rattle.pol_machine.proofs.Changed.{count_over, differs_itself, equal, fits_false, fits_true, held_changed, held_same, none_over, not_equal, slot_same, with_same}
use Rattle.pol_machine.proofs.Choices.{if_either, if_mapped}
use Rattle.pol_machine.proofs.RowsKept.{full_same, row_later, rows_same, take_later}
use Rattle.pol_machine.proofs.Tables.{has_entries, shown_few, shown_table, table_len}
use Rattle.pol_machine.proofs.Works.{IsOfTaken, live_then, made_leads, made_map, may_go, made_is, published_is, then_is, tried, tried_shown, went_shown, within}

-- ---- what a slot has taken

module _ (k : Kept) (m : Machine) (stands : StandsFor k m) (slot : ℕ) where
  abbrev options : Options
  options = options_of k

  abbrev history : List HistoryEvent
  history = m.history

  same_parts : (later : RowsOf) (new : TakesOf) → later ≡ k.rows → new ≡ k.takes → k ≡ record k { rows = later; takes = new }
  same_parts later new rows takes = λ i. record k { rows = sym rows i; takes = sym takes i }

  -- nothing was taken
  idle_so : k.takes slot ≡ None → (reply.Idle ≡ (step_of options m (step.Finish slot)).0) × StandsFor k (step_of options m (step.Finish slot)).1
  idle_so none =
      let is : m.taken slot ≡ None = sym (stands.taken slot) ∙ ap (option_map taken_as) none in
      subst (λ (t : Option machine.Taken). (reply.Idle ≡ (step_finish options m slot t).0) × StandsFor k (step_finish options m slot t).1) (sym is) (refl, stands)

  module _ (taken : Taken) (there : k.takes slot ≡ Some taken) where
    abbrev id : EndpointId
    id = endpoint_id taken.endpoint

    abbrev name : List ℕ
    name = taken.endpoint.name

    for' : IsTakenFor options history k.rows slot taken
    for' = stands.takes slot taken there

    taken_is : m.taken slot ≡ Some (taken_as taken)
    taken_is = sym (stands.taken slot) ∙ ap (option_map taken_as) there

    -- the machine, once it is spent
    abbrev spent : Machine
    spent = with_taken slot None m

    spent_sound : IsSound options spent
    spent_sound = record {
      legal = stands.sound.legal;
      by_zero = stands.sound.by_zero;
      taken = λ other one found.
          elim (if_either (other == slot) None (m.taken other) (Some one) found) [
            | inl none ↦ absurd (no_element one none.1)
            | inr was ↦ stands.sound.taken other one was.1
          ];
    }

    spent_taken : (other : ℕ) → option_map taken_as (with_slot slot None k.takes other) ≡ spent.taken other
    spent_taken other = if_mapped taken_as (other == slot) None (k.takes other) ∙ ap (cond (other == slot) None) (stands.taken other)

    -- another slot has taken another endpoint
    apart : (other : ℕ) (one : Taken) → (other == slot) ≡ false → k.takes other ≡ Some one → one.endpoint.name ≡ name → one.endpoint.added ≡ taken.endpoint.added → ⊥
    apart other one differ found same_name same_added =
        let is : m.taken other ≡ Some (taken_as one) = sym (stands.taken other) ∙ ap (option_map taken_as) found in
        let same : other ≡ slot =
        slots_apart options history other slot (taken_as one) (taken_as taken) (stands.sound.taken other (taken_as one) is)
        (stands.sound.taken slot (taken_as taken) taken_is) (λ i. record { name = same_name i; added = same_added i }) in
        let tests : (other == slot) ≡ true = equal other slot same in
        cc

    spent_is : step_of options m (step.Finish slot) ≡ report_taken options spent (taken_as taken) (live_endpoint id (state_now options history))
    spent_is = ap (step_finish options m slot) taken_is

    -- where the step is known, so are the reply and what is stood for
    steps_so : (E : Type 0) (k2 : Kept) (reply : Reply) (m2 : Machine) → step_of options m (step.Finish slot) ≡ (reply, m2) → StandsFor k2 m2
        → Steps {E = E} options m (step.Finish slot) k2 (Ok reply)
    steps_so E k2 reply m2 is holds = (ap (λ (s : Stepped). s.0) (sym is), subst (λ (s : Stepped). StandsFor k2 s.1) (sym is) holds)

    sound_so : (reply : Reply) (m2 : Machine) → step_of options m (step.Finish slot) ≡ (reply, m2) → IsSound options m2
    sound_so reply m2 is = subst (λ (s : Stepped). IsSound options s.1) is (step_keeps options m (step.Finish slot) stands.sound)

    -- ---- the endpoint is gone

    gone_stands : StandsFor (record k { takes = with_slot slot None k.takes }) spent
    gone_stands = record {
      few = stands.few;
      sound = spent_sound;
      at = stands.at;
      live = stands.live;
      works = stands.works;
      taken = spent_taken;
      takes = λ other one found.
          elim (if_either (other == slot) None (k.takes other) (Some one) found) [
            | inl none ↦ absurd (no_element one none.1)
            | inr was ↦ stands.takes other one was.1
          ];
    }

    shows : (row : Option MachineRow) → k.rows name ≡ row → ShowsRow options history name (option_map row_held row)
    shows row is =
        subst (ShowsRow options history name) (sym (stands.live name) ∙ ap (option_map row_held) is) (content-rows options history stands.sound.legal name)

    absent : k.rows name ≡ None → live_endpoint id (state_now options history) ≡ None
    absent none = ap (if_added taken.endpoint.added) (shows None none)

    other_one : (row : MachineRow) → k.rows name ≡ Some row → row.added ≢ taken.endpoint.added → live_endpoint id (state_now options history) ≡ None
    other_one row is differ =
        let one = shows (Some row) is in
        ap (if_added taken.endpoint.added) one.found
        ∙ ap (λ (b : Bool). cond b (Some one.endpoint) None)
        (not_equal one.endpoint.added taken.endpoint.added (λ same. differ (one.added ∙ same)))

    gone_so : {E : Type 0} (later : RowsOf) (new : Option Taken) (result : Result Reply E) → live_endpoint id (state_now options history) ≡ None
        → WasGone k.rows later new result → Steps options m (step.Finish slot) (record k { rows = later; takes = with_slot slot new k.takes }) result
    gone_so {E} later new result none was =
        let whole : record k { takes = with_slot slot None k.takes } ≡ record k { rows = later; takes = with_slot slot new k.takes } =
        λ i. record k { rows = sym (rows_same k.rows later was.same) i; takes = with_slot slot (sym was.spent i) k.takes } in
        subst (λ (r : Result Reply E). Steps options m (step.Finish slot) (record k { rows = later; takes = with_slot slot new k.takes }) r) (sym was.answer)
        (steps_so E (record k { rows = later; takes = with_slot slot new k.takes }) reply.Gone spent (spent_is ∙ ap (report_taken options spent (taken_as taken)) none)
        (subst (λ (k2 : Kept). StandsFor k2 spent) whole gone_stands))

    -- ---- the endpoint is live

    module _ (row : MachineRow) (row_there : k.rows name ≡ Some row) (own : row.added ≡ taken.endpoint.added) where
      abbrev live_row : Endpoint
      live_row = (shows (Some row) row_there).endpoint

      live_now : live_endpoint id (state_now options history) ≡ Some live_row
      live_now =
          let one = shows (Some row) row_there in
          live-whole id (state_now options history) live_row one.found (sym one.added ∙ own)

      live_same : endpoint_id live_row ≡ id
      live_same = live-id options history id live_row live_now

      since_added : taken.endpoint.added ≤ taken.revision
      since_added =
          let parts = live-parts id (state_after options history taken.revision) taken.endpoint (live_then options history k.rows slot taken for' stands.sound.legal) in
          let added = added-within options (take taken.revision (commits_in history)) name taken.endpoint parts.0 in
          omega (arith, added.1, length-take taken.revision (commits_in history))

      row_is : live_row ≡ taken.endpoint
      row_is =
          same_Some live_row taken.endpoint
          (sym (lives-then options history id live_row taken.revision (within options history k.rows slot taken for' stands.sound.legal) since_added live_now)
          ∙ live_then options history k.rows slot taken for' stands.sound.legal)

      report_is : row.report ≡ last_report id history
      report_is = (shows (Some row) row_there).report ∙ ap (λ (e : EndpointId). last_report e history) live_same

      abbrev table : List MapEntry
      table = policy_map options (state_after options history taken.revision) live_row

      live_is : (reported : Bool) → is_reported taken.revision row.report ≡ reported
          → step_of options m (step.Finish slot) ≡ report_unless options spent (taken_as taken) table reported
      live_is reported is =
          spent_is
          ∙ ap (report_taken options spent (taken_as taken)) live_now
          ∙ ap (report_unless options spent (taken_as taken) table) (ap (is_reported taken.revision) (sym report_is) ∙ is)

      live_own : live_endpoint (endpoint_id live_row) (state_now options history) ≡ Some live_row
      live_own = ap (λ (e : EndpointId). live_endpoint e (state_now options history)) live_same ∙ live_now

      -- the published map, and how many commits there are
      trie_before : trie_of row.map ≡ table_then options history id (published_before row.report)
      trie_before =
          shown_table options history live_row live_own row.map (published_before row.report)
          (ap published_before (ap (λ (e : EndpointId). last_report e history) live_same ∙ sym report_is)) (shows (Some row) row_there).map
          ∙ ap (λ (e : EndpointId). table_then options history e (published_before row.report)) live_same

      commits_are : (state_in k.repo).revision ≡ (content_of options history).commits
      commits_are = revision_at options history k.repo stands.at ∙ sym (content-commits options history)

      -- ---- what is kept of it

      kept_row : IsKeptRow options history name row
      kept_row = stands.works name row row_there

      both : (work : Option Followed) → IfSome work (GoesFrom options for'.before taken) → IfSome work (IsKeptWork options history name row.added)
          → IfSome work (IsOfTaken options for'.before taken)
      both None goes keeps = tt
      both (Some f) goes keeps = (goes, keeps.id ∙ (λ i. record { name = name; added = own i }))

      of_taken : IfSome row.work (IsOfTaken options for'.before taken)
      of_taken = both row.work (for'.goes row row_there own) kept_row.work

      -- ---- rows of which this one has changed

      module _ (now : MachineRow) (same_added : now.added ≡ row.added) where
        changed_works : (later : List HistoryEvent) → IsPrefix history later → IsKeptRow options later name now
            → (n : List ℕ) (r : MachineRow) → with_one name (Some now) k.rows n ≡ Some r → IsKeptRow options later n r
        changed_works later begins keeps n r found =
            elim (if_either (bytes_eq name n) (Some now) (k.rows n) (Some r) found) as (λ _. IsKeptRow options later n r) [
              | inl here ↦
                  subst (λ (q : List ℕ). IsKeptRow options later q r) ((bytes_decides name n).0 here.0)
                  (subst (λ (q : MachineRow). IsKeptRow options later name q) (same_Some now r here.1) keeps)
              | inr was ↦ row_later options history later n r begins (stands.works n r was.1)
            ]

        -- what other slots have taken
        others : (later : List HistoryEvent) → IsPrefix history later → (other : ℕ) (one : Taken) → (other == slot) ≡ false → k.takes other ≡ Some one
            → IsTakenFor options later (with_one name (Some now) k.rows) other one
        others later begins other one differ found =
            take_later options history later k.rows (with_one name (Some now) k.rows) other one begins
            (λ r there2 added. elim (if_either (bytes_eq name one.endpoint.name) (Some now) (k.rows one.endpoint.name) (Some r) there2) [
              | inl here ↦
                  absurd (apart other one differ found (sym ((bytes_decides name one.endpoint.name).0 here.0))
                  (sym added ∙ ap (λ (q : MachineRow). q.added) (sym (same_Some now r here.1)) ∙ same_added ∙ own))
              | inr was ↦ inr was.1
            ])
            (stands.takes other one found)

        others_spent : (later : List HistoryEvent) → IsPrefix history later → (other : ℕ) (one : Taken) → with_slot slot None k.takes other ≡ Some one
            → IsTakenFor options later (with_one name (Some now) k.rows) other one
        others_spent later begins other one found =
            elim (if_either (other == slot) None (k.takes other) (Some one) found) [
              | inl none ↦ absurd (no_element one none.1)
              | inr was ↦ others later begins other one was.0 was.1
            ]

        -- one event more, which changes the row so
        abbrev reported : Kept
        reported = record k { rows = with_one name (Some now) k.rows; takes = with_slot slot None k.takes }

        live_changed : (change : BoardRow → BoardRow) → row_held now ≡ change (row_held row) → (n : List ℕ)
            → live_held (with_one name (Some now) k.rows) n ≡ with_change id change (content_of options history).live n
        live_changed change changes n =
            held_changed k.rows name row now row_there taken.endpoint.added change own changes n
            ∙ (λ i. with_change id change (λ q. stands.live q i) n)

      -- ---- it was reported before

      already_so : (E : Type 0) (later : RowsOf) (new : Option Taken) (revision : ℕ) → is_reported taken.revision row.report ≡ true → revision ≡ taken.revision
          → later ≡ k.rows → new ≡ None
          → Steps {E = E} options m (step.Finish slot) (record k { rows = later; takes = with_slot slot new k.takes }) (Ok (reply.Already revision))
      already_so E later new revision is same rows none =
          let whole : record k { takes = with_slot slot None k.takes } ≡ record k { rows = later; takes = with_slot slot new k.takes } =
          λ i. record k { rows = sym rows i; takes = with_slot slot (sym none i) k.takes } in
          steps_so E (record k { rows = later; takes = with_slot slot new k.takes }) (reply.Already revision) spent
          (live_is true is ∙ ap (λ (n : ℕ). (reply.Already n, spent)) (sym same)) (subst (λ (k2 : Kept). StandsFor k2 spent) whole gone_stands)

      -- ---- the map is made

      module _ (made : Followed) (is_made : IsMadeOf row.work taken made) where
        map_is : map_of made.work ≡ table
        map_is =
            made_map options history k.rows slot taken for' stands.sound.legal row.work made of_taken is_made
            ∙ ap (policy_map options (state_after options history taken.revision)) (sym row_is)

        table_is : (fits : Bool) → is_reported taken.revision row.report ≡ false → nat_le (length table) k.limit ≡ fits
            → step_of options m (step.Finish slot) ≡ report_table options spent (taken_as taken) table fits
        table_is fits is small = live_is false is ∙ ap (report_table options spent (taken_as taken) table) small

        many : length (map_of made.work) ≡ length table
        many = ap (λ (t : List MapEntry). length t) map_is

        -- its size is told, where it is above the limit
        size_is : size_at options history (record { name = name; added = row.added }) taken.revision ≡ Some (length table)
        size_is =
            let then : State = state_after options history taken.revision in
            ap (λ (n : ℕ). size_at options history (record { name = name; added = n }) taken.revision) own
            ∙ ap (option_map (map_size options then)) (live_then options history k.rows slot taken for' stands.sound.legal)
            ∙ ap (λ (e : Endpoint). Some (map_size options then e)) (sym row_is)

        committed : taken.revision ≤ revision_of history
        committed = within options history k.rows slot taken for' stands.sound.legal

        made_shown : made.shown ≡ published_before row.report
        made_shown = went_shown options history k.rows slot taken for' stands.sound.legal row.work made is_made.went ∙ kept_row.shown

        made_of : IsOfTaken options for'.before taken made
        made_of = made_is options history k.rows slot taken for' stands.sound.legal row.work made of_taken is_made

        made_follows : Follows options history made
        made_follows = follows-later options for'.before history made for'.begins made_of.0.follows

        made_id : id_in made ≡ record { name = name; added = row.added }
        made_id = made_of.1 ∙ (λ i. record { name = name; added = sym own i })

        -- the changes make its table of the published one
        leads_to : changed made.pending (trie_of row.map) ≡ table_of table
        leads_to =
            ap (changed made.pending) (trie_before ∙ ap (table_then options history id) (sym made_shown))
            ∙ made_leads options history k.rows slot taken for' stands.sound.legal row.work made of_taken is_made
            ∙ ap table_of map_is

        -- ---- and published

        abbrev published : HistoryEvent
        published = event.Publish id taken.revision table

        module _ (now : MachineRow) (publishes : PublishesRow (state_in k.repo).revision taken row made now) where
          trie_is : finite.entries publishes.shown.trie ≡ table
          trie_is = ap finite.entries (publishes.is.trie ∙ leads_to) ∙ has_entries options (state_after options history taken.revision) live_row

          numbers_are : (address : Addr) → number_in address (arc_value publishes.shown.addresses) ≡ numbers_in (state_after options history taken.revision) address
          numbers_are address =
              ap (number_in address) publishes.is.addresses
              ∙ for'.is.addresses address
              ∙ ap (λ (s : State). numbers_in s address) (sym (then_is options history k.rows slot taken for' stands.sound.legal))

          map_published : map_held publishes.shown
              ≡ record { revision = taken.revision; table = table; numbers = numbers_in (state_after options history taken.revision) }
          map_published = λ i. record {
            revision = publishes.is.revision i;
            table = trie_is i;
            numbers = λ address. numbers_are address i;
          }

          held_published : row_held now ≡ row_published options (commits_in history) taken.revision table (content_of options history).commits (row_held row)
          held_published =
              ap row_held publishes.row
              ∙ (λ i. record {
                added = row.added;
                report = Some (record { revision = taken.revision; commits = commits_are i; published = Some taken.revision });
                map = Some (map_published i);
              })

          added_published : now.added ≡ row.added
          added_published = ap (λ (r : MachineRow). r.added) publishes.row

          keeps_published : length (map_of made.work) ≤ k.limit → IsKeptRow options (history ++ published ∷ []) name now
          keeps_published fits =
              let is = published_is options history k.rows slot taken for' stands.sound.legal row.work made of_taken is_made publishes.work publishes.follows in
              let own_id : id_in publishes.work ≡ record { name = name; added = row.added } = is.1 ∙ (λ i. record { name = name; added = sym own i }) in
              row_later options history (history ++ published ∷ []) name now (prefix_more history (published ∷ []))
              (subst (λ (r : MachineRow). IsKeptRow options history name r) (sym publishes.row)
              (record {
                shown = is.2;
                work = record { follows = follows-later options for'.before history publishes.work for'.begins is.0; id = own_id };
                full = (committed, none_over k.limit (length table) (length (map_of made.work)) many size_is fits);
              }))

          publish_is : is_reported taken.revision row.report ≡ false → length (map_of made.work) ≤ k.limit
              → step_of options m (step.Finish slot) ≡ (reply.Published taken.revision, with_event published spent)
          publish_is is fits = table_is true is (fits_true (length table) (length (map_of made.work)) k.limit many fits)

          publish_stands : is_reported taken.revision row.report ≡ false → length (map_of made.work) ≤ k.limit
              → StandsFor (reported now added_published) (with_event published spent)
          publish_stands is fits = record {
            few = stands.few;
            sound = sound_so (reply.Published taken.revision) (with_event published spent) (publish_is is fits);
            at = at_publish options history k.repo stands.at id taken.revision table;
            live = λ n.
                live_changed now added_published (row_published options (commits_in history) taken.revision table (content_of options history).commits) held_published n
                ∙ ap (λ (c : Content). c.live n) (sym (content-more options history published));
            works = changed_works now added_published (history ++ published ∷ []) (prefix_more history (published ∷ [])) (keeps_published fits);
            taken = spent_taken;
            takes = others_spent now added_published (history ++ published ∷ []) (prefix_more history (published ∷ []));
          }

        -- ---- or reported as too large

        abbrev blocked : HistoryEvent
        blocked = event.Blocked id taken.revision (length table)

        module _ (now : MachineRow) (now_is : now ≡ parts.row_blocked (state_in k.repo).revision taken row made) where
          added_blocked : now.added ≡ row.added
          added_blocked = ap (λ (r : MachineRow). r.added) now_is

          held_blocked : row_held now ≡ row_blocked taken.revision (content_of options history).commits (row_held row)
          held_blocked =
              ap row_held now_is
              ∙ (λ i. record {
                added = row.added;
                report = Some (record { revision = taken.revision; commits = commits_are i; published = published_before row.report });
                map = option_map map_held row.map;
              })

          keeps_blocked : k.limit < length (map_of made.work) → IsKeptRow options (history ++ blocked ∷ []) name now
          keeps_blocked over =
              row_later options history (history ++ blocked ∷ []) name now (prefix_more history (blocked ∷ []))
              (subst (λ (r : MachineRow). IsKeptRow options history name r) (sym now_is)
              (record { shown = made_shown; work = record { follows = made_follows; id = made_id }; full = (committed, count_over k.limit (length table) (length (map_of made.work)) many size_is over) }))

          block_is : is_reported taken.revision row.report ≡ false → k.limit < length (map_of made.work)
              → step_of options m (step.Finish slot) ≡ (reply.Full taken.revision (length table), with_event blocked spent)
          block_is is over = table_is false is (fits_false (length table) (length (map_of made.work)) k.limit many over)

          block_stands : is_reported taken.revision row.report ≡ false → k.limit < length (map_of made.work)
              → StandsFor (reported now added_blocked) (with_event blocked spent)
          block_stands is over = record {
            few = stands.few;
            sound = sound_so (reply.Full taken.revision (length table)) (with_event blocked spent) (block_is is over);
            at = at_blocked options history k.repo stands.at id taken.revision (length table);
            live = λ n.
                live_changed now added_blocked (row_blocked taken.revision (content_of options history).commits) held_blocked n
                ∙ ap (λ (c : Content). c.live n) (sym (content-more options history blocked));
            works = changed_works now added_blocked (history ++ blocked ∷ []) (prefix_more history (blocked ∷ [])) (keeps_blocked over);
            taken = spent_taken;
            takes = others_spent now added_blocked (history ++ blocked ∷ []) (prefix_more history (blocked ∷ []));
          }

        -- ---- what the changes lead to has few keys, where the map fits

        few_keys : length (map_of made.work) ≤ k.limit → HasFewKeys row.map made.pending
        few_keys fits =
            let few = stands.few in
            let less = shown_few options history live_row live_own k.limit refl stands.sound.legal row.map (shows (Some row) row_there).map in
            let more : finite.len (changed made.pending (trie_of row.map)) ≡ length table =
            ap finite.len leads_to ∙ table_len options (state_after options history taken.revision) live_row in
            record { before = omega (arith, few, less); after = omega (arith, few, more, many, fits) }

      -- ---- there was no memory

      module _ (now : MachineRow) (was : WasLeft taken row now) where
        left_work : IfSome now.work (IsOfTaken options for'.before taken)
        left_work = tried options history k.rows slot taken for' stands.sound.legal row.work now.work of_taken was.work

        keeps_each : (work : Option Followed) → IfSome work (IsOfTaken options for'.before taken) → IfSome work (IsKeptWork options history name now.added)
        keeps_each None of = tt
        keeps_each (Some f) of = record {
          follows = follows-later options for'.before history f for'.begins of.0.follows;
          id = of.1 ∙ (λ i. record { name = name; added = sym (was.added ∙ own) i });
        }

        goes_each : (work : Option Followed) → IfSome work (IsOfTaken options for'.before taken) → IfSome work (GoesFrom options for'.before taken)
        goes_each None of = tt
        goes_each (Some f) of = of.0

        keeps_left : IsKeptRow options history name now
        keeps_left = record {
          shown =
              tried_shown options history k.rows slot taken for' stands.sound.legal row.work now.work was.work
              ∙ kept_row.shown
              ∙ ap published_before (sym was.report);
          work = keeps_each now.work left_work;
          full = full_same options history name row now was.added was.report was.full kept_row.full;
        }

        held_left : row_held now ≡ row_held row
        held_left = λ i. record { added = was.added i; report = was.report i; map = option_map map_held (was.map i) }

        goes_left : (n : List ℕ) (r : MachineRow) → n ≡ name → with_one name (Some now) k.rows n ≡ Some r → IfSome r.work (GoesFrom options for'.before taken)
        goes_left n r same found =
            elim (if_either (bytes_eq name n) (Some now) (k.rows n) (Some r) found) [
              | inl here ↦ subst (λ (q : MachineRow). IfSome q.work (GoesFrom options for'.before taken)) (same_Some now r here.1) (goes_each now.work left_work)
              | inr other ↦ absurd (differs_itself n name same other.0)
            ]

        taken_left : IsTakenFor options history (with_one name (Some now) k.rows) slot taken
        taken_left = record {
          before = for'.before;
          begins = for'.begins;
          revision = for'.revision;
          is = for'.is;
          made = for'.made;
          goes = λ r found added. goes_left name r refl found;
        }

        left_stands : StandsFor (record k { rows = with_one name (Some now) k.rows }) m
        left_stands = record {
          few = stands.few;
          sound = stands.sound;
          at = stands.at;
          live = λ n. held_same k.rows name row now row_there held_left n ∙ stands.live n;
          works = changed_works now was.added history (prefix_self history) keeps_left;
          taken = stands.taken;
          takes = λ other one found. takes_left other one (other == slot) refl found;
        }
          where
            takes_left : (other : ℕ) (one : Taken) (test : Bool) → (other == slot) ≡ test → k.takes other ≡ Some one
                → IsTakenFor options history (with_one name (Some now) k.rows) other one
            takes_left other one true is found =
                let at : other ≡ slot = eqb-true other slot is in
                let same : taken ≡ one = same_Some taken one (sym there ∙ ap k.takes (sym at) ∙ found) in
                subst (λ (t : Taken). IsTakenFor options history (with_one name (Some now) k.rows) other t) same
                (subst (λ (n : ℕ). IsTakenFor options history (with_one name (Some now) k.rows) n taken) (sym at) taken_left)
            takes_left other one false is found = others now was.added history (prefix_self history) other one is found

      -- ---- the row is finished

      finished : {E : Type 0} (later : RowsOf) (new : Option Taken) (result : Result Reply E)
          → WasFinished (k.limit) (state_in k.repo).revision taken row k.rows later new result
          → Steps options m (step.Finish slot) (record k { rows = later; takes = with_slot slot new k.takes }) result
      finished {E} later new (Ok (reply.Already revision)) was =
          let is = was.finishes in
          already_so E later new revision is.0 is.1 ((λ i. λ n. was.rows_are n i) ∙ (λ i. with_one name (Some (is.2 i)) k.rows) ∙ (λ i. λ n. with_same k.rows name row row row_there n i)) was.left
      finished {E} later new (Ok (reply.Published revision)) was =
          let is = was.finishes in
          let added = added_published is.made is.is was.now is.publishes in
          let whole : reported was.now added ≡ record k { rows = later; takes = with_slot slot new k.takes } =
          λ i. record k { rows = λ n. sym (was.rows_are n) i; takes = with_slot slot (sym was.left i) k.takes } in
          steps_so E (record k { rows = later; takes = with_slot slot new k.takes }) (reply.Published revision) (with_event (published is.made is.is) spent)
          (publish_is is.made is.is was.now is.publishes is.not_reported is.fits ∙ ap (λ (n : ℕ). (reply.Published n, with_event (published is.made is.is) spent)) (sym is.same))
          (subst (λ (k2 : Kept). StandsFor k2 (with_event (published is.made is.is) spent)) whole (publish_stands is.made is.is was.now is.publishes is.not_reported is.fits))
      finished {E} later new (Ok (reply.Full revision count)) was =
          let is = was.finishes in
          let added = added_blocked is.made is.is was.now is.row in
          let whole : reported was.now added ≡ record k { rows = later; takes = with_slot slot new k.takes } =
          λ i. record k { rows = λ n. sym (was.rows_are n) i; takes = with_slot slot (sym was.left i) k.takes } in
          let count_is : length table ≡ count = sym (is.all ∙ many is.made is.is) in
          steps_so E (record k { rows = later; takes = with_slot slot new k.takes }) (reply.Full revision count) (with_event (blocked is.made is.is) spent)
          (block_is is.made is.is was.now is.row is.not_reported is.over ∙ (λ i. (reply.Full (sym is.same i) (count_is i), with_event (blocked is.made is.is) spent)))
          (subst (λ (k2 : Kept). StandsFor k2 (with_event (blocked is.made is.is) spent)) whole (block_stands is.made is.is was.now is.row is.not_reported is.over))
      finished {E} later new (Ok (reply.Committed done)) was = absurd was.finishes
      finished {E} later new (Ok (reply.Refused refused)) was = absurd was.finishes
      finished {E} later new (Ok (reply.Took r)) was = absurd was.finishes
      finished {E} later new (Ok reply.Gone) was = absurd was.finishes
      finished {E} later new (Ok reply.Idle) was = absurd was.finishes
      finished {E} later new (Ok (reply.Verdict r word)) was = absurd was.finishes
      finished {E} later new (Ok (reply.NoEndpoint r)) was = absurd was.finishes
      finished {E} later new (Ok (reply.NotYet r)) was = absurd was.finishes
      finished {E} later new (Err error) was =
          let whole : record k { rows = with_one name (Some was.now) k.rows } ≡ record k { rows = later; takes = with_slot slot new k.takes } =
          λ i. record k { rows = λ n. sym (was.rows_are n) i; takes = (sym (slot_same k.takes slot (Some taken) there) ∙ ap (λ (t : Option Taken). with_slot slot t k.takes) (sym was.left)) i } in
          subst (λ (k2 : Kept). StandsFor k2 m) whole (left_stands was.now was.finishes)

    -- ---- whichever row there is

    pub may_finish : (row : Option MachineRow) → k.rows name ≡ row → MayFinishTaken k.limit taken row
    may_finish None is = tt
    may_finish (Some row) is = λ own. record {
      may_go = may_go options history k.rows slot taken for' stands.sound.legal row.work (for'.goes row is own);
      few = λ made is_made fits. few_keys row is own made is_made fits;
    }

    finished_with : {E : Type 0} (row : Option MachineRow) → k.rows name ≡ row → (later : RowsOf) (new : Option Taken) (result : Result Reply E)
        → FinishesTaken k.limit (state_in k.repo).revision taken row k.rows later new result
        → Steps options m (step.Finish slot) (record k { rows = later; takes = with_slot slot new k.takes }) result
    finished_with None is later new result was = gone_so later new result (absent is) was
    finished_with (Some row) is later new result (inl was) = gone_so later new result (other_one row is was.0) was.1
    finished_with (Some row) is later new result (inr was) = finished row is was.0 later new result was.1

  -- ---- whatever the slot has taken

  pub have_sets : (place : Option Taken) → k.takes slot ≡ place → IfSome place (λ taken. HaveSets taken.sets (arc_value taken.filters))
  have_sets None is = tt
  have_sets (Some taken) is = (stands.takes slot taken is).is.every

  pub may_finish_place : (place : Option Taken) → k.takes slot ≡ place → IfSome place (λ taken. MayFinishTaken k.limit taken (k.rows taken.endpoint.name))
  may_finish_place None is = tt
  may_finish_place (Some taken) is = may_finish taken is (k.rows taken.endpoint.name) refl

  finished_place : {E : Type 0} (place : Option Taken) → k.takes slot ≡ place → (later : RowsOf) (new : Option Taken) (result : Result Reply E)
      → Finishes k.limit (state_in k.repo).revision place k.rows later new result
      → Steps options m (step.Finish slot) (record k { rows = later; takes = with_slot slot new k.takes }) result
  finished_place {E} None is later new result was =
      let whole : k ≡ record k { rows = later; takes = with_slot slot new k.takes } =
      λ i. record k { rows = sym (rows_same k.rows later was.2) i; takes = (sym (slot_same k.takes slot None is) ∙ ap (λ (t : Option Taken). with_slot slot t k.takes) (sym was.1)) i } in
      subst (λ (r : Result Reply E). Steps options m (step.Finish slot) (record k { rows = later; takes = with_slot slot new k.takes }) r) (sym was.0)
      (subst (λ (k2 : Kept). Steps {E = E} options m (step.Finish slot) k2 (Ok reply.Idle)) whole (idle_so is))
  finished_place (Some taken) is later new result was = finished_with taken is (k.rows taken.endpoint.name) refl later new result was

  pub finish_steps : {E : Type 0} (later : RowsOf) (new : TakesOf) (result : Result Reply E)
      → FinishesSlot k.limit (state_in k.repo).revision slot k.takes k.rows later new result
      → Steps options m (step.Finish slot) (record k { rows = later; takes = new }) result
  finish_steps later new result was =
      subst (λ (t : TakesOf). Steps options m (step.Finish slot) (record k { rows = later; takes = t }) result) (λ i. λ other. sym (was.takes other) i)
      (finished_place (k.takes slot) refl later was.now result was.finishes)
