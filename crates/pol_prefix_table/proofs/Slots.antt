-- How each change of the slots keeps them.
use Rattle.std.proofs.Common.{◌≡◌, ◌≢◌, ◌⊎◌, ℕ, zero, suc, ◌+◌, ◌-◌, ◌<◌, ◌^◌, List, [], ◌∷◌, ◌++◌, map, length, get_or, set, Option, Some, None, IfSome, slice_get, sym, ap, subst, ◌∙◌, inl, inr, arith, length-set}
use Rattle.std.proofs.lemmas.Bool.{cases_eq}
use Rattle.std.proofs.lemmas.List.{map-set, map_push, length-map, length_push, get_or-map}
use Rattle.std.proofs.lemmas.Option.{slice_get-get_or}
use Rattle.slab.specs.Slab.{get, ContainsKey, Updates}
use Rattle.slab.specs.Entry.{value_of, IsSound}
use Rattle.slab.specs.declared.Entry.TheVariants.{Vacant, Occupied}
use Rattle.slab.proofs.SlabLemmas.{ContainsKey-within, Updates-set}
use Rattle.slab.proofs.EntryLemmas.{occupied_at, next_is_vacant, next_within, IsSound-push, IsSound-fill, IsSound-vacate, IsSound-rewrite}
use Rattle.pol_addr.specs.declared.address.Addr.{Addr}
use Rattle.pol_addr.specs.Cidr.{IsPrefix}
use Rattle.pol_prefix_table.specs.declared.node.PrefixNode.{PrefixNode}
use Rattle.pol_prefix_table.specs.declared.slot.NodeSlot.{NodeSlot}
use Rattle.pol_prefix_table.specs.Slots.{entry_of, node_in, IsValid, seen_as, AreSlots}

module _ {B : Type 0} (seen : B → Addr) where
  -- a node's prefix is one, where there is a node
  abbrev pub Fits : Option PrefixNode → Type 0
  Fits o = IfSome o (λ n. IsPrefix n.prefix)

  -- ---- a slot that is read
  pub within : (slots : List (NodeSlot B)) (key : ℕ) → ContainsKey (seen_as seen slots 0 0) key → key < length slots
  within slots key there =
      omega (arith, ContainsKey-within (seen_as seen slots 0 0) key there, length-map (map (entry_of seen) slots) value_of, length-map slots (entry_of seen))

  module _ (slots : List (NodeSlot B)) (key : ℕ) (slot : NodeSlot B) (inside : key < length slots) (read : slot ≡ get_or slots key slot) where
    entry_read : get_or (map (entry_of seen) slots) key (entry_of seen slot) ≡ entry_of seen slot
    entry_read = get_or-map (entry_of seen) slots key slot (entry_of seen slot) inside ∙ ap (entry_of seen) (sym read)

    entry_found : slice_get (map (entry_of seen) slots) key ≡ Some (entry_of seen slot)
    entry_found = slice_get-get_or (map (entry_of seen) slots) key (entry_of seen slot) (omega (arith, inside, length-map slots (entry_of seen))) ∙ ap Some entry_read

    pub node_read : get (seen_as seen slots 0 0) key ≡ node_in seen slot
    node_read =
        get_or-map value_of (map (entry_of seen) slots) key (entry_of seen slot) None (omega (arith, inside, length-map slots (entry_of seen))) ∙ ap value_of entry_read

    pub valid_read : (len next : ℕ) → AreSlots seen slots len next → IsValid seen slot
    valid_read len next h = go (node_in seen slot) node_read
      where
        go : (o : Option PrefixNode) → get (seen_as seen slots 0 0) key ≡ o → Fits o
        go None is = tt
        go (Some n) is = h.valid key n is

  -- ---- a slot that is written
  slots_set : (slots : List (NodeSlot B)) (key : ℕ) (slot : NodeSlot B) → map value_of (map (entry_of seen) (set slots key slot)) ≡ set (map value_of (map (entry_of seen) slots)) key (node_in seen slot)
  slots_set slots key slot = ap (map value_of) (map-set (entry_of seen) slots key slot) ∙ map-set value_of (map (entry_of seen) slots) key (entry_of seen slot)

  pub written : (slots : List (NodeSlot B)) (key : ℕ) (slot : NodeSlot B) (next room next' room' : ℕ) → key < length slots → Updates (seen_as seen slots next room) (seen_as seen (set slots key slot) next' room') key (node_in seen slot)
  written slots key slot next room next' room' inside =
      Updates-set (seen_as seen slots next room) (seen_as seen (set slots key slot) next' room') key (node_in seen slot)
      (omega (arith, inside, length-map (map (entry_of seen) slots) value_of, length-map slots (entry_of seen))) (slots_set slots key slot)

  valid_written : (slots : List (NodeSlot B)) (key : ℕ) (slot : NodeSlot B) → key < length slots → Fits (node_in seen slot) → ((i : ℕ) (n : PrefixNode) → get (seen_as seen slots 0 0) i ≡ Some n → IsPrefix n.prefix) → (i : ℕ) (n : PrefixNode) → get (seen_as seen (set slots key slot) 0 0) i ≡ Some n → IsPrefix n.prefix
  valid_written slots key slot inside fits all i n is =
      let new = seen_as seen (set slots key slot) 0 0 in
      let updates = written slots key slot 0 0 0 0 inside in
      elim (cases_eq i key) [
        | inl same ↦ subst Fits (sym updates.changed ∙ ap (get new) (sym same) ∙ is) fits
        | inr other ↦ all i n (sym (updates.others i other) ∙ is)
      ]

  entries_set : (slots : List (NodeSlot B)) (key : ℕ) (slot : NodeSlot B) (len next : ℕ) → IsSound (set (map (entry_of seen) slots) key (entry_of seen slot)) len next → IsSound (map (entry_of seen) (set slots key slot)) len next
  entries_set slots key slot len next sound = subst (λ es. IsSound es len next) (sym (map-set (entry_of seen) slots key slot)) sound

  module _ (slots : List (NodeSlot B)) (len next : ℕ) (h : AreSlots seen slots len next) where
    pub free_within : next ≢ length slots → next < length slots
    free_within before =
        omega (arith, next_within (map (entry_of seen) slots) len next h.sound (λ e. before (e ∙ length-map slots (entry_of seen))), length-map slots (entry_of seen))

    pub free_key : get (seen_as seen slots 0 0) next ≡ None
    free_key = next_is_vacant (map (entry_of seen) slots) len next h.sound

    pub AreSlots-set : (key : ℕ) (slot : NodeSlot B) (n : PrefixNode) → ContainsKey (seen_as seen slots 0 0) key → entry_of seen slot ≡ Occupied n → IsPrefix n.prefix → AreSlots seen (set slots key slot) len next
    AreSlots-set key slot n there is fits =
        let found = occupied_at (map (entry_of seen) slots) key there in
        let sound = IsSound-rewrite (map (entry_of seen) slots) len next key found.0 n h.sound found.1 in
        record {
          sound = entries_set slots key slot len next (subst (λ e. IsSound (set (map (entry_of seen) slots) key e) len next) (sym is) sound);
          valid = valid_written slots key slot (within slots key there) (subst Fits (sym (ap value_of is)) fits) h.valid;
          small = omega (arith, length-set slots key slot, h.small);
        }

    pub AreSlots-freed : (key : ℕ) (slot : NodeSlot B) → ContainsKey (seen_as seen slots 0 0) key → entry_of seen slot ≡ Vacant next → AreSlots seen (set slots key slot) (len - 1) key
    AreSlots-freed key slot there is =
        let found = occupied_at (map (entry_of seen) slots) key there in
        let sound = IsSound-vacate (map (entry_of seen) slots) len next key found.0 h.sound found.1 in
        record {
          sound = entries_set slots key slot (len - 1) key (subst (λ e. IsSound (set (map (entry_of seen) slots) key e) (len - 1) key) (sym is) sound);
          valid = valid_written slots key slot (within slots key there) (subst Fits (sym (ap value_of is)) tt) h.valid;
          small = omega (arith, length-set slots key slot, h.small);
        }

    pub AreSlots-filled : (old slot : NodeSlot B) (after : ℕ) (n : PrefixNode) → next < length slots → old ≡ get_or slots next old → entry_of seen old ≡ Vacant after → entry_of seen slot ≡ Occupied n → IsPrefix n.prefix → AreSlots seen (set slots next slot) (len + 1) after
    AreSlots-filled old slot after n inside read was is fits =
        let sound = IsSound-fill (map (entry_of seen) slots) len next after n h.sound (entry_found slots next old inside read ∙ ap Some was) in
        record {
          sound = entries_set slots next slot (len + 1) after (subst (λ e. IsSound (set (map (entry_of seen) slots) next e) (len + 1) after) (sym is) sound);
          valid = valid_written slots next slot inside (subst Fits (sym (ap value_of is)) fits) h.valid;
          small = omega (arith, length-set slots next slot, h.small);
        }

  -- ---- a slot more
  node_more : (os : List (Option PrefixNode)) (o : Option PrefixNode) (i : ℕ) (n : PrefixNode) → get_or (os ++ o ∷ []) i None ≡ Some n → (get_or os i None ≡ Some n) ⊎ (o ≡ Some n)
  node_more [] o zero n is = inr is
  node_more [] o (suc i) n is = absurd (cc)
  node_more (x ∷ os) o zero n is = inl is
  node_more (x ∷ os) o (suc i) n is = node_more os o i n is

  pub AreSlots-pushed : (slots new : List (NodeSlot B)) (len next : ℕ) (slot : NodeSlot B) (n : PrefixNode) → AreSlots seen slots len next → new ≡ slots ++ slot ∷ [] → next ≡ length slots → entry_of seen slot ≡ Occupied n → IsPrefix n.prefix → length slots + 1 < 2 ^ 32 → AreSlots seen new (len + 1) (next + 1)
  AreSlots-pushed slots new len next slot n h longer at_end is fits small =
      let es = map (entry_of seen) slots in
      let entries : map (entry_of seen) new ≡ es ++ Occupied n ∷ [] =
      ap (map (entry_of seen)) longer ∙ map_push (entry_of seen) slots slot ∙ ap (λ e. es ++ e ∷ []) is in
      let nodes : map value_of (map (entry_of seen) new) ≡ map value_of es ++ Some n ∷ [] = ap (map value_of) entries ∙ map_push value_of es (Occupied n) in
      record {
        sound = subst (λ xs. IsSound xs (len + 1) (next + 1)) (sym entries) (IsSound-push es len next n h.sound (at_end ∙ sym (length-map slots (entry_of seen))));
        valid = λ i m there.
            elim (node_more (map value_of es) (Some n) i m (ap (λ os. get_or os i None) (sym nodes) ∙ there)) [
              | inl before ↦ h.valid i m before
              | inr same ↦ subst Fits same fits
            ];
        small = omega (arith, ap length longer, length_push slots slot, small);
      }
