-- The key of a document that is read: its name and its namespace have the form of names, since its metadata is judged.
use Rattle.std.proofs.Common.{◌≡◌, ℕ, Bool, true, false, not, cond, List, [], ◌∷◌, codes, Option, None, Some, is_some, unwrap_or, option_and_then, Ok, Ordering, Less, Equal, Greater, nat_cmp, IsTrue, inl, inr, refl, sym, ap, subst, ◌∙◌}
use Rattle.std.proofs.lemmas.Map.Lookups.{exact_bytes}
use Rattle.std.specs.Cmp.Lexicographic.{slice_cmp}
use Rattle.std.specs.Option.{option_or}
use Rattle.std.specs.Ordering.{match_ordering}
use Rattle.serde_json.specs.Data.{Data, null, boolean, number, string, array, object, Members, no_members, member}
use Rattle.serde_json.specs.Find.{as_str, get_member}
use Rattle.pol_json.proofs.FirstFaults.{nothing_found, nothing_found_in_network, sound_at}
use Rattle.pol_json.specs.Build.{default_namespace, is_cluster_wide, metadata_text, policy_of}
use Rattle.pol_json.specs.Document.{first_fault, has_name, has_spec, head_fault, is_long, is_policy, places_in, read_document, unless_fault}
use Rattle.pol_json.specs.Look.{HasMember, IsAt, StepsTo}
use Rattle.pol_json.specs.Members.{is_null, present, text_at, unless_null}
use Rattle.pol_json.specs.Network.{is_network_policy, network_fault, network_head_fault, network_name, network_namespace}
use Rattle.pol_json.specs.Places.{Cause, cause_of, first_found, named, or_wrong, text_cause, unless, wrong_shape}
use Rattle.pol_json.specs.Table.{one, shape_of}
use Rattle.pol_json.specs.Texts.{is_dns_name}
use Rattle.pol_json.specs.declared.fault.DocFault.{DocFault}
use Rattle.pol_json.specs.declared.fault.DocFault.TheVariants.{NotPolicy, NoName, NoSpec}
use Rattle.pol_json.specs.declared.table.Content.TheVariants.{Object, Text}
use Rattle.pol_json.specs.declared.table.ObjectKind.{ObjectKind}
use Rattle.pol_json.specs.declared.table.ObjectKind.TheVariants.{Metadata, NetworkPolicy, Policy}
use Rattle.pol_json.specs.declared.table.TextForm.TheVariants as form
use Rattle.pol_rule.specs.declared.raw.RawPolicy.{RawPolicy}

-- ---- members of objects

member_at : (o : Ordering) (name k : List ℕ) (d e : Data) (ms : Members) → slice_cmp nat_cmp name k ≡ o
    → match_ordering o (get_member name ms) (Some d) (get_member name ms) ≡ Some e → (get_member name ms ≡ Some e → HasMember name e ms)
    → HasMember name e (member k d ms)
member_at Less name k d e ms is found more = inr (more found)
member_at Equal name k d e ms is found more = inl (sym (exact_bytes name k is), cc)
member_at Greater name k d e ms is found more = inr (more found)

-- a member that is found is one of the object
has_member : (name : List ℕ) (e : Data) (ms : Members) → get_member name ms ≡ Some e → HasMember name e ms
has_member name e no_members found = absurd cc
has_member name e (member k d ms) found = member_at (slice_cmp nat_cmp name k) name k d e ms refl found (has_member name e ms)

not_null : (b : Bool) (f e : Data) → is_null f ≡ b → cond b None (Some f) ≡ Some e → (Some f ≡ Some e) × (is_null e ≡ false)
not_null true f e is found = absurd cc
not_null false f e is found = let same : f ≡ e = cc in (found, subst (λ x. is_null x ≡ false) same is)

there : (o : Option Data) (e : Data) → option_and_then unless_null o ≡ Some e → (o ≡ Some e) × (is_null e ≡ false)
there None e found = absurd cc
there (Some f) e found = not_null (is_null f) f e refl found

-- a step leads to a member that is there
steps : (kind : ObjectKind) (name : List ℕ) (d e : Data) → present name d ≡ Some e → StepsTo (named name) (one (Object kind)) d (shape_of kind name) e
steps kind name null e found = absurd cc
steps kind name (boolean b) e found = absurd cc
steps kind name (number n) e found = absurd cc
steps kind name (string s) e found = absurd cc
steps kind name (array ds) e found = absurd cc
steps kind name (object ms) e found =
    let is = there (get_member name ms) e found in
    (has_member name e ms is.0, is.1, refl)

-- ---- names in metadata

passes : (b : Bool) (cause : Cause) → unless b cause ≡ None → b ≡ true
passes true cause none = refl
passes false cause none = absurd cc

-- from a document of a kind that has metadata, and in which nothing is found
record HasMetadata (kind : ObjectKind) (d : Data) : Type 0 where
  none : first_found (places_in kind d) ≡ None
  leads : (m : Data) → present (codes "metadata") d ≡ Some m → StepsTo (named (codes "metadata")) (one (Object kind)) d (one (Object Metadata)) m

module _ (kind : ObjectKind) (d : Data) (of : HasMetadata kind d) where
  name_at : (name : List ℕ) (m e : Data) (text : List ℕ) → shape_of Metadata name ≡ one (Text form.Name) → present (codes "metadata") d ≡ Some m
      → present name m ≡ Some e → as_str e ≡ Some text → is_dns_name text ≡ true
  name_at name m e text shape at_metadata at_name reads =
      let leads : IsAt kind (named (codes "metadata") ∷ named name ∷ []) d (shape_of Metadata name) e =
      (one (Object Metadata), m, of.leads m at_metadata, (shape_of Metadata name, e, steps Metadata name m e at_name, (refl, refl))) in
      let sound : cause_of (one (Text form.Name)) e ≡ None =
      subst (λ s. cause_of s e ≡ None) shape (sound_at kind d of.none (named (codes "metadata") ∷ named name ∷ []) (shape_of Metadata name) e leads) in
      let of_text : or_wrong (text_cause form.Name) (Some text) ≡ None = subst (λ o. or_wrong (text_cause form.Name) o ≡ None) reads sound in
      passes (is_dns_name text) wrong_shape of_text

  text_named : (name : List ℕ) (m : Data) (o : Option Data) (text : List ℕ) → shape_of Metadata name ≡ one (Text form.Name)
      → present (codes "metadata") d ≡ Some m → present name m ≡ o → option_and_then as_str o ≡ Some text → is_dns_name text ≡ true
  text_named name m None text shape at_metadata at_name reads = absurd cc
  text_named name m (Some e) text shape at_metadata at_name reads = name_at name m e text shape at_metadata at_name reads

  -- a text of the metadata, or what stands for it
  member_named : (name otherwise : List ℕ) (m : Data) (o : Option (List ℕ)) → shape_of Metadata name ≡ one (Text form.Name)
      → present (codes "metadata") d ≡ Some m → text_at name m ≡ o → (o ≡ None → is_dns_name otherwise ≡ true) → is_dns_name (unwrap_or o otherwise) ≡ true
  member_named name otherwise m None shape at_metadata reads none = none refl
  member_named name otherwise m (Some text) shape at_metadata reads none = text_named name m (present name m) text shape at_metadata refl reads

  long_one : (o : Option (List ℕ)) → is_long o ≡ true → o ≡ None → is_dns_name [] ≡ true
  long_one o long none = let e : false ≡ true = ap is_long (sym none) ∙ long in absurd cc

  name_read : (o : Option Data) → present (codes "metadata") d ≡ o → is_long (option_and_then (text_at (codes "name")) o) ≡ true
      → is_dns_name (unwrap_or (option_and_then (text_at (codes "name")) o) []) ≡ true
  name_read None at_metadata long = absurd cc
  name_read (Some m) at_metadata long =
      member_named (codes "name") [] m (text_at (codes "name") m) refl at_metadata refl (long_one (text_at (codes "name") m) long)

  namespace_read : (o : Option Data) → present (codes "metadata") d ≡ o
      → is_dns_name (unwrap_or (option_and_then (text_at (codes "namespace")) o) default_namespace) ≡ true
  namespace_read None at_metadata = refl
  namespace_read (Some m) at_metadata =
      member_named (codes "namespace") default_namespace m (text_at (codes "namespace") m) refl at_metadata refl (λ none. refl)

-- ---- the key of a document

no_fault : (f : Option DocFault) (policy raw : RawPolicy) → unless_fault f policy ≡ Ok raw → (f ≡ None) × (policy ≡ raw)
no_fault None policy raw is = (refl, cc)
no_fault (Some f) policy raw is = absurd cc

no_first : {A : Type 0} (f rest : Option A) → option_or f rest ≡ None → f ≡ None
no_first None rest none = refl
no_first (Some x) rest none = absurd cc

head_named : (policy name spec : Bool) → cond (not policy) (Some NotPolicy) (cond (not name) (Some NoName) (cond (not spec) (Some NoSpec) None)) ≡ None → name ≡ true
head_named true true spec none = refl
head_named true false spec none = absurd cc
head_named false name spec none = absurd cc

-- what a document that is read has: no fault of its head, and the policy that is built of it
record IsRead (d : Data) (raw : RawPolicy) : Type 0 where
  named_one : has_name d ≡ true
  built : policy_of d ≡ raw

is_read : (d : Data) (raw : RawPolicy) → read_document d ≡ Ok raw → IsRead d raw
is_read d raw is =
    let of = no_fault (first_fault d) (policy_of d) raw is in
    let none : head_fault d ≡ None = no_first (head_fault d) _ of.0 in
    record { named_one = head_named (is_policy d) (has_name d) (has_spec d) none; built = of.1 }

in_document : (d : Data) (raw : RawPolicy) → read_document d ≡ Ok raw → HasMetadata Policy d
in_document d raw is = record { none = nothing_found d raw is; leads = steps Policy (codes "metadata") d }

pub key_name : (d : Data) (raw : RawPolicy) → read_document d ≡ Ok raw → IsTrue (is_dns_name raw.key.name)
key_name d raw is =
    let of = is_read d raw is in
    subst (λ (policy : RawPolicy). is_dns_name policy.key.name ≡ true) of.built (name_read Policy d (in_document d raw is) (present (codes "metadata") d) refl of.named_one)

spaced : (wide : Bool) (text : List ℕ) → is_dns_name text ≡ true → wide ≡ false → is_dns_name (cond wide [] text) ≡ true
spaced true text is narrow = absurd cc
spaced false text is narrow = is

pub key_namespace : (d : Data) (raw : RawPolicy) → read_document d ≡ Ok raw → raw.key.cluster_wide ≡ false → IsTrue (is_dns_name raw.key.namespace)
key_namespace d raw is narrow =
    let of = is_read d raw is in
    subst (λ (policy : RawPolicy). policy.key.cluster_wide ≡ false → is_dns_name policy.key.namespace ≡ true) of.built
    (spaced (is_cluster_wide d) (metadata_text (codes "namespace") default_namespace d) (namespace_read Policy d (in_document d raw is) (present (codes "metadata") d) refl)) narrow

unspaced : (wide : Bool) (text : List ℕ) → wide ≡ true → cond wide [] text ≡ []
unspaced true text is = refl
unspaced false text is = absurd cc

pub wide_key : (d : Data) (raw : RawPolicy) → read_document d ≡ Ok raw → raw.key.cluster_wide ≡ true → raw.key.namespace ≡ []
wide_key d raw is =
    let of = is_read d raw is in
    subst (λ (policy : RawPolicy). policy.key.cluster_wide ≡ true → policy.key.namespace ≡ []) of.built
    (unspaced (is_cluster_wide d) (metadata_text (codes "namespace") default_namespace d))

-- ---- the names of a NetworkPolicy

in_network : (d : Data) → network_fault d ≡ None → HasMetadata NetworkPolicy d
in_network d none = record { none = nothing_found_in_network d none; leads = steps NetworkPolicy (codes "metadata") d }

pub name_of_network : (d : Data) → network_fault d ≡ None → IsTrue (is_dns_name (network_name d))
name_of_network d none =
    let head : network_head_fault d ≡ None = no_first (network_head_fault d) _ none in
    name_read NetworkPolicy d (in_network d none) (present (codes "metadata") d) refl
    (head_named (is_network_policy d) (has_name d) (is_some (present (codes "spec") d)) head)

pub namespace_of_network : (d : Data) → network_fault d ≡ None → IsTrue (is_dns_name (network_namespace d))
namespace_of_network d none = namespace_read NetworkPolicy d (in_network d none) (present (codes "metadata") d) refl
