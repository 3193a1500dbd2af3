-- One turn of a loop over the members of a line, or over a list of texts.
use Rattle.std.proofs.Common.{◌≡◌, ℕ, ◌+◌, ◌<◌, Bool, true, false, cond, ◌&&◌, List, [], ◌∷◌, ◌++◌, length, get_or, drop, map, Option, Some, None, is_some, unwrap_or, option_map, Result, Ok, Err, ok_or, string_bytes, refl, sym, ap, subst, ◌∙◌, append_assoc, add-one, drop-cons}
use Rattle.std.specs.Option.{option_and_then}
use Rattle.std.specs.List.{list_all, list_any}
use Rattle.serde_json.specs.Data.{Data}
use Rattle.serde_json.specs.Find.{as_array, as_str}
use Rattle.serde_json.specs.View.{view, items_view, members_view}
use Rattle.serde_json.specs.declared.value.Value.{Value}
use Rattle.serde_json.proofs.Views.{Entry}
use Rattle.pol_json.specs.Build.{text_of}
use Rattle.pol_json.specs.Members.{items_list}
use Rattle.pol_json.proofs.Views.{items_list_view}
use Rattle.pol_script.specs.declared.line_fault.LineFault.{LineFault}
use Rattle.pol_script.specs.declared.line_fault.LineError.{LineError}
use Rattle.pol_script.specs.declared.line_fault.LineError.TheVariants as error
use Rattle.pol_script.specs.Forms.{texts, read_as}
use Rattle.pol_script.specs.Gives.{Reads}
use Rattle.pol_script.specs.Members.{known_member, known_members}
use Rattle.pol_script.specs.Reading.{read_op}
use Rattle.pol_script.specs.declared.command.Command.{Command}
use Rattle.pol_script.specs.declared.op.Op.{Op}
use Rattle.pol_script.specs.Steps.{◌>>=◌, each}

-- a step that was refused ends the reading
pub stopped : {X Y A B : Type 0} (seen : X → A) (shown : Y → B) (front : Result A LineFault) (next : A → Result B LineFault) (total : Result B LineFault) (e : LineError) (result : Result Y LineError)
    → total ≡ (front >>= next) → Reads seen (Err e) front → result ≡ Err e → Reads shown result total
stopped seen shown front next total error.Memory result is reads same = rw same tt
stopped seen shown front next total (error.Fault fault) result is reads same = rw (same, is, reads) refl

-- a step that was refused, where its fault is the fault of all
pub refused : {X Y A B : Type 0} (seen : X → A) (shown : Y → B) (front : Result A LineFault) (total : Result B LineFault) (e : LineError) (result : Result Y LineError)
    → Reads seen (Err e) front → result ≡ Err e → ((fault : LineFault) → front ≡ Err fault → total ≡ Err fault) → Reads shown result total
refused seen shown front total error.Memory result reads same so = rw same tt
refused seen shown front total (error.Fault fault) result reads same so = rw same (so fault reads)

-- what is read by an operation is read by the one that it is
pub by_op : (o p : Op) (d : Data) (result : Result Command LineError) → o ≡ p → Reads (λ command. command) result (read_op p d) → Reads (λ command. command) result (read_op o d)
by_op o p d result is reads = let P : Op → Type 0 = λ q. Reads (λ command. command) result (read_op q d) in subst P (sym is) reads

-- ---- the members of an object

pub member_turn : (names : List (List ℕ)) (entries left : List Entry) (e : Entry) (name : List ℕ) → entries ≡ e ∷ left → name ≡ string_bytes e.0
    → known_members names (members_view entries) ≡ (known_member names name (view e.1) >>= λ _. known_members names (members_view left))
member_turn names entries left e name is same = rw (is, same) refl

pub passed : {A B : Type 0} (front : Result A LineFault) (next : Result B LineFault) (total : Result B LineFault) (x : A) → total ≡ (front >>= λ _. next) → front ≡ Ok x → total ≡ next
passed front next total x is ok = rw (is, ok) refl

-- ---- names among names

pub among_map : {X Y : Type 0} (test : Y → Bool) (f : X → Y) (xs : List X) → list_any test (map f xs) ≡ list_any (λ x. test (f x)) xs
among_map test f [] = refl
among_map test f (x ∷ xs) = rw (among_map test f xs) refl

-- ---- lists of texts

text_step : (o : Option (List ℕ)) (b : Bool) (rest : List (List ℕ))
    → option_and_then (λ y. option_map (λ ys. y ∷ ys) (cond b (Some rest) None)) o ≡ cond (is_some o && b) (Some (unwrap_or o [] ∷ rest)) None
text_step None b rest = refl
text_step (Some text) true rest = refl
text_step (Some text) false rest = refl

-- the texts of a list, where each item is one
pub each_text : {V : Type 0} (seen : V → Data) (vs : List V)
    → each as_str (map seen vs) ≡ cond (list_all (λ v. is_some (as_str (seen v))) vs) (Some (map (λ v. text_of (seen v)) vs)) None
each_text seen [] = refl
each_text seen (v ∷ vs) = rw (each_text seen vs) (text_step (as_str (seen v)) (list_all (λ v. is_some (as_str (seen v))) vs) (map (λ v. text_of (seen v)) vs))

pub texts_read : (d : Data) (vs items : List Value) (r b : Bool) → Some (items_view vs) ≡ as_array d → items ≡ vs
    → r ≡ list_all (λ v. is_some (as_str (view v))) items → r ≡ b
    → read_as texts d ≡ cond b (Some (map (λ v. text_of (view v)) items)) None
texts_read d vs items r b array same all is =
    let listed : items_list (items_view vs) ≡ map view items = items_list_view (map view vs) ∙ ap (map view) (sym same) in
    let each_of = ap (each as_str) listed ∙ each_text view items in
    let by_test = ap (λ t. cond t (Some (map (λ v. text_of (view v)) items)) None) (sym all ∙ is) in
    rw (← array) (each_of ∙ by_test)

-- a list that goes on behind one more item
pushed_rest : {A : Type 0} (found : List A) (x : A) (rest : Option (List A))
    → option_map (λ ys. (found ++ x ∷ []) ++ ys) rest ≡ option_map (λ ys. found ++ ys) (option_map (λ ys. x ∷ ys) rest)
pushed_rest found x None = refl
pushed_rest found x (Some ys) = ap Some (append_assoc found (x ∷ []) ys)

-- what the items from a place on read as, behind what was found before it
abbrev pub rest_from : {V T A : Type 0} → (V → T) → (T → Option A) → List A → List V → Option (List A)
rest_from seen read found rest = option_map (λ ys. found ++ ys) (each read (map seen rest))

ok_or_ok : {A E : Type 0} (o : Option A) (fault : E) (x : A) → ok_or o fault ≡ Ok x → o ≡ Some x
ok_or_ok None fault x e = absurd cc
ok_or_ok (Some y) fault x e = cc

ok_or_err : {A E : Type 0} (o : Option A) (fault f : E) → ok_or o fault ≡ Err f → (o ≡ None) × (fault ≡ f)
ok_or_err None fault f e = (refl, cc)
ok_or_err (Some y) fault f e = absurd cc

-- one more item is found where the next value reads as it
pub each_more : {V T A : Type 0} (seen : V → T) (read : T → Option A) (fault : LineFault) (found : List A) (values : List V) (i : ℕ) (value : V) (item : A) (total : Option (List A))
    → i < length values → value ≡ get_or values i value → ok_or (read (seen value)) fault ≡ Ok item
    → rest_from seen read found (drop i values) ≡ total → rest_from seen read (found ++ item ∷ []) (drop (i + 1) values) ≡ total
each_more seen read fault found values i value item total within is ok so_far =
    let read-is = ok_or_ok (read (seen value)) fault item ok in
    let next = each read (map seen (drop (i + 1) values)) in
    let one : each read (map seen (drop i values)) ≡ option_map (λ ys. item ∷ ys) next =
    rw (drop-cons values i value within, ← is, read-is, add-one) refl in
    pushed_rest found item next ∙ ap (option_map (λ ys. found ++ ys)) (sym one) ∙ so_far

-- none is found where the next value reads as nothing
pub each_stops : {V T A Y : Type 0} (seen : V → T) (read : T → Option A) (fault : LineFault) (found : List A) (values : List V) (i : ℕ) (value : V) (total : Option (List A)) (shown : Y → List A) (e : LineError) (result : Result Y LineError)
    → i < length values → value ≡ get_or values i value → Reads {X = A} (λ x. x) (Err e) (ok_or (read (seen value)) fault)
    → rest_from seen read found (drop i values) ≡ total → result ≡ Err e → Reads shown result (ok_or total fault)
each_stops seen read fault found values i value total shown error.Memory result within is reads so_far same = rw same tt
each_stops seen read fault found values i value total shown (error.Fault f) result within is reads so_far same =
    let none = ok_or_err (read (seen value)) fault f reads in
    let nothing : each read (map seen (drop i values)) ≡ None = rw (drop-cons values i value within, ← is, none.0) refl in
    rw (same, ← so_far, nothing, none.1) refl
