-- From files to what they use, and back.
use Rattle.std.proofs.Common.{◌≡◌, ℕ, zero, suc, ◌-◌, ◌≤◌, ◌<◌, ◌⊎◌, inl, inr, Bool, true, false, cond, List, [], ◌∷◌, length, map, Option, Some, None, IsSome, refl, sym, ap, ◌∙◌, subst, arith, slice_get}
use Rattle.std.specs.Option.{option_map}
use Rattle.std.specs.List.{filter_map, cons_option}
use Rattle.std.specs.Str.{bytes_eq}
use Rattle.p2c_text.specs.declared.place.Span.{Span}
use Rattle.pascal_tree.specs.declared.names.Identifier.{Identifier}
use Rattle.pascal_tree.specs.declared.files.SourceFile.{SourceFile}
use Rattle.pascal_tree.specs.declared.files.SourceFile.TheVariants.{Program, UnitText, Module}
use Rattle.unit_linker.specs.declared.graph.FileUses.{FileUses}
use Rattle.unit_linker.specs.declared.linking.Linked.{Linked}
use Rattle.unit_linker.specs.Graph.{Among, interface_of, interface_in, implementation_of, implementation_in, IsClosed, IsCycle, IsFirstCycle, IsOrder}
use Rattle.unit_linker.specs.Files.{is_program, span_of, first_missing, all_uses, interface_uses, implementation_uses, Names, named_from, named, place_of, places, uses_of, graph_of, double, missing, IsOneProgram}
use Rattle.unit_linker.specs.Faults.{IsSound, span_at}
use Rattle.unit_linker.specs.Slots.{slot_at, IsOnce}
use Rattle.unit_linker.specs.Linked.{IsLinked, IsOrdered}
use Rattle.unit_linker.proofs.OrderLaws.{order_once, order_used}
use Rattle.unit_linker.proofs.NoWay.{leads_nowhere}

-- ---- places of units

among_option : (o : Option ℕ) (l : List ℕ) (v : ℕ) → Among (cons_option o l) v → (o ≡ Some v) ⊎ Among l v
among_option None l v a = inr a
among_option (Some w) l v (inl e) = inl (ap Some e)
among_option (Some w) l v (inr a) = inr a

place_of_use : (names : Names) (uses : List Identifier) (v : ℕ) → Among (places names uses) v → (name : List ℕ) × (place_of names name ≡ Some v)
unfolding places
place_of_use names [] v a = absurd a
place_of_use names (i ∷ uses) v a = elim (among_option (place_of names i.name) _ v a) [ inl e ↦ (i.name, e) | inr b ↦ place_of_use names uses v b ]

-- the file at this place is a unit
pub record IsUnitAt (files : List SourceFile) (place : ℕ) : Type 0 where
  pub file : SourceFile
  pub there : slice_get files place ≡ Some file
  pub is : is_program file ≡ false

cond_some : (b : Bool) (k p : ℕ) (o : Option ℕ) → cond b (Some k) o ≡ Some p → (k ≡ p) ⊎ (o ≡ Some p)
cond_some true k p o h = let e : k ≡ p = cc in inl e
cond_some false k p o h = inr h

abbrev UnitFrom : ℕ → List SourceFile → ℕ → Type 0
UnitFrom k files p = (k ≤ p) × IsUnitAt files (p - k)

later : (k : ℕ) (file : SourceFile) (files : List SourceFile) (p : ℕ) → UnitFrom (suc k) files p → UnitFrom k (file ∷ files) p
later k file files p h =
    let e : suc (p - suc k) ≡ p - k = let l = h.0 in omega arith in
    (let l = h.0 in omega arith, subst (IsUnitAt (file ∷ files)) e (record { file = h.1.file; there = h.1.there; is = h.1.is }))

here : (k : ℕ) (file : SourceFile) (files : List SourceFile) (p : ℕ) → is_program file ≡ false → k ≡ p → UnitFrom k (file ∷ files) p
here k file files p i e =
    let z : 0 ≡ p - k = omega arith in
    (omega arith, subst (IsUnitAt (file ∷ files)) z (record { file = file; there = refl; is = i }))

unit_named : (k : ℕ) (files : List SourceFile) (name : List ℕ) (p : ℕ) → place_of (named_from k files) name ≡ Some p → UnitFrom k files p
unfolding named_from
unit_named k [] name p h = absurd cc
unit_named k (Program q ∷ files) name p h = later k (Program q) files p (unit_named (suc k) files name p h)
unit_named k (UnitText u ∷ files) name p h =
    elim (cond_some (bytes_eq name u.name.name) k p _ h) [ inl e ↦ here k (UnitText u) files p refl e | inr m ↦ later k (UnitText u) files p (unit_named (suc k) files name p m) ]
unit_named k (Module m ∷ files) name p h =
    elim (cond_some (bytes_eq name m.name.name) k p _ h) [ inl e ↦ here k (Module m) files p refl e | inr more ↦ later k (Module m) files p (unit_named (suc k) files name p more) ]

unit_at_place : (files : List SourceFile) (name : List ℕ) (p : ℕ) → place_of (named files) name ≡ Some p → IsUnitAt files p
unfolding named
unit_at_place files name p h = let z : p - 0 ≡ p = omega arith in subst (IsUnitAt files) z (unit_named 0 files name p h).1

pub used_is_unit : (files : List SourceFile) (uses : List Identifier) (v : ℕ) → Among (places (named files) uses) v → IsUnitAt files v
used_is_unit files uses v a = let p = place_of_use (named files) uses v a in unit_at_place files p.0 v p.1

some_within : {A : Type 0} (xs : List A) (n : ℕ) (x : A) → slice_get xs n ≡ Some x → n < length xs
some_within [] n x h = absurd cc
some_within (y ∷ xs) zero x h = omega arith
some_within (y ∷ xs) (suc n) x h = let l = some_within xs n x h in omega (arith, l)

unit_within : (files : List SourceFile) (v : ℕ) → IsUnitAt files v → v < length files
unit_within files v u = some_within files v u.file u.there

-- ---- the graph

interface_is : (names : Names) (files : List SourceFile) (u v : ℕ) → Among (interface_of (map (uses_of names) files) u) v → (uses : List Identifier) × Among (places names uses) v
unfolding interface_of interface_in uses_of
interface_is names [] u v a = absurd a
interface_is names (f ∷ files) zero v a = (interface_uses f, a)
interface_is names (f ∷ files) (suc u) v a = interface_is names files u v a

implementation_is : (names : Names) (files : List SourceFile) (u v : ℕ) → Among (implementation_of (map (uses_of names) files) u) v → (uses : List Identifier) × Among (places names uses) v
unfolding implementation_of implementation_in uses_of
implementation_is names [] u v a = absurd a
implementation_is names (f ∷ files) zero v a = (implementation_uses f, a)
implementation_is names (f ∷ files) (suc u) v a = implementation_is names files u v a

interface_units : (files : List SourceFile) (u v : ℕ) → Among (interface_of (graph_of files) u) v → IsUnitAt files v
unfolding graph_of
interface_units files u v a = let i = interface_is (named files) files u v a in used_is_unit files i.0 v i.1

implementation_units : (files : List SourceFile) (u v : ℕ) → Among (implementation_of (graph_of files) u) v → IsUnitAt files v
unfolding graph_of
implementation_units files u v a = let i = implementation_is (named files) files u v a in used_is_unit files i.0 v i.1

mapped_length : {A B : Type 0} (f : A → B) (xs : List A) → length (map f xs) ≡ length xs
mapped_length f [] = refl
mapped_length f (x ∷ xs) = ap suc (mapped_length f xs)

graph_length : (files : List SourceFile) → length (graph_of files) ≡ length files
unfolding graph_of
graph_length files = mapped_length (uses_of (named files)) files

pub graph_closed : (files : List SourceFile) → IsClosed (graph_of files)
graph_closed files =
    let l = graph_length files in
    record {
      interface = λ u v a. let w = unit_within files v (interface_units files u v a) in omega (arith, l, w);
      implementation = λ u v a. let w = unit_within files v (implementation_units files u v a) in omega (arith, l, w);
    }

pub interface_within : (files : List SourceFile) (u v : ℕ) → Among (interface_of (graph_of files) u) v → v < length (graph_of files)
interface_within files u v a = (graph_closed files).interface u v a

uses_at : (names : Names) (files : List SourceFile) (place : ℕ) (file : SourceFile) → slice_get files place ≡ Some file → interface_of (map (uses_of names) files) place ≡ places names (interface_uses file)
unfolding interface_of interface_in uses_of
uses_at names [] place file h = absurd cc
uses_at names (f ∷ files) zero file h = let e : f ≡ file = cc in ap (λ x. places names (interface_uses x)) e
uses_at names (f ∷ files) (suc place) file h = uses_at names files place file h

graph_uses_at : (files : List SourceFile) (place : ℕ) (file : SourceFile) → slice_get files place ≡ Some file → interface_of (graph_of files) place ≡ places (named files) (interface_uses file)
unfolding graph_of
graph_uses_at files place file h = uses_at (named files) files place file h

-- ---- the order

pub ordered_once : (files : List SourceFile) (program : ℕ) (order : List ℕ) → IsOrdered files program order → IsOnce order
ordered_once files program order o = order_once (graph_of files) _ order o.acyclic o.ordered

pub program_apart : (files : List SourceFile) (program : ℕ) (order : List ℕ) → IsOneProgram files program → IsOrdered files program order → Among order program → ⊥
program_apart files program order p o a =
    let u = order_used (graph_of files) (IsUnitAt files) (interface_units files) (implementation_units files) _ order o.ordered (interface_units files program) program a in
    let same : p.program ≡ u.file = (let e = sym p.there ∙ u.there in cc) in
    let b : true ≡ false = sym p.is ∙ ap is_program same ∙ u.is in
    absurd cc

slot_of_some : (files : List SourceFile) (v : ℕ) → slot_at (map Some files) v ≡ slice_get files v
slot_of_some [] v = refl
slot_of_some (f ∷ files) zero = refl
slot_of_some (f ∷ files) (suc v) = slot_of_some files v

pub slot_of : (files : List SourceFile) (slots : List (Option SourceFile)) (v : ℕ) → slots ≡ map Some files → slot_at slots v ≡ slice_get files v
slot_of files slots v h = ap (λ l. slot_at l v) h ∙ slot_of_some files v

same_filter : (f g : ℕ → Option SourceFile) → ((v : ℕ) → f v ≡ g v) → (us : List ℕ) → filter_map f us ≡ filter_map g us
same_filter f g h [] = refl
same_filter f g h (u ∷ us) = ap (λ o. cons_option o (filter_map f us)) (h u) ∙ ap (cons_option (g u)) (same_filter f g h us)

pub files_taken : (files : List SourceFile) (slots : List (Option SourceFile)) (order : List ℕ) → slots ≡ map Some files → filter_map (slot_at slots) order ≡ filter_map (slice_get files) order
files_taken files slots order h = same_filter (slot_at slots) (slice_get files) (λ v. slot_of files slots v h) order

pub linked_is : (files : List SourceFile) (place : ℕ) (order : List ℕ) (linked : Linked) → IsOneProgram files place → IsOrdered files place order → slice_get files place ≡ Some linked.program
    → linked.units.items ≡ filter_map (slice_get files) order → IsLinked files linked
linked_is files place order linked p o h k =
    let same : p.program ≡ linked.program = (let e = sym p.there ∙ h in cc) in
    record {
      program = p.one ∙ ap (λ f. f ∷ []) same;
      once = o.sound.once;
      given = o.sound.given;
      acyclic = o.acyclic;
      order = order;
      ordered = subst (λ uses. IsOrder (graph_of files) uses order) (graph_uses_at files place linked.program h) o.ordered;
      units = k;
    }

-- ---- the parts of linking

pub closed_as : (files : List SourceFile) (graph : List FileUses) → graph ≡ graph_of files → IsClosed graph
closed_as files graph h = subst IsClosed (sym h) (graph_closed files)

pub within_as : (files : List SourceFile) (graph : List FileUses) (uses : List ℕ) (program : ℕ) → graph ≡ graph_of files → uses ≡ interface_of graph program → (v : ℕ) → Among uses v → v < length graph
within_as files graph uses program h k v a =
    let within = interface_within files program v (subst (λ g. Among (interface_of g program) v) h (subst (λ l. Among l v) k a)) in
    subst (λ g. v < length g) (sym h) within

there_at : (files : List SourceFile) (place : ℕ) → place < length files → IsSome (option_map span_of (slice_get files place))
there_at [] place h = absurd (omega arith)
there_at (f ∷ files) zero h = refl
there_at (f ∷ files) (suc place) h = there_at files place (omega arith)

starts_within : (files : List SourceFile) (cycle : List ℕ) → IsCycle (graph_of files) cycle → IsSome (span_at files cycle)
unfolding IsCycle
starts_within files [] c = absurd c
starts_within files (u ∷ path) c = elim (past (length (graph_of files))) [ inl l ↦ there_at files u (omega (arith, graph_length files)) | inr m ↦ absurd (leads_nowhere (graph_of files) u u path m c) ]
  where
    past : (n : ℕ) → (u < n) ⊎ (n ≤ u)
    past n = grind arith

pub span_there : (files : List SourceFile) (graph : List FileUses) (cycle places : List ℕ) → graph ≡ graph_of files → IsFirstCycle graph cycle → places ≡ cycle → IsSome (span_at files places)
span_there files graph cycle places h first e =
    subst (λ l. IsSome (span_at files l)) (sym e) (starts_within files cycle (subst (λ g. IsCycle g cycle) h first.returns))

some_missing : (o : Option Identifier) (span : Span) → option_map (λ (name : Identifier). name.span) o ≡ Some span → (name : Identifier) × (o ≡ Some name) × (span ≡ name.span)
some_missing None span h = absurd cc
some_missing (Some name) span h = let e : name.span ≡ span = cc in (name, refl, sym e)

none_missing : (o : Option Identifier) → option_map (λ (name : Identifier). name.span) o ≡ None → o ≡ None
none_missing None h = refl
none_missing (Some name) h = absurd cc

pub missing_is : (files : List SourceFile) (names : Names) (o : Option Span) (span : Span) → names ≡ named files → o ≡ option_map (λ (name : Identifier). name.span) (first_missing names (all_uses files)) → o ≡ Some span
    → (name : Identifier) × (missing files ≡ Some name) × (span ≡ name.span)
unfolding missing
missing_is files names o span h k e = some_missing (missing files) span (ap (λ n. option_map (λ (name : Identifier). name.span) (first_missing n (all_uses files))) (sym h) ∙ sym k ∙ e)

pub sound_is : (files : List SourceFile) (names : Names) (o : Option Span) → double files ≡ None → names ≡ named files → o ≡ option_map (λ (name : Identifier). name.span) (first_missing names (all_uses files)) → o ≡ None → IsSound files
unfolding missing
sound_is files names o once h k e =
    record { once = once; given = none_missing (missing files) (ap (λ n. option_map (λ (name : Identifier). name.span) (first_missing n (all_uses files))) (sym h) ∙ sym k ∙ e) }

pub graph_is : (files : List SourceFile) (names : Names) (graph list : List FileUses) → list ≡ graph → graph ≡ map (uses_of names) files → names ≡ named files → list ≡ graph_of files
unfolding graph_of
graph_is files names graph list e h k = e ∙ h ∙ ap (λ n. map (uses_of n) files) k
