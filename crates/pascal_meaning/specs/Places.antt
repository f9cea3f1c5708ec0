-- Places: how they are selected, read, referred to and stored into, with the checks of variants.
use Rattle.std.specs.Prelude.{ℕ, suc, ◌-ℤ◌, ℤ, pos, Bool, true, false, ◌&&◌, nat_eq, int_le, unsigned_abs, List, [], ◌∷◌, ◌++◌, Option, Some, None}
use Rattle.p2c_text.specs.declared.dialect.Dialect.{Dialect}
use Rattle.p2c_text.specs.declared.dialect.Dialect.TheVariants.{Turbo}
use Rattle.typed_tree.specs.declared.types.Types.{Types}
use Rattle.typed_tree.specs.declared.types.PasType.{PasType}
use Rattle.typed_tree.specs.declared.types.PasType.TheVariants.{Ordinal, Pointer, Array, DynString, RecordOf as RecordType, SetOf as SetType}
use Rattle.typed_tree.specs.declared.types.LabelRange.{LabelRange}
use Rattle.typed_tree.specs.declared.declarations.VarDecl.{VarDecl}
use Rattle.typed_tree.specs.declared.expressions.Root.{Root}
use Rattle.typed_tree.specs.declared.expressions.Root.TheVariants as root
use Rattle.typed_tree.specs.Ranges.{type_at, Range}
use Rattle.typed_tree.specs.Fields.{Variant, Choice, variants_around, tag_choice}
use Rattle.meanings.specs.declared.errors.RuntimeError.TheVariants.{NilUse, InactiveVariant}
use Rattle.meanings.specs.Values.{Tree, Undefined, Whole, SetOf, NilPointer, HeapNumber, ArrayOf, RecordOf, Heap, AtIndex, AtField, Reference}
use Rattle.meanings.specs.Worlds.{View}
use Rattle.meanings.specs.Outcomes.{Malformed, Checked, Passes, Fails, Lacks, Misfits, ◌&>◌, expect}
use Rattle.meanings.specs.Programs.{Setting, Prog, ◌>>=◌, ◌>>◌, pure, stop, choose, ask, check, update, of_types}
use Rattle.meanings.specs.Names.{find_name}
use Rattle.meanings.specs.Memory.{base_tree, tree_at, stored, kept, solid_at, slot_place, longer}
use Rattle.meanings.specs.Fresh.{fresh, is_type}
use Rattle.pascal_meaning.specs.Numbers.{when, in_range, number_of}
use Rattle.pascal_meaning.specs.Sets.{set_of, fits_base}
use Rattle.pascal_meaning.specs.Texts.{text_of, read_text, limited, made, filled}

-- a variant around a place, in the record at this reference
pub record Guard : Type 0 where
  pub around : Reference
  pub part : Choice
  pub variant : Variant

-- a place that was selected
pub record Spot : Type 0 where
  pub at : Reference
  pub of : ℕ
  -- the variants with hidden tags on the way, the outermost first
  pub guards : List Guard
  -- where it is a tag with a name, its variant part and the record that has it
  pub tag : Option (Reference × Choice)

-- ---- variants

unfoldable pub among : List LabelRange → ℤ → Bool
among [] z = false
among (r ∷ rs) z = elim (int_le r.first z && int_le z r.last) [ true ↦ true | false ↦ among rs z ]

-- the variant that a tag's value selects, with its number, counted from n on
unfoldable pub selection_from : ℕ → List Variant → ℤ → Option (ℕ × Variant)
selection_from n [] z = None
selection_from n (v ∷ vs) z = elim (among v.labels z) [ true ↦ Some (n, v) | false ↦ selection_from (suc n) vs z ]

unfoldable pub selection : List Variant → Checked Tree → Option (ℕ × Variant)
selection vs (Passes (Whole z)) = selection_from 0 vs z
selection vs _ = None

unfoldable pub same_selection : Option (ℕ × Variant) → Option (ℕ × Variant) → Bool
same_selection None None = true
same_selection (Some v) (Some w) = nat_eq v.0 w.0
same_selection _ _ = false

unfoldable pub selected_fields : Option (ℕ × Variant) → List VarDecl
selected_fields None = []
selected_fields (Some v) = v.1.fields

unfoldable pub tag_of : Reference → Choice → Reference
tag_of r part = longer r (AtField part.tag)

-- these fields of a record, undefined
unfoldable pub cleared : Types → Reference → List VarDecl → View → Checked View
cleared types r [] v = Passes v
cleared types r (f ∷ fs) v = expect (is_type types f.of) &> λ u. stored v (longer r (AtField f.decl)) (fresh types f.of) &> λ v. cleared types r fs v

unfoldable pub changed_fields : Option (ℕ × Variant) → Option (ℕ × Variant) → List VarDecl
changed_fields old new = elim (same_selection old new) [ true ↦ [] | false ↦ selected_fields old ++ selected_fields new ]

-- another value for a tag: where it selects another variant, the fields of both become undefined
unfoldable pub retagged : Types → Reference → Choice → ℤ → View → Checked View
retagged types r part z v = cleared types r (changed_fields (selection part.variants (tree_at v (tag_of r part))) (selection part.variants (Passes (Whole z)))) v
    &> λ v. stored v (tag_of r part) (Whole z)

unfoldable pub first_label : List LabelRange → ℤ
first_label [] = pos 0
first_label (r ∷ rs) = r.first

-- the variants with hidden tags, selected
unfoldable pub settled : Types → List Guard → View → Checked View
settled types [] v = Passes v
settled types (g ∷ gs) v = retagged types g.around g.part (first_label g.variant.labels) v &> λ v. settled types gs v

-- a tag is read, and has to select the variant
unfoldable pub confirm : Guard → Prog (Unit {0})
confirm g = ask (λ s v. solid_at v (tree_at v (tag_of g.around g.part))) >>= λ t. check (λ types. number_of t &> λ z. when (among g.variant.labels z) InactiveVariant tt)

unfoldable pub confirm_all : List Guard → Prog (Unit {0})
confirm_all [] = pure tt
confirm_all (g ∷ gs) = confirm g >> confirm_all gs

-- ---- selecting

unfoldable pub not_into_gone : View → Checked Reference → Checked Reference
not_into_gone v c = c &> λ r. kept (base_tree v r.base) r

unfoldable pub place_named : ℕ → Setting → View → Checked Reference
place_named d s v = not_into_gone v (slot_place d (find_name v.activations s.here d))

unfoldable pub root_in : Root → Setting → View → Checked Reference
root_in (root.Variable d t) s v = place_named d s v
root_in (root.WithRef d t) s v = place_named d s v
root_in (root.Outcome d t) s v = place_named d s v
root_in root.Input s v = Misfits

unfoldable pub root_type : Root → ℕ
root_type (root.Variable d t) = t
root_type (root.WithRef d t) = t
root_type (root.Outcome d t) = t
root_type root.Input = 0

unfoldable pub plain : Reference → ℕ → Spot
plain r t = record { at = r; of = t; guards = []; tag = None }

unfoldable pub root_spot : Root → Prog Spot
root_spot r = ask (root_in r) >>= λ at. pure (plain at (root_type r))

-- the guards of a field: a tag with a name is read at once, a hidden one is kept for what the place is for
unfoldable pub guards_through : Reference → List Guard → List (Choice × Variant) → Prog (List Guard)
guards_through r gs [] = pure gs
guards_through r gs (v ∷ vs) = choose v.0.hidden
    (guards_through r (gs ++ (record { around = r; part = v.0; variant = v.1 } ∷ [])) vs)
    (confirm_all gs >> confirm (record { around = r; part = v.0; variant = v.1 }) >> guards_through r gs vs)

unfoldable pub tagged : Reference → Option Choice → Option (Reference × Choice)
tagged r None = None
tagged r (Some part) = Some (r, part)

unfoldable pub field_spot : ℕ → ℕ → Spot → Prog Spot
field_spot f t p = of_types (λ types. variants_around (type_at types p.of) f) >>= λ vs. guards_through p.at p.guards vs >>= λ gs.
    of_types (λ types. record { at = longer p.at (AtField f); of = t; guards = gs; tag = tagged p.at (tag_choice (type_at types p.of) f) })

-- which values an index may have
pub data Reach : Type 0 where
  InRange : ℤ × ℤ → Reach
  ToLength : Reach
  NoIndex : Reach

unfoldable pub ranged : Option (ℤ × ℤ) → Reach
ranged None = NoIndex
ranged (Some r) = InRange r

unfoldable pub cells_reach : Dialect → ℕ → Reach
cells_reach Turbo limit = InRange (pos 0, pos limit)
cells_reach _ limit = ToLength

unfoldable pub reach_of : Types → Option PasType → Reach
reach_of types (Some (Array packed index component)) = ranged (Range types index)
reach_of types (Some (DynString limit)) = cells_reach types.dialect limit
reach_of types _ = NoIndex

-- the index of the first component
unfoldable pub origin : Reach → ℤ
origin (InRange r) = r.0
origin _ = pos 0

-- the bounds of an index; up to the length, cell 0 is read
unfoldable pub bounds_of : Reach → Spot → Prog (ℤ × ℤ)
bounds_of (InRange r) p = pure r
bounds_of ToLength p = confirm_all p.guards >> ask (λ s v. solid_at v (tree_at v (longer p.at (AtIndex 0)))) >>= λ c. check (λ types. number_of c &> λ n. Passes (pos 1, n))
bounds_of NoIndex p = stop Malformed

unfoldable pub component : Spot → ℕ → ℕ → Spot
component p t i = record { at = longer p.at (AtIndex i); of = t; guards = p.guards; tag = None }

unfoldable pub index_spot : ℕ → ℕ → Spot → Tree → Prog Spot
index_spot array t p index = of_types (λ types. reach_of types (type_at types array)) >>= λ reach. bounds_of reach p >>= λ r.
    check (λ types. number_of index &> λ z. in_range (Some r) z) >>= λ z. pure (component p t (unsigned_abs (z -ℤ origin reach)))

-- a pointer, nil or not
unfoldable pub pointer_of : Tree → Checked Tree
pointer_of NilPointer = Passes NilPointer
pointer_of (HeapNumber h) = Passes (HeapNumber h)
pointer_of Undefined = Lacks
pointer_of _ = Misfits

unfoldable pub pointed : Tree → Checked ℕ
pointed NilPointer = Fails NilUse
pointed (HeapNumber h) = Passes h
pointed Undefined = Lacks
pointed _ = Misfits

-- ---- what a place is for

-- a value; arrays and records are copied
unfoldable pub read_spot : Spot → Prog Tree
read_spot p = confirm_all p.guards >> ask (λ s v. solid_at v (tree_at v p.at))

unfoldable pub follow_spot : ℕ → Spot → Prog Spot
follow_spot t p = read_spot p >>= λ v. check (λ types. pointed v) >>= λ h. pure (plain (record { base = Heap h; path = [] }) t)

-- a reference, which is never checked again
unfoldable pub refer : Spot → Prog Reference
refer p = update (λ types v. settled types p.guards v) >> pure p.at

unfoldable pub put_tree : Option PasType → Reference → Tree → View → Checked View
put_tree (Some (DynString limit)) r (ArrayOf ts) v = tree_at v r &> λ old. filled ts old &> λ new. stored v r new
put_tree type r t v = stored v r t

unfoldable pub put : Types → Spot → Tree → View → Checked View
put types p t v = elim p.tag [ Some tag ↦ number_of t &> λ z. retagged types tag.0 tag.1 z v | None ↦ put_tree (type_at types p.of) p.at t v ]

unfoldable pub put_settled : Types → Spot → Tree → View → Checked View
put_settled types p t v = settled types p.guards v &> λ v. put types p t v

-- a value of the place's type is stored; a text goes into a dynamic string
unfoldable pub store : Spot → Tree → Prog (Unit {0})
store p t = update (λ types v. put_settled types p t v)

unfoldable pub copy_settled : Types → Spot → Tree → View → Checked View
copy_settled types p t v = settled types p.guards v &> λ v. stored v p.at t

-- a copy, as of a component
unfoldable pub store_copy : Spot → Tree → Prog (Unit {0})
store_copy p t = update (λ types v. copy_settled types p t v)

-- ---- conversion to the type of a target

unfoldable pub base_range : Types → Option ℕ → Option (ℤ × ℤ)
base_range types None = None
base_range types (Some t) = Range types t

-- a value of the second type for a target of the first: checked, and a text for a dynamic string is read
unfoldable pub fitted : Types → Option PasType → Option PasType → Tree → Checked Tree
fitted types (Some (Ordinal host first last)) source t = number_of t &> λ z. in_range (Some (first, last)) z &> λ z. Passes (Whole z)
fitted types (Some (SetType packing base)) source t = set_of t &> λ ms. fits_base (base_range types base) ms &> λ ms. Passes (SetOf ms)
fitted types (Some (DynString limit)) source t = read_text (text_of source t) &> λ bs. limited types.dialect limit bs &> λ bs. Passes (made bs)
fitted types (Some (Pointer domain)) source t = pointer_of t
fitted types (Some (Array packed index component)) source (ArrayOf ts) = Passes (ArrayOf ts)
fitted types (Some (RecordType packed fields variants)) source (RecordOf fs) = Passes (RecordOf fs)
fitted types target source t = Misfits

unfoldable pub assigned : Types → (target : ℕ) → (source : Option PasType) → Tree → Checked Tree
assigned types target source t = fitted types (type_at types target) source t

-- a new variable with this value
unfoldable pub as_new : Option PasType → Tree → Tree → Checked Tree
as_new (Some (DynString limit)) (ArrayOf ts) new = filled ts new
as_new type t new = Passes t

-- the value of a parameter
unfoldable pub converted : Types → (target : ℕ) → (source : Option PasType) → Tree → Checked Tree
converted types target source t = assigned types target source t &> λ t. as_new (type_at types target) t (fresh types target)

-- a value is checked, converted and stored
unfoldable pub assign : Spot → (source : Option PasType) → Tree → Prog (Unit {0})
assign p source t = check (λ types. assigned types p.of source t) >>= λ t. store p t
