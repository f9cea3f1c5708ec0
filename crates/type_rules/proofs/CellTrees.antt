-- Cells and calls of the parts of types, as programs see them.
use Rattle.std.proofs.Common.{◌≡◌, ℕ, suc, ◌+◌, sum_by, Option, refl, sym, ap, ◌∙◌}
use Rattle.std.proofs.lemmas.List.Sums.{sum_by-cons}
use Rattle.typed_tree.specs.declared.types.VariantPart as P
use Rattle.typed_tree.specs.declared.types.VariantPart.{VariantPart}
use Rattle.typed_tree.specs.declared.types.VariantArm as A
use Rattle.typed_tree.specs.declared.types.VariantArm.{VariantArm}
use Rattle.typed_tree.specs.Ranges.{type_at}
use Rattle.typed_tree.specs.declared.types.PasType.{PasType}
use Rattle.typed_tree.specs.declared.types.Types.{Types}
use Rattle.type_rules.specs.Cells.{type_cells, cells_within, fields_cells, tag_cells, part_cells, arms_cells, arm_cells, inner_cells, variants_cells}
use Rattle.type_rules.proofs.CellSteps.{fields_steps, part_steps, arms_steps, arm_steps, inner_steps, variants_steps}

arms_list : (f : ℕ → ℕ) {n : _} (row : P.Row_of-VariantArm n) → arms_cells f row ≡ sum_by (arm_cells f) (P.items-the_row-VariantArm n row)
unfolding part_cells
arms_list f P.end_of-VariantArm = refl
arms_list f (P.more_of-VariantArm {n = n} a rest) = ap (λ m. arm_cells f a + m) (arms_list f rest) ∙ sym (sum_by-cons (arm_cells f) a (P.items-the_row-VariantArm n rest))

pub part_open : (f : ℕ → ℕ) (p : VariantPart) → part_cells f p ≡ tag_cells f (P.out-VariantPart p).name (P.out-VariantPart p).of + sum_by (arm_cells f) (P.out-VariantPart p).arms
unfolding part_cells
part_open f (P.VariantPart' tag name of shape row) =
    ap (λ n. tag_cells f name of + n) (arms_list f row ∙ ap (sum_by (arm_cells f)) (sym (P.items_shown-the_row-VariantArm-1 shape row)))
    ∙ ap (λ r. tag_cells f r.name r.of + sum_by (arm_cells f) r.arms) (sym (P.outs-VariantPart' tag name of shape row))

inner_open : (f : ℕ → ℕ) (inner : A.Held-VariantArm-variants) → inner_cells f inner ≡ variants_cells f (A.view-VariantArm-variants inner)
unfolding part_cells variants_cells
inner_open f A.None' = refl
inner_open f (A.Some' p (A.more_of-VariantPart part A.end_of-VariantPart)) =
    let same = A.items_shown-the_row-VariantPart-0 p (A.more_of-VariantPart part A.end_of-VariantPart) in
    cc

pub arm_open : (f : ℕ → ℕ) (a : VariantArm) → arm_cells f a ≡ fields_cells f (A.out-VariantArm a).fields + variants_cells f (A.out-VariantArm a).variants
unfolding part_cells
arm_open f (A.VariantArm' labels fields inner) =
    ap (λ n. fields_cells f fields + n) (inner_open f inner)
    ∙ ap (λ r. fields_cells f r.fields + variants_cells f r.variants) (sym (A.outs-VariantArm' labels fields inner))

-- ---- calls

arms_steps_list : (f : ℕ → ℕ) {n : _} (row : P.Row_of-VariantArm n) → arms_steps f row ≡ sum_by (arm_steps f) (P.items-the_row-VariantArm n row)
unfolding part_steps
arms_steps_list f P.end_of-VariantArm = refl
arms_steps_list f (P.more_of-VariantArm {n = n} a rest) = ap (λ m. arm_steps f a + m) (arms_steps_list f rest) ∙ sym (sum_by-cons (arm_steps f) a (P.items-the_row-VariantArm n rest))

pub part_steps_open : (f : ℕ → ℕ) (p : VariantPart) → part_steps f p ≡ 2 + f (P.out-VariantPart p).of + sum_by (arm_steps f) (P.out-VariantPart p).arms
unfolding part_steps
part_steps_open f (P.VariantPart' tag name of shape row) =
    ap (λ n. 2 + f of + n) (arms_steps_list f row ∙ ap (sum_by (arm_steps f)) (sym (P.items_shown-the_row-VariantArm-1 shape row)))
    ∙ ap (λ r. 2 + f r.of + sum_by (arm_steps f) r.arms) (sym (P.outs-VariantPart' tag name of shape row))

inner_steps_open : (f : ℕ → ℕ) (inner : A.Held-VariantArm-variants) → inner_steps f inner ≡ variants_steps f (A.view-VariantArm-variants inner)
unfolding part_steps variants_steps
inner_steps_open f A.None' = refl
inner_steps_open f (A.Some' p (A.more_of-VariantPart part A.end_of-VariantPart)) =
    let same = A.items_shown-the_row-VariantPart-0 p (A.more_of-VariantPart part A.end_of-VariantPart) in
    cc

pub arm_steps_open : (f : ℕ → ℕ) (a : VariantArm) → arm_steps f a ≡ 1 + fields_steps f (A.out-VariantArm a).fields + variants_steps f (A.out-VariantArm a).variants
unfolding part_steps
arm_steps_open f (A.VariantArm' labels fields inner) =
    ap (λ n. 1 + fields_steps f fields + n) (inner_steps_open f inner)
    ∙ ap (λ r. 1 + fields_steps f r.fields + variants_steps f r.variants) (sym (A.outs-VariantArm' labels fields inner))

-- ---- types

pub cells_open : (n : ℕ) (types : Types) (t : ℕ) (o : Option PasType) → o ≡ type_at types t → cells_within (suc n) types t ≡ type_cells types (cells_within n types) o
unfolding cells_within
cells_open n types t o h = ap (type_cells types (cells_within n types)) (sym h)
