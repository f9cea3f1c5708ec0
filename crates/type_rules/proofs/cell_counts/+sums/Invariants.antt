use Rattle.std.proofs.Common.{◌≡◌, ◌+◌, ◌≤◌, sum_by, length}
use Rattle.typed_tree.specs.Ranges.{type_at}
use Rattle.type_rules.specs.Cells.{cells_within, fields_cells, arm_cells}
use Rattle.type_rules.proofs.CellSteps.{steps_within, type_steps, fields_steps, variants_steps, part_steps, arm_steps}
use Rattle.type_rules.proofs.cell_counts.+sums.Given as goal

abbrev pub decreases-add_type : goal.decreases-add_type
decreases-add_type l = type_steps (steps_within l.levels l.types.now) (type_at l.types.now l.t)

abbrev pub decreases-add_component : goal.decreases-add_component
decreases-add_component l = steps_within l.levels l.types.now l.t

abbrev pub decreases-add_array : goal.decreases-add_array
decreases-add_array l = 1 + steps_within l.levels l.types.now l.component

abbrev pub decreases-add_fields : goal.decreases-add_fields
decreases-add_fields l = fields_steps (steps_within l.levels l.types.now) l.fields.now

abbrev pub decreases-add_variants : goal.decreases-add_variants
decreases-add_variants l = variants_steps (steps_within l.levels l.types.now) l.variants.now

abbrev pub decreases-add_part : goal.decreases-add_part
decreases-add_part l = part_steps (steps_within l.levels l.types.now) l.part.now

abbrev pub decreases-add_arms : goal.decreases-add_arms
decreases-add_arms l = 1 + sum_by (arm_steps (steps_within l.levels l.types.now)) l.arms.now

abbrev pub decreases-add_arm : goal.decreases-add_arm
decreases-add_arm l = arm_steps (steps_within l.levels l.types.now) l.arm.now

abbrev pub invariant-add_fields-loop-rest : goal.invariant-add_fields-loop-rest
invariant-add_fields-loop-rest l = record {
  within : l.cells ≤ 4194304;
  total : l.cells + fields_cells (cells_within l.levels l.types) l.rest ≡ l.fn.so_far + fields_cells (cells_within l.levels l.types) l.fn.fields;
  smaller : fields_steps (steps_within l.levels l.types) l.rest ≤ fields_steps (steps_within l.levels l.types) l.fn.fields;
}

abbrev pub decreases-add_fields-loop-rest : goal.decreases-add_fields-loop-rest
decreases-add_fields-loop-rest l = length l.rest

abbrev pub invariant-add_arms-loop-rest : goal.invariant-add_arms-loop-rest
invariant-add_arms-loop-rest l = record {
  within : l.cells ≤ 4194304;
  total : l.cells + sum_by (arm_cells (cells_within l.levels l.types)) l.rest ≡ l.fn.so_far + sum_by (arm_cells (cells_within l.levels l.types)) l.fn.arms;
  smaller : sum_by (arm_steps (steps_within l.levels l.types)) l.rest ≤ sum_by (arm_steps (steps_within l.levels l.types)) l.fn.arms;
}

abbrev pub decreases-add_arms-loop-rest : goal.decreases-add_arms-loop-rest
decreases-add_arms-loop-rest l = length l.rest
