-- One name that unfolds all: a worked example says `unfolding run`, and a proof about a step `unfolding step`.
use Rattle.std.specs.Prelude.{ℕ, List}
use Rattle.c_tree.specs.declared.program.CProgram.{CProgram}
use Rattle.c_meaning.specs.Answer.{◌>>=◌, or_bad, when, or_else}
use Rattle.c_meaning.specs.Cells.{joined_option, block_at, child, of_part, part, with_child, with_part}
use Rattle.c_meaning.specs.Types.{type_eq, result_eq, types_eq, signature_eq, members_of, typedef_of, member_type, member_from, type_at, child_type_in, child_type, part_type, is_pointer, names_signature, alike, points_to_object}
use Rattle.c_meaning.specs.Values.{int, word, truth, value_of, int_cell, word_cell, leaf, as_int, as_word, is_zero, fits_int, exact, on_ints, on_words, divided, ordered, cell_eq, equal, shift_count, shifted, shift, shifted_left, shifted_right, truth_of, binary, joined, complement, unary, to_word, to_int, int_of_cell, word_of_cell, byte_of, converted}
use Rattle.c_meaning.specs.Evaluate.{member, element, onward, root_block, root_number, read_cell, read_tree, read_as, load, follow_cell, follow, pointer_to, address, retyped, is_plain, holds_type, struct_pointer, cast, function_value, name_value, no_variable, variable, read_place, values, value, place}
use Rattle.c_meaning.specs.Fresh.{object_tree, copies, member_tree, members_tree, struct_tree, fresh, fresh_block, fresh_blocks}
use Rattle.c_meaning.specs.Entries.{with_digit, with_byte, tail_number, number_after, number_at_end, with_entry}
use Rattle.c_meaning.specs.States.{State, lookup, global_from, number_of, function_of, reach_of, variable_type, announced, written, signature_of, numbered, changed, store, store_named, without, view}
use Rattle.c_meaning.specs.Todo.{onto, from_label_of, from_label, from_label_in}
use Rattle.c_meaning.specs.Steps.{Next, next, to_do, with_blocks, taken, put_root, put_value, assign, malloc, free_block, free_cell, free_value, next_byte, after_byte, get_char, put_byte, put_char, called_cell, called_value, called, target_of, parameter_blocks, names_from, enter, call, result_of, returned, answered, in_status, status_of, finish, leave_to, leave, leave_with, branch, go_on, do_statement, view_of, do_next, CStep}
use Rattle.c_meaning.specs.Runs.{CAnswer, start, run_from, answer_of, CRun}

-- one step
unfoldable pub step : CProgram → State → Next
unfolding ◌>>=◌ or_bad when or_else joined_option block_at child of_part part with_child with_part type_eq result_eq types_eq signature_eq members_of typedef_of member_type member_from type_at child_type_in child_type part_type is_pointer names_signature alike points_to_object int word truth value_of int_cell word_cell leaf as_int as_word is_zero fits_int exact on_ints on_words divided ordered cell_eq equal shift_count shifted shift shifted_left shifted_right truth_of binary joined complement unary to_word to_int int_of_cell word_of_cell byte_of converted member element onward root_block root_number read_cell read_tree read_as load follow_cell follow pointer_to address retyped is_plain holds_type struct_pointer cast function_value name_value no_variable variable read_place values value place object_tree copies member_tree members_tree struct_tree fresh fresh_block fresh_blocks with_digit with_byte tail_number number_after number_at_end with_entry lookup global_from number_of function_of reach_of variable_type announced written signature_of numbered changed store store_named without view onto from_label_of from_label from_label_in next to_do with_blocks taken put_root put_value assign malloc free_block free_cell free_value next_byte after_byte get_char put_byte put_char called_cell called_value called target_of parameter_blocks names_from enter call result_of returned answered in_status status_of finish leave_to leave leave_with branch go_on do_statement view_of do_next CStep
step c st = CStep c st

-- the answer after m steps
unfoldable pub run : CProgram → (input : List ℕ) → (m : ℕ) → CAnswer
unfolding step start run_from answer_of CRun
run c input m = CRun c input m
