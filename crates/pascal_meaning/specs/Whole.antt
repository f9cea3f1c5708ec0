-- One name that unfolds all: a worked program says `unfolding run`, a worked primitive `unfolding perform_in`.
use Rattle.std.specs.Prelude.{ℕ, List, []}
use Rattle.typed_tree.specs.declared.declarations.Typed.{Typed}
use Rattle.typed_tree.specs.declared.types.Types.{Types}
use Rattle.meanings.specs.Values.{Tree}
use Rattle.meanings.specs.Worlds.{World}
use Rattle.pascal_meaning.specs.declared.operations.Primitive.{Primitive}
use Rattle.typed_tree.specs.Ranges.{type_at, range_of, Range, host_of, Hosted}
use Rattle.typed_tree.specs.Fields.{as_variable, part_fields, arms_fields, arm_fields, inner_fields, variant, variants_of, choice, has_field, deeper, around_part, around_arms, around_arm, around_inner, tag_in_part, tag_in_arms, tag_in_inner, optional_fields, record_fields, or_none, variants_around, tag_choice}
use Rattle.meanings.specs.Outcomes.{Outcome, ◌&>◌, there, expect}
use Rattle.meanings.specs.Programs.{◌>>=◌, ◌>>◌, pure, stop, choose, ask, check, change, print, record_entry, enter, handle, below, run_routine, turns, at_activation, here, update, of_types, collect}
use Rattle.meanings.specs.Names.{named, with_name, same_owner, is_fixed, find_name, enclosing, activation_at, with_slot, contains, block_of, label_owner}
use Rattle.meanings.specs.Memory.{item_at, field_at, child, subtree, with_item, with_field, with_child, with_subtree, held, names_of, not_gone, base_tree, within, tree_at, with_base, stored, kept, solid, solid_at, slot_place, longer}
use Rattle.meanings.specs.Fresh.{size_of, copies, fields_of, fresh_to, fresh, new_variables, each_is, is_type_to, is_type, have_types}
use Rattle.meanings.specs.Code.{Answer, routine_at, slot_of, formal_names, bound_names, result_variable, own_variables, is_of_kind, after_section, fit_formals, begins_well, new_activation, stands, all_stand, own_leave, result_read, result_in, result_of, activation, activate, extend, level, unit_activations, ends_line, closed_input, start, initial_parts, each_has_types, whole_program, cause_status, exit_answer, answer_of, answer}
use Rattle.pascal_meaning.specs.Numbers.{when, between, equal, exact, in_range, quotient, residue, modulo, word, of_word, power_of_two, shifted_left, shifted_right, of_bool, on_numbers, digits, decimal, number_of, numbers_of, holds, whole}
use Rattle.pascal_meaning.specs.Sets.{set_of, empty_set, zipped, everywhere, implies, same, has, is_member, on_sets, marked, with_member, with_members, lies_in, fits_base}
use Rattle.pascal_meaning.specs.Texts.{text_of, count, byte_of, cells_of, length_of, read_cells, read_text, read_texts, compare_cells, compare, is_comparison, relation, cells, made, limited, making, on_texts, over, filled}
use Rattle.pascal_meaning.specs.Places.{among, selection_from, selection, same_selection, selected_fields, tag_of, cleared, changed_fields, retagged, first_label, settled, confirm, confirm_all, not_into_gone, place_named, root_in, root_type, plain, root_spot, guards_through, tagged, field_spot, ranged, cells_reach, reach_of, origin, bounds_of, component, index_spot, pointer_of, pointed, read_spot, follow_spot, refer, put_tree, put, put_settled, store, copy_settled, store_copy, base_range, fitted, assigned, as_new, converted, assign}
use Rattle.pascal_meaning.specs.Input.{take_by, seen, next_char, look_ahead, at_end, at_line_end, is_blank, is_digit, after_blanks, number_from, signed, next_digits, next_signed, line_part, next_string, after_line, skip_line, numbered, next_value, read_into, read_line, get_char}
use Rattle.pascal_meaning.specs.Output.{width_of, places, padded, shown_length, shown_text, truth_text, shown, written}
use Rattle.pascal_meaning.specs.TextCalls.{place_from, amount, copied, inserted, deleted, part_of, starts_with, found_from, position, without_spaces, trimmed_right, times, repeated, capital, with_digit, digits_valued, unsigned_valued, signed_valued, valued}
use Rattle.pascal_meaning.specs.Predefined.{Operand, tree_of, integer_of, text_in, texts_in, bytes_in, in_host, limit_of, operand_type, counted, computed, truth_value, call_value, halt_with, escape_with, activation_of, leave, leave_named, domain_of, with_new, make_new, without_heap, disposable, dispose, dropped, first_trees, trees_of, put_components, component_type, index_range, part_from, part_in, pack, unpack, step_by, increase, decrease, read_operand, read_held, store_text, insert, delete, append, to_text, value_of_text, set_length, read_one, write_one, one_by_one, acted, call_statement}
use Rattle.pascal_meaning.specs.Statements.{on_unary, same_pointer, on_pointers, operated, choose_by, read_again, apply_operator, go_on, with_element, with_elements, select_all, read_place, routine_named, parent_of, resolve, call_routine, answered, call_function, is_labelled, labels_of, run_all, run_from, begin_at, own_goto, sequence, goto, again_where, while_loop, repeat_loop, has_turn, next_turn, variable_spot, for_turns, for_loop, unmatched, no_case, case_with, cases, bind_reference, with_all, raised, code_of, recover_from, try_recover}
use Rattle.pascal_meaning.specs.Meaning.{type_after, place_type, expr_type, parts_type, Value, selected, selectors, parts, elements, argument, arguments, operand, operands, width, Select, with_part, Exec, items, arms, otherwise, routine_heading, unit_headings, headings, outline, routine_code, block_code, code, Pas}
use Rattle.pascal_meaning.specs.Primitives.{first_cell, in_reach, innermost, selects, a_pointer, typed, set_made, included, range_included, written_operand, last_operand, target_of, by_operator, by_call, no_answer, store_into, read_target, decided, perform}

-- the answer at the bound n
unfoldable pub run : Typed → (input : List ℕ) → (n : ℕ) → Answer
unfolding type_at range_of Range host_of Hosted as_variable part_fields arms_fields arm_fields inner_fields variant variants_of choice has_field deeper around_part around_arms around_arm around_inner tag_in_part tag_in_arms tag_in_inner optional_fields record_fields or_none variants_around tag_choice ◌&>◌ there expect ◌>>=◌ ◌>>◌ pure stop choose ask check change print record_entry enter handle below run_routine turns at_activation here update of_types collect named with_name same_owner is_fixed find_name enclosing activation_at with_slot contains block_of label_owner item_at field_at child subtree with_item with_field with_child with_subtree held names_of not_gone base_tree within tree_at with_base stored kept solid solid_at slot_place longer size_of copies fields_of fresh_to fresh new_variables each_is is_type_to is_type have_types routine_at slot_of formal_names bound_names result_variable own_variables is_of_kind after_section fit_formals begins_well new_activation stands all_stand own_leave result_read result_in result_of activation activate extend level unit_activations ends_line closed_input start initial_parts each_has_types whole_program cause_status exit_answer answer_of answer when between equal exact in_range quotient residue modulo word of_word power_of_two shifted_left shifted_right of_bool on_numbers digits decimal number_of numbers_of holds whole set_of empty_set zipped everywhere implies same has is_member on_sets marked with_member with_members lies_in fits_base text_of count byte_of cells_of length_of read_cells read_text read_texts compare_cells compare is_comparison relation cells made limited making on_texts over filled among selection_from selection same_selection selected_fields tag_of cleared changed_fields retagged first_label settled confirm confirm_all not_into_gone place_named root_in root_type plain root_spot guards_through tagged field_spot ranged cells_reach reach_of origin bounds_of component index_spot pointer_of pointed read_spot follow_spot refer put_tree put put_settled store copy_settled store_copy base_range fitted assigned as_new converted assign take_by seen next_char look_ahead at_end at_line_end is_blank is_digit after_blanks number_from signed next_digits next_signed line_part next_string after_line skip_line numbered next_value read_into read_line get_char width_of places padded shown_length shown_text truth_text shown written place_from amount copied inserted deleted part_of starts_with found_from position without_spaces trimmed_right times repeated capital with_digit digits_valued unsigned_valued signed_valued valued tree_of integer_of text_in texts_in bytes_in in_host limit_of operand_type counted computed truth_value call_value halt_with escape_with activation_of leave leave_named domain_of with_new make_new without_heap disposable dispose dropped first_trees trees_of put_components component_type index_range part_from part_in pack unpack step_by increase decrease read_operand read_held store_text insert delete append to_text value_of_text set_length read_one write_one one_by_one acted call_statement on_unary same_pointer on_pointers operated choose_by read_again apply_operator go_on with_element with_elements select_all read_place routine_named parent_of resolve call_routine answered call_function is_labelled labels_of run_all run_from begin_at own_goto sequence goto again_where while_loop repeat_loop has_turn next_turn variable_spot for_turns for_loop unmatched no_case case_with cases bind_reference with_all raised code_of recover_from try_recover type_after place_type expr_type parts_type Value selected selectors parts elements argument arguments operand operands width Select with_part Exec items arms otherwise routine_heading unit_headings headings outline routine_code block_code code Pas
run p input n = Pas p input n

-- a primitive with its operands, in a program with these types
unfoldable pub perform_in : Types → Primitive → List Operand → World → Outcome Tree
unfolding type_at range_of Range host_of Hosted as_variable part_fields arms_fields arm_fields inner_fields variant variants_of choice has_field deeper around_part around_arms around_arm around_inner tag_in_part tag_in_arms tag_in_inner optional_fields record_fields or_none variants_around tag_choice ◌&>◌ there expect ◌>>=◌ ◌>>◌ pure stop choose ask check change print record_entry enter handle below run_routine turns at_activation here update of_types collect named with_name same_owner is_fixed find_name enclosing activation_at with_slot contains block_of label_owner item_at field_at child subtree with_item with_field with_child with_subtree held names_of not_gone base_tree within tree_at with_base stored kept solid solid_at slot_place longer size_of copies fields_of fresh_to fresh new_variables each_is is_type_to is_type have_types when between equal exact in_range quotient residue modulo word of_word power_of_two shifted_left shifted_right of_bool on_numbers digits decimal number_of numbers_of holds whole set_of empty_set zipped everywhere implies same has is_member on_sets marked with_member with_members lies_in fits_base text_of count byte_of cells_of length_of read_cells read_text read_texts compare_cells compare is_comparison relation cells made limited making on_texts over filled among selection_from selection same_selection selected_fields tag_of cleared changed_fields retagged first_label settled confirm confirm_all not_into_gone place_named root_in root_type plain root_spot guards_through tagged field_spot ranged cells_reach reach_of origin bounds_of component index_spot pointer_of pointed read_spot follow_spot refer put_tree put put_settled store copy_settled store_copy base_range fitted assigned as_new converted assign take_by seen next_char look_ahead at_end at_line_end is_blank is_digit after_blanks number_from signed next_digits next_signed line_part next_string after_line skip_line numbered next_value read_into read_line get_char width_of places padded shown_length shown_text truth_text shown written place_from amount copied inserted deleted part_of starts_with found_from position without_spaces trimmed_right times repeated capital with_digit digits_valued unsigned_valued signed_valued valued tree_of integer_of text_in texts_in bytes_in in_host limit_of operand_type counted computed truth_value call_value halt_with escape_with activation_of leave leave_named domain_of with_new make_new without_heap disposable dispose dropped first_trees trees_of put_components component_type index_range part_from part_in pack unpack step_by increase decrease read_operand read_held store_text insert delete append to_text value_of_text set_length read_one write_one one_by_one acted call_statement on_unary same_pointer on_pointers operated choose_by read_again apply_operator go_on with_element with_elements select_all read_place routine_named parent_of resolve call_routine answered call_function is_labelled labels_of run_all run_from begin_at own_goto sequence goto again_where while_loop repeat_loop has_turn next_turn variable_spot for_turns for_loop unmatched no_case case_with cases bind_reference with_all raised code_of recover_from try_recover first_cell in_reach innermost selects a_pointer typed set_made included range_included written_operand last_operand target_of by_operator by_call no_answer store_into read_target decided perform
perform_in types p xs w = perform p xs (record { program = record { types = types; blocks = [] }; here = 0 }) [] w
