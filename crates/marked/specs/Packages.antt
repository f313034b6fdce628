-- Document 02, point 3: a small case for each reading of it (docs/DECISIONS.md), the 64th variable, and a closure that is packed, opened
-- and called (the paper's Section 2.3), together as one table.
use Rattle.std.specs.Prelude.{ℕ, zero, suc, ◌≡◌, refl, List, [], ◌∷◌, ◌++◌}
use Prim.Native.String.{String}
use Rattle.std.proofs.Math.Option.{some}
use Rattle.syntax.specs.Fault.{given, number_of, first_item, lowest, lowest_line, earlier, earliest}
use Rattle.text.specs.Bytes.{bytes, same_bytes, split, lines_from, lines_of, fields_of, is_digit, all_digits, is_decimal, spelled, number, literal}
use Rattle.text.specs.Grammar.{◌>>=◌, end, each, rest, row_number, index, amount, label_number, register, letter, each_letter, letters, known, carrier, carried, packed, before, operand, forms, form_named, entry_of, parse}
use Rattle.text.specs.PassOne.{is_last, place_after, in_order, may_end, counted, too_many, line_faults, lines_faults, pass_one, said, entries_of, rows_of, grouped, listings_of}
use Rattle.text.specs.Samples.{sample, samples_from, samples_of}
use Rattle.types.specs.Types.{join, items, variable, below, walk, raising, raise, kind_of, of_kind, place, filling, fill, fits_kind, meets, filled}
use Rattle.types.specs.Equal.{same, same_letters}
use Rattle.types.specs.Rows.{type_at, components, registers, in_turn, meaning, types_of, is_value, is_code, is_hidden, is_of, known_refs, row_refs, operand_refs, operands_refs, names, base_labels, labels, is_sort, all_below, all_of_sort, total, size_of, sizes_of, row_faults, rows_faults, refs_faults, instr_faults, entries_faults, pass_two}
use Rattle.valid.specs.Program.{block_of, blocks_of, program_from, program_of, as_code}
use Rattle.valid.specs.Rules.{junks, ints, entry_regs, declared}
use Rattle.valid.specs.Tests.{item_at, replaced, under, above, as_int, as_tuple, as_pointer, as_hidden, as_value, is_kind, is_stack, is_file, is_formed, formed_arg, formed_args, is_entry, label_type, letters_left, is_filled, none_left}
use Rattle.valid.specs.PassThree.{faults_of, ◌▹◌, ◌&◌, or_fault, need, none_of, formed, integer_at, tuple_at, pointer_at, assign, base, applied, operands, unfits, target_of, new_tail, judge, body_faults, block_faults, blocks_faults, has_none, pass_three}
use Rattle.valid.specs.PassThree as three
use Rattle.valid.specs.Verdict.{pass_two_of, passes, instr_count, check, accepted, refused}
use Rattle.exec.specs.Machine.{at, put, puts, flat, start_of, fetch, compute, sign_of, taken, base_word, word_of, only, unless, jump, exec, step}
use Rattle.exec.specs.Run.{after, runs, run, budget, words_from, tuple_length, end_to_end, starts_at, good_word, good_words, good_form, long_enough, halted_after, answer_of, outcome, bodies, wanted, barred, initial, starting, continuing}
use Rattle.marked.specs.Marked.{refuse, fresh}

-- a program with these lines behind its first instruction, line 9; row 1 is a tuple, row 2 a stack row, row 3 a code row, row 4 hides an
-- `I` that does not use its variable, row 5 is variable 0, and row 6 hides it
abbrev behind : List ℕ → List ℕ
behind ls = bytes "I\nU,0,0\nE\nC,-,2,1,-,-,-,-,-,-,-\nH,0\nV,0\nH,5\nB,3\nld,r2,r1,0\n" ++ ls

-- with this line 10
abbrev with_line : String → List ℕ
with_line l = behind (bytes l ++ bytes "mov,r1,1\nhalt,0\n")

-- n unpacks, then the lines l
abbrev opening : ℕ → String → List ℕ
opening zero l = bytes l
opening (suc n) l = bytes "unpack,r3,!0:5=4\n" ++ opening n l

-- ∃α.⟨{r1:α, r2:int}, α⟩, made of block 1 and the samples' tuple, opened, and jumped to
abbrev closure : List ℕ
closure =
    bytes "I\nU,0,0\nE\nC,-,2,1,-,-,-,-,-,-,-\nV,0\nC,-,2,4,0,-,-,-,-,-,-\nU,5,4\nH,6\nC,-,2,1,0,-,-,-,-,-,-\nU,8,1\n"
    ++ bytes "B,3\nld,r2,r1,0\nmalloc,r3,9,#1,r1\nmov,r3,!1:r3=7\nunpack,r4,r3\nld,r1,r4,1\nld,r5,r4,0\njmp,r5\n"
    ++ bytes "B,8\nld,r3,r1,1\nsub,r1,r2,r3\nhalt,0\n"

-- "a stack row as a fault 14, another wrong form fault 9, a wrong filling fault 10, as an unequal resulting row, and an unpack that would
-- make the block's own and hidden variables more than 64 fault 7"
pub record Packages : Type 0 where
  pub wrong_as_target : check (with_line "beq,r2,!1:5=6\n") ≡ refused (record { number = 10; line = 10; item = some 99 })
  pub right_as_target : check (with_line "beq,r2,!0:5=6\n") ≡ refuse 9 10
  pub wrong_in_arithmetic : check (with_line "add,r3,r2,!1:5=6\n") ≡ refuse 10 10
  pub stack_and_unknown : check (with_line "mov,r3,!2:r8=6\n") ≡ refuse 9 10
  pub stack_argument : check (with_line "mov,r3,!2:5=4\n") ≡ refuse 14 10
  pub no_h_row : check (with_line "mov,r3,!0:r1=3\n") ≡ refuse 5 10
  pub no_arguments_inside : check (with_line "mov,r3,!0:#0:0=3=4\n") ≡ refuse 1 10
  pub no_package : (starting (behind (bytes "unpack,r1,r1\nhalt,0\n")) (bytes "1\n2\n") 1000000 fresh).answer ≡ halted_after 2 2 0
  pub sixty_four : check (behind (opening 64 "mov,r1,1\nhalt,0\n")) ≡ accepted 1 67
  pub sixty_fifth : check (behind (opening 64 "unpack,r3,5\nmov,r1,1\nhalt,0\n")) ≡ refuse 7 74
  pub counts_outward : check (bytes "I\nU,0,0\nE\nC,-,2,1,-,-,-,-,-,-,-\nH,0\nV,0\nC,v,2,5,-,-,-,-,-,-,-\nB,3\nmov,r1,1\nhalt,0\nB,6\nunpack,r2,!0:5=4\nhalt,5\n") ≡ refuse 10 13
  pub own_rows_before : check (bytes "I\nU,0,0\nE\nC,-,2,1,-,-,-,-,-,-,-\nV,0\nH,0\nH,4\nB,3\nunpack,r2,!4:5=5\nmov,r1,1\nhalt,0\n") ≡ refuse 7 9
  pub hidden_result : check (behind (bytes "unpack,r1,!0:5=6\nhalt,5\n")) ≡ accepted 1 3
  pub block_begins_anew : check (behind (bytes "unpack,r1,!0:5=6\nhalt,5\nB,3\nhalt,5\n")) ≡ refuse 7 13
  pub closure_accepted : check closure ≡ accepted 2 10
  pub closure_run : (starting closure (bytes "41200\n15600\n") 1000000 fresh).answer ≡ halted_after 9 0 25600

-- all of them hold
pub packages : Packages
unfolding given number_of first_item lowest lowest_line earlier earliest bytes same_bytes split lines_from lines_of fields_of is_digit all_digits is_decimal spelled number literal ◌>>=◌ end each rest row_number index amount register letter each_letter letters known label_number carrier carried packed before operand forms form_named entry_of parse is_last place_after in_order may_end counted too_many line_faults lines_faults pass_one said entries_of rows_of grouped listings_of join items variable below walk raising raise kind_of of_kind place filling fill fits_kind meets filled same same_letters type_at components registers in_turn meaning types_of is_value is_code is_hidden is_of known_refs row_refs operand_refs operands_refs names base_labels labels is_sort all_below all_of_sort total size_of sizes_of row_faults rows_faults refs_faults instr_faults entries_faults pass_two block_of blocks_of program_from program_of junks ints entry_regs faults_of ◌▹◌ ◌&◌ or_fault need none_of item_at replaced under above as_int as_tuple as_pointer as_hidden as_value as_code is_kind is_stack is_file is_formed formed_arg formed_args formed three.known integer_at tuple_at pointer_at assign label_type base letters_left is_filled applied three.packed three.operand operands unfits none_left target_of new_tail judge body_faults declared is_entry block_faults blocks_faults has_none pass_three passes instr_count check at put puts flat start_of fetch compute sign_of taken base_word word_of only unless jump exec step after runs run budget words_from tuple_length end_to_end starts_at good_word good_words good_form long_enough answer_of outcome bodies wanted barred initial starting continuing sample samples_from samples_of pass_two_of
packages = record {
  wrong_as_target = refl;
  right_as_target = refl;
  wrong_in_arithmetic = refl;
  stack_and_unknown = refl;
  stack_argument = refl;
  no_h_row = refl;
  no_arguments_inside = refl;
  no_package = refl;
  sixty_four = refl;
  sixty_fifth = refl;
  counts_outward = refl;
  own_rows_before = refl;
  hidden_result = refl;
  block_begins_anew = refl;
  closure_accepted = refl;
  closure_run = refl;
}
