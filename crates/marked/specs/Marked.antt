-- Document 01, "Marked": these cases, together as one table.
use Rattle.std.specs.Prelude.{ℕ, zero, suc, ◌+◌, ◌≡◌, refl, List, [], ◌∷◌, ◌++◌, negsuc, get_or, replicate}
use Prim.Native.String.{String}
use Rattle.std.proofs.Math.Option.{none}
use Rattle.syntax.specs.Bits.{signed}
use Rattle.syntax.specs.Syntax.{stack, Row, row_i, row_e, row_x, row_k, row_a, add, salloc}
use Rattle.syntax.specs.Fault.{given, number_of, first_item, lowest, lowest_line, earliest}
use Rattle.text.specs.Bytes.{bytes, same_bytes, split, lines_from, lines_of, fields_of, is_digit, all_digits, is_decimal, spelled, number, literal}
use Rattle.text.specs.Grammar.{◌>>=◌, end, each, rest, row_number, index, amount, label_number, register, letter, each_letter, letters, known, carrier, carried, before, operand, forms, form_named, entry_of, parse}
use Rattle.text.specs.PassOne.{is_last, place_after, in_order, may_end, counted, too_many, line_faults, lines_faults, pass_one, said, entries_of, rows_of, grouped, listings_of}
use Rattle.text.specs.Samples.{sample, samples_from, samples_of}
use Rattle.types.specs.Types.{join, items, variable, below, walk, raising, raise, kind_of, of_kind, place, filling, fill, fits_kind, meets, filled}
use Rattle.types.specs.Equal.{same, same_letters}
use Rattle.types.specs.Rows.{type_at, components, registers, in_turn, meaning, types_of, is_value, is_code, is_of, known_refs, row_refs, operand_refs, operands_refs, names, base_labels, labels, is_sort, all_below, all_of_sort, total, size_of, sizes_of, row_faults, rows_faults, refs_faults, instr_faults, entries_faults, pass_two}
use Rattle.valid.specs.Program.{block_of, blocks_of, program_from, program_of, as_code}
use Rattle.valid.specs.Rules.{junks, ints, entry_regs, declared}
use Rattle.valid.specs.Tests.{item_at, replaced, under, above, as_int, as_tuple, as_pointer, is_kind, is_stack, is_file, is_formed, formed_arg, formed_args, is_entry, label_type, letters_left, is_filled, none_left}
use Rattle.valid.specs.PassThree.{faults_of, ◌▹◌, ◌&◌, or_fault, need, none_of, formed, integer_at, tuple_at, pointer_at, assign, base, applied, operands, unfits, target_of, new_tail, judge, body_faults, block_faults, blocks_faults, has_none, pass_three}
use Rattle.valid.specs.PassThree as three
use Rattle.valid.specs.Verdict.{pass_two_of, passes, instr_count, check, Verdict, accepted, refused}
use Rattle.exec.specs.Machine.{Memory, State, Bodies, go, stop, stack_full, junk_word, puts, at, put, flat, start_of, fetch, compute, sign_of, taken, base_word, word_of, only, unless, jump, exec, step}
use Rattle.exec.specs.Run.{after, runs, run, budget, words_from, tuple_length, end_to_end, starts_at, good_word, good_words, good_form, long_enough, halted_after, paused_after, answer_of, outcome, bodies, wanted, barred, initial, starting, continuing}
use Rattle.exec.specs.Run as run_of

-- T, of nine lines, with its lines 7 to 9
abbrev pub with_lines : String → String → String → List ℕ
with_lines l₇ l₈ l₉ = bytes "I\nU,0,0\nE\nC,-,2,1,-,-,-,-,-,-,-\nB,3\nld,r2,r1,0\n" ++ bytes l₇ ++ bytes l₈ ++ bytes l₉

-- "T is the program under Loads worked through"
abbrev pub T : List ℕ
T = with_lines "ld,r3,r1,1\n" "sub,r1,r2,r3\n" "halt,0\n"

-- refused, with no item to name
abbrev pub refuse : ℕ → ℕ → Verdict
refuse n line = refused (record { number = n; line = line; item = none })

-- lent memory of n words that held k and m
abbrev pub lent : ℕ → ℕ → ℕ → Memory
lent n k m = record { kinds = replicate n k; numbers = replicate n m }

-- lent state that held anything, here 9 everywhere
abbrev pub fresh : State
fresh = record { registers = lent 8 9 9; stack = lent 256 9 9; heap = lent 2048 9 9; depth = 9; used = 9; position = 9 }

-- a state of that depth
abbrev deep : ℕ → Memory → State
deep d m = record { registers = m; stack = m; heap = m; depth = d; used = 0; position = 0 }

-- `E`, then n lines `A` each naming the row before twice
abbrev doubled : ℕ → ℕ → List Row
doubled i zero = []
doubled i (suc n) = row_a i i ∷ doubled (suc i) n

abbrev joined : List Row
joined = row_i ∷ row_e ∷ row_k 0 1 ∷ row_x 0 ∷ row_a 2 3 ∷ row_k 0 3 ∷ []

-- document 01, "Marked": T accepted; T's run; budget 2 on T pauses; T's faults; empty text; and the five that need no program
pub record Marked : Type 0 where
  pub t_accepted : check T ≡ accepted 1 4
  pub t_run : (starting T (bytes "41200\n15600\n") 1000000 fresh).answer ≡ halted_after 3 0 25600
  pub t_pauses : (starting T (bytes "41200\n15600\n") 2 fresh).answer ≡ paused_after 2
  pub t_fault_4 : check (with_lines "ld,r3,r1,1\n" "sub,r1,r2,r3\n" "halt,9\n") ≡ refuse 4 9
  pub t_fault_9 : check (with_lines "ld,r3,r1,1\n" "sub,r1,r2,r4\n" "halt,0\n") ≡ refuse 9 8
  pub t_fault_10 : check (with_lines "ld,r3,r1,1\n" "sub,r1,r2,r3\n" "halt,1\n") ≡ refuse 10 9
  pub t_fault_11 : check (with_lines "ld,r3,r1,2\n" "sub,r1,r2,r3\n" "halt,0\n") ≡ refuse 11 7
  pub empty_text : check (bytes "") ≡ refuse 8 1
  pub eleven_joins : get_or (sizes_of (row_e ∷ doubled 0 11)) 11 0 ≡ 4095
  pub lists_equal : type_at stack (types_of joined) 4 ≡ type_at stack (types_of joined) 5
  pub wraps : signed (compute add 2147483647 1) ≡ negsuc 2147483647  -- -2147483648
  pub depth_fits : (P : Bodies) (m : Memory) → exec P (deep 192 m) (salloc 64) ≡ go (record { registers = m; stack = puts m 192 (replicate 64 junk_word); heap = m; depth = 256; used = 0; position = 1 })
  pub depth_full : (P : Bodies) (m : Memory) → exec P (deep 193 m) (salloc 64) ≡ stop stack_full

-- all of them hold
pub marked : Marked
unfolding given number_of first_item lowest lowest_line earliest bytes same_bytes split lines_from lines_of fields_of is_digit all_digits is_decimal spelled number literal ◌>>=◌ end each rest row_number index amount register letter each_letter letters known label_number carrier carried before operand forms form_named entry_of parse is_last place_after in_order may_end counted too_many line_faults lines_faults pass_one said entries_of rows_of grouped listings_of join items variable below walk raising raise kind_of of_kind place filling fill fits_kind meets filled same same_letters type_at components registers in_turn meaning types_of is_value is_code is_of known_refs row_refs operand_refs operands_refs names base_labels labels is_sort all_below all_of_sort total size_of sizes_of row_faults rows_faults refs_faults instr_faults entries_faults pass_two block_of blocks_of program_from program_of junks ints entry_regs faults_of ◌▹◌ ◌&◌ or_fault need none_of item_at replaced under above as_int as_tuple as_pointer as_code is_kind is_stack is_file is_formed formed_arg formed_args formed three.known integer_at tuple_at pointer_at assign label_type base letters_left is_filled applied three.operand operands unfits none_left target_of new_tail judge body_faults declared is_entry block_faults blocks_faults has_none pass_three passes instr_count check at put puts flat start_of fetch compute sign_of taken base_word word_of only unless jump exec step after runs run budget words_from tuple_length end_to_end starts_at good_word good_words good_form long_enough answer_of outcome bodies wanted barred initial starting continuing sample samples_from samples_of pass_two_of signed
marked = record {
  t_accepted = refl;
  t_run = refl;
  t_pauses = refl;
  t_fault_4 = refl;
  t_fault_9 = refl;
  t_fault_10 = refl;
  t_fault_11 = refl;
  empty_text = refl;
  eleven_joins = refl;
  lists_equal = refl;
  wraps = refl;
  depth_fits = λ P m. refl;
  depth_full = λ P m. refl;
}

-- ---- the examples of the table of faults that are not marked
-- T with two other lines before its last
abbrev instead : String → String → List ℕ
instead l₆ l₇ = bytes "I\nU,0,0\nE\nC,-,2,1,-,-,-,-,-,-,-\nB,3\n" ++ bytes l₆ ++ bytes l₇ ++ bytes "halt,0\n"

-- n type lines
abbrev many : ℕ → List ℕ
many zero = []
many (suc n) = bytes "I\n" ++ many n

abbrev depth_257 : State
depth_257 = record { registers = lent 8 4 0; stack = lent 300 4 0; heap = lent 2048 0 0; depth = 257; used = 0; position = 0 }

-- one example for each number left: 1 to 3, 5 to 7, 12 to 16
pub record Examples : Type 0 where
  pub no_form : check (with_lines "ld,r9,r1,1\n" "sub,r1,r2,r3\n" "halt,0\n") ≡ refuse 1 7
  pub not_ended : check (with_lines "ld,r3,r1,1\n" "sub,r1,r2,r3\n" "") ≡ refuse 2 9
  pub too_many_rows : check (many 513) ≡ refuse 3 513
  pub no_value_row : check (with_lines "ld,r3,r1,1\n" "sub,r1,r2,r3\n" "halt,2\n") ≡ refuse 5 9
  pub too_large : check (bytes "E\nA,0,0\nA,1,1\nA,2,2\nA,3,3\nA,4,4\nA,5,5\nA,6,6\nA,7,7\nA,8,8\nA,9,9\nA,10,10\nA,11,11\n") ≡ refuse 6 13
  pub unbound : check (bytes "I\nU,0,0\nE\nC,-,2,1,-,-,-,-,-,-,-\nV,0\nB,3\nld,r2,r1,0\nld,r3,r1,1\nsub,r1,r2,r3\nhalt,4\n") ≡ refuse 7 10
  pub no_tail : check (bytes "I\nU,0,0\nE\nC,-,2,1,-,-,-,-,-,-,-\nN\nK,4,2\nP,5\nB,3\nsalloc,1\ngetsp,r4,6\nsfree,1\nsetsp,r4\nhalt,0\n") ≡ refuse 12 12
  pub too_deep : check (instead "salloc,64\n" "salloc,1\n") ≡ refuse 13 7
  pub too_many_arguments : check (with_lines "ld,r3,r1,1\n" "sub,r1,r2,r3\n" "jmp,#0:2=3\n") ≡ refuse 14 9
  pub three_samples : starting T (bytes "1\n2\n3\n") 9 fresh ≡ run_of.refuse fresh 15 0
  pub bad_depth : continuing T 9 depth_257 ≡ run_of.refuse depth_257 16 0

-- all of them hold
pub examples : Examples
unfolding given number_of first_item lowest lowest_line earliest bytes same_bytes split lines_from lines_of fields_of is_digit all_digits is_decimal spelled number literal ◌>>=◌ end each rest row_number index amount register letter each_letter letters known label_number carrier carried before operand forms form_named entry_of parse is_last place_after in_order may_end counted too_many line_faults lines_faults pass_one said entries_of rows_of grouped listings_of join items variable below walk raising raise kind_of of_kind place filling fill fits_kind meets filled same same_letters type_at components registers in_turn meaning types_of is_value is_code is_of known_refs row_refs operand_refs operands_refs names base_labels labels is_sort all_below all_of_sort total size_of sizes_of row_faults rows_faults refs_faults instr_faults entries_faults pass_two block_of blocks_of program_from program_of junks ints entry_regs faults_of ◌▹◌ ◌&◌ or_fault need none_of item_at replaced under above as_int as_tuple as_pointer as_code is_kind is_stack is_file is_formed formed_arg formed_args formed three.known integer_at tuple_at pointer_at assign label_type base letters_left is_filled applied three.operand operands unfits none_left target_of new_tail judge body_faults declared is_entry block_faults blocks_faults has_none pass_three passes instr_count check at put puts flat start_of fetch compute sign_of taken base_word word_of only unless jump exec step after runs run budget words_from tuple_length end_to_end starts_at good_word good_words good_form long_enough answer_of outcome bodies wanted barred initial starting continuing sample samples_from samples_of pass_two_of signed
examples = record {
  no_form = refl;
  not_ended = refl;
  too_many_rows = refl;
  no_value_row = refl;
  too_large = refl;
  unbound = refl;
  no_tail = refl;
  too_deep = refl;
  too_many_arguments = refl;
  three_samples = refl;
  bad_depth = refl;
}
