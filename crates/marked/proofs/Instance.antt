-- The premises of demand 3 and of what follows from it can be met: T on its two samples, over a state that held anything.
use Rattle.std.specs.Prelude.{ℕ, zero, suc, ◌≡◌, refl, List, [], ◌∷◌}
use Rattle.std.proofs.Common.{arith, sym, ◌∙◌}
use Rattle.std.proofs.Math.Option.{some}
use Rattle.std.proofs.Math.ListN.{get_elem?}
use Rattle.syntax.specs.Syntax.{row_i, reg, plain, sub, Instr, aop, ld, halt}
use Rattle.text.specs.Bytes.{bytes, same_bytes, split, lines_from, lines_of, fields_of, is_digit, all_digits, is_decimal, spelled, number, literal}
use Rattle.text.specs.Grammar.{◌>>=◌, end, each, rest, row_number, index, amount, label_number, register, letter, each_letter, letters, known, carrier, carried, operand, forms, form_named, entry_of, parse}
use Rattle.text.specs.PassOne.{said, entries_of, rows_of, grouped, listings_of}
use Rattle.valid.specs.Program.{block_of, blocks_of, program_from, program_of}
use Rattle.valid.proofs.Reading.{none_some, some_inj}
use Rattle.exec.specs.Machine.{flat}
use Rattle.exec.specs.Run.{bodies}
use Rattle.sound.specs.Claim.{Call, starts}
use Rattle.sound.specs.Consequences.{Each, Premises, Sound, HaltsWithIntegers, TellsInteger}
use Rattle.sound.proofs.Demand3.{never_stuck, always_integers}
use Rattle.marked.specs.Marked.{T, fresh, marked}
use Rattle.marked.specs.Instance.{t_samples}

-- T is accepted, and its starting is not refused
pub t_premises : Premises T t_samples 1000000 fresh
t_premises = record { blocks = 1; instructions = 4; accepts = marked.t_accepted; runs = λ r. let e = sym marked.t_run ∙ r.2 in let z : ◌≡◌ {A = ℕ} 0 1 = cc in absurd (omega arith) }

-- what T says
abbrev instrs : List Instr
instrs = ld 1 0 0 ∷ ld 2 0 1 ∷ aop sub 0 1 (plain (reg 2)) ∷ halt 0 ∷ []

t_instrs : flat (bodies (program_of T)) ≡ instrs
unfolding bytes same_bytes split lines_from lines_of fields_of is_digit all_digits is_decimal spelled number literal ◌>>=◌ end each rest row_number index amount label_number register letter each_letter letters known carrier carried operand forms form_named entry_of parse said entries_of rows_of grouped listings_of block_of blocks_of program_from program_of flat bodies
t_instrs = refl

t_row : get_elem? (rows_of (entries_of T)) 0 ≡ some row_i
unfolding bytes same_bytes split lines_from lines_of fields_of is_digit all_digits is_decimal spelled number literal ◌>>=◌ end each rest row_number index amount label_number register letter each_letter letters known carrier carried operand forms form_named entry_of parse said entries_of rows_of
t_row = refl

other : {A : Type 0} {x : Instr} {t : ℕ} → some x ≡ some (halt t) → (x ≡ halt t → ⊥) → A
other e f = absurd (f (some_inj e))

-- its only `halt` names row 0, which is `I`
pub t_halts : HaltsWithIntegers T
t_halts p t e = by p (rw t_instrs at e)
  where
    by : (p : ℕ) → get_elem? instrs p ≡ some (halt t) → get_elem? (rows_of (entries_of T)) t ≡ some row_i
    by zero f = other f (λ g. let z : ◌≡◌ {A = ℕ} 0 1 = cc in omega arith)
    by (suc zero) f = other f (λ g. let z : ◌≡◌ {A = ℕ} 0 1 = cc in omega arith)
    by (suc (suc zero)) f = other f (λ g. let z : ◌≡◌ {A = ℕ} 0 1 = cc in omega arith)
    by (suc (suc (suc zero))) f = let q : 0 ≡ t = cc in rw (← q) t_row
    by (suc (suc (suc (suc p)))) f = none_some f

-- so, whatever calls follow T's run, no answer is stuck, and every halted one tells an integer
pub t_never_stuck : (cs : List Call) → Each Sound T (starts t_samples 1000000 ∷ cs) fresh
t_never_stuck cs = never_stuck T t_samples 1000000 fresh t_premises cs

pub t_always_integers : (cs : List Call) → Each TellsInteger T (starts t_samples 1000000 ∷ cs) fresh
t_always_integers cs = always_integers T t_samples 1000000 fresh t_premises t_halts cs
