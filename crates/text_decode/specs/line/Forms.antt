-- The forms of a line as tables: the kinds of a form's plain fields, how many operands follow, and the entry that they make.
-- U and C, whose other fields are no operands, have no line of their own here.
use Rattle.std.specs.Prelude.{ℕ, zero, suc, ◌-◌, cond, List, [], ◌∷◌, eqb, ltb, get_or}
use Rattle.syntax.specs.Syntax.{reg, Operand, plain, add, sub, mul, beq, bneq, bgt, blt, bgte, blte, Instr, aop, bop, mov, ld, st, malloc, getsp, setsp, salloc, sfree, sld, sst, slp, ssp, jmp, halt, unpack, Entry, row, block, instr}
use Rattle.tables.specs.Tables.{row_from}
use Rattle.text_decode.specs.declared.line.Form.{Form}

-- by the form's place: the kinds of its plain fields, as in `plain_field`, 0 for none; then how many operands follow: none, one, or up to 16
unfoldable pub form_table : List (List ℕ)
form_table =
    (0 ∷ 0 ∷ 0 ∷ 0 ∷ 0 ∷ [])
    ∷ (0 ∷ 0 ∷ 0 ∷ 0 ∷ 0 ∷ [])
    ∷ (3 ∷ 0 ∷ 0 ∷ 0 ∷ 0 ∷ [])
    ∷ (0 ∷ 0 ∷ 0 ∷ 0 ∷ 0 ∷ [])
    ∷ (2 ∷ 0 ∷ 0 ∷ 0 ∷ 0 ∷ [])
    ∷ (0 ∷ 0 ∷ 0 ∷ 0 ∷ 0 ∷ [])
    ∷ (2 ∷ 0 ∷ 0 ∷ 0 ∷ 0 ∷ [])
    ∷ (0 ∷ 0 ∷ 0 ∷ 0 ∷ 0 ∷ [])
    ∷ (3 ∷ 0 ∷ 0 ∷ 0 ∷ 0 ∷ [])
    ∷ (2 ∷ 2 ∷ 0 ∷ 0 ∷ 0 ∷ [])
    ∷ (2 ∷ 2 ∷ 0 ∷ 0 ∷ 0 ∷ [])
    ∷ (2 ∷ 0 ∷ 0 ∷ 0 ∷ 0 ∷ [])
    ∷ (1 ∷ 1 ∷ 0 ∷ 0 ∷ 1 ∷ [])
    ∷ (1 ∷ 1 ∷ 0 ∷ 0 ∷ 1 ∷ [])
    ∷ (1 ∷ 1 ∷ 0 ∷ 0 ∷ 1 ∷ [])
    ∷ (1 ∷ 0 ∷ 0 ∷ 0 ∷ 1 ∷ [])
    ∷ (1 ∷ 0 ∷ 0 ∷ 0 ∷ 1 ∷ [])
    ∷ (1 ∷ 0 ∷ 0 ∷ 0 ∷ 1 ∷ [])
    ∷ (1 ∷ 0 ∷ 0 ∷ 0 ∷ 1 ∷ [])
    ∷ (1 ∷ 0 ∷ 0 ∷ 0 ∷ 1 ∷ [])
    ∷ (1 ∷ 0 ∷ 0 ∷ 0 ∷ 1 ∷ [])
    ∷ (1 ∷ 0 ∷ 0 ∷ 0 ∷ 1 ∷ [])
    ∷ (1 ∷ 1 ∷ 3 ∷ 0 ∷ 0 ∷ [])
    ∷ (1 ∷ 3 ∷ 1 ∷ 0 ∷ 0 ∷ [])
    ∷ (1 ∷ 2 ∷ 0 ∷ 0 ∷ 16 ∷ [])
    ∷ (1 ∷ 2 ∷ 0 ∷ 0 ∷ 0 ∷ [])
    ∷ (1 ∷ 0 ∷ 0 ∷ 0 ∷ 0 ∷ [])
    ∷ (4 ∷ 0 ∷ 0 ∷ 0 ∷ 0 ∷ [])
    ∷ (4 ∷ 0 ∷ 0 ∷ 0 ∷ 0 ∷ [])
    ∷ (1 ∷ 3 ∷ 0 ∷ 0 ∷ 0 ∷ [])
    ∷ (3 ∷ 1 ∷ 0 ∷ 0 ∷ 0 ∷ [])
    ∷ (1 ∷ 1 ∷ 3 ∷ 0 ∷ 0 ∷ [])
    ∷ (1 ∷ 3 ∷ 1 ∷ 2 ∷ 0 ∷ [])
    ∷ (0 ∷ 0 ∷ 0 ∷ 0 ∷ 1 ∷ [])
    ∷ (2 ∷ 0 ∷ 0 ∷ 0 ∷ 0 ∷ [])
    ∷ (1 ∷ 0 ∷ 0 ∷ 0 ∷ 1 ∷ [])
    ∷ []

-- a number packed in the entry of a form
unfoldable pub form_cell : ℕ → ℕ → ℕ
form_cell code i = get_or (get_or form_table code []) i 0

-- the kinds of a form's plain fields
abbrev pub kinds_of : ℕ → List ℕ
kinds_of code = form_cell code 0 ∷ form_cell code 1 ∷ form_cell code 2 ∷ form_cell code 3 ∷ []

-- the entry of a form, taken apart
abbrev pub form_of : ℕ → Form
form_of code = record { a = form_cell code 0; b = form_cell code 1; c = form_cell code 2; d = form_cell code 3; most = form_cell code 4 }

-- where one operand may follow it must
abbrev pub fewest : ℕ → ℕ
fewest zero = 0
fewest (suc zero) = 1
fewest (suc (suc n)) = 0

-- ---- entries
-- the first of the operands; of none, register 0
abbrev pub first_operand : List Operand → Operand
first_operand [] = plain (reg 0)
first_operand (v ∷ vs) = v

-- the instruction of that code (add 0 .. halt 22, unpack 23), its numbers in the order of the text, and its operands
unfoldable pub instr_with : ℕ → ℕ → ℕ → ℕ → ℕ → List Operand → Instr
instr_with k a b c d vs =
    cond (eqb k 0) (aop add a b (first_operand vs))
    (cond (eqb k 1) (aop sub a b (first_operand vs))
    (cond (eqb k 2) (aop mul a b (first_operand vs))
    (cond (eqb k 3) (bop beq a (first_operand vs))
    (cond (eqb k 4) (bop bneq a (first_operand vs))
    (cond (eqb k 5) (bop bgt a (first_operand vs))
    (cond (eqb k 6) (bop blt a (first_operand vs))
    (cond (eqb k 7) (bop bgte a (first_operand vs))
    (cond (eqb k 8) (bop blte a (first_operand vs))
    (cond (eqb k 9) (mov a (first_operand vs))
    (cond (eqb k 10) (ld a b c)
    (cond (eqb k 11) (st a b c)
    (cond (eqb k 12) (malloc a b vs)
    (cond (eqb k 13) (getsp a b)
    (cond (eqb k 14) (setsp a)
    (cond (eqb k 15) (salloc a)
    (cond (eqb k 16) (sfree a)
    (cond (eqb k 17) (sld a b)
    (cond (eqb k 18) (sst a b)
    (cond (eqb k 19) (slp a b c)
    (cond (eqb k 20) (ssp a b c d)
    (cond (eqb k 21) (jmp (first_operand vs))
    (cond (eqb k 23) (unpack a (first_operand vs)) (halt a)))))))))))))))))))))))

-- the entry of a form by its place: rows 0 to 10, the block line 11, instructions from 12 on
unfoldable pub entry_with : ℕ → ℕ → ℕ → ℕ → ℕ → List ℕ → List Operand → Entry
entry_with code a b c d parts vs =
    cond (ltb code 11) (row (row_from parts code a b)) (cond (eqb code 11) (block a) (instr (instr_with (code - 12) a b c d vs)))
