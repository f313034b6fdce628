-- Which instruction stands in the table, by its code.
use Prim.Native.Nat.{ℕ, zero, suc, ◌≤◌, ◌<◌}
use native.Mathlib.Omega.{arith}
use mathlib.Core.Path.{◌≡◌, refl, ap, sym, ◌∙◌, subst}
use mathlib.Core.List.{List, ◌∷◌}
use mathlib.Core.Bool.{Bool, true, false}
use lib.Dec.{eqb, leb}
use lib.ListN.{length}
use borrow.Author.Tests.{eqb-true, eqb-false, leb-true, leb-false}
use Rattle.syntax.specs.Syntax.{Kind, value, Operand, Arith, add, sub, mul, Branch, beq, bneq, bgt, blt, bgte, blte, Instr, aop, bop, mov, ld, st, malloc, getsp, setsp, salloc, sfree, sld, sst, slp, ssp, jmp, halt, unpack}
use Rattle.types.specs.Rows.{names}
use Rattle.tables.specs.Tables.{OperandTable, cell, operand_at, operands_at, instr_from, instr_at}
use Rattle.tables.proofs.Cases.{◌&◌, each, instr_last, instr_cases}
use Rattle.valid.specs.Program.{Program}
use Rattle.valid.specs.Rules.{Context, letters_after}
use Rattle.valid.specs.PassThree.{judge}
use Rattle.std.specs.Prelude.{Result}
use Rattle.valid_context.specs.Told.{Told, told_of}
use Rattle.valid.specs.Bounds.{Short, AllShort, SmallInstr}
use Rattle.valid_typing.specs.declared.target.Misfit.{Misfit}
use Rattle.valid_typing.specs.target.Fits.{AnsweredBy}

-- what holds of an instruction that stands in the table holds of it there
pub there : (Q : Instr → Type 0) {x y : Instr} → x ≡ y → Q y → Q x
there Q e q = subst Q (sym e) q

-- ---- the instruction by its code and numbers
module _ (ι : List ℕ) (ω : OperandTable) (j k : ℕ) (ek : k ≡ cell 8 ι j 0) where
  abbrev from : ℕ → Instr
  from x = instr_from ω x (cell 8 ι j 1) (cell 8 ι j 2) (cell 8 ι j 3) (cell 8 ι j 4) (cell 8 ι j 5) (cell 8 ι j 6)

  is_code : (x : ℕ) → k ≡ x → instr_at ι ω j ≡ from x
  unfolding instr_at
  is_code x e = ap from (sym ek ∙ e)

  module _ {a : ℕ} (ea : a ≡ cell 8 ι j 1) where
    pub is_setsp : k ≡ 14 → instr_at ι ω j ≡ setsp a
    is_setsp e = is_code 14 e ∙ ap setsp (sym ea)

    pub is_salloc : k ≡ 15 → instr_at ι ω j ≡ salloc a
    is_salloc e = is_code 15 e ∙ ap salloc (sym ea)

    pub is_sfree : k ≡ 16 → instr_at ι ω j ≡ sfree a
    is_sfree e = is_code 16 e ∙ ap sfree (sym ea)

    pub is_halt : 22 ≤ k → (k ≡ 23 → ⊥) → instr_at ι ω j ≡ halt a
    is_halt l n = go (eqb k 22) refl
      where
        go : (b : Bool) → eqb k 22 ≡ b → instr_at ι ω j ≡ halt a
        go true e = is_code 22 (eqb-true k 22 e) ∙ ap halt (sym ea)
        go false e =
            let m : 24 ≤ k = omega (arith, n, eqb-false k 22 e) in
            is_code k refl ∙ instr_last ω k (cell 8 ι j 1) (cell 8 ι j 2) (cell 8 ι j 3) (cell 8 ι j 4) (cell 8 ι j 5) (cell 8 ι j 6) m ∙ ap halt (sym ea)

    module _ {b : ℕ} (eb : b ≡ cell 8 ι j 2) where
      pub is_getsp : k ≡ 13 → instr_at ι ω j ≡ getsp a b
      is_getsp e = is_code 13 e ∙ rw (ea, eb)

      pub is_sld : k ≡ 17 → instr_at ι ω j ≡ sld a b
      is_sld e = is_code 17 e ∙ rw (ea, eb)

      pub is_sst : k ≡ 18 → instr_at ι ω j ≡ sst a b
      is_sst e = is_code 18 e ∙ rw (ea, eb)

      module _ {c : ℕ} (ec : c ≡ cell 8 ι j 3) where
        pub is_ld : k ≡ 10 → instr_at ι ω j ≡ ld a b c
        is_ld e = is_code 10 e ∙ rw (ea, eb, ec)

        pub is_st : k ≡ 11 → instr_at ι ω j ≡ st a b c
        is_st e = is_code 11 e ∙ rw (ea, eb, ec)

        pub is_slp : k ≡ 19 → instr_at ι ω j ≡ slp a b c
        is_slp e = is_code 19 e ∙ rw (ea, eb, ec)

        pub is_ssp : {d : ℕ} → d ≡ cell 8 ι j 4 → k ≡ 20 → instr_at ι ω j ≡ ssp a b c d
        is_ssp ed e = is_code 20 e ∙ rw (ea, eb, ec, ed)

  -- ---- with operands
  module _ {v : ℕ} (ev : v ≡ cell 8 ι j 5) where
    pub is_jmp : k ≡ 21 → instr_at ι ω j ≡ jmp (operand_at ω v)
    is_jmp e = is_code 21 e ∙ rw ev

    module _ {a : ℕ} (ea : a ≡ cell 8 ι j 1) where
      pub is_mov : k ≡ 9 → instr_at ι ω j ≡ mov a (operand_at ω v)
      is_mov e = is_code 9 e ∙ rw (ea, ev)

      pub is_unpack : k ≡ 23 → instr_at ι ω j ≡ unpack a (operand_at ω v)
      is_unpack e = is_code 23 e ∙ rw (ea, ev)

      pub each_bop : (Q : Instr → Type 0) → 3 ≤ k → k < 9 → ((o : Branch) → Q (bop o a (operand_at ω v))) → Q (instr_at ι ω j)
      each_bop Q h l q =
          there Q (is_code k refl) (each (λ (x : ℕ). 3 ≤ x → Q (from x)) 9 (tt & (λ z. absurd (omega arith)) & (λ z. absurd (omega arith)) & (λ z. absurd (omega arith)) & (λ z. at beq) & (λ z. at bneq) & (λ z. at bgt) & (λ z. at blt) & (λ z. at bgte) & (λ z. at blte)) k l h)
        where
          at : (o : Branch) → Q (bop o (cell 8 ι j 1) (operand_at ω (cell 8 ι j 5)))
          at o = rw (ea, ev) at (q o)

      module _ {b : ℕ} (eb : b ≡ cell 8 ι j 2) where
        pub each_aop : (Q : Instr → Type 0) → k < 3 → ((o : Arith) → Q (aop o a b (operand_at ω v))) → Q (instr_at ι ω j)
        each_aop Q l q = there Q (is_code k refl) (each (λ (x : ℕ). Q (from x)) 3 (tt & at add & at sub & at mul) k l)
          where
            at : (o : Arith) → Q (aop o (cell 8 ι j 1) (cell 8 ι j 2) (operand_at ω (cell 8 ι j 5)))
            at o = rw (ea, eb, ev) at (q o)

        pub is_malloc : {c : ℕ} → c ≡ cell 8 ι j 6 → k ≡ 12 → instr_at ι ω j ≡ malloc a b (operands_at ω v c)
        is_malloc ec e = is_code 12 e ∙ rw (ea, eb, ev, ec)

-- ---- operands within the grammar's bounds
small_aop : (o : Arith) (d s : ℕ) (v : Operand) → SmallInstr (aop o d s v) → Short v
unfolding names
small_aop o d s v h = h.0.0

small_bop : (o : Branch) (r : ℕ) (v : Operand) → SmallInstr (bop o r v) → Short v
unfolding names
small_bop o r v h = h.0.0

small_mov : (d : ℕ) (v : Operand) → SmallInstr (mov d v) → Short v
unfolding names
small_mov d v h = h.0.0

small_unpack : (d : ℕ) (v : Operand) → SmallInstr (unpack d v) → Short v
unfolding names
small_unpack d v h = h.0.0

small_jmp : (v : Operand) → SmallInstr (jmp v) → Short v
unfolding names
small_jmp v h = h.0.0

length_operands : (ω : OperandTable) (v c : ℕ) → length (operands_at ω v c) ≡ c
unfolding operands_at
length_operands ω v zero = refl
length_operands ω v (suc c) = ap suc (length_operands ω (suc v) c)

small_malloc : (d t : ℕ) (ω : OperandTable) (v c : ℕ) → SmallInstr (malloc d t (operands_at ω v c)) → AllShort (operands_at ω v c) × (c ≤ 16)
unfolding names
small_malloc d t ω v c h = let l = length_operands ω v c in let q = h.1 in (h.0, omega arith)

module _ (ι : List ℕ) (ω : OperandTable) (j k : ℕ) (s : SmallInstr (instr_at ι ω j)) (ek : k ≡ cell 8 ι j 0) {v : ℕ} (ev : v ≡ cell 8 ι j 5) where
  pub short_aop : k < 3 → Short (operand_at ω v)
  short_aop l = each_aop ι ω j k ek ev refl refl (λ x. SmallInstr x → Short (operand_at ω v)) l (λ o h. small_aop o _ _ (operand_at ω v) h) s

  pub short_bop : 3 ≤ k → k < 9 → Short (operand_at ω v)
  short_bop l m = each_bop ι ω j k ek ev refl (λ x. SmallInstr x → Short (operand_at ω v)) l m (λ o h. small_bop o _ (operand_at ω v) h) s

  pub short_mov : k ≡ 9 → Short (operand_at ω v)
  short_mov e = small_mov _ (operand_at ω v) (subst SmallInstr (is_mov ι ω j k ek ev refl e) s)

  pub short_unpack : k ≡ 23 → Short (operand_at ω v)
  short_unpack e = small_unpack _ (operand_at ω v) (subst SmallInstr (is_unpack ι ω j k ek ev refl e) s)

  pub short_jmp : k ≡ 21 → Short (operand_at ω v)
  short_jmp e = small_jmp (operand_at ω v) (subst SmallInstr (is_jmp ι ω j k ek ev e) s)

  pub short_malloc : {c : ℕ} → c ≡ cell 8 ι j 6 → k ≡ 12 → AllShort (operands_at ω v c) × (c ≤ 16)
  short_malloc {c} ec e = small_malloc _ _ ω v c (subst SmallInstr (is_malloc ι ω j k ek ev refl refl ec e) s)

-- ---- what is told of an instruction in the table
module _ (ι : List ℕ) (ω : OperandTable) (j k : ℕ) (ek : k ≡ cell 8 ι j 0) {v : ℕ} (ev : v ≡ cell 8 ι j 5) {a : ℕ} (ea : a ≡ cell 8 ι j 1) (P : Program) (Δ : List Kind) (Γ : Context) where
  pub told_aop : {b : ℕ} {t : Told Context} → b ≡ cell 8 ι j 2 → k < 3 → ((o : Arith) → told_of (judge P Δ Γ (aop o a b (operand_at ω v))) ≡ t) → told_of (judge P Δ Γ (instr_at ι ω j)) ≡ t
  told_aop {t = t} eb l q = each_aop ι ω j k ek ev ea eb (λ (x : Instr). told_of (judge P Δ Γ x) ≡ t) l q

  pub answered_bop : {B : Type 0} (g : B → Context) (r : Result B Misfit) → 3 ≤ k → k < 9 → ((o : Branch) → AnsweredBy (judge P Δ Γ (bop o a (operand_at ω v))) g r) → AnsweredBy (judge P Δ Γ (instr_at ι ω j)) g r
  answered_bop g r l m q = each_bop ι ω j k ek ev ea (λ (x : Instr). AnsweredBy (judge P Δ Γ x) g r) l m q

pub answered_as : (P : Program) (Δ : List Kind) (Γ : Context) {B : Type 0} (g : B → Context) (r : Result B Misfit) {x y : Instr} → x ≡ y → AnsweredBy (judge P Δ Γ y) g r → AnsweredBy (judge P Δ Γ x) g r
answered_as P Δ Γ g r e a = there (λ (x : Instr). AnsweredBy (judge P Δ Γ x) g r) e a

pub not_jump : (k : ℕ) → (9 ≤ k → k ≡ 21) → (k ≡ 21 → ⊥) → k < 9
not_jump k h n = go (leb 9 k) refl
  where
    go : (b : Bool) → leb 9 k ≡ b → k < 9
    go true e = absurd (n (h (leb-true 9 k e)))
    go false e = leb-false 9 k e

-- an instruction that is no `unpack` leaves the letters as they are
pub same_letters_lem : (ι : List ℕ) (ω : OperandTable) (j k : ℕ) → k ≡ cell 8 ι j 0 → (k ≡ 23 → ⊥) → (Δ : List Kind) → letters_after (instr_at ι ω j) Δ ≡ Δ
unfolding instr_at
same_letters_lem ι ω j k ek n Δ =
    instr_cases (λ k x. (k ≡ 23 → ⊥) → letters_after x Δ ≡ Δ) ω (cell 8 ι j 1) (cell 8 ι j 2) (cell 8 ι j 3) (cell 8 ι j 4) (cell 8 ι j 5) (cell 8 ι j 6)
    (tt & no & no & no & no & no & no & no & no & no & no & no & no & no & no & no & no & no & no & no & no & no & no & no & (λ n. absurd (n refl)))
    (λ k l. no) (cell 8 ι j 0) (λ e. n (ek ∙ e))
  where
    no : {A : Type 0} → A → Δ ≡ Δ
    no n = refl

-- an `unpack` has one more
pub opened_letters : (ι : List ℕ) (ω : OperandTable) (j k : ℕ) → k ≡ cell 8 ι j 0 → k ≡ 23 → (Δ : List Kind) → letters_after (instr_at ι ω j) Δ ≡ value ∷ Δ
opened_letters ι ω j k ek e Δ = ap (λ (x : Instr). letters_after x Δ) (is_unpack ι ω j k ek refl refl e)
