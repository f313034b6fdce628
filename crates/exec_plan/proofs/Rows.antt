-- What a row does is what the instruction does: `next_is`. And what a row says of registers and of goals.
use mathlib.Core.Path.{◌≡◌, refl, ap, ap₂, sym, ◌∙◌, subst}
use mathlib.Core.Bool.{Bool, true, false, ◌||◌, cond}
use mathlib.Core.List.{List, [], ◌∷◌}
use Prim.Native.Nat.{ℕ, zero, suc, ◌+◌, ◌-◌, ◌*◌, ◌<◌, ◌≤◌}
use native.Mathlib.Nat.{add-zero, add-suc, suc-add, le_of_suc-le-suc, not-suc-le-zero}
use native.Mathlib.Decide.{dec_lt}
use native.Mathlib.Omega.{arith}
use lib.Dec.{T, ltb, eqb, eqb→eq}
use lib.ListN.{length, get_or, get_or-eq_default}
use borrow.Author.Tests.{lt-ltb, le-ltb, eq-eqb, ltb-true, eqb-true, eqb-false}
use Rattle.syntax.specs.Syntax.{reg, lit, lab, Operand, plain, Instr, Arith, add, sub}
use Rattle.exec.specs.Machine.{Word, Memory, at, State, Sign, negative, null, positive, sign_of, taken, int_kind, label, integer, height, compute, base_word, word_of}
use Rattle.tables.specs.Tables.{cell, OperandTable, base_of, operand_at, operands_at, instr_at}
use Rattle.exec_words.specs.arith.Codes.{arith_of, branch_of, column}
use Rattle.exec_words.specs.memory.Lent.{operand_table, base_kind}
use Rattle.exec_words.proofs.memory.Laws.{word_of_lem}
use Rattle.exec_machine.specs.declared.Stop.TheVariants.{Stuck}
use Rattle.exec_machine.specs.Represents.{LowBase, LowOperand, LowOperands, Registered, Fit}
use Rattle.exec_machine.specs.Step.{Tables, operands_of, pair, given, provided, next_arith, next_jump, next_branch, next_load, next_store, next_tuple, next_cut, next_push, next_pop, next_read, next_write, next_read_through, next_write_through, next_of, next_at, Next, Go, Register, End}
use Rattle.exec_machine.proofs.Codes.{is_arith, is_branch, is_mov, is_ld, is_st, is_malloc, is_getsp, is_setsp, is_sld, is_sst, is_slp, is_ssp, is_jmp, is_unpack}
use Rattle.exec_machine.proofs.Low.{low_base}
use Rattle.exec_machine.proofs.Forms.{moves, mov_moves, unpack_moves, here, nowhere, arith_is, branch_is, jmp_is, moved_is, malloc_is, getsp_is, setsp_is, salloc_is, sfree_is, sld_is, sst_is, slp_is, ssp_is, ld_is, st_is, halt_is}
use Rattle.exec_plan.specs.Plan.{forms, halts, columns, reads_operand, chosen, code_at, operand_in, count_at, kind_at, number_at, target_at, column_at, class_of, fifth_of, form_in, added_of, last_of, form_for, form_at, goal_at, goal_in, last_at, row_of, stuck_row, Plan, planned}
use Rattle.exec_plan.proofs.Laws.{all_three, past_form, form_in_lem, fifth_goal, fifth_low, form_back, class_small}
use Rattle.exec_words.proofs.arith.Table.{every, row_test, at2}
use Rattle.exec_words.proofs.arith.Laws.{sub_is_add}

none_true : {X : Type 0} → false ≡ true → X
none_true e = let z : ◌≡◌ {A = ℕ} 0 1 = cc in absurd (omega arith)

both_same : (b : Bool) (x : Next) → cond b x x ≡ x
both_same true x = refl
both_same false x = refl

go_either : (b : Bool) (s p : ℕ) → Go (cond b s p) ≡ cond b (Go s) (Go p)
go_either true s p = refl
go_either false s p = refl

-- ---- the form, where the label may not be there
other_is : (b : Bool) (f : ℕ) → eqb f 4 ≡ false → eqb f 7 ≡ false → cond b f (cond (eqb f 4) 22 (cond (eqb f 7) 24 f)) ≡ f
other_is true f p q = refl
other_is false f p q = simp (p, q)

was_branch : (b p r : Bool) (f : ℕ) → eqb f 4 ≡ p → cond b f (cond p 22 (cond r 24 f)) ≡ 4 → b ≡ true
was_branch true p r f q e = refl
was_branch false true r f q e = absurd (omega arith)
was_branch false false true f q e = absurd (omega arith)
was_branch false false false f q e = absurd (eqb-false f 4 q e)

was_jump : (b p r : Bool) (f : ℕ) → eqb f 7 ≡ r → cond b f (cond p 22 (cond r 24 f)) ≡ 7 → b ≡ true
was_jump true p r f q e = refl
was_jump false true r f q e = absurd (omega arith)
was_jump false false true f q e = absurd (omega arith)
was_jump false false false f q e = absurd (eqb-false f 7 q e)

was_same : (b p r : Bool) (f g : ℕ) → g < 22 → cond b f (cond p 22 (cond r 24 f)) ≡ g → f ≡ g
was_same true p r f g l e = e
was_same false true r f g l e = absurd (omega arith)
was_same false false true f g l e = absurd (omega arith)
was_same false false false f g l e = e

not_read : (b p r : Bool) (f : ℕ) → reads_operand f ≡ false → reads_operand (cond b f (cond p 22 (cond r 24 f))) ≡ false
unfolding reads_operand
not_read true p r f e = e
not_read false true r f e = refl
not_read false false true f e = refl
not_read false false false f e = e

-- a form that one code alone has: g, of code d
alone : (g d k i x : ℕ) → Bool
alone g d k i x = cond (eqb x g) (eqb k d) true

code_of : (g d : ℕ) → T (every (row_test 3 (alone g d)) 0 forms) → g < 23 → (c k : ℕ) → k < 3 → get_or (get_or forms c halts) k 24 ≡ g → c ≡ d
unfolding alone
code_of g d ok lg c k h e = inside (dec_lt c 24)
  where
    inside : Dec (c < 24) → c ≡ d
    inside (yes l) =
        let q : eqb (get_or (get_or forms c []) k 0) g ≡ true = eq-eqb (get_or (get_or forms c []) k 0) g (form_in_lem c k l h ∙ e) in
        eqb→eq c d (subst (λ (b : Bool). T (cond b (eqb c d) true)) q (at2 0 3 (alone g d) forms ok c k l h))
    inside (no n) =
        let m : 24 ≤ c = omega arith in
        let q : 23 ≡ get_or (get_or forms c halts) k 24 = past_form c k m h in
        absurd (omega arith)

-- ---- the operand
kind_three : (k : ℕ) → base_kind k < 3
unfolding base_kind
kind_three k = go (eqb k 0 || eqb k 4) (eqb k 1 || eqb k 5)
  where
    go : (a b : Bool) → cond a 0 (cond b 1 2) < 3
    go true b = omega arith
    go false true = omega arith
    go false false = omega arith

-- each operand of a list
low_among : (ω : OperandTable) (v n k : ℕ) → LowOperands (operands_at ω v n) → k < n → LowOperand (operand_at ω (v + k))
unfolding operands_at
low_among ω v zero k h l = absurd (not-suc-le-zero l)
low_among ω v (suc n) zero h l = subst (λ (i : ℕ). LowOperand (operand_at ω i)) (sym (add-zero v)) h.0
low_among ω v (suc n) (suc k) h l = subst (λ (i : ℕ). LowOperand (operand_at ω i)) (suc-add v k ∙ sym (add-suc v k)) (low_among ω (suc v) n k h.1 (le_of_suc-le-suc l))

low_register : (k n : ℕ) → k ≡ 0 → LowBase (base_of k n) → n < 8
unfolding base_of
low_register zero n e h = h
low_register (suc k) n e h = absurd (omega arith)

-- ---- one row
module _ (T : Tables) (σ : State) (h : σ.position < T.count) {f x y z n p : ℕ} (ef : f ≡ form_at T σ.position) (ex : x ≡ column_at T σ.position 0) (ey : y ≡ column_at T σ.position 1) (ez : z ≡ column_at T σ.position 2) (en : n ≡ last_at T σ.position) (ep : p ≡ σ.position + 1) where
  abbrev j : ℕ
  j = σ.position

  abbrev R : Memory
  R = σ.registers

  abbrev ι : List ℕ
  ι = T.instrs

  abbrev os : List ℕ
  os = T.operands

  abbrev bs : List ℕ
  bs = T.bases

  abbrev β : List ℕ
  β = T.blocks

  abbrev l : ℕ
  l = T.labels

  abbrev v : ℕ
  v = cell 8 ι j 5

  abbrev code : ℕ
  code = code_at T j

  abbrev kind : ℕ
  kind = kind_at T j

  abbrev number : ℕ
  number = number_at T j

  abbrev does : ℕ → Next
  does k = planned β l (target_at T j) (goal_in T j) k x y z n p R σ.stack σ.heap σ.depth σ.used

  abbrev Same : Type 0
  Same = does f ≡ next_at T σ

  -- ---- the form, by the code and the kind
  abbrev there : Bool
  there = ltb number l

  kind_low : kind < 3
  unfolding kind_at
  kind_low = kind_three (cell 4 os v 0)

  pub form_at_lem : (c : ℕ) → code ≡ c → (g : ℕ) → get_or (get_or forms c halts) kind 24 ≡ g → f ≡ cond there g (cond (eqb g 4) 22 (cond (eqb g 7) 24 g))
  unfolding form_at form_for
  form_at_lem c e g q = ef ∙ ap (λ (r : ℕ). cond there r (cond (eqb r 4) 22 (cond (eqb r 7) 24 r))) (ap (λ (k : ℕ). get_or (get_or forms k halts) kind 24) e ∙ q)

  at_kind : (c k : ℕ) {g : ℕ} → kind ≡ k → get_or (get_or forms c halts) k 24 ≡ g → get_or (get_or forms c halts) kind 24 ≡ g
  at_kind c k q g = ap (λ (i : ℕ). get_or (get_or forms c halts) i 24) q ∙ g

  -- a form that goes to no label
  form_is : (c k : ℕ) {g : ℕ} → code ≡ c → kind ≡ k → get_or (get_or forms c halts) k 24 ≡ g → eqb g 4 ≡ false → eqb g 7 ≡ false → f ≡ g
  form_is c k {g} e q r a b = form_at_lem c e g (at_kind c k q r) ∙ other_is there g a b

  label_form : (c : ℕ) {g : ℕ} → code ≡ c → kind ≡ 2 → get_or (get_or forms c halts) 2 24 ≡ g → (b : Bool) → there ≡ b → f ≡ cond b g (cond (eqb g 4) 22 (cond (eqb g 7) 24 g))
  label_form c {g} e q r b t = form_at_lem c e g (at_kind c 2 q r) ∙ ap (λ (i : Bool). cond i g (cond (eqb g 4) 22 (cond (eqb g 7) 24 g))) t

  -- the same for all kinds
  plain_form : (c g : ℕ) → code ≡ c → get_or forms c halts ≡ g ∷ g ∷ g ∷ [] → eqb g 4 ≡ false → eqb g 7 ≡ false → f ≡ g
  plain_form c g e q a b = form_at_lem c e g (all_three g kind kind_low q) ∙ other_is there g a b

  -- ---- the columns, by the code
  column_at_lem : (i c : ℕ) → code ≡ c → column_at T j i ≡ chosen (get_or (get_or columns c []) i 0) (cell 8 ι j 1) (cell 8 ι j 2) (cell 8 ι j 3) (target_at T j) (operand_in T j) (c - 3) (kind - 1)
  unfolding column_at
  column_at_lem i c e = ap (λ (k : ℕ). chosen (get_or (get_or columns k []) i 0) (cell 8 ι j 1) (cell 8 ι j 2) (cell 8 ι j 3) (target_at T j) (operand_in T j) (k - 3) (kind - 1)) e

  column_is : (c : ℕ) → code ≡ c → (i : ℕ) {r k : ℕ} → r ≡ column_at T j i → get_or (get_or columns c []) i 0 ≡ k → r ≡ chosen k (cell 8 ι j 1) (cell 8 ι j 2) (cell 8 ι j 3) (target_at T j) (operand_in T j) (c - 3) (kind - 1)
  column_is c e i q g = q ∙ column_at_lem i c e ∙ ap (λ (k : ℕ). chosen k (cell 8 ι j 1) (cell 8 ι j 2) (cell 8 ι j 3) (target_at T j) (operand_in T j) (c - 3) (kind - 1)) g

  -- column 4, by the code and the kind
  last_is : (c k : ℕ) {r : ℕ} → code ≡ c → kind ≡ k → last_of c k (count_at T j) number ≡ r → n ≡ r
  unfolding last_at
  last_is c k e q h = en ∙ ap₂ (λ (a b : ℕ). last_of a b (count_at T j) number) e q ∙ h

  -- ---- the operand's word, by its kind
  word_at : (k : ℕ) → kind ≡ k → base_word R (base_of k number) ≡ word_of R (operand_at (operand_table os bs) v)
  unfolding kind_at
  word_at k r =
      ap (λ (a : ℕ). base_word R (base_of a number)) (sym r)
      ∙ sym (word_of_lem R (operand_table os bs) v)

  word : (c k : ℕ) → code ≡ c → kind ≡ k → last_of c k (count_at T j) number ≡ number → base_word R (base_of k n) ≡ word_of R (operand_at (operand_table os bs) v)
  word c k e r q = ap (λ (a : ℕ). base_word R (base_of k a)) (last_is c k e r q) ∙ word_at k r

  by_kind : {X : Type 0} → (kind ≡ 0 → X) → (kind ≡ 1 → X) → (kind ≡ 2 → X) → X
  by_kind {X} a b d = go kind refl
    where
      go : (k : ℕ) → kind ≡ k → X
      go zero q = a q
      go (suc zero) q = b q
      go (suc (suc zero)) q = d q
      go (suc (suc (suc k))) q = absurd (omega (arith, kind_low))

  by_label : {X : Type 0} → (there ≡ true → n < l → X) → (there ≡ false → l ≤ n → X) → n ≡ number → X
  by_label {X} a b e = go (dec_lt number l)
    where
      go : Dec (number < l) → X
      go (yes q) = a (lt-ltb number l q) (omega arith)
      go (no q) = let m : l ≤ number = omega arith in b (le-ltb number l m) (omega arith)

  as_form : (r : ℕ) → f ≡ r → does r ≡ next_at T σ → Same
  as_form r e q = ap does e ∙ q

  -- ---- arithmetic
  new_word : (o : Arith) (d s to : ℕ) (b b' : Operand) → word_of R b ≡ word_of R b' → next_arith R to o d s b ≡ next_arith R to o d s b'
  unfolding next_arith
  new_word o d s to b b' e = ap (λ (w : Word). given int_kind (at R s) (λ a. given int_kind w (λ c. Register d (pair (integer (compute o a c))) to))) e

  arith_at : (c : ℕ) → c < 3 → code ≡ c → x ≡ cell 8 ι j 1 → y ≡ cell 8 ι j 2 → (b : Operand) → word_of R b ≡ word_of R (operand_at (operand_table os bs) v) → next_arith R p (arith_of c) x y b ≡ next_at T σ
  arith_at c hc e qx qy b w =
      arith_is ι os bs β T.count l σ (next_arith R p (arith_of c) x y b) h c (sym e) hc
      ((λ i. next_arith R (ep i) (arith_of c) (qx i) (qy i) b) ∙ new_word (arith_of c) (cell 8 ι j 1) (cell 8 ι j 2) (j + 1) b (operand_at (operand_table os bs) v) w)

  arith_label : (o : Arith) (d s m : ℕ) → End Stuck ≡ next_arith R p o d s (plain (lab m))
  unfolding next_arith given word_of base_word
  arith_label o d s m = sym (both_same (eqb (at R s).kind 0) (End Stuck))

  module _ (c : ℕ) (hc : c < 3) (e : code ≡ c) (rc : get_or columns c [] ≡ 1 ∷ 2 ∷ 0 ∷ []) where
    first : x ≡ cell 8 ι j 1
    unfolding chosen
    first = column_is c e 0 ex (ap (λ (r : List ℕ). get_or r 0 0) rc)

    second : y ≡ cell 8 ι j 2
    unfolding chosen
    second = column_is c e 1 ey (ap (λ (r : List ℕ). get_or r 1 0) rc)

    arith_operand : (b : Operand) → word_of R b ≡ word_of R (operand_at (operand_table os bs) v) → next_arith R p (arith_of c) x y b ≡ next_at T σ
    arith_operand b w = arith_at c hc e first second b w

    arith_none : kind ≡ 2 → End Stuck ≡ next_at T σ
    unfolding base_of base_word word_of
    arith_none k = arith_label (arith_of c) x y number ∙ arith_operand (plain (lab number)) (word_at 2 k)

  -- an integer taken away, as one that is added
  sub_added : n ≡ compute sub 0 number → next_arith R p add x y (plain (lit n)) ≡ next_arith R p sub x y (plain (lit number))
  unfolding next_arith given word_of base_word
  sub_added e = ap (λ (r : ℕ). cond (eqb (at R y).kind 0) (Register x (pair (integer r)) p) (End Stuck)) (ap (compute add (at R y).number) e ∙ sym (sub_is_add (at R y).number number))

  arith_rows : (c : ℕ) → c < 3 → code ≡ c → Same
  unfolding planned base_of base_word word_of arith_of last_of added_of
  arith_rows zero hc e = by_kind
      (λ q. as_form 0 (form_is 0 0 e q refl refl refl) (arith_operand 0 hc e refl (plain (reg n)) (word 0 0 e q refl)))
      (λ q. as_form 1 (form_is 0 1 e q refl refl refl) (arith_operand 0 hc e refl (plain (lit n)) (word 0 1 e q refl)))
      (λ q. as_form 24 (form_is 0 2 e q refl refl refl) (arith_none 0 hc e refl q))
  arith_rows (suc zero) hc e = by_kind
      (λ q. as_form 20 (form_is 1 0 e q refl refl refl) (arith_operand 1 hc e refl (plain (reg n)) (word 1 0 e q refl)))
      (λ q. as_form 1 (form_is 1 1 e q refl refl refl) (sub_added (last_is 1 1 e q refl) ∙ arith_operand 1 hc e refl (plain (lit number)) (word_at 1 q)))
      (λ q. as_form 24 (form_is 1 2 e q refl refl refl) (arith_none 1 hc e refl q))
  arith_rows (suc (suc zero)) hc e = by_kind
      (λ q. as_form 3 (form_is 2 0 e q refl refl refl) (arith_operand 2 hc e refl (plain (reg n)) (word 2 0 e q refl)))
      (λ q. as_form 15 (form_is 2 1 e q refl refl refl) (arith_operand 2 hc e refl (plain (lit n)) (word 2 1 e q refl)))
      (λ q. as_form 24 (form_is 2 2 e q refl refl refl) (arith_none 2 hc e refl q))
  arith_rows (suc (suc (suc k))) hc e = absurd (omega arith)

  -- ---- jumps to a label
  to_label : n ≡ number → n < l → Go (target_at T j) ≡ next_jump β l (label n)
  unfolding next_jump given provided
  to_label e m = ap (λ (i : ℕ). Go (cell 2 β i 1)) (sym e) ∙ sym (simp (lt-ltb n l m))

  to_none : l ≤ n → End Stuck ≡ next_jump β l (label n)
  unfolding next_jump given provided
  to_none m = sym (simp (le-ltb n l m))

  -- ---- branches
  goal_is : (s : Sign) → goal_in T j (column s) ≡ cond (taken (branch_of (code - 3)) s) (target_at T j) (j + 1)
  unfolding goal_in goal_at sign_of column
  goal_is negative = refl
  goal_is null = refl
  goal_is positive = refl

  module _ (c : ℕ) (l3 : 3 ≤ c) (l9 : c < 9) (e : code ≡ c) (q : (k : ℕ) → last_of c k (count_at T j) number ≡ number) (rf : get_or forms c halts ≡ 21 ∷ 22 ∷ 4 ∷ []) (rc : get_or columns c [] ≡ 1 ∷ 6 ∷ 0 ∷ []) where
    tested : x ≡ cell 8 ι j 1
    unfolding chosen
    tested = column_is c e 0 ex (ap (λ (r : List ℕ). get_or r 0 0) rc)

    sort : y ≡ c - 3
    unfolding chosen
    sort = column_is c e 1 ey (ap (λ (r : List ℕ). get_or r 1 0) rc)

    -- the branch, with a way a where it is taken
    branch_at : (a : Next) → a ≡ next_jump β l (word_of R (operand_at (operand_table os bs) v)) → given int_kind (at R x) (λ u. cond (taken (branch_of (c - 3)) (sign_of u)) a (Go p)) ≡ next_at T σ
    unfolding next_branch given
    branch_at a w =
        branch_is ι os bs β T.count l σ (given int_kind (at R x) (λ u. cond (taken (branch_of (c - 3)) (sign_of u)) a (Go p))) h c (sym e) l3 l9
        (λ i. given int_kind (at R (tested i)) (λ u. cond (taken (branch_of (c - 3)) (sign_of u)) (w i) (Go (ep i))))

    by_sort : (a : Next) → given int_kind (at R x) (λ u. cond (taken (branch_of y) (sign_of u)) a (Go p)) ≡ given int_kind (at R x) (λ u. cond (taken (branch_of (c - 3)) (sign_of u)) a (Go p))
    by_sort a = ap (λ (k : ℕ). given int_kind (at R x) (λ u. cond (taken (branch_of k) (sign_of u)) a (Go p))) sort

    by_goal : given int_kind (at R x) (λ u. Go (goal_in T j (column (sign_of u)))) ≡ given int_kind (at R x) (λ u. cond (taken (branch_of (c - 3)) (sign_of u)) (Go (target_at T j)) (Go p))
    unfolding given
    by_goal =
        let u : ℕ = (at R x).number in
        let g : Go (goal_in T j (column (sign_of u))) ≡ cond (taken (branch_of (c - 3)) (sign_of u)) (Go (target_at T j)) (Go p) =
        ap Go (goal_is (sign_of u) ∙ ap₂ (λ (k s : ℕ). cond (taken (branch_of (k - 3)) (sign_of u)) (target_at T j) s) e (sym ep)) ∙ go_either (taken (branch_of (c - 3)) (sign_of u)) (target_at T j) p in
        ap (λ (a : Next). cond (eqb (at R x).kind 0) a (End Stuck)) g

    at_2 : get_or (get_or forms c halts) 2 24 ≡ 4
    at_2 = ap (λ (r : List ℕ). get_or r 2 24) rf

    branch_rows : Same
    unfolding planned base_of base_word word_of next_jump given
    branch_rows = by_kind
        (λ k. as_form 21 (form_is c 0 e k (ap (λ (r : List ℕ). get_or r 0 24) rf) refl refl) (by_sort (next_jump β l (word_of R (plain (reg n)))) ∙ branch_at (next_jump β l (word_of R (plain (reg n)))) (ap (next_jump β l) (word c 0 e k (q 0)))))
        (λ k. as_form 22 (form_is c 1 e k (ap (λ (r : List ℕ). get_or r 1 24) rf) refl refl) (by_sort (End Stuck) ∙ branch_at (End Stuck) (ap (next_jump β l) (word c 1 e k (q 1)))))
        (λ k. by_label
        (λ t m. as_form 4 (label_form c e k at_2 true t) (by_goal ∙ branch_at (Go (target_at T j)) (to_label (last_is c 2 e k (q 2)) m ∙ ap (next_jump β l) (word c 2 e k (q 2)))))
        (λ t m. as_form 22 (label_form c e k at_2 false t) (by_sort (End Stuck) ∙ branch_at (End Stuck) (to_none m ∙ ap (next_jump β l) (word c 2 e k (q 2)))))
        (last_is c 2 e k (q 2)))

  -- ---- mov, unpack and jmp
  module _ (c : ℕ) (e : code ≡ c) (last : (k : ℕ) → last_of c k (count_at T j) number ≡ number) (rf : get_or forms c halts ≡ 5 ∷ 6 ∷ 6 ∷ []) (rc : get_or columns c [] ≡ 1 ∷ 7 ∷ 0 ∷ []) where
    target : x ≡ cell 8 ι j 1
    unfolding chosen
    target = column_is c e 0 ex (ap (λ (r : List ℕ). get_or r 0 0) rc)

    -- the kind of the word that a row of form 6 has
    constant : y ≡ kind - 1
    unfolding chosen
    constant = column_is c e 1 ey (ap (λ (r : List ℕ). get_or r 1 0) rc)

    module _ (m : next_of T σ (instr_at ι (operand_table os bs) j) ≡ moves ι os bs β T.count l σ) where
      moved : (b : Operand) → word_of R b ≡ word_of R (operand_at (operand_table os bs) v) → Register x (pair (word_of R b)) p ≡ next_at T σ
      moved b w =
          here ι os bs β T.count l σ (Register x (pair (word_of R b)) p) h
          (moved_is ι os bs β T.count l σ ep target m (pair (word_of R b)) w)

      constant_of : (k : ℕ) → kind ≡ k → ◌≡◌ {A = Next} (Register x (record { kind = y; number = n }) p) (Register x (record { kind = k - 1; number = n }) p)
      constant_of k q = ap (λ (i : ℕ). Register x (record { kind = i; number = n }) p) (constant ∙ ap (λ (i : ℕ). i - 1) q)

      form_in_row : (k g : ℕ) → kind ≡ k → get_or (5 ∷ 6 ∷ 6 ∷ []) k 24 ≡ g → eqb g 4 ≡ false → eqb g 7 ≡ false → f ≡ g
      form_in_row k g q s a b = form_is c k e q (ap (λ (r : List ℕ). get_or r k 24) rf ∙ s) a b

      mov_rows : Same
      unfolding planned base_of base_word word_of
      mov_rows = by_kind
          (λ q. as_form 5 (form_in_row 0 5 q refl refl refl) (moved (plain (reg n)) (word c 0 e q (last 0))))
          (λ q. as_form 6 (form_in_row 1 6 q refl refl refl) (constant_of 1 q ∙ moved (plain (lit n)) (word c 1 e q (last 1))))
          (λ q. as_form 6 (form_in_row 2 6 q refl refl refl) (constant_of 2 q ∙ moved (plain (lab n)) (word c 2 e q (last 2))))

  jmp_at : code ≡ 21 → (w : Word) → w ≡ word_of R (operand_at (operand_table os bs) v) → next_jump β l w ≡ next_at T σ
  jmp_at e w q = jmp_is ι os bs β T.count l σ (next_jump β l w) h e (pair w) q refl refl

  jmp_rows : code ≡ 21 → Same
  unfolding planned base_of base_word word_of next_jump given last_of
  jmp_rows e = by_kind
      (λ q. as_form 8 (form_is 21 0 e q refl refl refl) (jmp_at e (word_of R (plain (reg n))) (word 21 0 e q refl)))
      (λ q. as_form 24 (form_is 21 1 e q refl refl refl) (jmp_at e (word_of R (plain (lit n))) (word 21 1 e q refl)))
      (λ q. by_label
      (λ t m. as_form 7 (label_form 21 e q refl true t) (to_label (last_is 21 2 e q refl) m ∙ jmp_at e (label n) (word 21 2 e q refl)))
      (λ t m. as_form 24 (label_form 21 e q refl false t) (to_none m ∙ jmp_at e (label n) (word 21 2 e q refl)))
      (last_is 21 2 e q refl))

  -- ---- the others, by their codes
  ld_row : code ≡ 10 → Same
  unfolding planned chosen
  ld_row e = as_form 9 (plain_form 10 9 e refl refl refl) (here ι os bs β T.count l σ (next_load R σ.heap p x y z) h
      (ld_is ι os bs β T.count l σ ep (column_is 10 e 0 ex refl) (next_load R σ.heap p x y z) (column_is 10 e 1 ey refl) (column_is 10 e 2 ez refl) e refl))

  st_row : code ≡ 11 → Same
  unfolding planned chosen
  st_row e = as_form 10 (plain_form 11 10 e refl refl refl) (here ι os bs β T.count l σ (next_store R σ.heap p x z y) h
      (st_is ι os bs β T.count l σ ep (column_is 11 e 0 ex refl) (next_store R σ.heap p x z y) (column_is 11 e 2 ez refl) (column_is 11 e 1 ey refl) e refl))

  getsp_row : code ≡ 13 → Same
  unfolding planned chosen
  getsp_row e = as_form 16 (plain_form 13 16 e refl refl refl) (here ι os bs β T.count l σ (Register x (pair (height σ.depth)) p) h
      (getsp_is ι os bs β T.count l σ ep (column_is 13 e 0 ex refl) e))

  setsp_row : code ≡ 14 → Same
  unfolding planned chosen
  setsp_row e = as_form 17 (plain_form 14 17 e refl refl refl) (here ι os bs β T.count l σ (next_cut R σ.depth p x) h
      (setsp_is ι os bs β T.count l σ ep (column_is 14 e 0 ex refl) (next_cut R σ.depth p x) e refl))

  salloc_row : code ≡ 15 → Same
  unfolding planned chosen
  salloc_row e = as_form 18 (plain_form 15 18 e refl refl refl) (here ι os bs β T.count l σ (next_push σ.depth p z) h
      (salloc_is ι os bs β T.count l σ ep (column_is 15 e 2 ez refl) (next_push σ.depth p z) e refl))

  sfree_row : code ≡ 16 → Same
  unfolding planned chosen
  sfree_row e = as_form 19 (plain_form 16 19 e refl refl refl) (here ι os bs β T.count l σ (next_pop σ.depth p z) h
      (sfree_is ι os bs β T.count l σ ep (column_is 16 e 2 ez refl) (next_pop σ.depth p z) e refl))

  sld_row : code ≡ 17 → Same
  unfolding planned chosen
  sld_row e = as_form 11 (plain_form 17 11 e refl refl refl) (here ι os bs β T.count l σ (next_read σ.stack σ.depth p x z) h
      (sld_is ι os bs β T.count l σ ep (column_is 17 e 0 ex refl) (next_read σ.stack σ.depth p x z) (column_is 17 e 2 ez refl) refl e refl))

  sst_row : code ≡ 18 → Same
  unfolding planned chosen
  sst_row e = as_form 12 (plain_form 18 12 e refl refl refl) (here ι os bs β T.count l σ (next_write R σ.depth p z y) h
      (sst_is ι os bs β T.count l σ ep (column_is 18 e 2 ez refl) (next_write R σ.depth p z y) (column_is 18 e 1 ey refl) refl e refl))

  slp_row : code ≡ 19 → Same
  unfolding planned chosen
  slp_row e = as_form 13 (plain_form 19 13 e refl refl refl) (here ι os bs β T.count l σ (next_read_through R σ.stack σ.depth p x y z) h
      (slp_is ι os bs β T.count l σ ep (column_is 19 e 0 ex refl) (next_read_through R σ.stack σ.depth p x y z) (column_is 19 e 1 ey refl) refl (column_is 19 e 2 ez refl) e refl))

  ssp_row : code ≡ 20 → Same
  unfolding planned chosen
  ssp_row e = as_form 14 (plain_form 20 14 e refl refl refl) (here ι os bs β T.count l σ (next_write_through R σ.depth p x z y) h
      (ssp_is ι os bs β T.count l σ ep (column_is 20 e 0 ex refl) (next_write_through R σ.depth p x z y) (column_is 20 e 2 ez refl) refl (column_is 20 e 1 ey refl) e refl))

  malloc_row : code ≡ 12 → Same
  unfolding planned chosen last_of
  malloc_row e = as_form 2 (plain_form 12 2 e refl refl refl) (here ι os bs β T.count l σ (next_tuple σ.used p x z n) h
      (malloc_is ι os bs β T.count l σ ep (column_is 12 e 0 ex refl) (next_tuple σ.used p x z n) e (column_is 12 e 2 ez refl) (last_is 12 kind e refl refl) refl))

  past_unpack : 22 < code → (code ≡ 23 → ⊥) → 24 ≤ code
  past_unpack q u = omega arith

  -- code 22, or one past the table
  halt_form : 22 ≤ code → (code ≡ 23 → ⊥) → f ≡ 23
  halt_form m u = pick (dec_lt 22 code)
    where
      pick : Dec (22 < code) → f ≡ 23
      pick (yes q) = let s : 24 ≤ code = past_unpack q u in form_at_lem code refl 23 (sym (past_form code kind s kind_low)) ∙ other_is there 23 refl refl
      pick (no q) = let e : code ≡ 22 = omega arith in plain_form 22 23 e refl refl refl

  halt_row : 22 ≤ code → (code ≡ 23 → ⊥) → Same
  unfolding planned
  halt_row m u = as_form 23 (halt_form m u) (halt_is ι os bs β T.count l σ h m u)

  but_unpack : {X : Type 0} → (code ≡ 23 → X) → ((code ≡ 23 → ⊥) → X) → X
  but_unpack {X} a b = pick (eqb code 23) refl
    where
      pick : (t : Bool) → eqb code 23 ≡ t → X
      pick true e = a (eqb-true code 23 e)
      pick false e = b (eqb-false code 23 e)

  equal : {X : Type 0} (k : ℕ) → (code ≡ k → X) → k ≤ code → (suc k ≤ code → X) → X
  equal {X} k a m b = pick (dec_lt k code)
    where
      pick : Dec (k < code) → X
      pick (yes q) = b q
      pick (no q) = a (omega arith)

  pub row_does : Same
  unfolding last_of
  row_does =
      equal 0 (λ e. arith_rows 0 (omega arith) e) (omega arith) λ l1.
      equal 1 (λ e. arith_rows 1 (omega arith) e) l1 λ l2.
      equal 2 (λ e. arith_rows 2 (omega arith) e) l2 λ l3.
      equal 3 (λ e. branch_rows 3 (omega arith) (omega arith) e (λ k. refl) refl refl) l3 λ l4.
      equal 4 (λ e. branch_rows 4 (omega arith) (omega arith) e (λ k. refl) refl refl) l4 λ l5.
      equal 5 (λ e. branch_rows 5 (omega arith) (omega arith) e (λ k. refl) refl refl) l5 λ l6.
      equal 6 (λ e. branch_rows 6 (omega arith) (omega arith) e (λ k. refl) refl refl) l6 λ l7.
      equal 7 (λ e. branch_rows 7 (omega arith) (omega arith) e (λ k. refl) refl refl) l7 λ l8.
      equal 8 (λ e. branch_rows 8 (omega arith) (omega arith) e (λ k. refl) refl refl) l8 λ l9.
      equal 9 (λ e. mov_rows 9 e (λ k. refl) refl refl (mov_moves ι os bs β T.count l σ e)) l9 λ l10.
      equal 10 (λ e. ld_row e) l10 λ l11.
      equal 11 (λ e. st_row e) l11 λ l12.
      equal 12 (λ e. malloc_row e) l12 λ l13.
      equal 13 (λ e. getsp_row e) l13 λ l14.
      equal 14 (λ e. setsp_row e) l14 λ l15.
      equal 15 (λ e. salloc_row e) l15 λ l16.
      equal 16 (λ e. sfree_row e) l16 λ l17.
      equal 17 (λ e. sld_row e) l17 λ l18.
      equal 18 (λ e. sst_row e) l18 λ l19.
      equal 19 (λ e. slp_row e) l19 λ l20.
      equal 20 (λ e. ssp_row e) l20 λ l21.
      equal 21 (λ e. jmp_rows e) l21 λ l22.
      but_unpack (λ e. mov_rows 23 e (λ k. refl) refl refl (unpack_moves ι os bs β T.count l σ e)) λ u.
      halt_row l22 u

  -- ---- what a row says of registers
  abbrev Low : Type 0
  Low = (x < 8) × (y < 8) × (reads_operand f ≡ true → n < 8)

  module _ (fit : Fit T) where
    abbrev names : (i : Instr) → instr_at ι (operands_of T) j ≡ i → Registered i
    names i e = subst Registered e (fit.registers j h)

    none_read : (r : ℕ) → f ≡ r → reads_operand r ≡ false → reads_operand f ≡ true → n < 8
    none_read r e q g = none_true (sym q ∙ ap reads_operand (sym e) ∙ g)

    -- an operand that is read is a register
    operand_read : (c : ℕ) → code ≡ c → last_of c 0 (count_at T j) number ≡ number → LowOperand (operand_at (operand_table os bs) v) → reads_operand (get_or (get_or forms c halts) 1 24) ≡ false → reads_operand (get_or (get_or forms c halts) 2 24) ≡ false → reads_operand f ≡ true → n < 8
    unfolding kind_at
    operand_read c e q lo r1 r2 g = by_kind
        (λ k. let m : number < 8 = low_register (base_kind (cell 4 os v 0)) number k (low_base (operand_table os bs) v lo) in
        let w : n ≡ number = last_is c 0 e k q in
        omega arith)
        (λ k. let m = get_or (get_or forms c halts) 1 24 in none_true (sym (not_read there (eqb m 4) (eqb m 7) m r1) ∙ ap reads_operand (sym (form_at_lem c e m (at_kind c 1 k refl))) ∙ g))
        (λ k. let m = get_or (get_or forms c halts) 2 24 in none_true (sym (not_read there (eqb m 4) (eqb m 7) m r2) ∙ ap reads_operand (sym (form_at_lem c e m (at_kind c 2 k refl))) ∙ g))

    low : (i k : ℕ) → i ≡ k → k < 8 → i < 8
    low i k e m = omega arith

    zero_low : (i : ℕ) → i ≡ 0 → i < 8
    zero_low i e = omega arith

    arith_low : (c : ℕ) → c < 3 → code ≡ c → last_of c 0 (count_at T j) number ≡ number → get_or columns c [] ≡ 1 ∷ 2 ∷ 0 ∷ [] → reads_operand (get_or (get_or forms c halts) 1 24) ≡ false → reads_operand (get_or (get_or forms c halts) 2 24) ≡ false → Low
    arith_low c hc e q rc r1 r2 =
        let m = names _ (is_arith ι (operands_of T) j c e hc) in
        (low x (cell 8 ι j 1) (first c hc e rc) m.0, low y (cell 8 ι j 2) (second c hc e rc) m.1, operand_read c e q m.2 r1 r2)

    branch_low : (c : ℕ) → 3 ≤ c → c < 9 → code ≡ c → ((k : ℕ) → last_of c k (count_at T j) number ≡ number) → get_or forms c
        halts ≡ 21 ∷ 22 ∷ 4 ∷ [] → get_or columns c [] ≡ 1 ∷ 6 ∷ 0 ∷ [] → reads_operand (get_or (get_or forms c halts) 1 24) ≡ false
        → reads_operand (get_or (get_or forms c halts) 2 24) ≡ false → Low
    branch_low c l3 l9 e q rf rc r1 r2 =
        let k : ℕ = c - 3 in
        let ek : code ≡ 3 + k = omega arith in
        let lk : k < 6 = omega arith in
        let m = names _ (is_branch ι (operands_of T) j k ek lk) in
        let s : y ≡ c - 3 = sort c l3 l9 e q rf rc in
        (low x (cell 8 ι j 1) (tested c l3 l9 e q rf rc) m.0, omega arith, operand_read c e (q 0) m.1 r1 r2)

    ld_low : code ≡ 10 → Low
    unfolding chosen reads_operand
    ld_low e =
        let m = names _ (is_ld ι (operands_of T) j e) in
        (low x (cell 8 ι j 1) (column_is 10 e 0 ex refl) m.0, low y (cell 8 ι j 2) (column_is 10 e 1 ey refl) m.1, none_read 9 (plain_form 10 9 e refl refl refl) refl)

    st_low : code ≡ 11 → Low
    unfolding chosen reads_operand
    st_low e =
        let m = names _ (is_st ι (operands_of T) j e) in
        (low x (cell 8 ι j 1) (column_is 11 e 0 ex refl) m.0, low y (cell 8 ι j 3) (column_is 11 e 1 ey refl) m.1, none_read 10 (plain_form 11 10 e refl refl refl) refl)

    malloc_low : code ≡ 12 → Low
    unfolding chosen reads_operand
    malloc_low e =
        let m = names _ (is_malloc ι (operands_of T) j e) in
        (low x (cell 8 ι j 1) (column_is 12 e 0 ex refl) m.0, zero_low y (column_is 12 e 1 ey refl), none_read 2 (plain_form 12 2 e refl refl refl) refl)

    getsp_low : code ≡ 13 → Low
    unfolding chosen reads_operand
    getsp_low e =
        let m = names _ (is_getsp ι (operands_of T) j e) in
        (low x (cell 8 ι j 1) (column_is 13 e 0 ex refl) m, zero_low y (column_is 13 e 1 ey refl), none_read 16 (plain_form 13 16 e refl refl refl) refl)

    setsp_low : code ≡ 14 → Low
    unfolding chosen reads_operand
    setsp_low e =
        let m = names _ (is_setsp ι (operands_of T) j e) in
        (low x (cell 8 ι j 1) (column_is 14 e 0 ex refl) m, zero_low y (column_is 14 e 1 ey refl), none_read 17 (plain_form 14 17 e refl refl refl) refl)

    salloc_low : code ≡ 15 → Low
    unfolding chosen reads_operand
    salloc_low e =
        (zero_low x (column_is 15 e 0 ex refl), zero_low y (column_is 15 e 1 ey refl), none_read 18 (plain_form 15 18 e refl refl refl) refl)

    sfree_low : code ≡ 16 → Low
    unfolding chosen reads_operand
    sfree_low e =
        (zero_low x (column_is 16 e 0 ex refl), zero_low y (column_is 16 e 1 ey refl), none_read 19 (plain_form 16 19 e refl refl refl) refl)

    sld_low : code ≡ 17 → Low
    unfolding chosen reads_operand
    sld_low e =
        let m = names _ (is_sld ι (operands_of T) j e) in
        (low x (cell 8 ι j 1) (column_is 17 e 0 ex refl) m, zero_low y (column_is 17 e 1 ey refl), none_read 11 (plain_form 17 11 e refl refl refl) refl)

    sst_low : code ≡ 18 → Low
    unfolding chosen reads_operand
    sst_low e =
        let m = names _ (is_sst ι (operands_of T) j e) in
        (zero_low x (column_is 18 e 0 ex refl), low y (cell 8 ι j 2) (column_is 18 e 1 ey refl) m, none_read 12 (plain_form 18 12 e refl refl refl) refl)

    slp_low : code ≡ 19 → Low
    unfolding chosen reads_operand
    slp_low e =
        let m = names _ (is_slp ι (operands_of T) j e) in
        (low x (cell 8 ι j 1) (column_is 19 e 0 ex refl) m.0, low y (cell 8 ι j 2) (column_is 19 e 1 ey refl) m.1, none_read 13 (plain_form 19 13 e refl refl refl) refl)

    ssp_low : code ≡ 20 → Low
    unfolding chosen reads_operand
    ssp_low e =
        let m = names _ (is_ssp ι (operands_of T) j e) in
        (low x (cell 8 ι j 1) (column_is 20 e 0 ex refl) m.0, low y (cell 8 ι j 3) (column_is 20 e 1 ey refl) m.1, none_read 14 (plain_form 20 14 e refl refl refl) refl)

    mov_low : (c : ℕ) → code ≡ c → ((k : ℕ) → last_of c k (count_at T j) number ≡ number) → (rf : get_or forms c halts ≡ 5 ∷ 6 ∷ 6 ∷ []) → get_or columns c [] ≡ 1 ∷ 7 ∷ 0 ∷ [] → (cell 8 ι j 1 < 8) × LowOperand (operand_at (operand_table os bs) v) → reads_operand (get_or (get_or forms c halts) 1 24) ≡ false → reads_operand (get_or (get_or forms c halts) 2 24) ≡ false → Low
    mov_low c e last rf rc m r1 r2 =
        (low x (cell 8 ι j 1) (target c e last rf rc) m.0, omega (arith, kind_low, constant c e last rf rc), operand_read c e (last 0) m.1 r1 r2)

    jmp_low : code ≡ 21 → Low
    unfolding chosen reads_operand last_of
    jmp_low e =
        let m = names _ (is_jmp ι (operands_of T) j e) in
        (zero_low x (column_is 21 e 0 ex refl), zero_low y (column_is 21 e 1 ey refl), operand_read 21 e refl m refl refl)

    halt_column : (i : ℕ) {r : ℕ} → 22 ≤ code → (code ≡ 23 → ⊥) → r ≡ column_at T j i → i < 3 → r ≡ 0
    unfolding column_at chosen
    halt_column i {r} m u e hi = pick (dec_lt 22 code)
      where
        none : (k : ℕ) → k ≡ 0 → chosen k (cell 8 ι j 1) (cell 8 ι j 2) (cell 8 ι j 3) (target_at T j) (operand_in T j) (code - 3) (kind - 1) ≡ 0
        none k q = rw q

        zeros : (i : ℕ) → i < 3 → ◌≡◌ {A = ℕ} (get_or (0 ∷ 0 ∷ 0 ∷ []) i 0) 0
        zeros zero q = refl
        zeros (suc zero) q = refl
        zeros (suc (suc zero)) q = refl
        zeros (suc (suc (suc k))) q = absurd (omega arith)

        pick : Dec (22 < code) → r ≡ 0
        pick (yes q) = e ∙ none (get_or (get_or columns code []) i 0) (ap (λ (r : List ℕ). get_or r i 0) (get_or-eq_default columns [] (past_unpack q u)))
        pick (no q) =
            let c : code ≡ 22 = omega arith in
            e ∙ none (get_or (get_or columns code []) i 0) (ap (λ (k : ℕ). get_or (get_or columns k []) i 0) c ∙ zeros i hi)

    halt_low : 22 ≤ code → (code ≡ 23 → ⊥) → Low
    unfolding reads_operand
    halt_low m u = (zero_low x (halt_column 0 m u ex (omega arith)), zero_low y (halt_column 1 m u ey (omega arith)), none_read 23 (halt_form m u) refl)

    pub row_low : Low
    unfolding reads_operand last_of added_of
    row_low =
        equal 0 (λ e. arith_low 0 (omega arith) e refl refl refl refl) (omega arith) λ l1.
        equal 1 (λ e. arith_low 1 (omega arith) e refl refl refl refl) l1 λ l2.
        equal 2 (λ e. arith_low 2 (omega arith) e refl refl refl refl) l2 λ l3.
        equal 3 (λ e. branch_low 3 (omega arith) (omega arith) e (λ k. refl) refl refl refl refl) l3 λ l4.
        equal 4 (λ e. branch_low 4 (omega arith) (omega arith) e (λ k. refl) refl refl refl refl) l4 λ l5.
        equal 5 (λ e. branch_low 5 (omega arith) (omega arith) e (λ k. refl) refl refl refl refl) l5 λ l6.
        equal 6 (λ e. branch_low 6 (omega arith) (omega arith) e (λ k. refl) refl refl refl refl) l6 λ l7.
        equal 7 (λ e. branch_low 7 (omega arith) (omega arith) e (λ k. refl) refl refl refl refl) l7 λ l8.
        equal 8 (λ e. branch_low 8 (omega arith) (omega arith) e (λ k. refl) refl refl refl refl) l8 λ l9.
        equal 9 (λ e. mov_low 9 e (λ k. refl) refl refl (names _ (is_mov ι (operands_of T) j e)) refl refl) l9 λ l10.
        equal 10 (λ e. ld_low e) l10 λ l11.
        equal 11 (λ e. st_low e) l11 λ l12.
        equal 12 (λ e. malloc_low e) l12 λ l13.
        equal 13 (λ e. getsp_low e) l13 λ l14.
        equal 14 (λ e. setsp_low e) l14 λ l15.
        equal 15 (λ e. salloc_low e) l15 λ l16.
        equal 16 (λ e. sfree_low e) l16 λ l17.
        equal 17 (λ e. sld_low e) l17 λ l18.
        equal 18 (λ e. sst_low e) l18 λ l19.
        equal 19 (λ e. slp_low e) l19 λ l20.
        equal 20 (λ e. ssp_low e) l20 λ l21.
        equal 21 (λ e. jmp_low e) l21 λ l22.
        but_unpack (λ e. mov_low 23 e (λ k. refl) refl refl (names _ (is_unpack ι (operands_of T) j e)) refl refl) λ u.
        halt_low l22 u

  -- ---- where a row leads
  branch_there : f ≡ 4 → number < l
  unfolding form_at form_for
  branch_there e = ltb-true number l (was_branch there (eqb (form_for T j) 4) (eqb (form_for T j) 7) (form_for T j) refl (sym ef ∙ e))

  jump_there : f ≡ 7 → number < l
  unfolding form_at form_for
  jump_there e = ltb-true number l (was_jump there (eqb (form_for T j) 4) (eqb (form_for T j) 7) (form_for T j) refl (sym ef ∙ e))

  pub jump_place : f ≡ 7 → z ≡ 8 * target_at T j
  unfolding form_at form_for chosen alone
  jump_place e =
      let q : form_for T j ≡ 7 = was_same there (eqb (form_for T j) 4) (eqb (form_for T j) 7) (form_for T j) 7 (omega arith) (sym ef ∙ e) in
      column_is 21 (code_of 7 21 tt (omega arith) code kind kind_low q) 2 ez refl

  pub jump_within : Fit T → f ≡ 7 → target_at T j ≤ T.count
  jump_within fit e = let m : target_at T j < T.count = fit.starts number (jump_there e) in omega arith

  either : (b : Bool) (s t m : ℕ) → s ≤ m → t ≤ m → cond b s t ≤ m
  either true s t m hs ht = hs
  either false s t m hs ht = ht

  pub branch_within : Fit T → f ≡ 4 → (i : ℕ) → goal_in T j i ≤ T.count
  unfolding goal_in goal_at
  branch_within fit e i =
      let a : target_at T j < T.count = fit.starts number (branch_there e) in
      let s : target_at T j ≤ T.count = omega arith in
      let t : j + 1 ≤ T.count = omega arith in
      let g : (x : ℕ) → cond (taken (branch_of (code - 3)) (sign_of x)) (target_at T j) (j + 1) ≤ T.count = λ x. either (taken (branch_of (code - 3)) (sign_of x)) (target_at T j) (j + 1) T.count s t in
      either (eqb i 0) _ _ T.count (g 2147483648) (either (eqb i 1) _ _ T.count (g 0) (g 1))

  -- ---- the operands of a row of `malloc`
  malloc_code : f ≡ 2 → code ≡ 12
  unfolding form_at form_for alone
  malloc_code e = code_of 2 12 tt (omega arith) code kind kind_low (was_same there (eqb (form_for T j) 4) (eqb (form_for T j) 7) (form_for T j) 2 (omega arith) (sym ef ∙ e))

  pub malloc_operands : Fit T → f ≡ 2 → (z + n ≤ length bs) × (4 * (z + n) ≤ length os) × ((k : ℕ) → k < n → base_kind (get_or os (4 * (z + k)) 0) ≡ 0 → get_or bs (z + k) 0 < 8)
  unfolding chosen last_of
  malloc_operands fit e = (omega (arith, first_is, count_is, (fit.room j h).0), omega (arith, first_is, count_is, (fit.room j h).1), registers)
    where
      first_is : z ≡ cell 8 ι j 5
      first_is = column_is 12 (malloc_code e) 2 ez refl

      count_is : n ≡ cell 8 ι j 6
      count_is = last_is 12 kind (malloc_code e) refl refl

      registers : (k : ℕ) → k < n → base_kind (get_or os (4 * (z + k)) 0) ≡ 0 → get_or bs (z + k) 0 < 8
      registers k l q =
          let named = subst Registered (is_malloc ι (operands_of T) j (malloc_code e)) (fit.registers j h) in
          let low = low_base (operand_table os bs) (v + k) (low_among (operand_table os bs) v (cell 8 ι j 6) k named.1 (omega (arith, l, count_is))) in
          let s : 4 * (v + k) + 0 ≡ 4 * (z + k) = omega (arith, first_is) in
          let r : z + k ≡ v + k = omega (arith, first_is) in
          subst (λ (i : ℕ). get_or bs i 0 < 8) (sym r) (low_register (base_kind (cell 4 os (v + k) 0)) (get_or bs (v + k) 0) (ap (λ (i : ℕ). base_kind (get_or os i 0)) s ∙ q) low)

-- ---- a row of the table
module _ (T : Tables) (φ : List ℕ) (pl : Plan T φ) (σ : State) (h : σ.position ≤ T.count) where
  abbrev i : ℕ
  i = σ.position

  -- an instruction's row, or the one behind
  by_row : {X : Type 0} → (i < T.count → X) → (i ≡ T.count → X) → X
  by_row {X} a b = pick (dec_lt i T.count)
    where
      pick : Dec (i < T.count) → X
      pick (yes q) = a q
      pick (no q) = b (omega arith)

  entry : i < T.count → (k : ℕ) → k < 8 → cell 8 φ i k ≡ get_or (row_of T i) k 0
  entry m k q = pl.rows i k m q

  behind : i ≡ T.count → (k : ℕ) → k < 8 → cell 8 φ i k ≡ get_or stuck_row k 0
  behind e k q = ap (λ (j : ℕ). cell 8 φ j k) e ∙ pl.last k q

  abbrev form : ℕ
  form = form_in (cell 8 φ i 0) (cell 8 φ i 5)

  module _ (m : i < T.count) where
    class_cell : cell 8 φ i 0 ≡ class_of (form_at T i)
    unfolding row_of
    class_cell = entry m 0 (omega arith)

    fifth_cell : cell 8 φ i 5 ≡ fifth_of (form_at T i) (8 * goal_in T i 0)
    unfolding row_of
    fifth_cell = entry m 5 (omega arith)

    form_cell_lem : form ≡ form_at T i
    form_cell_lem = ap₂ form_in class_cell fifth_cell ∙ form_back (form_at T i) (8 * goal_in T i 0)

    cell_1 : cell 8 φ i 1 ≡ column_at T i 0
    unfolding row_of
    cell_1 = entry m 1 (omega arith)

    cell_2 : cell 8 φ i 2 ≡ column_at T i 1
    unfolding row_of
    cell_2 = entry m 2 (omega arith)

    cell_3 : cell 8 φ i 3 ≡ column_at T i 2
    unfolding row_of
    cell_3 = entry m 3 (omega arith)

    cell_4 : cell 8 φ i 4 ≡ last_at T i
    unfolding row_of
    cell_4 = entry m 4 (omega arith)

    goal_cells : form ≡ 4 → (k : ℕ) → k < 3 → cell 8 φ i (5 + k) ≡ 8 * goal_in T i k
    unfolding row_of
    goal_cells e zero q =
        let w : form_at T i < 15 = omega (arith, form_cell_lem, e) in
        fifth_cell ∙ sym (fifth_goal (form_at T i) (8 * goal_in T i 0) w)
    goal_cells e (suc zero) q = entry m 6 (omega arith)
    goal_cells e (suc (suc zero)) q = entry m 7 (omega arith)
    goal_cells e (suc (suc (suc k))) q = absurd (omega arith)

  stuck_form : i ≡ T.count → form ≡ 24
  unfolding form_in
  stuck_form e = ap₂ form_in (behind e 0 (omega arith)) (behind e 5 (omega arith))

  stuck : (f : ℕ) → f ≡ 24 → planned T.blocks T.labels (target_at T i) (goal_in T i) f (cell 8 φ i 1) (cell 8 φ i 2) (cell 8 φ i 3) (cell 8 φ i 4) (i + 1) σ.registers σ.stack σ.heap σ.depth σ.used ≡ End Stuck
  unfolding planned
  stuck f e = rw e

  pub next_is : {l : ℕ} {β : List ℕ} → T.labels ≡ l → T.blocks ≡ β → planned β l (target_at T σ.position) (goal_in T σ.position)
      (form_in (cell 8 φ σ.position 0) (cell 8 φ σ.position 5)) (cell 8 φ σ.position 1) (cell 8 φ σ.position 2)
      (cell 8 φ σ.position 3) (cell 8 φ σ.position 4) (σ.position + 1) σ.registers σ.stack σ.heap σ.depth
      σ.used ≡ next_at T σ
  next_is {l} {β} el eβ =
      ap₂ (λ (b : List ℕ) (k : ℕ). planned b k (target_at T i) (goal_in T i) form (cell 8 φ i 1) (cell 8 φ i 2) (cell 8 φ i 3) (cell 8 φ i 4) (i + 1) σ.registers σ.stack σ.heap σ.depth σ.used) (sym eβ) (sym el)
      ∙ by_row
      (λ m. row_does T σ m (form_cell_lem m) (cell_1 m) (cell_2 m) (cell_3 m) (cell_4 m) refl)
      (λ e. stuck form (stuck_form e) ∙ nowhere T.instrs T.operands T.bases T.blocks T.count T.labels σ (End Stuck) (omega arith) refl)

  pub before_last : form_in (cell 8 φ σ.position 0) (cell 8 φ σ.position 5) < 24 → σ.position < T.count
  before_last q = by_row (λ m. m) (λ e. absurd (omega (arith, stuck_form e, q)))

  pub class_low : cell 8 φ σ.position 0 < 16
  class_low = by_row
      (λ m. omega (arith, class_cell m, class_small (form_at T i)))
      (λ e. let w : cell 8 φ i 0 ≡ 15 = behind e 0 (omega arith) in omega arith)

  pub other_low : cell 8 φ σ.position 0 ≡ 15 → 15 ≤ cell 8 φ σ.position 5
  other_low q = by_row
      (λ m. omega (arith, fifth_cell m, fifth_low (form_at T i) (8 * goal_in T i 0) (sym (class_cell m) ∙ q)))
      (λ e. let w : cell 8 φ i 5 ≡ 24 = behind e 5 (omega arith) in omega arith)

  pub goal_cell : (k : ℕ) → k < 3 → form_in (cell 8 φ σ.position 0) (cell 8 φ σ.position 5) ≡ 4 → cell 8 φ σ.position (5 + k) ≡ 8 * goal_in T σ.position k
  goal_cell k q e = goal_cells (before_last (omega (arith, e))) e k q

  pub jump_cell : form_in (cell 8 φ σ.position 0) (cell 8 φ σ.position 5) ≡ 7 → cell 8 φ σ.position 3 ≡ 8 * target_at T σ.position
  jump_cell e =
      let m : i < T.count = before_last (omega (arith, e)) in
      jump_place T σ m (form_cell_lem m) (cell_1 m) (cell_2 m) (cell_3 m) (cell_4 m) refl e

  module _ (fit : Fit T) where
    pub goal_in_lem : form_in (cell 8 φ σ.position 0) (cell 8 φ σ.position 5) ≡ 4 → (k : ℕ) → goal_in T σ.position k ≤ T.count
    goal_in_lem e k =
        let m : i < T.count = before_last (omega (arith, e)) in
        branch_within T σ m (form_cell_lem m) (cell_1 m) (cell_2 m) (cell_3 m) (cell_4 m) refl fit e k

    pub jump_in : form_in (cell 8 φ σ.position 0) (cell 8 φ σ.position 5) ≡ 7 → target_at T σ.position ≤ T.count
    jump_in e =
        let m : i < T.count = before_last (omega (arith, e)) in
        jump_within T σ m (form_cell_lem m) (cell_1 m) (cell_2 m) (cell_3 m) (cell_4 m) refl fit e

    pub low_first : cell 8 φ σ.position 1 < 8
    low_first = by_row
        (λ m. (row_low T σ m (form_cell_lem m) (cell_1 m) (cell_2 m) (cell_3 m) (cell_4 m) refl fit).0)
        (λ e. let w : cell 8 φ i 1 ≡ 0 = behind e 1 (omega arith) in omega arith)

    pub low_second : cell 8 φ σ.position 2 < 8
    low_second = by_row
        (λ m. (row_low T σ m (form_cell_lem m) (cell_1 m) (cell_2 m) (cell_3 m) (cell_4 m) refl fit).1)
        (λ e. let w : cell 8 φ i 2 ≡ 0 = behind e 2 (omega arith) in omega arith)

    pub low_operand : reads_operand (form_in (cell 8 φ σ.position 0) (cell 8 φ σ.position 5)) ≡ true → cell 8 φ σ.position 4 < 8
    low_operand r = by_row
        (λ m. (row_low T σ m (form_cell_lem m) (cell_1 m) (cell_2 m) (cell_3 m) (cell_4 m) refl fit).2 r)
        (λ e. let w : cell 8 φ i 4 ≡ 0 = behind e 4 (omega arith) in omega arith)

    pub tuple_operands : form_in (cell 8 φ σ.position 0) (cell 8 φ σ.position 5) ≡ 2 → (cell 8 φ σ.position 3 + cell 8 φ
        σ.position 4 ≤ length T.bases) × (4 * (cell 8 φ σ.position 3 + cell 8 φ σ.position 4) ≤ length T.operands)
        × ((k : ℕ) → k < cell 8 φ σ.position 4 → base_kind (get_or T.operands (4 * (cell 8 φ σ.position 3 + k)) 0) ≡ 0 → get_or T.bases
        (cell 8 φ σ.position 3 + k) 0 < 8)
    tuple_operands e =
        let m : i < T.count = before_last (omega (arith, e)) in
        malloc_operands T σ m (form_cell_lem m) (cell_1 m) (cell_2 m) (cell_3 m) (cell_4 m) refl fit e
