-- Laws of a base that carries arguments.
use Prim.Native.Nat.{ℕ, zero, suc, ◌+◌, ◌-◌, ◌≤◌, ◌<◌}
use native.Mathlib.Omega.{arith}
use mathlib.Core.Path.{◌≡◌, refl, ap, sym, subst, ◌∙◌}
use mathlib.Core.Bool.{Bool, true, false, ◌&&◌, not, cond}
use mathlib.Core.Option.{Option, none, some}
use mathlib.Core.List.{List, [], map, reverse}
use lib.Dec.{leb, ltb, eqb}
use borrow.Author.Tests.{eqb-true, lt-ltb, le-ltb}
use lib.ListN.{length, get_or, take, drop}
use Rattle.syntax.specs.Partial.{guarded}
use Rattle.syntax.specs.Syntax.{Kind, value, stack, Base, Operand, plain, inst, pack}
use Rattle.syntax.specs.Fault.{Fault, number_of, fault}
use Rattle.syntax.proofs.Least.{least}
use Rattle.types.specs.Types.{Ty, int, junk, var, tuple, pointer, hidden, code, Arg, arg, kind_of, of_kind, filled, a_stack, Wf}
use Rattle.types.specs.Rows.{type_at, types_of}
use Rattle.types.specs.Equal.{same_letters}
use Rattle.types.proofs.Equal.{and_inv, none_true}
use Rattle.tables.specs.Tables.{OperandTable, cell, span, base_of, operand_of, operand_from, operand_at, rows_in}
use Rattle.valid_scope.specs.Letters.{letters_of}
use Rattle.valid.specs.Program.{Program, type_of, args_of, CodeType, as_code}
use Rattle.valid.specs.Tests.{formed_arg, formed_args, letters_left, is_filled}
use Rattle.valid.specs.PassThree.{formed, base, applied, operand}
use Rattle.valid.proofs.Reading.{formed_sound}
use Rattle.types_rows.specs.Read.{tab, arg_of}
use Rattle.types_rows.proofs.Bridge.{arg_is, arg_at, type_in_lem}
use Rattle.valid_context.specs.Told.{Told, gives, told_of, answer}
use Rattle.valid.specs.Bounds.{Short}
use Rattle.types_equal.specs.filling.Filling.{is_full, fills_to}
use Rattle.valid_typing.specs.Typing.{types_in, Ready, given_row, args_in}
use Rattle.valid_typing.proofs.OperandFaults.{applied_told, operand_told}
use Rattle.valid_typing.proofs.Args.{given_is, given_typed, args_are, back_args}

not_not : (b : Bool) → not (not b) ≡ b
not_not true = refl
not_not false = refl

pub not_yes : {b : Bool} → not b ≡ true → b ≡ false
not_yes {b} e = sym (not_not b) ∙ ap not e

pub not_no : {b : Bool} → not b ≡ false → b ≡ true
not_no {b} e = sym (not_not b) ∙ ap not e

-- ---- code types
abbrev the_code : CodeType → Option CodeType → CodeType
the_code d none = d
the_code d (some c) = c

no_code : {c : CodeType} {X : Type 0} → none ≡ some c → X
no_code e = let z : ◌≡◌ {A = ℕ} 0 1 = cc in absurd (omega arith)

code_is : (u : Ty value) (c : CodeType) → as_code u ≡ some c → u ≡ code c.letters c.sp c.regs
unfolding as_code
code_is int c e = no_code e
code_is junk c e = no_code e
code_is (var k) c e = no_code e
code_is (tuple a) c e = no_code e
code_is (pointer a) c e = no_code e
code_is (hidden t) c e = no_code e
code_is (code q a r) c e = ap (λ (z : CodeType). code z.letters z.sp z.regs) (ap (the_code c) e)

pub guarded_is : {A : Type 0} {o : Option A} (b v : Bool) (x : A) → o ≡ guarded b x → b ≡ v → o ≡ guarded v x
guarded_is b v x e f = e ∙ ap (λ (z : Bool). guarded z x) f

-- ---- letters
guarded_some : (b : Bool) (x q : List Kind) → guarded b x ≡ some q → (b ≡ true) × (x ≡ q)
guarded_some true x q e = (refl, cc)
guarded_some false x q e = let z : ◌≡◌ {A = ℕ} 0 1 = cc in absurd (omega arith)

module _ (P : Program) (Δ : List Kind) where
  left_is : (A : List Arg) (l q : List Kind) → letters_left A l ≡ some q → (leb (length A) (length l) ≡ true) × (take (length l - length A) l ≡ q)
  unfolding letters_left
  left_is A l q e =
      let h = guarded_some (leb (length A) (length l) && same_letters (map kind_of A) (drop (length l - length A) l)) (take (length l - length A) l) q e in
      ((and_inv (leb (length A) (length l)) (same_letters (map kind_of A) (drop (length l - length A) l)) h.0).0, h.1)

  full_is : (t : Ty value) (o : Option (Ty value)) → is_full t o ≡ is_filled t o
  unfolding is_full is_filled
  full_is t none = refl
  full_is t (some u) = refl

  code_fills : (A : List Arg) (u w : Ty value) (c : CodeType) (q : List Kind) → as_code u ≡ some c → letters_left A c.letters ≡ some q → fills_to A u w ≡ is_filled w (filled A q c.sp c.regs)
  code_fills A u w c q e l =
      let h = left_is A c.letters q l in
      let s : fills_to A (code c.letters c.sp c.regs) w ≡ is_full w (filled A q c.sp c.regs) = unfold fills_to in rw (h.0, h.1) refl in
      ap (λ (z : Ty value). fills_to A z w) (code_is u c e) ∙ s ∙ full_is w (filled A q c.sp c.regs)

  -- the filled type is the resulting row's, or not
  module _ (rows parts : List ℕ) (n : ℕ) (r : Ready rows parts n) (types : P.types ≡ types_of (rows_in (tab rows parts) n)) where
    given_of : (t w : ℕ) → w ≡ given_row n t → type_of P t ≡ type_at value (types_in rows parts n) w
    given_of t w e = given_typed rows parts n P Δ t types (given_row n t) (given_is rows parts n t r) ∙ ap (type_at value (types_in rows parts n)) (sym e)

    pub filled_told : (g : Ty stack) (f : Fault) (b : Base) (A : List Arg) (t w : ℕ) (u : Ty value) (c : CodeType) (q : List Kind) (o : Bool) → number_of f ≡ 10 → told_of (base P Δ g b) ≡ gives u → as_code u ≡ some c → letters_left A c.letters ≡ some q
        → w ≡ given_row n t → o ≡ fills_to A u (type_at value (types_in rows parts n) w) → told_of (applied P Δ f g b A t) ≡ answer (cond o 0 10) tt
    filled_told g f b A t w u c q o nf p e l d h =
        applied_told P Δ g f b A t u p c q o nf e l
        (h ∙ code_fills A u (type_at value (types_in rows parts n) w) c q e l ∙ ap (λ (y : Ty value). is_filled y (filled A q c.sp c.regs)) (sym (given_of t w d)))

    -- with its arguments in the order of their variables
    pub inst_told : (g : Ty stack) (f : Fault) (b : Base) (ts l : List ℕ) (t h k : ℕ) (v : Bool) → l ≡ reverse (map (given_row n) ts) → v ≡ formed_args Δ (args_in rows parts n ts) → told_of (formed P Δ t) ≡ answer h tt
        → told_of (applied P Δ f g b (map (λ (x : ℕ). get_or (types_in rows parts n) x (arg value junk)) l) t) ≡ answer k tt
        → told_of (operand P Δ f g (inst b ts t)) ≡ answer (least (cond v 0 7) (least h k)) (type_at value (types_in rows parts n) (given_row n t))
    inst_told g f b ts l t h k v e fa ff fg =
        let A : args_of P ts ≡ args_in rows parts n ts = args_are rows parts n P ts types in
        let B : map (λ (x : ℕ). get_or (types_in rows parts n) x (arg value junk)) l ≡ args_of P ts = back_args rows parts n ts r e ∙ sym A in
        operand_told P Δ g f b ts t h k v (fa ∙ ap (formed_args Δ) (sym A)) ff (ap (λ (z : List Arg). told_of (applied P Δ f g b z t)) (sym B) ∙ fg)
        ∙ ap (answer (least (cond v 0 7) (least h k))) (given_of t (given_row n t) refl)

-- ---- an operand as it stands in the table
length_span : (l : List ℕ) (i n : ℕ) → length (span l i n) ≡ n
unfolding span
length_span l i zero = refl
length_span l i (suc n) = ap suc (length_span l (suc i) n)

-- one that is not plain, and not packed, has arguments
pub some_args : (k c : ℕ) {b : Bool} → b ≡ (ltb k 4 && eqb c 0) → b ≡ false → k < 4 → 0 < c
some_args k zero {b} h z l = none_true (sym z ∙ h ∙ rw (lt-ltb k 4 l) refl)
some_args k (suc c) h z l = omega arith

module _ (ω : OperandTable) (v : ℕ) where
  -- operand v by its entries
  from_at : (k c m t a : ℕ) → k ≡ cell 4 ω.operands v 0 → c ≡ cell 4 ω.operands v 1 → m ≡ get_or ω.numbers v 0 → t ≡ cell 4 ω.operands v 2 → a ≡ cell 4 ω.operands v 3
      → operand_at ω v ≡ operand_from k m (span ω.args a c) (get_or ω.args a 0) t
  unfolding operand_at
  from_at k c m t a e f d g h = rw (← e, ← f, ← d, ← g, ← h) refl

  plain_from : (k c m t a : ℕ) → ltb k 4 ≡ true → c ≡ 0 → operand_from k m (span ω.args a c) (get_or ω.args a 0) t ≡ plain (base_of k m)
  unfolding operand_from
  plain_from k c m t a l z = rw (l, z) (unfold span operand_of in refl)

  pub plain_at : (k c m : ℕ) {b : Bool} → k ≡ cell 4 ω.operands v 0 → c ≡ cell 4 ω.operands v 1 → m ≡ get_or ω.numbers v 0 → b ≡ (ltb k 4 && eqb c 0) → b ≡ true → operand_at ω v ≡ plain (base_of k m)
  plain_at k c m e f d h z =
      let l = and_inv (ltb k 4) (eqb c 0) (sym h ∙ z) in
      from_at k c m (cell 4 ω.operands v 2) (cell 4 ω.operands v 3) e f d refl refl ∙ plain_from k c m (cell 4 ω.operands v 2) (cell 4 ω.operands v 3) l.0 (eqb-true c 0 l.1)

  pub carried_at : (k c m t a : ℕ) → k ≡ cell 4 ω.operands v 0 → c ≡ cell 4 ω.operands v 1 → m ≡ get_or ω.numbers v 0 → t ≡ cell 4 ω.operands v 2 → a ≡ cell 4 ω.operands v 3
      → operand_at ω v ≡ operand_from k m (span ω.args a c) (get_or ω.args a 0) t
  carried_at = from_at

  -- a base that is not packed, with arguments
  inst_of : (b : Base) (a c t : ℕ) → 0 < c → operand_of b (span ω.args a c) t ≡ inst b (span ω.args a c) t
  unfolding span operand_of
  inst_of b a zero t z = absurd (omega arith)
  inst_of b a (suc c) t z = refl

  pub inst_from : (k c m t a : ℕ) → k < 4 → 0 < c → operand_from k m (span ω.args a c) (get_or ω.args a 0) t ≡ inst (base_of k m) (span ω.args a c) t
  unfolding operand_from
  inst_from k c m t a l z = rw (lt-ltb k 4 l) (inst_of (base_of k m) a c t z)

  pub pack_from : (k c m t a : ℕ) → 4 ≤ k → operand_from k m (span ω.args a c) (get_or ω.args a 0) t ≡ pack (get_or ω.args a 0) (base_of (k - 4) m) t
  unfolding operand_from
  pack_from k c m t a l = rw (le-ltb k 4 l)

  pub few_args : (k c : ℕ) → k ≡ cell 4 ω.operands v 0 → c ≡ cell 4 ω.operands v 1 → k < 4 → 0 < c → Short (operand_at ω v) → c ≤ 8
  few_args k c e f l z s =
      let a : ℕ = cell 4 ω.operands v 3 in
      let t : ℕ = cell 4 ω.operands v 2 in
      let m : ℕ = get_or ω.numbers v 0 in
      let h : length (span ω.args a c) ≤ 8 = subst (λ (o : Operand). Short o) (from_at k c m t a e f refl refl refl ∙ inst_from k c m t a l z) s in
      let q = length_span ω.args a c in
      omega arith

module _ (P : Program) (Δ : List Kind) (f : Fault) (g : Ty stack) where
  pub plain_told : (o : Operand) (b : Base) {w : Told (Ty value)} → o ≡ plain b → told_of (base P Δ g b) ≡ w → told_of (operand P Δ f g o) ≡ w
  plain_told o b e h = ap (λ (z : Operand). told_of (operand P Δ f g z)) e ∙ (unfold operand in h)

  pub same_told : (o o' : Operand) {w : Told (Ty value)} → o ≡ o' → told_of (operand P Δ f g o') ≡ w → told_of (operand P Δ f g o) ≡ w
  same_told o o' e h = ap (λ (z : Operand). told_of (operand P Δ f g z)) e ∙ h

-- ---- closed rows
of_formed : (a : Arg) → formed_arg [] a ≡ true → Wf [] a_stack (of_kind value a)
unfolding formed_arg of_kind
of_formed (arg value t) e = formed_sound [] a_stack t e
of_formed (arg stack t) e = tt

-- a row that is formed under no letters
pub closed_row : (rows parts : List ℕ) (n t : ℕ) {b : Bool} → t < n → b ≡ formed_arg (letters_of parts (record { hidden = 0; count = 0; start = 0 })) (get_or (types_of (rows_in (tab rows parts) n)) t (arg value junk)) → b ≡ true → Wf [] a_stack (type_at value (types_in rows parts n) t)
unfolding span
closed_row rows parts n t h e f =
    subst (λ (z : Ty value). Wf [] a_stack z) (arg_is (tab rows parts) value t ∙ sym (type_in_lem (tab rows parts) value (n + 2) t (omega arith)))
    (of_formed (arg_of (tab rows parts) t) (ap (formed_arg []) (sym (arg_at (tab rows parts) n t h)) ∙ sym e ∙ f))

pub ten : number_of (fault 10) ≡ 10
unfolding number_of
ten = refl
