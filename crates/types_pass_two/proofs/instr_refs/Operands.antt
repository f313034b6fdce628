-- The least fault of operands and instructions, by their entries.
use Prim.Native.Nat.{ℕ, zero, suc, ◌+◌, ◌-◌, ◌≤◌, ◌<◌}
use native.Mathlib.Omega.{arith}
use mathlib.Core.Path.{◌≡◌, refl, sym, ap, ap₂, ◌∙◌}
use mathlib.Core.Bool.{Bool, true, false, ◌&&◌, not, cond}
use Rattle.std.specs.Prelude.{Option, Some, None}
use mathlib.Core.List.{List, [], ◌∷◌, ◌++◌, map, append-nil}
use lib.Dec.{eqb, ltb, lit≤}
use lib.ListN.{get_or}
use borrow.Author.Tests.{lt-ltb, le-ltb, ne_eqb}
use Rattle.syntax.specs.Syntax.{Operand, plain, inst, pack, Instr}
use Rattle.syntax.specs.Fault.{given}
use Rattle.syntax.proofs.Least.{least, least_of, least_none, least_assoc, least_comm, least_swap, least_turn, least_given, numbered_given, least_append}
use Rattle.tables.specs.Tables.{cell, span, rows_in, base_of, operand_of, operand_from, OperandTable, operand_at, operands_at, instr_at}
use Rattle.tables.proofs.Cases.{◌&◌, instr_cases}
use Rattle.tables.proofs.Steps.{operands_step}
use Rattle.types.specs.Rows.{value_row, code_row, hidden_row, any_row, Ref, ref, operand_refs, operands_refs, names, base_labels, labels, all_below, refs_faults, instr_faults}
use Rattle.types_rows.specs.Read.{tab}
use Rattle.types_pass_two.specs.instr_refs.Instrs.{operand_table, label_least, operands_least, given_place, count_of}
use Rattle.types_pass_two.specs.row_refs.Least.{ref_least, refs_least, list_refs}
use Rattle.types_pass_two.specs.declared.row_refs.Part.TheVariants.{Argument}
use Rattle.types_pass_two.proofs.row_refs.References.{refs_least_lem, numbered_refs, one_ref, refs_append, arguments}

-- ---- labels
all_append : (n : ℕ) (p q : List ℕ) → all_below n (p ++ q) ≡ all_below n p && all_below n q
unfolding all_below
all_append n [] q = refl
all_append n (k ∷ p) q = ap (◌&&◌ (ltb k n)) (all_append n p q) ∙ sym (and_assoc (ltb k n) (all_below n p) (all_below n q))
  where
    and_assoc : (a b c : Bool) → (a && b) && c ≡ a && (b && c)
    and_assoc true b c = refl
    and_assoc false b c = refl

-- fault 4 unless both
four : (b c : Bool) → cond (b && c) 0 4 ≡ least (cond b 0 4) (cond c 0 4)
unfolding least
four true true = refl
four true false = refl
four false true = refl
four false false = refl

labels_cons : (v : Operand) (vs : List Operand) → labels (v ∷ vs) ≡ labels (v ∷ []) ++ labels vs
unfolding labels
labels_cons (plain b) vs = ap (λ (l : List ℕ). l ++ labels vs) (sym (append-nil (base_labels b)))
labels_cons (inst b ts t) vs = ap (λ (l : List ℕ). l ++ labels vs) (sym (append-nil (base_labels b)))
labels_cons (pack a b h) vs = ap (λ (l : List ℕ). l ++ labels vs) (sym (append-nil (base_labels b)))

and_true : (b : Bool) → ◌≡◌ {A = ℕ} (cond (b && true) 0 4) (cond b 0 4)
and_true true = refl
and_true false = refl

label_least_lem : (nb k l : ℕ) → cond (all_below nb (base_labels (base_of k l) ++ [])) 0 4 ≡ label_least nb k l
unfolding all_below base_labels base_of
label_least_lem nb zero l = refl
label_least_lem nb (suc zero) l = refl
label_least_lem nb (suc (suc k)) l =
    let e : ltb (suc (suc k)) 2 ≡ false = le-ltb (suc (suc k)) 2 (omega arith) in
    rw e (and_true (ltb l nb))

-- ---- operands
module _ (rs : List ℕ) (n nb : ℕ) where
  labels_more : (v : Operand) (vs : List Operand) → cond (all_below nb (labels (v ∷ vs))) 0 4 ≡ least (cond (all_below nb (labels (v ∷ []))) 0 4) (cond (all_below nb (labels vs)) 0 4)
  labels_more v vs =
      ap (λ (l : List ℕ). cond (all_below nb l) 0 4) (labels_cons v vs)
      ∙ (ap (λ (b : Bool). cond b 0 4) (all_append nb (labels (v ∷ [])) (labels vs)) ∙ four (all_below nb (labels (v ∷ []))) (all_below nb (labels vs)))

  refs_more : (v : Operand) (vs : List Operand) → refs_least rs n (operands_refs (v ∷ vs)) ≡ least (refs_least rs n (operands_refs (v ∷ []))) (refs_least rs n (operands_refs vs))
  unfolding operands_refs
  refs_more v vs =
      refs_append rs n (operand_refs v) (operands_refs vs)
      ∙ ap (λ (l : List Ref). least (refs_least rs n l) (refs_least rs n (operands_refs vs))) (sym (append-nil (operand_refs v)))

  operands_cons : (v : Operand) (vs : List Operand) → operands_least rs n nb (v ∷ vs) ≡ least (operands_least rs n nb (v ∷ [])) (operands_least rs n nb vs)
  unfolding operands_least
  operands_cons v vs = ap₂ least (labels_more v vs) (refs_more v vs) ∙ least_swap _ _ (refs_least rs n (operands_refs (v ∷ []))) (refs_least rs n (operands_refs vs))

  -- without arguments
  plain_least : (k l t : ℕ) → operands_least rs n nb (operand_of (base_of k l) [] t ∷ []) ≡ label_least nb k l
  unfolding operands_least operand_of labels operands_refs operand_refs refs_least
  plain_least k l t = least_none (cond (all_below nb (base_labels (base_of k l) ++ [])) 0 4) ∙ label_least_lem nb k l

  -- with arguments
  inst_least : (k l t a : ℕ) (xs : List ℕ) → operands_least rs n nb (operand_of (base_of k l) (a ∷ xs) t ∷ []) ≡ least (label_least nb k l) (least (refs_least rs n (map (ref any_row) (a ∷ xs))) (ref_least rs n code_row t))
  unfolding operands_least operand_of labels operands_refs operand_refs
  inst_least k l t a xs =
      ap₂ least (label_least_lem nb k l)
      (ap (refs_least rs n) (append-nil (map (ref any_row) (a ∷ xs) ++ ref code_row t ∷ []))
      ∙ (refs_append rs n (map (ref any_row) (a ∷ xs)) (ref code_row t ∷ []) ∙ ap (least (refs_least rs n (map (ref any_row) (a ∷ xs)))) (one_ref rs n code_row t)))

  -- a package
  pack_least : (k l a h : ℕ) → operands_least rs n nb (pack a (base_of k l) h ∷ []) ≡ least (label_least nb k l) (least (ref_least rs n any_row a) (ref_least rs n hidden_row h))
  unfolding operands_least labels operands_refs operand_refs refs_least
  pack_least k l a h = ap₂ least (label_least_lem nb k l) (ap (least (ref_least rs n any_row a)) (one_ref rs n hidden_row h))

  module _ (os ns xs : List ℕ) (v : ℕ) where
    pub operand_package : (k f out : ℕ) → k ≡ cell 4 os v 0 → 4 ≤ k → f ≡ label_least nb (k - 4) (get_or ns v 0) → out ≡ least f (least (ref_least rs n any_row (get_or xs (cell 4 os v 3) 0)) (ref_least rs n hidden_row (cell 4 os v 2)))
        → out ≡ operands_least rs n nb (operand_at (operand_table os ns xs) v ∷ [])
    unfolding operand_at operand_from
    operand_package k f out ek l ef o = rw (← ek, le-ltb k 4 l) (o ∙ rw ef (sym (pack_least (k - 4) (get_or ns v 0) (get_or xs (cell 4 os v 3) 0) (cell 4 os v 2))))

    pub operand_plain : (m k l f : ℕ) → m ≡ cell 4 os v 1 → k ≡ cell 4 os v 0 → l ≡ get_or ns v 0 → k < 4 → m ≡ 0 → f ≡ label_least nb k l → f ≡ operands_least rs n nb (operand_at (operand_table os ns xs) v ∷ [])
    unfolding operand_at operand_from span
    operand_plain m k l f em ek el h z o = rw (← em, ← ek, ← el, z, lt-ltb k 4 h) (o ∙ sym (plain_least k l (cell 4 os v 2)))

    pub operand_inst : (m k l b t f g h w out : ℕ) → m ≡ cell 4 os v 1 → k ≡ cell 4 os v 0 → l ≡ get_or ns v 0 → b ≡ cell 4 os v 3
        → t ≡ cell 4 os v 2 → k < 4 → (m ≡ 0 → ⊥) → f ≡ label_least nb k l → g ≡ refs_least rs n (list_refs Argument (span xs b m)) → h ≡ ref_least rs
        n code_row t → w ≡ least g h → out ≡ least f w → out ≡ operands_least rs n nb (operand_at (operand_table os ns xs) v ∷ [])
    unfolding operand_at operand_from span
    operand_inst zero k l b t f g h w out em ek el eb et i z ef eg eh ew o = absurd (z refl)
    operand_inst (suc m) k l b t f g h w out em ek el eb et i z ef eg eh ew o =
        let e : g ≡ refs_least rs n (map (ref any_row) (span xs b (suc m))) = eg ∙ ap (refs_least rs n) (arguments (span xs b (suc m))) in
        rw (← em, ← ek, ← el, ← eb, ← et, lt-ltb k 4 i) (o ∙ (ap₂ least ef (ew ∙ ap₂ least e eh) ∙ sym (inst_least k l t (get_or xs b 0) (span xs (suc b) m))))

-- the loop over operands: f, and what is left from i on, make the whole
module _ (rs : List ℕ) (n nb : ℕ) (ω : OperandTable) (v m : ℕ) where
  abbrev left : ℕ → ℕ
  left i = operands_least rs n nb (operands_at ω (v + i) (m - i))

  abbrev all : ℕ
  all = operands_least rs n nb (operands_at ω v m)

  pub operands_start : least 0 (left 0) ≡ all
  unfolding least
  operands_start =
      let e : v + 0 ≡ v = omega arith in
      let d : m - 0 ≡ m = omega arith in
      rw (e, d) refl

  pub operands_next : (f i y g : ℕ) → i < m → y ≡ operands_least rs n nb (operand_at ω (v + i) ∷ []) → g ≡ least f y → least f (left i) ≡ all → least g (left (i + 1)) ≡ all
  operands_next f i y g h ey eg rest =
      least_turn f g y (left i) (left (i + 1)) all eg
      (ap (operands_least rs n nb) (operands_step ω v i m h)
      ∙ (operands_cons rs n nb (operand_at ω (v + i)) (operands_at ω (v + (i + 1)) (m - (i + 1))) ∙ ap (λ (z : ℕ). least z (left (i + 1))) (sym ey)))
      rest

  pub operands_end : (f i : ℕ) → m ≤ i → least f (left i) ≡ all → f ≡ all
  unfolding operands_at operands_least operands_refs labels all_below refs_least least
  operands_end f i h rest =
      let d : m - i ≡ 0 = omega arith in
      sym (least_none f) ∙ (rw d at rest)

-- ---- instructions
-- a code past the last
not_code : (k i : ℕ) → 24 ≤ k → i < 24 → eqb k i ≡ false
not_code k i l h = ne_eqb k i (λ e. absurd (omega arith))

given_past : (k : ℕ) → 24 ≤ k → given_place k ≡ Some 1
given_past k l = rw (not_code k 12 l (lit≤ tt), not_code k 13 l (lit≤ tt), not_code k 20 l (lit≤ tt), not_code k 22 l (lit≤ tt), le-ltb k 24 l) refl

count_past : (k m : ℕ) → 24 ≤ k → count_of k m ≡ 0
count_past k m l = rw (le-ltb k 10 (omega arith), not_code k 12 l (lit≤ tt), not_code k 21 l (lit≤ tt), not_code k 23 l (lit≤ tt)) refl

-- what an instruction names, by the code k that the tables of codes have for it
module _ (ι : List ℕ) (ω : OperandTable) (j : ℕ) where
  abbrev pub given_rows : Option ℕ → List ℕ
  given_rows None = []
  given_rows (Some g) = cell 8 ι j g ∷ []

  given_at : (names (instr_at ι ω j)).value_rows ≡ given_rows (given_place (cell 8 ι j 0))
  unfolding instr_at names
  given_at =
      instr_cases (λ k x. (names x).value_rows ≡ given_rows (given_place k)) ω (cell 8 ι j 1) (cell 8 ι j 2) (cell 8 ι j 3) (cell 8 ι j 4) (cell 8 ι j 5) (cell 8 ι j 6)
      (tt & refl & refl & refl & refl & refl & refl & refl & refl & refl & refl & refl & refl & refl & refl & refl & refl & refl & refl & refl & refl & refl & refl & refl & refl)
      (λ k l. rw (given_past k l) refl)
      (cell 8 ι j 0)

  operands_at_lem : (names (instr_at ι ω j)).operands ≡ operands_at ω (cell 8 ι j 5) (count_of (cell 8 ι j 0) (cell 8 ι j 6))
  unfolding instr_at names operands_at
  operands_at_lem =
      instr_cases (λ k x. (names x).operands ≡ operands_at ω (cell 8 ι j 5) (count_of k (cell 8 ι j 6))) ω (cell 8 ι j 1) (cell 8 ι j 2) (cell 8 ι j 3) (cell 8 ι j 4) (cell 8 ι j 5) (cell 8 ι j 6)
      (tt & refl & refl & refl & refl & refl & refl & refl & refl & refl & refl & refl & refl & refl & refl & refl & refl & refl & refl & refl & refl & refl & refl & refl & refl)
      (λ k l. rw (count_past k _ l) refl)
      (cell 8 ι j 0)

  operands_by : (k c v m : ℕ) → k ≡ cell 8 ι j 0 → c ≡ cell 8 ι j 6 → v ≡ cell 8 ι j 5 → m ≡ count_of k c → operands_at ω v m ≡ (names (instr_at ι ω j)).operands
  operands_by k c v m ek ec ev em = ap₂ (operands_at ω) ev (em ∙ ap₂ count_of ek ec) ∙ sym operands_at_lem

-- the least fault of an instruction is that of its row t and of its operands
module _ (rs ps : List ℕ) (n nb : ℕ) where
  instr_least : (x : Instr) → least_of (instr_faults (rows_in (tab rs ps) n) nb x) ≡ least (refs_least rs n (map (ref value_row) (names x).value_rows)) (operands_least rs n nb (names x).operands)
  unfolding instr_faults operands_least
  instr_least x =
      let a = all_below nb (labels (names x).operands) in
      let gs = map (ref value_row) (names x).value_rows in
      let vs = operands_refs (names x).operands in
      least_append (given (not a) 4) (refs_faults (rows_in (tab rs ps) n) (gs ++ vs)) (numbered_given (not a) 3) (numbered_refs (rows_in (tab rs ps) n) (gs ++ vs))
      ∙ (ap₂ least (least_given (not a) 4 ∙ unless a) (refs_least_lem (tab rs ps) n (gs ++ vs) ∙ refs_append rs n gs vs)
      ∙ turn (cond a 0 4) (refs_least rs n gs) (refs_least rs n vs))
    where
      unless : (b : Bool) → ◌≡◌ {A = ℕ} (cond (not b) 4 0) (cond b 0 4)
      unless true = refl
      unless false = refl

      turn : (a b c : ℕ) → least a (least b c) ≡ least b (least a c)
      turn a b c = sym (least_assoc a b c) ∙ (ap (λ (y : ℕ). least y c) (least_comm a b) ∙ least_assoc b a c)

  module _ (ι : List ℕ) (ω : OperandTable) (j : ℕ) where
    pub instr_bare : (k c v m f : ℕ) → k ≡ cell 8 ι j 0 → c ≡ cell 8 ι j 6 → v ≡ cell 8 ι j 5 → m ≡ count_of k c → None ≡ given_place k → f ≡ operands_least rs n nb (operands_at ω v m) → f ≡ least_of (instr_faults (rows_in (tab rs ps) n) nb (instr_at ι ω j))
    unfolding refs_least least
    instr_bare k c v m f ek ec ev em eg ef =
        let none_given : (names (instr_at ι ω j)).value_rows ≡ [] = given_at ι ω j ∙ ap (given_rows ι ω j) (sym (eg ∙ ap given_place ek)) in
        ef ∙ (ap (operands_least rs n nb) (operands_by ι ω j k c v m ek ec ev em)
        ∙ (ap (λ (l : List ℕ). least (refs_least rs n (map (ref value_row) l)) (operands_least rs n nb (names (instr_at ι ω j)).operands)) (sym none_given)
        ∙ sym (instr_least (instr_at ι ω j))))

    pub instr_given : (k c v m g f t y out : ℕ) → k ≡ cell 8 ι j 0 → c ≡ cell 8 ι j 6 → v ≡ cell 8 ι j 5 → m ≡ count_of k c
        → Some g ≡ given_place k → f ≡ operands_least rs n nb (operands_at ω v m) → t ≡ cell 8 ι j g → y ≡ ref_least rs n value_row t
        → out ≡ least y f → out ≡ least_of (instr_faults (rows_in (tab rs ps) n) nb (instr_at ι ω j))
    instr_given k c v m g f t y out ek ec ev em eg ef et ey o =
        let one_given : (names (instr_at ι ω j)).value_rows ≡ t ∷ [] = given_at ι ω j ∙ ap (given_rows ι ω j) (sym (eg ∙ ap given_place ek)) ∙ ap (λ (x : ℕ). x ∷ []) (sym et) in
        o ∙ (ap₂ least
        (ey ∙ (sym (one_ref rs n value_row t) ∙ ap (λ (l : List ℕ). refs_least rs n (map (ref value_row) l)) (sym one_given)))
        (ef ∙ ap (operands_least rs n nb) (operands_by ι ω j k c v m ek ec ev em))
        ∙ sym (instr_least (instr_at ι ω j)))
