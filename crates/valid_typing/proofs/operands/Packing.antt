-- Laws of packages.
use Prim.Native.Nat.{ℕ, ◌≤◌}
use native.Mathlib.Omega.{arith}
use mathlib.Core.Path.{◌≡◌, refl, ap, sym, subst, ◌∙◌}
use mathlib.Core.Bool.{Bool, true, false, and-true, cond}
use mathlib.Core.Option.{Option, none, some}
use mathlib.Core.List.{List, [], ◌∷◌, ◌++◌}
use lib.ListN.{get_or}
use Rattle.syntax.specs.Syntax.{Kind, value, stack, Base, reg, lit, lab, pack}
use Rattle.syntax.specs.Fault.{Fault, fault, number_of, lowest}
use Rattle.syntax.proofs.Least.{least}
use Rattle.types.specs.Types.{Ty, int, junk, var, tuple, pointer, hidden, code, Arg, arg, kind_of, of_kind, fill, meets, a_stack, Wf}
use Rattle.types.specs.Rows.{type_at, types_of}
use Rattle.types.specs.Equal.{same}
use Rattle.types.proofs.Equal.{same_sound, same_refl}
use Rattle.types.proofs.Meets.{meets_one}
use Rattle.tables.specs.Tables.{span, rows_in}
use Rattle.valid.specs.Program.{Program, type_of, arg_of}
use Rattle.valid.specs.Tests.{as_hidden, as_value, is_formed, formed_arg, formed_args}
use Rattle.valid.specs.PassThree.{Judged, holds, fails, ◌▹◌, ◌&◌, or_fault, need, formed, known, base, packed, operand}
use Rattle.valid.proofs.Reading.{formed_sound}
use Rattle.types_rows.specs.Read.{tab}
use Rattle.types_equal.specs.filling.Filling.{packs_to}
use Rattle.valid_context.specs.Told.{Told, gives, lacks, told_of, answer}
use Rattle.valid_context.proofs.Results.{lacks_then, or_lacks, need_lacks}
use Rattle.valid_context.proofs.Told.{lowest_both, told_holds, told_some, told_none}
use Rattle.valid_typing.specs.Typing.{types_in, Ready, given_row, given_arg, args_in}
use Rattle.valid_typing.proofs.Judging.{needs}
use Rattle.valid_typing.proofs.OperandFaults.{packed_stops, packed_told, pack_told}
use Rattle.valid_typing.proofs.Args.{given_is, given_typed}

-- ---- premises with no fault below m
abbrev High : ℕ → {A : Type 0} → Judged A → Type 0
High m (holds x) = Unit
High m (fails f fs) = m ≤ lowest (number_of f) fs

module _ (m : ℕ) where
  high_then : {A B : Type 0} (a : Judged A) (k : A → Judged B) → High m a → ((x : A) → High m (k x)) → High m (a ▹ k)
  unfolding ◌▹◌
  high_then (holds x) k h g = g x
  high_then (fails f fs) k h g = h

  high_and : {A B : Type 0} (a : Judged A) (b : Judged B) → High m a → High m b → High m (a & b)
  unfolding ◌&◌
  high_and (holds x) (holds y) h k = tt
  high_and (holds x) (fails g gs) h k = k
  high_and (fails f fs) (holds y) h k = h
  high_and (fails f fs) (fails g gs) h k = let e = lowest_both (number_of f) fs g gs in omega arith

  high_or : {A : Type 0} (n : ℕ) (o : Option A) → m ≤ n → High m (or_fault n o)
  unfolding or_fault lowest number_of
  high_or n none h = h
  high_or n (some x) h = tt

  high_need : (f : Fault) (b : Bool) → m ≤ number_of f → High m (need f b)
  unfolding need lowest
  high_need f true h = tt
  high_need f false h = h

  -- m beside what has nothing less
  first_lacks : {A B : Type 0} (a : Judged A) (b : Judged B) → told_of a ≡ lacks m → High m b → told_of (a & b) ≡ lacks m
  unfolding told_of ◌&◌
  first_lacks (holds x) b e h = let z : ◌≡◌ {A = ℕ} 0 1 = cc in absurd (omega arith)
  first_lacks (fails f fs) (holds y) e h = let p : lowest (number_of f) fs ≡ m = cc in ap lacks p
  first_lacks (fails f fs) (fails g gs) e h =
      let p : lowest (number_of f) fs ≡ m = cc in
      let q : lowest (number_of f) (fs ++ g ∷ gs) ≡ m = lowest_both (number_of f) fs g gs ∙ omega arith in
      ap lacks q

  second_lacks : {A B : Type 0} (a : Judged A) (b : Judged B) → High m a → told_of b ≡ lacks m → told_of (a & b) ≡ lacks m
  unfolding told_of ◌&◌
  second_lacks a (holds y) h e = let z : ◌≡◌ {A = ℕ} 0 1 = cc in absurd (omega arith)
  second_lacks (holds x) (fails g gs) h e = let p : lowest (number_of g) gs ≡ m = cc in ap lacks p
  second_lacks (fails f fs) (fails g gs) h e =
      let p : lowest (number_of g) gs ≡ m = cc in
      let q : lowest (number_of f) (fs ++ g ∷ gs) ≡ m = lowest_both (number_of f) fs g gs ∙ omega arith in
      ap lacks q

-- ---- single premises
-- the argument is a value type, or a stack type
pub stack_told : (a : Arg) (b : Bool) → kind_of a ≡ cond b stack value → told_of (or_fault 14 (as_value a)) ≡ answer (cond b 14 0) (of_kind value a)
unfolding kind_of as_value of_kind
stack_told (arg value t) true e = let z : ◌≡◌ {A = ℕ} 0 1 = cc in absurd (omega arith)
stack_told (arg value t) false e = told_some 14 t
stack_told (arg stack t) true e = told_none 13 junk
stack_told (arg stack t) false e = let z : ◌≡◌ {A = ℕ} 0 1 = cc in absurd (omega arith)

value_is : (a : Arg) → kind_of a ≡ value → a ≡ arg value (of_kind value a)
unfolding kind_of of_kind
value_is (arg value t) e = refl
value_is (arg stack t) e = let z : ◌≡◌ {A = ℕ} 0 1 = cc in absurd (omega arith)

or_holds : {A : Type 0} (n : ℕ) (o : Option A) (x : A) → or_fault n o ≡ holds x → o ≡ some x
unfolding or_fault
or_holds n none x e = let z : ◌≡◌ {A = ℕ} 0 1 = cc in absurd (omega arith)
or_holds n (some y) x e = let q : y ≡ x = cc in ap some q

need_holds : (f : Fault) (b : Bool) → need f b ≡ holds tt → b ≡ true
unfolding need
need_holds f true e = refl
need_holds f false e = let z : ◌≡◌ {A = ℕ} 0 1 = cc in absurd (omega arith)

none_some : {x : Ty value} {X : Type 0} → none ≡ some x → X
none_some e = let z : ◌≡◌ {A = ℕ} 0 1 = cc in absurd (omega arith)

hidden_is : (t x : Ty value) → as_hidden t ≡ some x → t ≡ hidden x
unfolding as_hidden
hidden_is int x e = none_some e
hidden_is junk x e = none_some e
hidden_is (var k) x e = none_some e
hidden_is (tuple a) x e = none_some e
hidden_is (pointer a) x e = none_some e
hidden_is (hidden t) x e = let q : t ≡ x = cc in ap hidden q
hidden_is (code q a r) x e = none_some e

-- equality either way round
same_swap : (t u : Ty value) → same t u ≡ same u t
same_swap t u = go (same t u) (same u t) refl refl
  where
    go : (v w : Bool) → same t u ≡ v → same u t ≡ w → v ≡ w
    go true true e f = refl
    go true false e f = sym (ap (same u) (same_sound t u e) ∙ same_refl u) ∙ f
    go false true e f = sym e ∙ ap (same t) (same_sound u t f) ∙ same_refl t
    go false false e f = refl

one_arg : (rows parts : List ℕ) (n : ℕ) (Δ : List Kind) (args : List ℕ) (i : ℕ) → formed_args Δ (args_in rows parts n (span args i 1)) ≡ formed_arg Δ (given_arg rows parts n (get_or args i 0))
unfolding span formed_args
one_arg rows parts n Δ args i = and-true (formed_arg Δ (given_arg rows parts n (get_or args i 0)))

-- ---- the type of the package's row
module _ (rows parts : List ℕ) (n : ℕ) (r : Ready rows parts n) (P : Program) (Δ : List Kind) (types : P.types ≡ types_of (rows_in (tab rows parts) n)) where
  row_type_lem : (h w : ℕ) → w ≡ given_row n h → type_of P h ≡ type_at value (types_in rows parts n) w
  row_type_lem h w wd = given_typed rows parts n P Δ h types (given_row n h) (given_is rows parts n h r) ∙ ap (type_at value (types_in rows parts n)) (sym wd)

  pub row_told : (h w : ℕ) {o : Told (Ty value)} → w ≡ given_row n h → told_of (or_fault 9 (as_hidden (type_at value (types_in rows parts n) w))) ≡ o → told_of (or_fault 9 (as_hidden (type_of P h))) ≡ o
  row_told h w wd it = rw (row_type_lem h w wd) it

-- ---- a package
module _ (rows parts : List ℕ) (n : ℕ) (r : Ready rows parts n) (P : Program) (Δ : List Kind) (types : P.types ≡ types_of (rows_in (tab rows parts) n)) (g : Ty stack) (f : Fault) (b : Base) where
  pub arg_is : (a : ℕ) → arg_of P a ≡ given_arg rows parts n a
  arg_is a = ap (λ A. get_or A a (arg value junk)) types

  high_base : (m : ℕ) → m ≤ 9 → High m (base P Δ g b)
  unfolding base known
  high_base m l = go b
    where
      go : (b : Base) → High m (base P Δ g b)
      go (reg r) = high_or m 9 _ l
      go (lit k) = tt
      go (lab k) = high_or m 9 _ l

  -- a base has no fault but 9
  base_lacks : {k : ℕ} → told_of (base P Δ g b) ≡ lacks k → k ≡ 9
  unfolding base known told_of
  base_lacks {k} = go b
    where
      go : (b : Base) → told_of (base P Δ g b) ≡ lacks k → k ≡ 9
      go (reg r) e = or_lacks 9 _ e
      go (lit j) e = let z : ◌≡◌ {A = ℕ} 0 1 = cc in absurd (omega arith)
      go (lab j) e = or_lacks 9 _ e

  -- the base has none, or the row hides nothing
  pub base_refused : (y : Arg) (h : ℕ) {k : ℕ} → told_of (base P Δ g b) ≡ lacks k → told_of (packed P Δ f g b y h) ≡ lacks k
  unfolding packed
  base_refused y h {k} e =
      let q : k ≡ 9 = base_lacks e in
      lacks_then _ _ (first_lacks k _ _ e (high_and k _ _ (high_or k 14 _ (omega arith)) (high_or k 9 _ (omega arith))))

  pub inside_refused : (y : Arg) (h : ℕ) {k : ℕ} → told_of (or_fault 9 (as_hidden (type_of P h))) ≡ lacks k → told_of (packed P Δ f g b y h) ≡ lacks k
  unfolding packed
  inside_refused y h {k} e =
      let q : k ≡ 9 = or_lacks 9 _ e in
      lacks_then _ _ (second_lacks k _ _ (high_base k (omega arith)) (second_lacks k _ _ (high_or k 14 _ (omega arith)) e))

  module _ (args : List ℕ) (i h : ℕ) (e : number_of f ≡ 10) where
    -- the argument's row
    abbrev a : ℕ
    a = get_or args i 0

    high_packed : High 7 (packed P Δ f g b (arg_of P a) h)
    unfolding packed
    high_packed = high_then 7 _ _ (high_and 7 _ _ (high_base 7 (omega arith)) (high_and 7 _ _ (high_or 7 14 _ (omega arith)) (high_or 7 9 _ (omega arith)))) (λ z. high_need 7 f _ (omega arith))

    high_formed : (t : ℕ) → High 7 (formed P Δ t)
    unfolding formed
    high_formed t = high_need 7 (fault 7) _ (unfold number_of in omega arith)

    ends : {k : ℕ} → told_of (need (fault 7) (formed_arg Δ (arg_of P a)) & formed P Δ h & packed P Δ f g b (arg_of P a) h) ≡ lacks k → told_of (operand P Δ f g (pack a b h)) ≡ lacks k
    unfolding operand
    ends q = lacks_then _ _ q

    module _ {v : Bool} (p : v ≡ formed_args Δ (args_in rows parts n (span args i 1))) where
      formed_is : v ≡ formed_arg Δ (arg_of P a)
      formed_is = p ∙ one_arg rows parts n Δ args i ∙ ap (formed_arg Δ) (sym (arg_is a))

      -- the argument is not formed
      pub arg_unformed : v ≡ false → told_of (operand P Δ f g (pack a b h)) ≡ lacks 7
      arg_unformed z = ends (first_lacks 7 _ _ (needs 6 _ false (sym z ∙ formed_is) ∙ unfold answer in refl) (high_and 7 _ _ (high_formed h) high_packed))

      -- the package's row is not
      pub row_unformed : {k : ℕ} → told_of (formed P Δ h) ≡ lacks k → told_of (operand P Δ f g (pack a b h)) ≡ lacks k
      unfolding formed
      row_unformed {k} q =
          let s : k ≡ 7 = need_lacks 7 (is_formed Δ a_stack (type_of P h)) q in
          let l : told_of (formed P Δ h) ≡ lacks 7 = q ∙ ap lacks s in
          ends (second_lacks 7 _ _ (high_need 7 (fault 7) _ (unfold number_of in omega arith)) (first_lacks 7 _ _ l high_packed)) ∙ ap lacks (sym s)

      module _ (z : v ≡ true) (q : told_of (formed P Δ h) ≡ gives tt) where
        pub pack_formed : (o : ℕ) → told_of (packed P Δ f g b (arg_of P a) h) ≡ answer o tt → told_of (operand P Δ f g (pack a b h)) ≡ answer o (type_at value (types_in rows parts n) (given_row n h))
        unfolding least answer
        pack_formed o s =
            pack_told P Δ g f b a h 0 o true (sym z ∙ formed_is) q s ∙ ap (answer o) (given_typed rows parts n P Δ h types (given_row n h) (given_is rows parts n h r))

  -- ---- what is packed
  module _ (a h : ℕ) (st : Bool) (sk : kind_of (given_arg rows parts n a) ≡ cond st stack value) (u : Ty value) (t : ℕ) (bt : told_of (base P Δ g b) ≡ gives u)
      (it : told_of (or_fault 9 (as_hidden (type_of P h))) ≡ gives (type_at value (types_in rows parts n) t)) where
    arg_told : (v : Bool) → st ≡ v → told_of (or_fault 14 (as_value (arg_of P a))) ≡ answer (cond v 14 0) (of_kind value (given_arg rows parts n a))
    arg_told v e = rw (arg_is a) (stack_told (given_arg rows parts n a) v (sk ∙ ap (λ (b : Bool). cond b stack value) e))

    -- the argument is a stack type
    pub stack_refused : st ≡ true → told_of (packed P Δ f g b (arg_of P a) h) ≡ lacks 14
    unfolding least answer
    stack_refused e =
        packed_stops P Δ g f b (arg_of P a) h 0 14 0 u (of_kind value (given_arg rows parts n a)) (type_at value (types_in rows parts n) t) bt (arg_told true e) it (λ y. absurd (omega arith))

    -- it is a value type, and the row is formed
    module _ (e : st ≡ false) (fm : told_of (formed P Δ h) ≡ gives tt) where
      arg_value : given_arg rows parts n a ≡ arg value (of_kind value (given_arg rows parts n a))
      arg_value = value_is (given_arg rows parts n a) (sk ∙ ap (λ (b : Bool). cond b stack value) e)

      inside_is : type_of P h ≡ hidden (type_at value (types_in rows parts n) t)
      unfolding answer
      inside_is = hidden_is (type_of P h) (type_at value (types_in rows parts n) t) (or_holds 9 (as_hidden (type_of P h)) (type_at value (types_in rows parts n) t) (told_holds _ 0 _ it refl))

      fits : meets (arg value (of_kind value (given_arg rows parts n a)) ∷ []) 0 (type_at value (types_in rows parts n) t) ≡ true
      unfolding answer
      fits =
          let m : told_of (need (fault 7) (is_formed Δ a_stack (type_of P h))) ≡ gives tt = unfold formed in fm in
          let c : is_formed Δ a_stack (type_of P h) ≡ true = need_holds (fault 7) (is_formed Δ a_stack (type_of P h)) (told_holds (need (fault 7) (is_formed Δ a_stack (type_of P h))) 0 tt m refl) in
          let k : Wf Δ a_stack (hidden (type_at value (types_in rows parts n) t)) = subst (λ (y : Ty value). Wf Δ a_stack y) inside_is (formed_sound Δ a_stack (type_of P h) c) in
          meets_one (of_kind value (given_arg rows parts n a)) Δ a_stack (type_at value (types_in rows parts n) t) k

      pub packed_same : (x : ℕ) {o : Bool} → number_of f ≡ 10 → x ≡ given_row n a → o ≡ packs_to (get_or (types_in rows parts n) x (arg value junk)) (type_at value (types_in rows parts n) t) u
          → told_of (packed P Δ f g b (arg_of P a) h) ≡ answer (cond o 0 10) tt
      unfolding least answer
      packed_same x {o} q d y =
          let A : Arg = arg value (of_kind value (given_arg rows parts n a)) in
          let T : Ty value = type_at value (types_in rows parts n) t in
          let p : get_or (types_in rows parts n) x (arg value junk) ≡ A = ap (λ (j : ℕ). get_or (types_in rows parts n) j (arg value junk)) d ∙ given_is rows parts n a r ∙ arg_value in
          let s : packs_to A T u ≡ same u (fill 0 (A ∷ []) T) = unfold packs_to in rw fits (and-true (same (fill 0 (A ∷ []) T) u) ∙ same_swap (fill 0 (A ∷ []) T) u) in
          packed_told P Δ g f b (arg_of P a) h 0 0 0 u (of_kind value (given_arg rows parts n a)) T o q bt (arg_told false e) it refl (y ∙ ap (λ (c : Arg). packs_to c T u) p ∙ s)
