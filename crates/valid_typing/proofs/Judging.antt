-- The least fault of each instruction, by what its premises answer.
use Prim.Native.Nat.{ℕ, zero, suc, ◌-◌}
use native.Mathlib.Omega.{arith}
use mathlib.Core.Path.{◌≡◌, refl, ap, sym, ◌∙◌}
use mathlib.Core.Bool.{Bool, true, false, cond}
use mathlib.Core.Option.{Option, none, some}
use mathlib.Core.List.{List}
use lib.Dec.{leb, ltb}
use lib.ListN.{length}
use Rattle.syntax.specs.Partial.{guarded}
use Rattle.syntax.specs.Syntax.{Kind, value, stack, Operand, Arith, Branch, aop, bop, mov, ld, st, malloc, getsp, setsp, salloc, sfree, sld, sst, slp, ssp, jmp, halt, unpack}
use Rattle.syntax.specs.Fault.{fault, number_of, lowest}
use Rattle.types.specs.Types.{Ty, int, tuple, pointer, join, items}
use Rattle.types.specs.Equal.{same}
use Rattle.types.proofs.Equal.{same_sound}
use Rattle.valid.specs.Program.{Program, type_of}
use Rattle.valid.specs.Rules.{junks, Context, with_regs, with_sp, raised}
use Rattle.valid.specs.Tests.{item_at, replaced, under, above, as_int, as_hidden}
use Rattle.valid.specs.PassThree.{Judged, holds, fails, ◌▹◌, ◌&◌, or_fault, need, formed, known, integer_at, tuple_at, pointer_at, assign, operand, operands, target_of, new_tail, judge}
use Rattle.valid_context.specs.Context.{Reading, linked}
use Rattle.syntax.proofs.Least.{least}
use Rattle.valid_context.specs.Told.{told_of, answer}
use Rattle.valid_context.proofs.Told.{told_and, told_then, told_stop, told_some, told_none, told_need}
use Rattle.valid_typing.specs.Typing.{component_at}

-- the fault k where there is no link
unfoldable pub if_none : ℕ → ℕ → ℕ
if_none k zero = k
if_none k (suc u) = 0

-- ---- single premises
pub told_guarded : {A : Type 0} (n : ℕ) (o : Option A) (b : Bool) (x : A) → o ≡ guarded b x → told_of (or_fault (suc n) o) ≡ answer (cond b 0 (suc n)) x
told_guarded n o true x e = rw e (told_some (suc n) x)
told_guarded n o false x e = rw e (told_none n x)

pub told_link : (T : Reading) (n : ℕ) (o : Option (Ty value)) (x u : ℕ) → o ≡ linked T x u → told_of (or_fault (suc n) o) ≡ answer (if_none (suc n) u) (T.type x (u - 1))
unfolding linked if_none
told_link T n o x zero e = rw e (told_none n (T.type x (0 - 1)))
told_link T n o x (suc u) e = let p : suc u - 1 ≡ u = omega arith in rw (e, p) (told_some (suc n) (T.type x u))

-- what is given is passed on as something else
pub told_map : {A B : Type 0} (m : Judged A) (n : ℕ) (x : A) (y : B) → told_of m ≡ answer n x → told_of (m ▹ λ z. holds y) ≡ answer n y
told_map m zero x y e = told_then m (λ z. holds y) x e ∙ unfold told_of answer in refl
told_map m (suc n) x y e = told_stop m (λ z. holds y) (suc n) x y e (omega arith)

pub told_over : {A B : Type 0} (n : ℕ) (o : Option A) (f : A → B) (b : Bool) (x : A) → o ≡ guarded b x → told_of (or_fault (suc n) o ▹ λ y. holds (f y)) ≡ answer (cond b 0 (suc n)) (f x)
unfolding told_of answer or_fault ◌▹◌ lowest number_of
told_over n o f true x e = rw e
told_over n o f false x e = rw e

then_assoc : {A B C : Type 0} (m : Judged A) (k : A → Judged B) (l : B → Judged C) → (m ▹ k) ▹ l ≡ m ▹ (λ x. k x ▹ l)
unfolding ◌▹◌
then_assoc (holds x) k l = refl
then_assoc (fails f fs) k l = refl

-- one premise, and then another that reads what it gives
pub told_next : {A B : Type 0} (m : Judged A) (k : A → Judged B) (f g : ℕ) (x : A) (y : B) → told_of m ≡ answer f x → f ≡ 0 → told_of (k x) ≡ answer g y → told_of (m ▹ k) ≡ answer g y
told_next m k f g x y e z h = told_then m k x (e ∙ ap (λ (n : ℕ). answer n x) z) ∙ h

pub least_none : (a : ℕ) → least a 0 ≡ a
unfolding least
least_none zero = refl
least_none (suc a) = refl

-- a link that is there
pub some_link : (k u : ℕ) → (u ≡ 0 → ⊥) → if_none k u ≡ 0
unfolding if_none
some_link k zero h = absurd (h refl)
some_link k (suc u) h = refl

pub no_link : (k u : ℕ) → u ≡ 0 → if_none k u ≡ k
unfolding if_none
no_link k u e = rw e

pub needs : (n : ℕ) (v b : Bool) → b ≡ v → told_of (need (fault (suc n)) v) ≡ answer (cond b 0 (suc n)) tt
needs n v b e = rw e (told_need (fault (suc n)) v n (unfold number_of in refl))

-- a premise of which the least fault is looked at, and one that follows
pub stops : {A B : Type 0} (m : Judged A) (k : A → Judged B) (f : ℕ) (x : A) (y : B) → told_of m ≡ answer f x → (f ≡ 0 → ⊥) → told_of (m ▹ k) ≡ answer f y
stops m k zero x y e h = absurd (h refl)
stops m k (suc f) x y e h = told_stop m k (suc f) x y e (omega arith)

-- a fault 9 before one that is not less
nine_first : {A B C : Type 0} (a : Judged A) (b : Judged B) (k : A × B → Judged C) (n : ℕ) (x : A) (y : B) (z : C) → told_of a ≡ answer 9 x → told_of b ≡ answer n y → least 9 n ≡ 9 → told_of ((a & b) ▹ k) ≡ answer 9 z
nine_first a b k n x y z p q e = told_stop (a & b) k 9 (x, y) z (told_and a b 9 n x y p q ∙ ap (λ (m : ℕ). answer m (x, y)) e) (omega arith)

module _ (P : Program) (Δ : List Kind) where
  pub known_told : (T : Reading) (g : Ty stack) (r x u : ℕ) → item_at g r ≡ linked T x u → told_of (known P Δ g r) ≡ answer (if_none 9 u) (T.type x (u - 1))
  unfolding known
  known_told T g r x u e = told_link T 8 (item_at g r) x u e

  pub assign_told : (Γ : Context) (d : ℕ) (t : Ty value) (b : Bool) (g : Ty stack) → replaced Γ.regs d t ≡ guarded b g → told_of (assign P Δ Γ d t) ≡ answer (cond b 0 9) (with_regs Γ g)
  unfolding assign
  assign_told Γ d t true g e = rw e (told_some 9 (with_regs Γ g))
  assign_told Γ d t false g e = rw e (told_none 8 (with_regs Γ g))

  module _ (Γ : Context) where
    -- ---- arithmetic, branches, moves
    pub aop_stops : (o : Arith) (d s : ℕ) (v : Operand) (f g : ℕ) (Γ' : Context) → told_of (integer_at P Δ Γ.regs s) ≡ answer f tt
        → told_of (operand P Δ (fault 10) Γ.regs v ▹ λ t. or_fault 9 (as_int t)) ≡ answer g tt → (least f g ≡ 0 → ⊥) → told_of (judge P Δ Γ (aop o d s v)) ≡ answer (least f g) Γ'
    unfolding judge
    aop_stops o d s v f g Γ' p q h = stops _ (λ z. assign P Δ Γ d int) (least f g) (tt, tt) Γ' (told_and _ _ f g tt tt p q) h

    pub aop_goes : (o : Arith) (d s : ℕ) (v : Operand) (f g e : ℕ) (Γ' : Context) → told_of (integer_at P Δ Γ.regs s) ≡ answer f tt
        → told_of (operand P Δ (fault 10) Γ.regs v ▹ λ t. or_fault 9 (as_int t)) ≡ answer g tt → least f g ≡ 0 → told_of (assign P Δ Γ d int) ≡ answer e Γ' → told_of (judge P Δ Γ (aop o d s v)) ≡ answer e Γ'
    unfolding judge
    aop_goes o d s v f g e Γ' p q z h = told_next _ (λ z. assign P Δ Γ d int) (least f g) e (tt, tt) Γ' (told_and _ _ f g tt tt p q) z h

    pub bop_told : (o : Branch) (r : ℕ) (v : Operand) (f g : ℕ) → told_of (integer_at P Δ Γ.regs r) ≡ answer f tt → told_of (target_of P Δ Γ v) ≡ answer g tt → told_of (judge P Δ Γ (bop o r v)) ≡ answer (least f g) Γ
    unfolding judge
    bop_told o r v f g p q = told_map _ (least f g) (tt, tt) Γ (told_and _ _ f g tt tt p q)

    pub jmp_told : (v : Operand) (f : ℕ) → told_of (target_of P Δ Γ v) ≡ answer f tt → told_of (judge P Δ Γ (jmp v)) ≡ answer f Γ
    unfolding judge
    jmp_told v f p = told_map _ f tt Γ p

    pub mov_stops : (d : ℕ) (v : Operand) (f : ℕ) (t : Ty value) (Γ' : Context) → told_of (operand P Δ (fault 10) Γ.regs v) ≡ answer f t → (f ≡ 0 → ⊥) → told_of (judge P Δ Γ (mov d v)) ≡ answer f Γ'
    unfolding judge
    mov_stops d v f t Γ' p h = stops _ (λ t. assign P Δ Γ d t) f t Γ' p h

    pub mov_goes : (d : ℕ) (v : Operand) (f e : ℕ) (t : Ty value) (Γ' : Context) → told_of (operand P Δ (fault 10) Γ.regs v) ≡ answer f t → f ≡ 0 → told_of (assign P Δ Γ d t) ≡ answer e Γ' → told_of (judge P Δ Γ (mov d v)) ≡ answer e Γ'
    unfolding judge
    mov_goes d v f e t Γ' p z h = told_next _ (λ t. assign P Δ Γ d t) f e t Γ' p z h

    -- ---- packages
    module _ (d : ℕ) (v : Operand) (b : Bool) (g : ℕ) (t : Ty value) (p : b ≡ ltb (length Δ) 64) (q : told_of (operand P Δ (fault 10) Γ.regs v ▹ λ u. or_fault 9 (as_hidden u)) ≡ answer g t) where
      pub unpack_stops : (Γ' : Context) → (least (cond b 0 7) g ≡ 0 → ⊥) → told_of (judge P Δ Γ (unpack d v)) ≡ answer (least (cond b 0 7) g) Γ'
      unfolding judge
      unpack_stops Γ' h = stops _ (λ z. assign P Δ (raised Γ) d z.1) (least (cond b 0 7) g) (tt, t) Γ' (told_and _ _ (cond b 0 7) g tt t (needs 6 _ b p) q) h

      pub unpack_goes : (e : ℕ) (Γ' : Context) → least (cond b 0 7) g ≡ 0 → told_of (assign P Δ (raised Γ) d t) ≡ answer e Γ' → told_of (judge P Δ Γ (unpack d v)) ≡ answer e Γ'
      unfolding judge
      unpack_goes e Γ' z h = told_next _ (λ z. assign P Δ (raised Γ) d z.1) (least (cond b 0 7) g) e (tt, t) Γ' (told_and _ _ (cond b 0 7) g tt t (needs 6 _ b p) q) z h

    -- ---- tuples
    pub ld_stops : (d s i f : ℕ) (t : Ty value) (Γ' : Context) → told_of (component_at P Δ Γ.regs s i) ≡ answer f t → (f ≡ 0 → ⊥) → told_of (judge P Δ Γ (ld d s i)) ≡ answer f Γ'
    unfolding judge
    ld_stops d s i f t Γ' p h = rw (← (then_assoc (tuple_at P Δ Γ.regs s) (λ c. or_fault 11 (item_at c i)) (λ t. assign P Δ Γ d t))) (stops _ (λ t. assign P Δ Γ d t) f t Γ' p h)

    pub ld_goes : (d s i f e : ℕ) (t : Ty value) (Γ' : Context) → told_of (component_at P Δ Γ.regs s i) ≡ answer f t → f ≡ 0 → told_of (assign P Δ Γ d t) ≡ answer e Γ' → told_of (judge P Δ Γ (ld d s i)) ≡ answer e Γ'
    unfolding judge
    ld_goes d s i f e t Γ' p z h = rw (← (then_assoc (tuple_at P Δ Γ.regs s) (λ c. or_fault 11 (item_at c i)) (λ t. assign P Δ Γ d t))) (told_next _ (λ t. assign P Δ Γ d t) f e t Γ' p z h)

    pub st_stops : (d i s f g : ℕ) (t u : Ty value) → told_of (component_at P Δ Γ.regs d i) ≡ answer f t → told_of (known P Δ Γ.regs s) ≡ answer g u → (least f g ≡ 0 → ⊥) → told_of (judge P Δ Γ (st d i s)) ≡ answer (least f g) Γ
    unfolding judge
    st_stops d i s f g t u p q h = stops _ (λ z. need (fault 10) (same z.1 z.0) ▹ λ y. holds Γ) (least f g) (t, u) Γ (told_and _ _ f g t u p q) h

    pub st_goes : (d i s f g : ℕ) (t u : Ty value) (b : Bool) → told_of (component_at P Δ Γ.regs d i) ≡ answer f t → told_of (known P Δ Γ.regs s) ≡ answer g u → least f g ≡ 0 → b ≡ same u t → told_of (judge P Δ Γ (st d i s)) ≡ answer (cond b 0 10) Γ
    unfolding judge
    st_goes d i s f g t u b p q z e =
        told_next _ (λ z. need (fault 10) (same z.1 z.0) ▹ λ y. holds Γ) (least f g) (cond b 0 10) (t, u) Γ (told_and _ _ f g t u p q) z (told_map (need (fault 10) (same u t)) (cond b 0 10) tt Γ (needs 9 (same u t) b e))

    pub malloc_stops : (d t : ℕ) (vs : List Operand) (f g : ℕ) (c : Ty stack) (Γ' : Context) → told_of (formed P Δ t) ≡ answer f tt → told_of (operands P Δ Γ.regs vs) ≡ answer g c → (least f g ≡ 0 → ⊥)
        → told_of (judge P Δ Γ (malloc d t vs)) ≡ answer (least f g) Γ'
    unfolding judge
    malloc_stops d t vs f g c Γ' p q h = stops _ (λ z. need (fault 10) (same (type_of P t) (tuple z.1)) ▹ λ y. assign P Δ Γ d (tuple z.1)) (least f g) (tt, c) Γ' (told_and _ _ f g tt c p q) h

    pub malloc_differs : (d t : ℕ) (vs : List Operand) (f g : ℕ) (c : Ty stack) (Γ' : Context) → told_of (formed P Δ t) ≡ answer f tt → told_of (operands P Δ Γ.regs vs) ≡ answer g c → least f g ≡ 0
        → same (type_of P t) (tuple c) ≡ false → told_of (judge P Δ Γ (malloc d t vs)) ≡ answer 10 Γ'
    unfolding judge
    malloc_differs d t vs f g c Γ' p q z e =
        told_next _ (λ z. need (fault 10) (same (type_of P t) (tuple z.1)) ▹ λ y. assign P Δ Γ d (tuple z.1)) (least f g) 10 (tt, c) Γ' (told_and _ _ f g tt c p q) z
        (told_stop (need (fault 10) (same (type_of P t) (tuple c))) (λ y. assign P Δ Γ d (tuple c)) 10 tt Γ' (needs 9 _ false (sym e)) (omega arith))

    pub malloc_goes : (d t : ℕ) (vs : List Operand) (f g e : ℕ) (c : Ty stack) (Γ' : Context) → told_of (formed P Δ t) ≡ answer f tt → told_of (operands P Δ Γ.regs vs) ≡ answer g c → least f g ≡ 0
        → same (type_of P t) (tuple c) ≡ true → told_of (assign P Δ Γ d (type_of P t)) ≡ answer e Γ' → told_of (judge P Δ Γ (malloc d t vs)) ≡ answer e Γ'
    unfolding judge
    malloc_goes d t vs f g e c Γ' p q z s h =
        told_next _ (λ z. need (fault 10) (same (type_of P t) (tuple z.1)) ▹ λ y. assign P Δ Γ d (tuple z.1)) (least f g) e (tt, c) Γ' (told_and _ _ f g tt c p q) z
        (told_next (need (fault 10) (same (type_of P t) (tuple c))) (λ y. assign P Δ Γ d (tuple c)) 0 e tt Γ' (needs 9 _ true (sym s)) refl (rw (same_sound (type_of P t) (tuple c) s) at h))

    -- ---- the stack pointer
    pub getsp_stops : (d t f : ℕ) (b : Bool) (Γ' : Context) → told_of (formed P Δ t) ≡ answer f tt → b ≡ same (type_of P t) (pointer Γ.sp) → (least f (cond b 0 10) ≡ 0 → ⊥) → told_of (judge P Δ Γ (getsp d t)) ≡ answer (least f (cond b 0 10)) Γ'
    unfolding judge
    getsp_stops d t f b Γ' p e h = stops _ (λ z. assign P Δ Γ d (pointer Γ.sp)) (least f (cond b 0 10)) (tt, tt) Γ' (told_and _ _ f (cond b 0 10) tt tt p (needs 9 _ b e)) h

    pub getsp_goes : (d t f e : ℕ) (Γ' : Context) → told_of (formed P Δ t) ≡ answer f tt → f ≡ 0 → same (type_of P t) (pointer Γ.sp) ≡ true → told_of (assign P Δ Γ d (type_of P t)) ≡ answer e Γ' → told_of (judge P Δ Γ (getsp d t)) ≡ answer e Γ'
    unfolding judge
    getsp_goes d t f e Γ' p z s h =
        told_next _ (λ z. assign P Δ Γ d (pointer Γ.sp)) (least f 0) e (tt, tt) Γ' (told_and _ _ f 0 tt tt p (needs 9 _ true (sym s))) (least_none f ∙ z) (rw (same_sound (type_of P t) (pointer Γ.sp) s) at h)

    pub setsp_stops : (s f : ℕ) (b : Ty stack) (Γ' : Context) → told_of (pointer_at P Δ Γ.regs s) ≡ answer f b → (f ≡ 0 → ⊥) → told_of (judge P Δ Γ (setsp s)) ≡ answer f Γ'
    unfolding judge
    setsp_stops s f b Γ' p h = stops _ (λ b. or_fault 12 (above b Γ.sp) ▹ λ a. holds (with_sp Γ b)) f b Γ' p h

    pub setsp_goes : (s f : ℕ) (b a : Ty stack) (v : Bool) → told_of (pointer_at P Δ Γ.regs s) ≡ answer f b → f ≡ 0 → above b Γ.sp ≡ guarded v a → told_of (judge P Δ Γ (setsp s)) ≡ answer (cond v 0 12) (with_sp Γ b)
    unfolding judge
    setsp_goes s f b a v p z e =
        told_next _ (λ b. or_fault 12 (above b Γ.sp) ▹ λ a. holds (with_sp Γ b)) f (cond v 0 12) b (with_sp Γ b) p z (told_map (or_fault 12 (above b Γ.sp)) (cond v 0 12) a (with_sp Γ b) (told_guarded 11 _ v a e))

    pub salloc_told : (n : ℕ) (b : Bool) → b ≡ leb (items (junks n Γ.sp)) 64 → told_of (judge P Δ Γ (salloc n)) ≡ answer (cond b 0 13) (with_sp Γ (junks n Γ.sp))
    unfolding judge
    salloc_told n b e = told_map _ (cond b 0 13) tt (with_sp Γ (junks n Γ.sp)) (needs 12 _ b e)

    pub sfree_told : (n : ℕ) (b : Bool) (c : Ty stack) → under n Γ.sp ≡ guarded b c → told_of (judge P Δ Γ (sfree n)) ≡ answer (cond b 0 11) (with_sp Γ c)
    unfolding judge
    sfree_told n b c e = told_over 10 _ (with_sp Γ) b c e

    -- ---- items of sp
    pub sld_stops : (T : Reading) (d i x u : ℕ) (Γ' : Context) → item_at Γ.sp i ≡ linked T x u → u ≡ 0 → told_of (judge P Δ Γ (sld d i)) ≡ answer 11 Γ'
    unfolding judge
    sld_stops T d i x u Γ' e z = let p = no_link 11 u z in told_stop _ (λ t. assign P Δ Γ d t) 11 (T.type x (u - 1)) Γ' (rw p at (told_link T 10 (item_at Γ.sp i) x u e)) (omega arith)

    pub sld_goes : (T : Reading) (d i x u e : ℕ) (Γ' : Context) → item_at Γ.sp i ≡ linked T x u → (u ≡ 0 → ⊥) → told_of (assign P Δ Γ d (T.type x (u - 1))) ≡ answer e Γ' → told_of (judge P Δ Γ (sld d i)) ≡ answer e Γ'
    unfolding judge
    sld_goes T d i x u e Γ' q z h = told_next _ (λ t. assign P Δ Γ d t) (if_none 11 u) e (T.type x (u - 1)) Γ' (told_link T 10 (item_at Γ.sp i) x u q) (some_link 11 u z) h

    -- an unknown register is the least fault, whatever there is of the item
    storing : ℕ → Ty value × Ty value → Judged Context
    storing i z = or_fault 11 (replaced Γ.sp i z.0) ▹ λ b. holds (with_sp Γ b)

    pub sst_unknown : (T : Reading) (i s x u : ℕ) (Γ' : Context) → item_at Γ.regs s ≡ linked T x u → u ≡ 0 → told_of (judge P Δ Γ (sst i s)) ≡ answer 9 Γ'
    unfolding judge storing
    sst_unknown T i s x u Γ' e z = go (item_at Γ.sp i) refl
      where
        p : told_of (known P Δ Γ.regs s) ≡ answer 9 (T.type x (u - 1))
        p = rw (no_link 9 u z) at (known_told T Γ.regs s x u e)

        go : (o : Option (Ty value)) → item_at Γ.sp i ≡ o → told_of ((known P Δ Γ.regs s & or_fault 11 (item_at Γ.sp i)) ▹ storing i) ≡ answer 9 Γ'
        go none q = nine_first _ _ (storing i) 11 _ int Γ' p (rw (← q) at (told_none 10 int)) (unfold least in refl)
        go (some t) q = nine_first _ _ (storing i) 0 _ t Γ' p (rw (← q) at (told_some 11 t)) (unfold least in refl)

    -- with an item to replace
    pub sst_goes : (T : Reading) (i s x u : ℕ) (b : Bool) (c : Ty stack) → item_at Γ.regs s ≡ linked T x u → (u ≡ 0 → ⊥) → (item_at Γ.sp i ≡ none → b ≡ false) → replaced Γ.sp i (T.type x (u - 1)) ≡ guarded b c
        → told_of (judge P Δ Γ (sst i s)) ≡ answer (cond b 0 11) (with_sp Γ c)
    unfolding judge storing
    sst_goes T i s x u b c e z n h = go (item_at Γ.sp i) refl
      where
        p : told_of (known P Δ Γ.regs s) ≡ answer 0 (T.type x (u - 1))
        p = rw (some_link 9 u z) at (known_told T Γ.regs s x u e)

        go : (o : Option (Ty value)) → item_at Γ.sp i ≡ o → told_of ((known P Δ Γ.regs s & or_fault 11 (item_at Γ.sp i)) ▹ storing i) ≡ answer (cond b 0 11) (with_sp Γ c)
        go none q = rw (n q) (told_stop _ (storing i) 11 (T.type x (u - 1), int) (with_sp Γ c) (unfold least in told_and _ _ 0 11 _ int p (rw (← q) at (told_none 10 int))) (omega arith))
        go (some t) q =
            told_next _ (storing i) 0 (cond b 0 11) (T.type x (u - 1), t) (with_sp Γ c) (unfold least in told_and _ _ 0 0 _ t p (rw (← q) at (told_some 11 t))) refl
            (told_over 10 _ (with_sp Γ) b c h)

    -- ---- through pointers
    pub slp_stops : (d s i f : ℕ) (b : Ty stack) (Γ' : Context) → told_of (pointer_at P Δ Γ.regs s) ≡ answer f b → (f ≡ 0 → ⊥) → told_of (judge P Δ Γ (slp d s i)) ≡ answer f Γ'
    unfolding judge
    slp_stops d s i f b Γ' p h = stops _ (λ b. (or_fault 12 (above b Γ.sp) & or_fault 11 (item_at b i)) ▹ λ z. assign P Δ Γ d z.1) f b Γ' p h

    module _ (T : Reading) (d s i f : ℕ) (b a : Ty stack) (v : Bool) (x u : ℕ) (p : told_of (pointer_at P Δ Γ.regs s) ≡ answer f b) (z : f ≡ 0) (ta : above b Γ.sp ≡ guarded v a) (it : item_at b i ≡ linked T x u) where
      slp_both : told_of (or_fault 12 (above b Γ.sp) & or_fault 11 (item_at b i)) ≡ answer (least (cond v 0 12) (if_none 11 u)) (a, T.type x (u - 1))
      slp_both = told_and _ _ (cond v 0 12) (if_none 11 u) a (T.type x (u - 1)) (told_guarded 11 _ v a ta) (told_link T 10 _ x u it)

      pub slp_lacks : (Γ' : Context) → (least (cond v 0 12) (if_none 11 u) ≡ 0 → ⊥) → told_of (judge P Δ Γ (slp d s i)) ≡ answer (least (cond v 0 12) (if_none 11 u)) Γ'
      unfolding judge
      slp_lacks Γ' h = told_next _ (λ b. (or_fault 12 (above b Γ.sp) & or_fault 11 (item_at b i)) ▹ λ z. assign P Δ Γ d z.1) f _ b Γ' p z (stops _ (λ z. assign P Δ Γ d z.1) _ _ Γ' slp_both h)

      pub slp_goes : (e : ℕ) (Γ' : Context) → least (cond v 0 12) (if_none 11 u) ≡ 0 → told_of (assign P Δ Γ d (T.type x (u - 1))) ≡ answer e Γ' → told_of (judge P Δ Γ (slp d s i)) ≡ answer e Γ'
      unfolding judge
      slp_goes e Γ' n h = told_next _ (λ b. (or_fault 12 (above b Γ.sp) & or_fault 11 (item_at b i)) ▹ λ z. assign P Δ Γ d z.1) f e b Γ' p z (told_next _ (λ z. assign P Δ Γ d z.1) _ e (a, T.type x (u - 1)) Γ' slp_both n h)

    -- the new tail: an item to replace, a type to put there, and the given row points to what that makes
    pub tail_lacks : (T : Reading) (b : Ty stack) (i s t w x v u : ℕ) (c : Ty stack) → item_at b i ≡ linked T w x → item_at Γ.regs s ≡ linked T v u → (least (if_none 11 x) (if_none 9 u) ≡ 0 → ⊥)
        → told_of (new_tail P Δ Γ b i s t) ≡ answer (least (if_none 11 x) (if_none 9 u)) c
    unfolding new_tail
    tail_lacks T b i s t w x v u c p q h =
        stops _ (λ y. or_fault 11 (replaced b i y.1) ▹ λ c. need (fault 10) (same (type_of P t) (pointer c)) ▹ λ x. holds c) _ _ c
        (told_and _ _ (if_none 11 x) (if_none 9 u) (T.type w (x - 1)) (T.type v (u - 1)) (told_link T 10 _ w x p) (known_told T Γ.regs s v u q)) h

    pub tail_goes : (T : Reading) (b : Ty stack) (i s t w x v u : ℕ) (c : Ty stack) (o : Bool) → item_at b i ≡ linked T w x → item_at Γ.regs s ≡ linked T v u → least (if_none 11 x) (if_none 9 u) ≡ 0
        → replaced b i (T.type v (u - 1)) ≡ some c → o ≡ same (type_of P t) (pointer c) → told_of (new_tail P Δ Γ b i s t) ≡ answer (cond o 0 10) c
    unfolding new_tail
    tail_goes T b i s t w x v u c o p q z r e =
        told_next _ (λ y. or_fault 11 (replaced b i y.1) ▹ λ c. need (fault 10) (same (type_of P t) (pointer c)) ▹ λ x. holds c) _ (cond o 0 10) (T.type w (x - 1), T.type v (u - 1)) c
        (told_and _ _ (if_none 11 x) (if_none 9 u) (T.type w (x - 1)) (T.type v (u - 1)) (told_link T 10 _ w x p) (known_told T Γ.regs s v u q)) z
        (told_next (or_fault 11 (replaced b i (T.type v (u - 1)))) (λ c. need (fault 10) (same (type_of P t) (pointer c)) ▹ λ x. holds c) 0 (cond o 0 10) c c (told_guarded 10 _ true c r) refl
        (told_map (need (fault 10) (same (type_of P t) (pointer c))) (cond o 0 10) tt c (needs 9 _ o e)))

    abbrev pub through : ℕ → ℕ → ℕ → ℕ → Judged (Ty stack × Ty stack)
    through d i s t = pointer_at P Δ Γ.regs d ▹ λ b. or_fault 12 (above b Γ.sp) & new_tail P Δ Γ b i s t

    pub through_stops : (d i s t f : ℕ) (b : Ty stack) (y : Ty stack × Ty stack) → told_of (pointer_at P Δ Γ.regs d) ≡ answer f b → (f ≡ 0 → ⊥) → told_of (through d i s t) ≡ answer f y
    through_stops d i s t f b y p h = stops _ (λ b. or_fault 12 (above b Γ.sp) & new_tail P Δ Γ b i s t) f b y p h

    pub through_goes : (d i s t f k : ℕ) (b a c : Ty stack) (v : Bool) → told_of (pointer_at P Δ Γ.regs d) ≡ answer f b → f ≡ 0 → above b Γ.sp ≡ guarded v a → told_of (new_tail P Δ Γ b i s t) ≡ answer k c
        → told_of (through d i s t) ≡ answer (least (cond v 0 12) k) (a, c)
    through_goes d i s t f k b a c v p z e q = told_next _ (λ b. or_fault 12 (above b Γ.sp) & new_tail P Δ Γ b i s t) f _ b (a, c) p z (told_and _ _ (cond v 0 12) k a c (told_guarded 11 _ v a e) q)

    module _ (d i s t f g h : ℕ) (w : Ty value) (a c : Ty stack) (p : told_of (formed P Δ t) ≡ answer f tt) (q : told_of (known P Δ Γ.regs s) ≡ answer g w) (r : told_of (through d i s t) ≡ answer h (a, c)) where
      pub ssp_stops : (Γ' : Context) → (least f (least g h) ≡ 0 → ⊥) → told_of (judge P Δ Γ (ssp d i s t)) ≡ answer (least f (least g h)) Γ'
      unfolding judge
      ssp_stops Γ' n =
          stops _ (λ z. assign P Δ (with_sp Γ (join z.1.1.0 z.1.1.1)) d (pointer z.1.1.1)) (least f (least g h)) (tt, (w, (a, c))) Γ'
          (told_and _ _ f (least g h) tt (w, (a, c)) p (told_and _ _ g h w (a, c) q r)) n

      pub ssp_goes : (e : ℕ) (Γ' : Context) → least f (least g h) ≡ 0 → told_of (assign P Δ (with_sp Γ (join a c)) d (pointer c)) ≡ answer e Γ' → told_of (judge P Δ Γ (ssp d i s t)) ≡ answer e Γ'
      unfolding judge
      ssp_goes e Γ' z n =
          told_next _ (λ z. assign P Δ (with_sp Γ (join z.1.1.0 z.1.1.1)) d (pointer z.1.1.1)) (least f (least g h)) e (tt, (w, (a, c))) Γ'
          (told_and _ _ f (least g h) tt (w, (a, c)) p (told_and _ _ g h w (a, c) q r)) z n

    -- ---- the end
    pub halt_stops : (t f g : ℕ) (u : Ty value) → told_of (formed P Δ t) ≡ answer f tt → told_of (known P Δ Γ.regs 0) ≡ answer g u → (least f g ≡ 0 → ⊥) → told_of (judge P Δ Γ (halt t)) ≡ answer (least f g) Γ
    unfolding judge
    halt_stops t f g u p q h = stops _ (λ z. need (fault 10) (same z.1 (type_of P t)) ▹ λ y. holds Γ) (least f g) (tt, u) Γ (told_and _ _ f g tt u p q) h

    pub halt_goes : (t f g : ℕ) (u : Ty value) (b : Bool) → told_of (formed P Δ t) ≡ answer f tt → told_of (known P Δ Γ.regs 0) ≡ answer g u → least f g ≡ 0 → b ≡ same u (type_of P t) → told_of (judge P Δ Γ (halt t)) ≡ answer (cond b 0 10) Γ
    unfolding judge
    halt_goes t f g u b p q z e =
        told_next _ (λ z. need (fault 10) (same z.1 (type_of P t)) ▹ λ y. holds Γ) (least f g) (cond b 0 10) (tt, u) Γ (told_and _ _ f g tt u p q) z (told_map (need (fault 10) (same u (type_of P t))) (cond b 0 10) tt Γ (needs 9 _ b e))
