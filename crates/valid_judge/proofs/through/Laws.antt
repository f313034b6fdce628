-- What the ways through this crate's functions come to.
use Prim.Native.Nat.{ℕ, zero, suc, ◌+◌, ◌-◌}
use native.Mathlib.Omega.{arith}
use mathlib.Core.Path.{◌≡◌, refl, ap, ap₂, sym, ◌∙◌}
use mathlib.Core.Bool.{Bool, true, false, cond}
use mathlib.Core.Option.{Option, none, some}
use mathlib.Core.List.{List}
use Rattle.syntax.specs.Partial.{chain, guarded}
use Rattle.syntax.specs.Syntax.{Kind, value, stack, slp, ssp}
use Rattle.syntax.proofs.Least.{least}
use Rattle.types.specs.Types.{Ty, pointer, nil, push, svar, gap, join, items}
use Rattle.types.specs.Equal.{same}
use Rattle.types.proofs.Equal.{same_sound}
use Rattle.valid.specs.Program.{Program, type_of}
use Rattle.valid.specs.Rules.{Context, with_sp}
use Rattle.valid.specs.Tests.{item_at, replaced, above}
use Rattle.valid.specs.PassThree.{pointer_at, formed, assign, new_tail, judge}
use Rattle.valid_context.specs.declared.Link.{Link}
use Rattle.valid_context.specs.Context.{Reading, linked, regs_of, sp_of, sp_above, context_of}
use Rattle.valid_context.specs.Told.{told_of, answer}
use Rattle.valid_context.proofs.Sp.{join_is}
use Rattle.valid_typing.proofs.Judging.{if_none, known_told, slp_lacks, slp_goes, tail_lacks, tail_goes, through, through_stops, through_goes, ssp_stops, ssp_goes}
use Rattle.valid_judge.proofs.stack.Laws.{least_zero, cond_zero, tail_fits, tail_same}
use Rattle.valid_judge.specs.through.Forms.{Replaced, IsTail}

pub link_there : (k u : ℕ) → if_none (suc k) u ≡ 0 → u ≡ 0 → ⊥
unfolding if_none
link_there k zero e z = omega arith
link_there k (suc u) e z = omega arith

-- ---- slp
module _ (P : Program) (Δ : List Kind) (T : Reading) (regs sp : List ℕ) (dep d s i f : ℕ) (b : Ty stack) (v : Bool) (x u a g h : ℕ)
    (p : told_of (pointer_at P Δ (regs_of T regs) s) ≡ answer f b) (z : f ≡ 0) (ta : above b (sp_of T sp dep) ≡ guarded v (sp_above T sp (items b) (dep - items b))) (it : item_at b i ≡ linked T x u) (ea : a ≡ cond v 0 12) (eg : g ≡ if_none 11 u) (eh : h ≡ least a g) where
  faults : h ≡ least (cond v 0 12) (if_none 11 u)
  faults = eh ∙ ap₂ least ea eg

  pub read_none : (Γ' : Context) → (h ≡ 0 → ⊥) → told_of (judge P Δ (context_of T regs sp dep) (slp d s i)) ≡ answer h Γ'
  read_none Γ' n = slp_lacks P Δ (context_of T regs sp dep) T d s i f b (sp_above T sp (items b) (dep - items b)) v x u p z ta it Γ' (λ e. n (faults ∙ e)) ∙ ap (λ (k : ℕ). answer k Γ') (sym faults)

  pub read : (k : ℕ) (Γ' : Context) → h ≡ 0 → told_of (assign P Δ (context_of T regs sp dep) d (T.type x (u - 1))) ≡ answer k Γ' → told_of (judge P Δ (context_of T regs sp dep) (slp d s i)) ≡ answer k Γ'
  read k Γ' n q = slp_goes P Δ (context_of T regs sp dep) T d s i f b (sp_above T sp (items b) (dep - items b)) v x u p z ta it k Γ' (sym faults ∙ n) q

pub both_there : (u k a g h : ℕ) → g ≡ if_none (suc k) u → h ≡ least a g → h ≡ 0 → u ≡ 0 → ⊥
both_there u k a g h e q z = link_there k u (sym e ∙ (least_zero a g (sym q ∙ z)).1)

-- ---- the new tail
none_some : {A B : Type 0} {x : A} → none ≡ some x → B
none_some e = let z : ◌≡◌ {A = ℕ} 0 1 = cc in absurd (omega arith)

-- an item that is there can be replaced
can_put : (b : Ty stack) (i : ℕ) (x t : Ty value) → item_at b i ≡ some x → replaced b i t ≡ none → ⊥
unfolding item_at replaced
can_put nil i x t e q = none_some e
can_put (push y a) zero x t e q = none_some (sym q)
can_put (push y a) (suc i) x t e q = can_put a i x t e (bound (replaced a i t) (λ c. push y c) q)
  where
    bound : (o : Option (Ty stack)) (f : Ty stack → Ty stack) → chain o (λ c. some (f c)) ≡ none → o ≡ none
    bound none f h = refl
    bound (some c) f h = none_some (sym h)
can_put (svar k a) i x t e q = none_some e
can_put (gap a) zero x t e q = none_some e
can_put (gap a) (suc i) x t e q = can_put a i x t e (bound (replaced a i t) (λ c. gap c) q)
  where
    bound : (o : Option (Ty stack)) (f : Ty stack → Ty stack) → chain o (λ c. some (f c)) ≡ none → o ≡ none
    bound none f h = refl
    bound (some c) f h = none_some (sym h)

put_there : (T : Reading) (b c : Ty stack) (i x y : ℕ) (t : Ty value) (v : Bool) → item_at b i ≡ linked T x y → (y ≡ 0 → ⊥) → replaced b i t ≡ guarded v c → replaced b i t ≡ some c
unfolding linked
put_there T b c i x zero t v e n q = absurd (n refl)
put_there T b c i x (suc y) t true e n q = q
put_there T b c i x (suc y) t false e n q = absurd (can_put b i (T.type x y) t e q)

module _ (T : Reading) (b : Ty stack) (i t x y : ℕ) (l : Link) (f g h : ℕ) (eb : item_at b i ≡ linked T x y) (ef : f ≡ if_none 11 y) (eg : g ≡ if_none 9 l.link) (eh : h ≡ least f g) where
  lack : h ≡ least (if_none 11 y) (if_none 9 l.link)
  lack = eh ∙ ap₂ least ef eg

  pub tail_none : (c : Ty stack) → (h ≡ 0 → ⊥) → (P : Program) (Δ : List Kind) (Γ : Context) (s : ℕ) → item_at Γ.regs s ≡ linked T l.env l.link → told_of (new_tail P Δ Γ b i s t) ≡ answer h c
  tail_none c n P Δ Γ s e = tail_lacks P Δ Γ T b i s t x y l.env l.link c eb e (λ z. n (lack ∙ z)) ∙ ap (λ (k : ℕ). answer k c) (sym lack)

  module _ (c : Ty stack) (m : ℕ) (w : List ℕ) (v : Bool) (z : h ≡ 0) (eq : b ≡ sp_of T w m) (put : replaced (sp_of T w m) i (T.type l.env (l.link - 1)) ≡ guarded v c) where
    made : replaced b i (T.type l.env (l.link - 1)) ≡ some c
    made = put_there T b c i x y (T.type l.env (l.link - 1)) v eb (λ e. link_there 10 y (least_zero (if_none 11 y) (if_none 9 l.link) (sym lack ∙ z)).0 e) (ap (λ (a : Ty stack). replaced a i (T.type l.env (l.link - 1))) eq ∙ put)

    goes : (o : Bool) (ε r : ℕ) → o ≡ same (T.type ε r) (pointer c) → (P : Program) (Δ : List Kind) (Γ : Context) (s : ℕ) → T.type ε r ≡ type_of P t → item_at Γ.regs s ≡ linked T l.env l.link → told_of (new_tail P Δ Γ b i s t) ≡ answer (cond o 0 10) c
    goes o ε r eo P Δ Γ s er e = tail_goes P Δ Γ T b i s t x y l.env l.link c o eb e (sym lack ∙ z) made (eo ∙ ap (λ (a : Ty value). same a (pointer c)) er)

    makes : (o : Bool) (ε r : ℕ) → o ≡ same (T.type ε r) (pointer c) → o ≡ true → Replaced T b i l ε r c
    makes o ε r eo t = record { known = link_there 8 l.link (least_zero (if_none 11 y) (if_none 9 l.link) (sym lack ∙ z)).1; put = made; points = same_sound (T.type ε r) (pointer c) (sym eo ∙ t) }

  -- b written out in w, item i replaced in w'
  module _ (w w' : List ℕ) (m ε r : ℕ) (v o : Bool) (z : h ≡ 0) (flat : sp_of T w (items b) ≡ b) (em : m ≡ items b) (put : replaced (sp_of T w m) i (T.type l.env (l.link - 1)) ≡ guarded v (sp_of T w' m)) (eo : o ≡ same (T.type ε r) (pointer (sp_of T w' m))) where
    pub tail_told : (q : Bool) → o ≡ q → (P : Program) (Δ : List Kind) (Γ : Context) (s : ℕ) → T.type ε r ≡ type_of P t → item_at Γ.regs s ≡ linked T l.env l.link → told_of (new_tail P Δ Γ b i s t) ≡ answer (cond q 0 10) (sp_of T w' (items b))
    tail_told q eq P Δ Γ s er e = goes (sp_of T w' (items b)) (items b) w v z (sym flat) (rw em at put) q ε r (sym eq ∙ (rw em at eo)) P Δ Γ s er e

    pub tail_made : (a : ℕ) → r ≡ a → o ≡ true → Replaced T b i l ε a (sp_of T w' (items b))
    tail_made a er eq = makes (sp_of T w' (items b)) (items b) w v z (sym flat) (rw em at put) true ε a (sym eq ∙ (rw (em, er) at eo)) refl

-- ---- through the pointer
module _ (T : Reading) (sp : List ℕ) (dep i t u : ℕ) (b : Ty stack) where
  pub through_none : (P : Program) (Δ : List Kind) (regs : List ℕ) (d s f : ℕ) (y : Ty stack × Ty stack) → (f ≡ 0 → ⊥) → told_of (pointer_at P Δ (regs_of T regs) d) ≡ answer f b → told_of (through P Δ (context_of T regs sp dep) d i s t) ≡ answer f y
  through_none P Δ regs d s f y n p = through_stops P Δ (context_of T regs sp dep) d i s t f b y p n

  pub through_told : (P : Program) (Δ : List Kind) (regs : List ℕ) (d s f a k h : ℕ) (c : Ty stack) (v : Bool) → f ≡ 0 → above b (sp_of T sp dep) ≡ guarded v (sp_above T sp (items b) (dep - items b)) → a ≡ cond v 0 12 → h ≡ least a k
      → told_of (new_tail P Δ (context_of T regs sp dep) b i s t) ≡ answer k c → told_of (pointer_at P Δ (regs_of T regs) d) ≡ answer f b → told_of (through P Δ (context_of T regs sp dep) d i s t) ≡ answer h (sp_above T sp (items b) (dep - items b), c)
  through_told P Δ regs d s f a k h c v z e ea eh q p =
      through_goes P Δ (context_of T regs sp dep) d i s t f k b (sp_above T sp (items b) (dep - items b)) c v p z e q ∙ ap (λ (j : ℕ). answer j (sp_above T sp (items b) (dep - items b), c)) (sym (eh ∙ ap (λ (j : ℕ). least j k) ea))

  pub through_tail : (a k h : ℕ) (v : Bool) → above b (sp_of T sp dep) ≡ guarded v (sp_above T sp (items b) (dep - items b)) → a ≡ cond v 0 12 → h ≡ least a k → h ≡ 0 → IsTail T sp dep b × (k ≡ 0)
  through_tail a k h v e ea eh z =
      let w = least_zero a k (sym eh ∙ z) in
      let o = cond_zero v 11 (sym ea ∙ w.0) in
      (record { fits = tail_fits T sp dep b v e o; same = tail_same T sp dep b v e o }, w.1)

-- ---- ssp
some_same : {A : Type 0} {x y : A} → some x ≡ some y → x ≡ y
some_same e = cc

guarded_some : {A : Type 0} (v : Bool) (x y : A) → guarded v x ≡ some y → x ≡ y
guarded_some true x y e = some_same e
guarded_some false x y e = none_some e

module _ (T : Reading) (sp sp' : List ℕ) (dep i : ℕ) (l : Link) (ε r m : ℕ) (b c : Ty stack) (v : Bool) (tl : IsTail T sp dep b) (rp : Replaced T b i l ε r c) (em : m ≡ items b)
    (put : replaced (sp_of T sp m) i (T.type l.env (l.link - 1)) ≡ guarded v (sp_of T sp' m)) (up : (k : ℕ) → sp_above T sp' m k ≡ sp_above T sp m k) where
  low : sp_of T sp' m ≡ c
  low = guarded_some v (sp_of T sp' m) c (sym put ∙ ap (λ (x : Ty stack). replaced x i (T.type l.env (l.link - 1))) (sym (tl.same ∙ ap (sp_of T sp) (sym em))) ∙ rp.put)

  pub written : join (sp_above T sp (items b) (dep - items b)) c ≡ sp_of T sp' dep
  written =
      let q : m + (dep - m) ≡ dep = omega (arith, tl.fits) in
      ap (λ (k : ℕ). join (sp_above T sp k (dep - k)) c) (sym em) ∙ ap₂ join (sym (up (dep - m))) (sym low) ∙ join_is T sp' m (dep - m) ∙ ap (sp_of T sp') q

module _ (P : Program) (Δ : List Kind) (T : Reading) (regs sp : List ℕ) (dep d i s t : ℕ) (l : Link) (f k g h z : ℕ) (a c : Ty stack)
    (p : told_of (formed P Δ t) ≡ answer f tt) (e : item_at (regs_of T regs) s ≡ linked T l.env l.link) (r : told_of (through P Δ (context_of T regs sp dep) d i s t) ≡ answer h (a, c)) (ek : k ≡ if_none 9 l.link) (eg : g ≡ least k h) (ez : z ≡ least f g) where
  all : z ≡ least f (least (if_none 9 l.link) h)
  all = ez ∙ ap (least f) (eg ∙ ap (λ (x : ℕ). least x h) ek)

  pub store_none : (Γ' : Context) → (z ≡ 0 → ⊥) → told_of (judge P Δ (context_of T regs sp dep) (ssp d i s t)) ≡ answer z Γ'
  store_none Γ' n =
      ssp_stops P Δ (context_of T regs sp dep) d i s t f (if_none 9 l.link) h (T.type l.env (l.link - 1)) a c p (known_told P Δ T (regs_of T regs) s l.env l.link e) r Γ' (λ x. n (all ∙ x)) ∙ ap (λ (x : ℕ). answer x Γ') (sym all)

  pub stored : (sp' : List ℕ) (x : Ty value) (j : ℕ) (Γ' : Context) → z ≡ 0 → join a c ≡ sp_of T sp' dep → x ≡ pointer c → told_of (assign P Δ (context_of T regs sp' dep) d x) ≡ answer j Γ' → told_of (judge P Δ (context_of T regs sp dep) (ssp d i s t)) ≡ answer j Γ'
  stored sp' x j Γ' n w q y =
      ssp_goes P Δ (context_of T regs sp dep) d i s t f (if_none 9 l.link) h (T.type l.env (l.link - 1)) a c p (known_told P Δ T (regs_of T regs) s l.env l.link e) r j Γ' (sym all ∙ n)
      (ap₂ (λ (v : Ty stack) (o : Ty value). told_of (assign P Δ (with_sp (context_of T regs sp dep) v) d o)) w (sym q) ∙ y)

pub last_zero : (f k h g z : ℕ) → g ≡ least k h → z ≡ least f g → z ≡ 0 → h ≡ 0
last_zero f k h g z eg ez n = (least_zero k h (sym eg ∙ (least_zero f g (sym ez ∙ n)).1)).1
