-- What the ways through this crate's functions come to.
use Prim.Native.Nat.{ℕ, zero, suc, ◌+◌, ◌-◌, ◌*◌, ◌≤◌, ◌<◌}
use native.Mathlib.Omega.{arith}
use native.Mathlib.Nat.{zero-add}
use mathlib.Core.Path.{◌≡◌, refl, ap, sym, ◌∙◌}
use mathlib.Core.Bool.{Bool, true, false, ◌&&◌, cond}
use mathlib.Core.Option.{none, some}
use mathlib.Core.List.{List}
use lib.Dec.{leb}
use lib.ListN.{length}
use borrow.Author.Tests.{leb-true, le-leb, lt-leb}
use Rattle.syntax.specs.Partial.{guarded}
use Rattle.syntax.specs.Syntax.{Kind, value, stack, salloc, sfree, sst, setsp, getsp}
use Rattle.syntax.proofs.Least.{least}
use Rattle.types.specs.Types.{Ty, int, junk, var, tuple, pointer, hidden, code, walk, items, Arg, of_kind}
use Rattle.types.specs.Rows.{type_at}
use Rattle.types.specs.Equal.{same}
use Rattle.types.proofs.Equal.{and_inv, same_sound}
use Rattle.valid.specs.Program.{Program, type_of}
use Rattle.valid.specs.Rules.{junks, Context, with_sp}
use Rattle.valid.specs.Tests.{as_pointer, item_at, replaced, under, above}
use Rattle.valid.specs.PassThree.{formed, pointer_at, assign, judge}
use Rattle.tables.specs.Tables.{cell}
use Rattle.types_rows.specs.Read.{tab, mean_s, items_at}
use Rattle.types_rows.specs.Environments.{read_in}
use Rattle.types_rows.proofs.Environments.{read_items}
use Rattle.valid_context.specs.Context.{Reading, linked, regs_of, sp_of, sp_above, are_values, context_of, with_entry}
use Rattle.valid_context.specs.Told.{told_of, answer}
use Rattle.valid_context.proofs.Sp.{items_is, item_is_lem, put_is, tail_is}
use Rattle.valid_typing.specs.Typing.{held_in, Ready}
use Rattle.valid_typing.proofs.Args.{given_past, past_arg}
use Rattle.valid_typing.proofs.Stacks.{count_is}
use Rattle.valid_typing.proofs.Judging.{salloc_told, sfree_told, sst_goes, setsp_goes, getsp_stops, getsp_goes}

-- ---- pointers
pub point_same : (t : Ty value) (a b : Ty stack) → as_pointer t ≡ some a → same t (pointer b) ≡ same a b
unfolding as_pointer same
point_same int a b e = let z : ◌≡◌ {A = ℕ} 0 1 = cc in absurd (omega arith)
point_same junk a b e = let z : ◌≡◌ {A = ℕ} 0 1 = cc in absurd (omega arith)
point_same (var k) a b e = let z : ◌≡◌ {A = ℕ} 0 1 = cc in absurd (omega arith)
point_same (tuple c) a b e = let z : ◌≡◌ {A = ℕ} 0 1 = cc in absurd (omega arith)
point_same (hidden t) a b e = let z : ◌≡◌ {A = ℕ} 0 1 = cc in absurd (omega arith)
point_same (pointer c) a b e = let p : c ≡ a = cc in rw p
point_same (code q c r) a b e = let z : ◌≡◌ {A = ℕ} 0 1 = cc in absurd (omega arith)

pub point_other : (t : Ty value) (b : Ty stack) → as_pointer t ≡ none → false ≡ same t (pointer b)
unfolding as_pointer same
point_other int b e = refl
point_other junk b e = refl
point_other (var k) b e = refl
point_other (tuple c) b e = refl
point_other (hidden t) b e = refl
point_other (pointer c) b e = let z : ◌≡◌ {A = ℕ} 0 1 = cc in absurd (omega arith)
point_other (code q c r) b e = refl

-- ---- faults
pub least_zero : (a b : ℕ) → least a b ≡ 0 → (a ≡ 0) × (b ≡ 0)
unfolding least
least_zero zero b e = (refl, e)
least_zero (suc a) zero e = absurd (omega arith)
least_zero (suc a) (suc b) e = absurd (omega arith)

pub cond_zero : (b : Bool) (k : ℕ) → cond b 0 (suc k) ≡ 0 → b ≡ true
cond_zero true k e = refl
cond_zero false k e = absurd (omega arith)

-- ---- a tail of sp
guarded_some : {A : Type 0} (v w : Bool) (x : A) → guarded v x ≡ guarded w x → w ≡ true → v ≡ true
guarded_some true w x e q = refl
guarded_some false true x e q = let z : ◌≡◌ {A = ℕ} 0 1 = cc in absurd (omega arith)
guarded_some false false x e q = q

module _ (T : Reading) (sp : List ℕ) (d : ℕ) (b : Ty stack) (v : Bool) (e : above b (sp_of T sp d) ≡ guarded v (sp_above T sp (items b) (d - items b))) (h : v ≡ true) where
  both : leb (items b) d && same b (sp_of T sp (items b)) ≡ true
  both = guarded_some (leb (items b) d && same b (sp_of T sp (items b))) v (sp_above T sp (items b) (d - items b)) (sym (tail_is T sp d b) ∙ e) h

  pub tail_fits : items b ≤ d
  tail_fits = leb-true (items b) d (and_inv (leb (items b) d) (same b (sp_of T sp (items b))) both).0

  pub tail_same : b ≡ sp_of T sp (items b)
  tail_same = same_sound b (sp_of T sp (items b)) (and_inv (leb (items b) d) (same b (sp_of T sp (items b))) both).1

-- ---- a stack that was read in an environment has as many items
module _ (E : List ℕ) (e : ℕ) (b : Ty stack) where
  pub tail_read : (T : Reading) (sp : List ℕ) (d : ℕ) (v : Bool) → above (read_in E e b) (sp_of T sp d) ≡ guarded v (sp_above T sp (items b) (d - items b))
      → above (read_in E e b) (sp_of T sp d) ≡ guarded v (sp_above T sp (items (read_in E e b)) (d - items (read_in E e b)))
  tail_read T sp d v h = rw (read_items E e b) h

  pub flat_read : (T : Reading) (sp : List ℕ) → sp_of T sp (items b) ≡ read_in E e b → sp_of T sp (items (read_in E e b)) ≡ read_in E e b
  flat_read T sp h = ap (sp_of T sp) (read_items E e b) ∙ h

pub count_read : (rows parts : List ℕ) (n x : ℕ) → Ready rows parts n → x ≤ n + 2 → (E : List ℕ) (e : ℕ) → items_at rows x ≡ items (read_in E e (mean_s (tab rows parts) x))
count_read rows parts n x r l E e = count_is rows parts n x r l ∙ sym (read_items E e (mean_s (tab rows parts) x))

-- ---- items
junk_items : (k : ℕ) (a : Ty stack) → items (junks k a) ≡ k + items a
unfolding items junks
junk_items zero a = sym (zero-add (items a))
junk_items (suc k) a = let h = junk_items k a in omega arith

pub junk_type : (rows parts E : List ℕ) (n : ℕ) → Ready rows parts n → (held_in rows parts n E).type 0 (n + 1) ≡ junk
unfolding type_at of_kind read_in walk
junk_type rows parts E n r = ap (λ (a : Arg). read_in E 0 (of_kind value a)) (given_past rows parts n n (omega arith) r ∙ past_arg rows parts n n (omega arith))

guarded_none : {A : Type 0} (v : Bool) (x : A) → guarded v x ≡ none → v ≡ false
guarded_none true x e = let z : ◌≡◌ {A = ℕ} 0 1 = cc in absurd (omega arith)
guarded_none false x e = refl

-- no item is there to replace
no_item : (T : Reading) (sp : List ℕ) (d i row env : ℕ) (b : Bool) (c : Ty stack) → 2 * d ≤ length sp → row < 1024 → replaced (sp_of T sp d) i (T.type env row) ≡ guarded b c → item_at (sp_of T sp d) i ≡ none → b ≡ false
no_item T sp d i row env b c h l e z =
    let v = guarded_none (are_values sp d (suc i)) (T.type (cell 2 sp (d - suc i) 1) (cell 2 sp (d - suc i) 0)) (sym (item_is_lem T sp d i) ∙ z) in
    guarded_none b c (sym e ∙ put_is T sp d i row env h l ∙ ap (λ (w : Bool). guarded w (sp_of T (with_entry sp (d - suc i) row env) d)) v)

module _ (P : Program) (Δ : List Kind) (T : Reading) (regs sp : List ℕ) (d : ℕ) where
  pub cut_done : (s f m : ℕ) (b : Ty stack) (v : Bool) → told_of (pointer_at P Δ (regs_of T regs) s) ≡ answer f b → f ≡ 0 → above b (sp_of T sp d) ≡ guarded v (sp_above T sp (items b) (d - items b)) → v ≡ true → m ≡ items b
      → told_of (judge P Δ (context_of T regs sp d) (setsp s)) ≡ answer 0 (context_of T regs sp m)
  cut_done s f m b v p z e h q =
      setsp_goes P Δ (context_of T regs sp d) s f b (sp_above T sp (items b) (d - items b)) true p z (e ∙ ap (λ (u : Bool). guarded u (sp_above T sp (items b) (d - items b))) h)
      ∙ ap (λ (c : Ty stack). answer 0 (with_sp (context_of T regs sp d) c)) (tail_same T sp d b v e h ∙ ap (sp_of T sp) (sym q))

  pub cut_fails : (s f d' : ℕ) (b : Ty stack) (v : Bool) → told_of (pointer_at P Δ (regs_of T regs) s) ≡ answer f b → f ≡ 0 → above b (sp_of T sp d) ≡ guarded v (sp_above T sp (items b) (d - items b)) → v ≡ false
      → told_of (judge P Δ (context_of T regs sp d) (setsp s)) ≡ answer 12 (context_of T regs sp d')
  unfolding answer
  cut_fails s f d' b v p z e h =
      setsp_goes P Δ (context_of T regs sp d) s f b (sp_above T sp (items b) (d - items b)) false p z (e ∙ ap (λ (u : Bool). guarded u (sp_above T sp (items b) (d - items b))) h)

  -- ---- salloc, sfree
  pub full : (k d' : ℕ) (sp' : List ℕ) → d ≤ 64 → 64 - d < k → told_of (judge P Δ (context_of T regs sp d) (salloc k)) ≡ answer 13 (context_of T regs sp' d')
  unfolding answer
  full k d' sp' h l = let q = junk_items k (sp_of T sp d) in let i = items_is T sp d in salloc_told P Δ (context_of T regs sp d) k false (sym (lt-leb (items (junks k (sp_of T sp d))) 64 (omega arith)))

  pub grown : (k : ℕ) (sp' : List ℕ) → d ≤ 64 → k ≤ 64 - d → junks k (sp_of T sp d) ≡ sp_of T sp' (d + k) → told_of (judge P Δ (context_of T regs sp d) (salloc k)) ≡ answer 0 (context_of T regs sp' (d + k))
  grown k sp' h l e =
      let q = junk_items k (sp_of T sp d) in
      let i = items_is T sp d in
      salloc_told P Δ (context_of T regs sp d) k true (sym (le-leb (items (junks k (sp_of T sp d))) 64 (omega arith))) ∙ ap (λ (c : Ty stack). answer 0 (with_sp (context_of T regs sp d) c)) e

  pub freed : (k : ℕ) (v : Bool) → under k (sp_of T sp d) ≡ guarded v (sp_of T sp (d - k)) → v ≡ true → told_of (judge P Δ (context_of T regs sp d) (sfree k)) ≡ answer 0 (context_of T regs sp (d - k))
  freed k v e h = sfree_told P Δ (context_of T regs sp d) k true (sp_of T sp (d - k)) (e ∙ ap (λ (u : Bool). guarded u (sp_of T sp (d - k))) h)

  pub kept : (k d' : ℕ) (v : Bool) → under k (sp_of T sp d) ≡ guarded v (sp_of T sp (d - k)) → v ≡ false → told_of (judge P Δ (context_of T regs sp d) (sfree k)) ≡ answer 11 (context_of T regs sp d')
  unfolding answer
  kept k d' v e h = sfree_told P Δ (context_of T regs sp d) k false (sp_of T sp (d - k)) (e ∙ ap (λ (u : Bool). guarded u (sp_of T sp (d - k))) h)

  -- ---- sst
  pub put_item : (i s e u : ℕ) (w v : Bool) (c : Ty stack) → 2 * d ≤ length sp → u - 1 < 1024 → item_at (regs_of T regs) s ≡ linked T e u → (u ≡ 0 → ⊥) → replaced (sp_of T sp d) i (T.type e (u - 1)) ≡ guarded v c → v ≡ w
      → told_of (judge P Δ (context_of T regs sp d) (sst i s)) ≡ answer (cond w 0 11) (with_sp (context_of T regs sp d) c)
  put_item i s e u w v c h l g z q k =
      let o : replaced (sp_of T sp d) i (T.type e (u - 1)) ≡ guarded w c = q ∙ ap (λ (b : Bool). guarded b c) k in
      sst_goes P Δ (context_of T regs sp d) T i s e u w c g z (no_item T sp d i (u - 1) e w c h l o) o

  -- ---- getsp
  module _ (ty : Ty value) (t f g h : ℕ) (b : Bool) (p : told_of (formed P Δ t) ≡ answer f tt) (e : b ≡ same ty (pointer (sp_of T sp d))) (q : ty ≡ type_of P t) (eg : g ≡ cond b 0 10) (eh : h ≡ least f g) where
    given : b ≡ same (type_of P t) (pointer (sp_of T sp d))
    given = e ∙ ap (λ (x : Ty value). same x (pointer (sp_of T sp d))) q

    faults : h ≡ least f (cond b 0 10)
    faults = eh ∙ ap (least f) eg

    pub got_none : (x : ℕ) (Γ' : Context) → (h ≡ 0 → ⊥) → told_of (judge P Δ (context_of T regs sp d) (getsp x t)) ≡ answer h Γ'
    got_none x Γ' n = getsp_stops P Δ (context_of T regs sp d) x t f b Γ' p given (λ z. n (faults ∙ z)) ∙ ap (λ (k : ℕ). answer k Γ') (sym faults)

    pub got : (x k : ℕ) (Γ' : Context) → h ≡ 0 → told_of (assign P Δ (context_of T regs sp d) x ty) ≡ answer k Γ' → told_of (judge P Δ (context_of T regs sp d) (getsp x t)) ≡ answer k Γ'
    got x k Γ' n a =
        let z = least_zero f (cond b 0 10) (sym faults ∙ n) in
        getsp_goes P Δ (context_of T regs sp d) x t f k Γ' p z.0 (sym given ∙ cond_zero b 9 z.1) (rw q at a)
