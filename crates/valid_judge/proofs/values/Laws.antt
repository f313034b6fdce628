-- What the ways through this crate's functions come to.
use Prim.Native.Nat.{ℕ, suc, ◌+◌, ◌*◌, ◌<◌, ◌≤◌}
use native.Mathlib.Omega.{arith}
use mathlib.Core.Path.{◌≡◌, refl, ap, sym, ◌∙◌}
use mathlib.Core.Bool.{Bool, true, false, cond}
use mathlib.Core.List.{List}
use lib.ListN.{length}
use Rattle.syntax.specs.Partial.{guarded}
use Rattle.syntax.specs.Syntax.{Kind, value, stack, Operand, Arith, aop, malloc}
use Rattle.syntax.specs.Fault.{fault}
use Rattle.syntax.proofs.Least.{least, least_none}
use Rattle.types.specs.Types.{Ty, int, tuple}
use Rattle.types.specs.Rows.{type_at}
use Rattle.types.specs.Equal.{same}
use Rattle.valid.specs.Program.{Program, type_of}
use Rattle.valid.specs.Rules.{Context}
use Rattle.valid.specs.Tests.{as_int}
use Rattle.valid.specs.PassThree.{Judged, ◌▹◌, or_fault, formed, integer_at, operand, operands, assign, judge}
use Rattle.types_rows.specs.Read.{tab, value_at, value_with, mean_v, mean_s, build_v}
use Rattle.types_rows.specs.declared.Val.TheVariants.{ValVar, Int}
use Rattle.types_rows.proofs.Laws.{value_is}
use Rattle.types_rows.proofs.Bridge.{type_in_lem}
use Rattle.types_rows.proofs.Environments.{read_now}
use Rattle.valid_context.specs.Context.{EnvsIn}
use Rattle.valid_context.specs.Told.{gives, told_of, answer}
use Rattle.valid_context.proofs.Results.{gives_then}
use Rattle.std.specs.Prelude.{Result, Ok, Err, IfOk, MatchResult}
use Rattle.faults.specs.declared.Fault.{Fault}
use Rattle.types_rows.specs.declared.Held.{Held}
use Rattle.valid_typing.specs.Typing.{types_in, held_in, Ready, Found}
use Rattle.valid_typing.proofs.Judging.{told_guarded, aop_stops, aop_goes, malloc_stops, malloc_differs, malloc_goes}
use Rattle.valid_typing.specs.plain_components.Makes.{Makes}
use Rattle.types.proofs.Equal.{same_refl}

-- ---- the integer type
pub int_type : (rows parts E : List ℕ) (n : ℕ) → Ready rows parts n → (held_in rows parts n E).type (2 * length E) n ≡ int
int_type rows parts E n r =
    let l : n < n + 2 = omega arith in
    read_now E (type_at value (types_in rows parts n) n) ∙ type_in_lem (tab rows parts) value (n + 2) n l ∙ value_is (tab rows parts) (suc n) ∙ ap (build_v (mean_v (tab rows parts)) (mean_s (tab rows parts)) parts (suc n)) int_form
  where
    int_form : value_at rows ValVar (suc n) ≡ Int
    int_form = rw r.int_row (unfold value_with in refl)

pub int_told : (J : Judged (Ty value)) (t : Ty value) (b : Bool) → as_int t ≡ guarded b tt → told_of J ≡ gives t → told_of (J ▹ λ u. or_fault 9 (as_int u)) ≡ answer (cond b 0 9) tt
int_told J t b h e = gives_then J (λ u. or_fault 9 (as_int u)) e ∙ told_guarded 8 (as_int t) b tt h

-- a row that is found is small
pub row_small : {n : ℕ} → n ≤ 512 → (E regs : List ℕ) (r : Result Held Fault) → IfOk r (λ h. Found n E regs h) → IfOk r (λ h. h.row ≤ 65535)
row_small l E regs (Ok h) f = let k = f.row_in in omega arith
row_small l E regs (Err e) f = tt

-- its environment exists, if those of the registers do
pub env_in : (n : ℕ) (E regs : List ℕ) (r : Result Held Fault) → IfOk r (λ h. Found n E regs h) → EnvsIn (2 * length E) regs 8 → IfOk r (λ h. h.env ≤ 2 * length E)
env_in n E regs (Ok h) f g = f.exists g
env_in n E regs (Err e) f g = tt

pub env_of : (e m : ℕ) (r : Result Held Fault) → MatchResult r (λ h. e ≡ h.env) (λ f. ⊥) → IfOk r (λ h. h.env ≤ m) → e ≤ m
env_of e m (Ok h) f g = omega arith
env_of e m (Err x) f g = absurd f

module _ (P : Program) (Δ : List Kind) (Γ : Context) where
  -- ---- arithmetic
  module _ (o : Arith) (d s : ℕ) (v : Operand) (f g h : ℕ) (p : told_of (integer_at P Δ Γ.regs s) ≡ answer f tt) (q : told_of (operand P Δ (fault 10) Γ.regs v ▹ λ t. or_fault 9 (as_int t)) ≡ answer g tt) (e : h ≡ least f g) where
    pub computes_none : (Γ' : Context) → (h ≡ 0 → ⊥) → told_of (judge P Δ Γ (aop o d s v)) ≡ answer h Γ'
    computes_none Γ' n = aop_stops P Δ Γ o d s v f g Γ' p q (λ z. n (e ∙ z)) ∙ ap (λ (k : ℕ). answer k Γ') (sym e)

    pub computes : (k : ℕ) (t : Ty value) (Γ' : Context) → h ≡ 0 → t ≡ int → told_of (assign P Δ Γ d t) ≡ answer k Γ' → told_of (judge P Δ Γ (aop o d s v)) ≡ answer k Γ'
    computes k t Γ' z i a = aop_goes P Δ Γ o d s v f g k Γ' p q (sym e ∙ z) (rw i at a)

  -- ---- tuples
  module _ (d t : ℕ) (vs : List Operand) (f g h : ℕ) (c : Ty stack) (p : told_of (formed P Δ t) ≡ answer f tt) (q : told_of (operands P Δ Γ.regs vs) ≡ answer g c) (e : h ≡ least f g) where
    pub makes_none : (Γ' : Context) → (h ≡ 0 → ⊥) → told_of (judge P Δ Γ (malloc d t vs)) ≡ answer h Γ'
    makes_none Γ' n = malloc_stops P Δ Γ d t vs f g c Γ' p q (λ z. n (e ∙ z)) ∙ ap (λ (k : ℕ). answer k Γ') (sym e)

    module _ (u : Ty value) (b : Bool) (z : h ≡ 0) (eu : u ≡ type_of P t) (eb : b ≡ same u (tuple c)) where
      pub makes_other : (Γ' : Context) → b ≡ false → told_of (judge P Δ Γ (malloc d t vs)) ≡ answer 10 Γ'
      makes_other Γ' n = malloc_differs P Δ Γ d t vs f g c Γ' p q (sym e ∙ z) (sym (eb ∙ ap (λ (x : Ty value). same x (tuple c)) eu) ∙ n)

      pub makes : (k : ℕ) (Γ' : Context) → b ≡ true → told_of (assign P Δ Γ d u) ≡ answer k Γ' → told_of (judge P Δ Γ (malloc d t vs)) ≡ answer k Γ'
      makes k Γ' n a = malloc_goes P Δ Γ d t vs f g k c Γ' p q (sym e ∙ z) (sym (eb ∙ ap (λ (x : Ty value). same x (tuple c)) eu) ∙ n) (rw eu at a)

  -- operands seen at once to make the tuple u
  module _ (d t : ℕ) (vs : List Operand) (f : ℕ) (u : Ty value) (p : told_of (formed P Δ t) ≡ answer f tt) (m : Makes P Δ Γ.regs vs u) where
    pub sees_none : (Γ' : Context) → (f ≡ 0 → ⊥) → told_of (judge P Δ Γ (malloc d t vs)) ≡ answer f Γ'
    unfolding answer
    sees_none Γ' n = makes_none d t vs f 0 f m.parts p m.told (sym (least_none f)) Γ' n

    pub sees : (k : ℕ) (Γ' : Context) → f ≡ 0 → u ≡ type_of P t → told_of (assign P Δ Γ d u) ≡ answer k Γ' → told_of (judge P Δ Γ (malloc d t vs)) ≡ answer k Γ'
    unfolding answer
    sees k Γ' z eu a = makes d t vs f 0 f m.parts p m.told (sym (least_none f)) u true z eu (sym (ap (λ (x : Ty value). same x (tuple m.parts)) m.whole ∙ same_refl (tuple m.parts))) k Γ' refl a
