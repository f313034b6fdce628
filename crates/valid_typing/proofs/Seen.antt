-- Laws of a stack row that is seen at once to have the items of sp.
use Prim.Native.Nat.{ℕ, suc, ◌-◌, ◌≤◌, ◌<◌}
use native.Mathlib.Omega.{arith}
use mathlib.Core.Path.{◌≡◌, refl, ap, sym, ◌∙◌}
use mathlib.Core.Bool.{Bool, true, ◌&&◌}
use mathlib.Core.List.{List}
use borrow.Author.Tests.{lt-ltb, le-ltb}
use Rattle.syntax.specs.Syntax.{stack}
use Rattle.types.specs.Types.{Ty, nil, push, svar}
use Rattle.tables.specs.Tables.{cell}
use Rattle.types.specs.Equal.{same}
use Rattle.types.proofs.Equal.{same_refl}
use Rattle.types_rows.specs.Read.{tab, lift, stack_at, place_s, build_s, mean_v, mean_s}
use Rattle.types_rows.specs.Environments.{var_in, read_in}
use Rattle.types_rows.specs.declared.Stk.{Stk}
use Rattle.types_rows.specs.declared.Stk.TheVariants.{Nil, StkVar, Push}
use Rattle.types_rows.proofs.Laws.{stack_is, plain_stack}
use Rattle.types_rows.proofs.Environments.{read_nil, read_push, read_svar}
use Rattle.valid_context.specs.Context.{Reading, first_var, sp_of}
use Rattle.valid_typing.specs.Typing.{held_in}

pub variable_last : (T : Reading) (sp : List ℕ) (i k y e : ℕ) → i ≡ 1 → y ≡ cell 2 sp 0 0 → 1024 ≤ y → e ≡ cell 2 sp 0 1 → y - 1024 ≡ k → sp_of T sp i ≡ svar (T.variable e k) nil
unfolding sp_of
variable_last T sp i k y e q f l d g = rw (q, ← f, ← d, le-ltb y first_var l, g) refl

module _ (rows parts : List ℕ) (n : ℕ) (E : List ℕ) (e : ℕ) (sp : List ℕ) (y i : ℕ) {s : Stk} (r : s ≡ stack_at rows (place_s 0 (lift 0) 0) y) where
  abbrev T : Reading
  T = held_in rows parts n E

  -- what the stack row means, in its environment
  abbrev here : ℕ → Ty stack
  here x = read_in E e (mean_s (tab rows parts) x)

  as_read : (f : Stk) → s ≡ f → here y ≡ read_in E e (build_s (mean_v (tab rows parts)) (mean_s (tab rows parts)) f)
  as_read f q = ap (read_in E e) (stack_is (tab rows parts) y ∙ ap (build_s (mean_v (tab rows parts)) (mean_s (tab rows parts))) (sym (plain_stack rows y) ∙ sym r ∙ q))

  pub seen_nil : s ≡ Nil → i ≡ 0 → true ≡ same (here y) (sp_of T sp i)
  unfolding sp_of same
  seen_nil q p = rw (as_read Nil q, read_nil E e, p) refl

  pub seen_variable : (k : ℕ) → s ≡ StkVar k → sp_of T sp i ≡ svar (var_in E e k) nil → true ≡ same (here y) (sp_of T sp i)
  seen_variable k q p = rw (as_read (StkVar k) q, read_svar E e k nil, read_nil E e, p) (sym (same_refl (svar (var_in E e k) nil)))

  pub seen_push : (t z u f : ℕ) → s ≡ Push t z → 0 < i → u ≡ cell 2 sp (i - 1) 0 → f ≡ cell 2 sp (i - 1) 1 → u < 1024 → read_in E e (mean_v (tab rows parts) t) ≡ T.type f u → true ≡ same (here z) (sp_of T sp (i - 1)) → true ≡ same (here y) (sp_of T sp i)
  seen_push t z u f q l a b h g w =
      let d : i ≡ suc (i - 1) = omega arith in
      rw (as_read (Push t z) q, read_push E e (mean_v (tab rows parts) t) (mean_s (tab rows parts) z)) (w ∙ step ∙ ap (λ (j : ℕ). same (push (read_in E e (mean_v (tab rows parts) t)) (here z)) (sp_of T sp j)) (sym d))
    where
      on_top : sp_of T sp (suc (i - 1)) ≡ push (T.type f u) (sp_of T sp (i - 1))
      on_top = unfold sp_of in rw (← a, ← b, lt-ltb u first_var h) refl

      step : same (here z) (sp_of T sp (i - 1)) ≡ same (push (read_in E e (mean_v (tab rows parts) t)) (here z)) (sp_of T sp (suc (i - 1)))
      step = sym (rw (on_top, g) (unfold same in ap (λ (v : Bool). v && same (here z) (sp_of T sp (i - 1))) (same_refl (T.type f u))))
