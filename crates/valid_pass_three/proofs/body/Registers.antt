-- The registers at a block's start, and all the types there.
use Prim.Native.Nat.{ℕ, zero, suc, ◌+◌, ◌*◌, ◌≤◌, ◌<◌}
use native.Mathlib.Nat.{add-zero}
use native.Mathlib.Omega.{arith}
use mathlib.Core.Path.{◌≡◌, refl, ap, sym, subst, ◌∙◌, ap₂}
use mathlib.Core.Bool.{Bool, true, false}
use mathlib.Core.Option.{Option}
use mathlib.Core.List.{List, [], map}
use lib.Dec.{eqb}
use lib.ListN.{length, get_or}
use borrow.Author.Tests.{eqb-true, eqb-false}
use Rattle.syntax.specs.Syntax.{value, stack, Instr}
use Rattle.types.specs.Types.{Ty, push, items}
use Rattle.types.specs.Rows.{type_at}
use Rattle.types_rows.specs.Read.{tab, mean_v, slot_at, on_slot, OkSlot, parts_of, mean_s}
use Rattle.std.specs.Prelude.{Option as Maybe, Some, None}
use Rattle.types_rows.specs.Environments.{read_in}
use Rattle.types_rows.proofs.Environments.{read_none}
use Rattle.valid_context.specs.Context.{on_link, regs_from, regs_of, sp_of, context_of, EnvsIn, with_entry}
use Rattle.valid_context.proofs.Cells.{put_first, put_second, put_other}
use Rattle.valid_typing.specs.Typing.{types_in, held_in, Ready}
use Rattle.syntax.specs.Fault.{Refusal, lowest_line}
use Rattle.tables.specs.Tables.{cell, span, letter_of, letters_at}
use Rattle.valid.specs.Program.{Program}
use Rattle.valid.specs.Rules.{Context, at_start}
use Rattle.valid.specs.PassThree.{holds, body_faults}
use Rattle.valid_scope.specs.entry.Entry.{block_at}

-- a register that is named
pub link_known : (n t u : ℕ) {s : Maybe ℕ} → s ≡ Some t → ((rows parts : List ℕ) → Ready rows parts n → type_at value (types_in rows parts n)
    u ≡ mean_v (tab rows parts) t) → (rows parts : List ℕ) (a : Ty stack) → Ready rows parts n → on_link (held_in rows parts n []) 0 (u + 1)
    a ≡ on_slot (mean_v (tab rows parts)) s a
link_known n t u e h rows parts a r =
    let q : u + 1 ≡ suc u = omega arith in
    ap (λ (x : ℕ). on_link (held_in rows parts n []) 0 x a) q ∙ ap (λ (x : Ty value). push x a) (read_none (type_at value (types_in rows parts n) u) ∙ h rows parts r)
    ∙ ap (λ (s : Maybe ℕ). on_slot (mean_v (tab rows parts)) s a) (sym e)

pub link_gap : (n : ℕ) {s : Maybe ℕ} → s ≡ None → (rows parts : List ℕ) (a : Ty stack) → Ready rows parts n → on_link (held_in rows parts n []) 0 0 a ≡ on_slot (mean_v (tab rows parts)) s a
link_gap n e rows parts a r = ap (λ (s : Maybe ℕ). on_slot (mean_v (tab rows parts)) s a) (sym e)

pub slot_low : (n t : ℕ) {s : Maybe ℕ} → s ≡ Some t → OkSlot (n + 3) s → t ≤ n + 2
slot_low n t e o = let k : OkSlot (n + 3) (Some t) = subst (OkSlot (n + 3)) e o in omega arith

pub slot_below : (h m : ℕ) (s : Maybe ℕ) → OkSlot h s → h ≤ m → OkSlot m s
slot_below h m None o l = tt
slot_below h m (Some t) o l = omega arith

-- ---- the registers one after the other
module _ (rows parts : List ℕ) (n h p : ℕ) where
  abbrev v : ℕ → Ty value
  v = mean_v (tab rows parts)

  -- entry k stands for register k of the row, in the environment 0
  pub record Named (regs : List ℕ) (k : ℕ) : Type 0 where
    pub env : cell 2 regs k 1 ≡ 0
    pub link : (a : Ty stack) → on_link (held_in rows parts n []) 0 (cell 2 regs k 0) a ≡ on_slot v (slot_at true h (get_or parts (p + k) 0)) a

  abbrev pub Right : List ℕ → ℕ → Type 0
  Right regs i = (k : ℕ) → k < i → Named regs k

  pub right_none : (regs : List ℕ) → Right regs 0
  right_none regs k l = absurd (omega arith)

  pub right_next : (regs : List ℕ) (i x : ℕ) (s : Maybe ℕ) → 2 * i + 1 < length regs → Right regs i → s ≡ slot_at true h (get_or parts (p + i) 0) → ((a : Ty stack) → on_link (held_in rows parts n []) 0 x a ≡ on_slot v s a) → Right (with_entry regs i x 0) (i + 1)
  right_next regs i x s l r e f k q = go (eqb k i) refl
    where
      go : (b : Bool) → eqb k i ≡ b → Named (with_entry regs i x 0) k
      go true z =
          let w : i ≡ k = sym (eqb-true k i z) in
          subst (Named (with_entry regs i x 0)) w (record {
            env = put_second regs i x 0 l;
            link = λ a. ap (λ (y : ℕ). on_link (held_in rows parts n []) 0 y a) (put_first regs i x 0 l) ∙ f a ∙ ap (λ (y : Maybe ℕ). on_slot v y a) e;
          })
      go false z =
          let w : k ≡ i → ⊥ = eqb-false k i z in
          let o = r k (omega (arith, w)) in
          record {
            env = put_other regs i x 0 k 1 w (omega arith) ∙ o.env;
            link = λ a. ap (λ (y : ℕ). on_link (held_in rows parts n []) 0 y a) (put_other regs i x 0 k 0 w (omega arith)) ∙ o.link a;
          }

  all_right : (regs : List ℕ) → Right regs 8 → (i m : ℕ) → i + m ≤ 8 → regs_from (held_in rows parts n []) regs i m ≡ parts_of v parts true h (p + i) m
  unfolding regs_from parts_of
  all_right regs r i zero l = refl
  all_right regs r i (suc m) l =
      let e : p + suc i ≡ suc (p + i) = omega arith in
      let o = r i (omega arith) in
      ap (λ (y : ℕ). on_link (held_in rows parts n []) y (cell 2 regs i 0) (regs_from (held_in rows parts n []) regs (suc i) m)) o.env
      ∙ o.link (regs_from (held_in rows parts n []) regs (suc i) m)
      ∙ ap (on_slot v (slot_at true h (get_or parts (p + i) 0))) (all_right regs r (suc i) m (omega arith) ∙ ap (λ (j : ℕ). parts_of v parts true h j m) e)

  pub right_all : (regs : List ℕ) (i : ℕ) → 8 ≤ i → Right regs i → (regs_from (held_in rows parts n []) regs 0 8 ≡ parts_of v parts true h p 8) × EnvsIn 0 regs 8
  right_all regs i l r =
      (all_right regs (λ k q. r k (omega arith)) 0 8 (omega arith) ∙ ap (λ (j : ℕ). parts_of v parts true h j 8) (add-zero p), record { low = λ k q. let e = (r k (omega arith)).env in omega arith })

-- ---- the context at a block's start
pub entered : (P : Program) (rows parts regs sp : List ℕ) (n h x p d k m : ℕ) (xs : List Instr) (f : Option Refusal)
    → f ≡ lowest_line m (body_faults P (map letter_of (span parts (p + 9) k)) (holds (context_of (held_in rows parts n []) regs sp d))
    xs) → k ≡ get_or parts (p + 8) 0 → regs_of (held_in rows parts n []) regs ≡ parts_of (mean_v (tab rows parts)) parts true h p 8
    → sp_of (held_in rows parts n []) sp (items (mean_s (tab rows parts) x)) ≡ read_in [] 0 (mean_s (tab rows parts) x) → d ≡ items (mean_s (tab rows parts) x)
    → f ≡ lowest_line m (body_faults P (letters_at parts p) (holds (at_start (block_at (tab rows parts) h x p xs))) xs)
unfolding letters_at
entered P rows parts regs sp n h x p d k m xs f r e g s w =
    r ∙ ap₂ (λ (j : ℕ) (Γ : Context). lowest_line m (body_faults P (map letter_of (span parts (p + 9) j)) (holds Γ) xs)) e
    (ap₂ (λ (a b : Ty stack). record { sp = a; regs = b }) (ap (sp_of (held_in rows parts n []) sp) w ∙ s ∙ read_none (mean_s (tab rows parts) x)) g)
