-- An instruction without a target has no item.
use Prim.Native.Nat.{ℕ, suc, ◌*◌, ◌≤◌, ◌<◌}
use native.Mathlib.Omega.{arith}
use mathlib.Core.Path.{◌≡◌, refl, ap, sym, subst, ◌∙◌}
use mathlib.Core.Bool.{Bool, true, false, cond}
use mathlib.Core.Option.{Option, none}
use mathlib.Core.List.{List}
use mathlib.Core.Logic.{◌⊎◌, inl, inr}
use lib.Dec.{eqb}
use lib.ListN.{length, replicate}
use Rattle.syntax.specs.Syntax.{Kind, Instr}
use Rattle.image.specs.declared.Places.{Places}
use Rattle.image.specs.Sections.{instr_section}
use Rattle.tables.specs.Tables.{OperandTable, cell, instr_from, instr_at}
use Rattle.tables.proofs.Cases.{◌&◌, instr_cases}
use Rattle.valid.specs.Program.{Program}
use Rattle.valid.specs.Rules.{Context}
use Rattle.valid.specs.PassThree.{judge}
use Rattle.types_rows.specs.Environments.{Known}
use Rattle.valid_context.specs.Context.{EnvsIn, HeldIn}
use Rattle.valid_context.proofs.Cells.{envs_less}
use Rattle.valid_scope.specs.declared.BlockLetters.{BlockLetters}
use Rattle.valid_typing.specs.Image.{letters_in}
use Rattle.valid_context.specs.Told.{told_of, lacks}
use Rattle.std.specs.Prelude.{Some, None, Err}
use Rattle.faults.specs.declared.Fault.{Fault}
use Rattle.faults.specs.Numbers.{number}
use Rattle.valid_typing.specs.target.Fits.{AnsweredBy}
use Rattle.valid.proofs.Bare.{Aims, bare_judge}
use Rattle.valid_typing.proofs.Items.{item_in}
use Rattle.valid_judge.specs.Image.{after, OpenedTo, Goes}
use Rattle.valid_judge.proofs.Codes.{same_letters_lem, opened_letters}

none_named : (o : Option ℕ) (b : Bool) → o ≡ none → none ≡ cond b o none
none_named o true e = sym e
none_named o false e = refl

module _ (P : Program) (Δ : List Kind) (ω : OperandTable) where
  aimless : (a b c d v m k : ℕ) → (3 ≤ k → 9 ≤ k) → (k ≡ 21 → ⊥) → Aims (instr_from ω k a b c d v m) ≡ false
  aimless a b c d v m k h n =
      instr_cases (λ k x. (3 ≤ k → 9 ≤ k) → (k ≡ 21 → ⊥) → Aims x ≡ false) ω a b c d v m
      (tt & no & no & no & (λ h n. absurd (omega (arith, h (omega arith)))) & (λ h n. absurd (omega (arith, h (omega arith)))) &
      (λ h n. absurd (omega (arith, h (omega arith)))) & (λ h n. absurd (omega (arith, h (omega arith)))) &
      (λ h n. absurd (omega (arith, h (omega arith)))) & (λ h n. absurd (omega (arith, h (omega arith)))) & no & no & no & no & no & no &
      no & no & no & no & no & no & (λ h n. absurd (n refl)) & no & no)
      (λ k l. no) k h n
    where
      no : {A B : Type 0} → A → B → false ≡ false
      no h n = refl

  -- it lacks no item
  pub plain : {B : Type 0} (ι : List ℕ) (j k : ℕ) (f : Fault) (Γ : Context) (g : B → Context) → k ≡ cell 8 ι j 0 → (3 ≤ k → 9 ≤ k) → (k ≡ 21 → ⊥) → told_of (judge P Δ Γ (instr_at ι ω j)) ≡ lacks (number f) → AnsweredBy (judge P Δ Γ (instr_at ι ω j)) g (Err (record { fault = f; item = None }))
  plain ι j k f Γ g ek h n e =
      let z : Aims (instr_at ι ω j) ≡ false = unfold instr_at in subst (λ (x : ℕ). Aims (instr_from ω x (cell 8 ι j 1) (cell 8 ι j 2)
      (cell 8 ι j 3) (cell 8 ι j 4) (cell 8 ι j 5) (cell 8 ι j 6)) ≡ false) ek (aimless (cell 8 ι j 1) (cell 8 ι j 2) (cell 8 ι j 3)
      (cell 8 ι j 4) (cell 8 ι j 5) (cell 8 ι j 6) k h n) in
      record { told = e; named = none_named (item_in (judge P Δ Γ (instr_at ι ω j))) (eqb (number f) 10) (bare_judge P Δ Γ (instr_at ι ω j) z) }

-- a code with operands and no target is that of arithmetic, `mov` or `malloc`
pub value_code : (k : ℕ) → (k < 10) ⊎ ((k ≡ 12) ⊎ (k ≡ 21)) → (k ≡ 21 → ⊥) → 10 ≤ k → k ≡ 12
value_code k (inl l) n h = absurd (omega arith)
value_code k (inr (inl e)) n h = e
value_code k (inr (inr e)) n h = absurd (n e)

-- ---- packages
module _ (p : Places) (l E : List ℕ) (w : BlockLetters) (ω : OperandTable) (j k : ℕ) (ek : k ≡ cell 8 (instr_section p l) j 0) (γ σ : List ℕ) (m : ℕ) where
  abbrev x : Instr
  x = instr_at (instr_section p l) ω j

  -- the letters and what is in force stay
  pub goes_on : (k ≡ 23 → ⊥) → w.hidden ≡ length E → Known E → length E ≤ 64 → HeldIn E γ σ m → Goes p l E None w x γ σ m
  unfolding after
  goes_on n h d f g =
      record {
        letters = same_letters_lem (instr_section p l) ω j k ek n (letters_in p l w) ∙ ap (λ (i : ℕ). letters_in p l (record { hidden = i; count = w.count; start = w.start })) h;
        known = d;
        held = g;
        few = f;
        small = tt;
      }

  -- a package is opened
  pub goes_open : {o : ℕ} → k ≡ 23 → w.hidden ≡ length E → EnvsIn (2 * length E) σ m → OpenedTo E o γ → Goes p l E (Some o) w x γ σ m
  goes_open e h g t =
      record {
        letters = opened_letters (instr_section p l) ω j k ek e (letters_in p l w)
            ∙ (unfold replicate in ap (λ (i : ℕ). letters_in p l (record { hidden = i; count = w.count; start = w.start })) (ap suc h ∙ sym t.one));
        known = t.known;
        held = record { regs_in = t.regs_in; sp_in = envs_less (let q = t.one in omega arith) (omega arith) g };
        few = let q = t.one in let r = t.few in omega arith;
        small = t.small;
      }
