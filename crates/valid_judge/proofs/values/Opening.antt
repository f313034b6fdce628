-- An unpack: what is held then counts one further outward, and the new environment is that of the package's inside.
use Prim.Native.Nat.{ℕ, zero, suc, ◌+◌, ◌-◌, ◌*◌, ◌≤◌, ◌<◌}
use native.Mathlib.Omega.{arith}
use mathlib.Core.Path.{◌≡◌, refl, ap, sym, ◌∙◌}
use mathlib.Core.Bool.{Bool, true, false, cond}
use mathlib.Core.List.{List, [], ◌∷◌, ◌++◌, map}
use lib.Dec.{ltb}
use lib.ListN.{length, length-append, length-map, length-replicate, replicate}
use borrow.Author.Tests.{ltb-true, ltb-false, lt-ltb, le-ltb}
use Rattle.syntax.specs.Syntax.{Kind, value, Operand, unpack}
use Rattle.syntax.specs.Fault.{fault}
use Rattle.syntax.proofs.Least.{least}
use Rattle.types.specs.Types.{Ty}
use Rattle.types.specs.Rows.{type_at}
use Rattle.tables.specs.Tables.{span, letter_of}
use Rattle.types_rows.specs.Environments.{Known}
use Rattle.types_rows.proofs.Environments.{var_more, read_more, known_more}
use Rattle.valid.specs.Program.{Program}
use Rattle.valid.specs.Rules.{Context, raised}
use Rattle.valid.specs.Tests.{as_hidden}
use Rattle.valid.specs.PassThree.{◌▹◌, or_fault, operand, assign, judge}
use Rattle.valid_context.specs.Context.{context_of, EnvsIn, HeldIn}
use Rattle.valid_context.specs.Told.{told_of, answer}
use Rattle.valid_context.proofs.Cells.{envs_less}
use Rattle.valid_context.proofs.Raising.{context_raised}
use Rattle.valid_scope.specs.Letters.{letters_of}
use Rattle.valid_scope.specs.declared.BlockLetters.{BlockLetters}
use Rattle.valid_typing.specs.Typing.{types_in, held_in}
use Rattle.valid_typing.proofs.Judging.{unpack_stops, unpack_goes}
use Rattle.valid_judge.specs.Image.{after, OpenedTo}

-- ---- room for one more variable
length_span : (l : List ℕ) (i n : ℕ) → length (span l i n) ≡ n
unfolding span
length_span l i zero = refl
length_span l i (suc n) = ap suc (length_span l (suc i) n)

letter_count : (parts : List ℕ) (w : BlockLetters) → length (letters_of parts w) ≡ w.hidden + w.count
letter_count parts w =
    let l = length-append (replicate w.hidden value) (map letter_of (span parts w.start w.count)) in
    let h = length-replicate w.hidden value in
    let m = length-map (span parts w.start w.count) letter_of in
    let s = length_span parts w.start w.count in
    omega arith

pub room_is : (w : BlockLetters) → w.hidden ≤ 64 → (parts : List ℕ) → ltb w.count (64 - w.hidden) ≡ ltb (length (letters_of parts w)) 64
room_is w h parts = go (ltb w.count (64 - w.hidden)) refl
  where
    go : (b : Bool) → ltb w.count (64 - w.hidden) ≡ b → b ≡ ltb (length (letters_of parts w)) 64
    go true e = let k = letter_count parts w in let l = ltb-true w.count (64 - w.hidden) e in sym (lt-ltb (length (letters_of parts w)) 64 (omega arith))
    go false e = let k = letter_count parts w in let l = ltb-false w.count (64 - w.hidden) e in sym (le-ltb (length (letters_of parts w)) 64 (omega arith))

-- there was room, so there are fewer packages than 64
pub room_few : (w : BlockLetters) {b : Bool} (parts : List ℕ) → b ≡ ltb (length (letters_of parts w)) 64 → b ≡ true → w.hidden < 64
room_few w parts e t = let l = ltb-true (length (letters_of parts w)) 64 (sym e ∙ t) in let k = letter_count parts w in omega arith

-- ---- the judgement
module _ (P : Program) (Δ : List Kind) (Γ : Context) (d : ℕ) (v : Operand) (b : Bool) (f g h : ℕ) (t : Ty value) (p : b ≡ ltb (length Δ) 64)
    (q : told_of (operand P Δ (fault 10) Γ.regs v ▹ λ u. or_fault 9 (as_hidden u)) ≡ answer g t) (ef : f ≡ cond b 0 7) (eh : h ≡ least f g) where
  faults : h ≡ least (cond b 0 7) g
  faults = eh ∙ ap (λ (x : ℕ). least x g) ef

  pub opens_none : (Γ' : Context) → (h ≡ 0 → ⊥) → told_of (judge P Δ Γ (unpack d v)) ≡ answer h Γ'
  opens_none Γ' n = unpack_stops P Δ Γ d v b g t p q Γ' (λ z. n (faults ∙ z)) ∙ ap (λ (k : ℕ). answer k Γ') (sym faults)

  pub opens : (k : ℕ) (Γ'' Γ' : Context) → h ≡ 0 → Γ'' ≡ raised Γ → told_of (assign P Δ Γ'' d t) ≡ answer k Γ' → told_of (judge P Δ Γ (unpack d v)) ≡ answer k Γ'
  opens k Γ'' Γ' z e a = unpack_goes P Δ Γ d v b g t p q k Γ' (sym faults ∙ z) (rw e at a)

-- ---- environments
module _ (E : List ℕ) (p : ℕ) (k : Known E) (l : p ≤ 2 * length E) where
  one_more_lem : length (E ++ p ∷ []) ≡ suc (length E)
  one_more_lem = length-append E (p ∷ []) ∙ omega arith

  pub context_more : (rows parts : List ℕ) (n : ℕ) (γ σ : List ℕ) (m : ℕ) → HeldIn E γ σ m
      → context_of (held_in rows parts n (E ++ p ∷ [])) γ σ m ≡ raised (context_of (held_in rows parts n E) γ σ m)
  context_more rows parts n γ σ m h =
      context_raised (record { types = λ e t i. read_more E p e k i (type_at value (types_in rows parts n) t); variables = λ e j i. var_more E p k e j i }) γ σ m h.regs_in h.sp_in

  pub opened_to : (γ γ' : List ℕ) → length E < 64 → EnvsIn (2 * length E) γ 8 → ((b : ℕ) → suc (2 * length E) ≤ b → EnvsIn b γ 8 → EnvsIn b γ' 8) → OpenedTo E p γ'
  unfolding after
  opened_to γ γ' f g w =
      let o = one_more_lem in
      record { one = o; few = f; known = known_more E p k l; regs_in = w (2 * length (E ++ p ∷ [])) (omega arith) (envs_less (omega arith) (omega arith) g); small = omega arith }
