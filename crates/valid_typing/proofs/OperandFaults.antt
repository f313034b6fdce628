-- The least fault of an operand, by what its premises answer.
use Prim.Native.Nat.{ℕ, ◌-◌}
use native.Mathlib.Omega.{arith}
use mathlib.Core.Path.{◌≡◌, refl}
use mathlib.Core.Bool.{Bool, cond}
use mathlib.Core.Option.{none, some}
use mathlib.Core.List.{List, [], ◌∷◌}
use Rattle.syntax.specs.Syntax.{Kind, value, stack, Base, reg, lit, inst, pack}
use Rattle.syntax.specs.Fault.{Fault, number_of}
use Rattle.types.specs.Types.{Ty, int, Arg, arg, fill, filled}
use Rattle.types.specs.Equal.{same}
use Rattle.valid.specs.Program.{Program, type_of, arg_of, args_of, CodeType, as_code}
use Rattle.valid.specs.Tests.{item_at, as_hidden, as_value, formed_arg, formed_args, letters_left, is_filled}
use Rattle.valid.specs.PassThree.{Judged, ◌▹◌, or_fault, need, formed, base, applied, packed, operand}
use Rattle.valid_context.specs.Context.{Reading, linked}
use Rattle.syntax.proofs.Least.{least}
use Rattle.valid_context.specs.Told.{gives, lacks, told_of, answer}
use Rattle.valid_context.proofs.Results.{lacks_then}
use Rattle.valid_context.proofs.Told.{told_and, told_stop, told_some, told_none, told_need}
use Rattle.valid_typing.proofs.Judging.{if_none, told_map, told_next, needs, stops, known_told}

module _ (P : Program) (Δ : List Kind) (g : Ty stack) where
  -- ---- bases
  pub base_reg : (T : Reading) (r x u : ℕ) → item_at g r ≡ linked T x u → told_of (base P Δ g (reg r)) ≡ answer (if_none 9 u) (T.type x (u - 1))
  unfolding base
  base_reg T r x u e = known_told P Δ T g r x u e

  pub base_lit : (n : ℕ) → told_of (base P Δ g (lit n)) ≡ answer 0 int
  unfolding base told_of answer
  base_lit n = refl

  -- ---- operands
  module _ (unequal : Fault) (b : Base) (A : List Arg) (t : ℕ) where
    filling : CodeType → List Kind → Judged (Unit {0})
    filling c q = need unequal (is_filled (type_of P t) (filled A q c.sp c.regs))

    fitting : CodeType → Judged (Unit {0})
    fitting c = or_fault 14 (letters_left A c.letters) ▹ filling c

    carrying : Ty value → Judged (Unit {0})
    carrying u = or_fault 9 (as_code u) ▹ fitting

    -- the base has no type
    pub applied_stops : {k : ℕ} → told_of (base P Δ g b) ≡ lacks k → told_of (applied P Δ unequal g b A t) ≡ lacks k
    unfolding applied filling fitting carrying
    applied_stops p = lacks_then _ carrying p

    module _ (u : Ty value) (p : told_of (base P Δ g b) ≡ gives u) where
      -- it is no code, or the letters do not fit
      pub applied_plain : as_code u ≡ none → told_of (applied P Δ unequal g b A t) ≡ lacks 9
      unfolding applied filling fitting carrying answer
      applied_plain e = told_next _ carrying 0 9 u tt p refl (rw e (told_stop {A = CodeType} (or_fault 9 none) fitting 9 (record { letters = []; sp = g; regs = g }) tt (told_none 8 (record { letters = []; sp = g; regs = g })) (omega arith)))

      pub applied_letters : (c : CodeType) → as_code u ≡ some c → letters_left A c.letters ≡ none → told_of (applied P Δ unequal g b A t) ≡ lacks 14
      unfolding applied filling fitting carrying answer
      applied_letters c e l =
          told_next _ carrying 0 14 u tt p refl (rw e (told_next (or_fault 9 (some c)) fitting 0 14 c tt (told_some 9 c) refl (rw l (told_stop {A = List Kind} (or_fault 14 none) (filling c) 14 [] tt (told_none 13 []) (omega arith)))))

      pub applied_told : (c : CodeType) (q : List Kind) (v : Bool) → number_of unequal ≡ 10 → as_code u ≡ some c → letters_left A c.letters ≡ some q → v ≡ is_filled (type_of P t) (filled A q c.sp c.regs) → told_of (applied P Δ unequal g b A t) ≡ answer (cond v 0 10) tt
      unfolding applied filling fitting carrying answer
      applied_told c q v n e l i =
          told_next _ carrying 0 (cond v 0 10) u tt p refl (rw e (told_next (or_fault 9 (some c)) fitting 0 (cond v 0 10) c tt (told_some 9 c) refl
          (rw l (told_next (or_fault 14 (some q)) (filling c) 0 (cond v 0 10) q tt (told_some 14 q) refl (rw i (told_need unequal _ 9 n))))))

  pub operand_told : (unequal : Fault) (b : Base) (ts : List ℕ) (t f h : ℕ) (v : Bool) → v ≡ formed_args Δ (args_of P ts) → told_of (formed P Δ t) ≡ answer f tt → told_of (applied P Δ unequal g b (args_of P ts) t) ≡ answer h tt
      → told_of (operand P Δ unequal g (inst b ts t)) ≡ answer (least (cond v 0 7) (least f h)) (type_of P t)
  unfolding operand
  operand_told unequal b ts t f h v e p q = told_map _ _ (tt, (tt, tt)) (type_of P t) (told_and _ _ (cond v 0 7) (least f h) tt (tt, tt) (needs 6 _ v e) (told_and _ _ f h tt tt p q))

  -- ---- packages
  module _ (unequal : Fault) (b : Base) (a : Arg) (h : ℕ) where
    -- one of the three has a fault
    pub packed_stops : (f i k : ℕ) (u : Ty value) (w x : Ty value) → told_of (base P Δ g b) ≡ answer f u → told_of (or_fault 14 (as_value a)) ≡ answer i w → told_of (or_fault 9 (as_hidden (type_of P h))) ≡ answer k x
        → (least f (least i k) ≡ 0 → ⊥) → told_of (packed P Δ unequal g b a h) ≡ answer (least f (least i k)) tt
    unfolding packed
    packed_stops f i k u w x p q r z = stops _ _ (least f (least i k)) (u, (w, x)) tt (told_and _ _ f (least i k) u (w, x) p (told_and _ _ i k w x q r)) z

    -- they have none, and the types are compared
    pub packed_told : (f i k : ℕ) (u : Ty value) (w x : Ty value) (v : Bool) → number_of unequal ≡ 10 → told_of (base P Δ g b) ≡ answer f u → told_of (or_fault 14 (as_value a)) ≡ answer i w
        → told_of (or_fault 9 (as_hidden (type_of P h))) ≡ answer k x → least f (least i k) ≡ 0 → v ≡ same u (fill 0 (arg value w ∷ []) x) → told_of (packed P Δ unequal g b a h) ≡ answer (cond v 0 10) tt
    unfolding packed
    packed_told f i k u w x v n p q r z e =
        told_next _ _ (least f (least i k)) (cond v 0 10) (u, (w, x)) tt (told_and _ _ f (least i k) u (w, x) p (told_and _ _ i k w x q r)) z (rw e (told_need unequal _ 9 n))

  pub pack_told : (unequal : Fault) (b : Base) (a t f h : ℕ) (v : Bool) → v ≡ formed_arg Δ (arg_of P a) → told_of (formed P Δ t) ≡ answer f tt → told_of (packed P Δ unequal g b (arg_of P a) t) ≡ answer h tt
      → told_of (operand P Δ unequal g (pack a b t)) ≡ answer (least (cond v 0 7) (least f h)) (type_of P t)
  unfolding operand
  pack_told unequal b a t f h v e p q = told_map _ _ (tt, (tt, tt)) (type_of P t) (told_and _ _ (cond v 0 7) (least f h) tt (tt, tt) (needs 6 _ v e) (told_and _ _ f h tt tt p q))
