-- A link past the rows reads as the junk type.
use Prim.Native.Nat.{ℕ, zero, suc, ◌+◌, ◌*◌, ◌<◌}
use native.Mathlib.Omega.{arith}
use mathlib.Core.Path.{◌≡◌, refl, ap, sym, ◌∙◌}
use mathlib.Core.Bool.{Bool, not, cond}
use lib.Dec.{eqb}
use lib.Dec.{eqb-suc-zero}
use mathlib.Core.Option.{some}
use mathlib.Core.List.{List, []}
use lib.ListN.{length, get_or, get_or-eq_default}
use Rattle.syntax.specs.Syntax.{Kind, value, stack}
use Rattle.types.specs.Types.{Ty, junk, Arg, arg, of_kind}
use Rattle.types.specs.Rows.{type_at, types_of}
use Rattle.tables.specs.Tables.{rows_in}
use Rattle.syntax.specs.Partial.{guarded}
use Rattle.syntax.proofs.Least.{least}
use Rattle.valid.specs.Program.{Program, type_of}
use Rattle.valid.specs.Rules.{Context, with_regs}
use Rattle.valid.specs.Tests.{replaced}
use Rattle.valid.specs.PassThree.{assign}
use Rattle.types_rows.specs.Read.{tab}
use Rattle.types_rows.specs.Environments.{read_in}
use Rattle.types_rows.proofs.Environments.{read_now}
use Rattle.types_rows.proofs.Bridge.{length_types}
use Rattle.valid_context.specs.Context.{linked}
use Rattle.valid_context.specs.Told.{Told, lacks, told_of, answer}
use Rattle.valid_context.proofs.Results.{answer_fault}
use Rattle.faults.specs.declared.Fault.{Fault}
use Rattle.faults.specs.Numbers.{number}
use Rattle.valid_typing.specs.Typing.{types_in, held_in, Ready, given_row}
use Rattle.valid_typing.proofs.Judging.{if_none, assign_told}
use Rattle.valid_typing.proofs.Args.{given_past, past_arg, given_typed, given_is}

link_same : (rows parts E : List ℕ) (n e t r : ℕ) → get_or (types_in rows parts n) t (arg value junk) ≡ get_or (types_in rows parts n) r (arg value junk)
    → linked (held_in rows parts n E) e (suc t) ≡ linked (held_in rows parts n E) e (suc r)
unfolding linked type_at
link_same rows parts E n e t r q = ap (λ (a : Arg). some (read_in E e (of_kind value a))) q

pub past_link : (rows parts : List ℕ) (n e u : ℕ) (E : List ℕ) → Ready rows parts n → n + 2 < u → linked (held_in rows parts n E) e u ≡ linked (held_in rows parts n E) e (n + 2)
past_link rows parts n e zero E r h = absurd (omega arith)
past_link rows parts n e (suc t) E r h =
    let k = length_types (tab rows parts) (n + 2) in
    let p : get_or (types_in rows parts n) t (arg value junk) ≡ arg value junk = get_or-eq_default (types_in rows parts n) (arg value junk) (omega arith) in
    let q : get_or (types_in rows parts n) (n + 1) (arg value junk) ≡ arg value junk = given_past rows parts n n (omega arith) r ∙ past_arg rows parts n n (omega arith) in
    let o : suc (n + 1) ≡ n + 2 = omega arith in
    link_same rows parts E n e t (n + 1) (p ∙ sym q) ∙ ap (linked (held_in rows parts n E) e) o

-- a fault by its number
pub renumber : {A : Type 0} (f : Fault) (x : A) {n : ℕ} → number f ≡ n → answer n x ≡ lacks (number f)
renumber f x e = ap (λ (k : ℕ). answer k x) (sym e) ∙ answer_fault f x

-- the lesser of two numbers either way round
pub least_swap : (a b : ℕ) → least a b ≡ least b a
unfolding least
least_swap zero zero = refl
least_swap zero (suc b) = refl
least_swap (suc a) zero = refl
least_swap (suc a) (suc b) = omega arith

-- a link that has to be there, or its fault
pub link_number : (u : ℕ) → cond (not (eqb u 0)) 0 9 ≡ if_none 9 u
unfolding if_none
link_number zero = refl
link_number (suc u) = rw (eqb-suc-zero u) refl

-- the type of a row that an instruction gives
pub given_type : (rows parts : List ℕ) (n : ℕ) (P : Program) (t : ℕ) {r : ℕ} → r ≡ given_row n t → P.types ≡ types_of (rows_in (tab rows parts) n) → Ready rows parts n → type_at value (types_in rows parts n) r ≡ type_of P t
given_type rows parts n P t q e y = ap (type_at value (types_in rows parts n)) q ∙ sym (given_typed rows parts n P [] t e (given_row n t) (given_is rows parts n t y))

-- which is read now
pub given_same : (rows parts E : List ℕ) (n : ℕ) (P : Program) (t : ℕ) {r : ℕ} → r ≡ given_row n t → P.types ≡ types_of (rows_in (tab rows parts) n) → Ready rows parts n
    → (held_in rows parts n E).type (2 * length E) r ≡ type_of P t
given_same rows parts E n P t q e y =
    read_now E (type_at value (types_in rows parts n) _) ∙ given_type rows parts n P t q e y

-- a register is set, or there is no such register
pub set_told : (P : Program) (Δ : List Kind) (Γ : Context) (d : ℕ) (t : Ty value) (v b : Bool) (g : Ty stack) → replaced Γ.regs d t ≡ guarded b g → b ≡ v → told_of (assign P Δ Γ d t) ≡ answer (cond v 0 9) (with_regs Γ g)
set_told P Δ Γ d t v b g e q = assign_told P Δ Γ d t v g (e ∙ ap (λ (w : Bool). guarded w g) q)

-- the same of a type that is equal
pub now_told : (P : Program) (Δ : List Kind) (Γ : Context) (d : ℕ) {t u : Ty value} {v : Told Context} → t ≡ u → told_of (assign P Δ Γ d t) ≡ v → told_of (assign P Δ Γ d u) ≡ v
now_told P Δ Γ d e a = rw e at a
