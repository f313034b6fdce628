-- What the stores through a pointer rely on, and what is known when they have no fault.
use Rattle.std.specs.Prelude.{ℕ, ◌+◌, ◌-◌, ◌*◌, ◌≤◌, ◌≡◌, List, length}
use Rattle.std.proofs.Math.Option.{some}
use Rattle.syntax.specs.Syntax.{stack}
use Rattle.types.specs.Types.{Ty, pointer, items}
use Rattle.valid.specs.Tests.{replaced}
use Rattle.types_rows.specs.Read.{tab, mean_s}
use Rattle.types_rows.specs.Environments.{read_in}
use Rattle.valid_context.specs.declared.Link.{Link}
use Rattle.valid_context.specs.Context.{Reading, sp_of, sp_above}
use Rattle.types_rows.specs.declared.Held.{Held}
use Rattle.valid_typing.specs.Typing.{held_in, SmallVars, Found, given_row}
use Rattle.valid_judge.specs.declared.through.PointerStore.{PointerStore}

-- each stack row can be written out in 4,096 items of sp
abbrev pub Flat : List ℕ → List ℕ → ℕ → Type 0
Flat rows parts n = (x : ℕ) → x ≤ n + 2 → (items (mean_s (tab rows parts) x) ≤ 4096) × SmallVars (mean_s (tab rows parts) x)

-- the stack row of link x that was read in environment e, as it counts now
abbrev pub stack_in : List ℕ → List ℕ → List ℕ → ℕ → ℕ → Ty stack
stack_in rows parts E e x = read_in E e (mean_s (tab rows parts) x)

-- c is b with the type of link u for item i, and row r in environment e points to it
pub record Replaced (T : Reading) (b : Ty stack) (i : ℕ) (u : Link) (e r : ℕ) (c : Ty stack) : Type 0 where
  pub known : u.link ≡ 0 → ⊥
  pub put : replaced b i (T.type u.env (u.link - 1)) ≡ some c
  pub points : T.type e r ≡ pointer c

-- b is the tail of the d lowest items of sp
pub record IsTail (T : Reading) (sp : List ℕ) (d : ℕ) (b : Ty stack) : Type 0 where
  pub fits : items b ≤ d
  pub same : b ≡ sp_of T sp (items b)

-- an environment and a link of one of the n + 2 rows are small
pub record Linked (n env : ℕ) (u : Link) : Type 0 where
  pub env_in : env ≤ 65535
  pub link_in : u.link ≤ n + 2
  pub link_env : u.env ≤ 65535

-- the same of the link alone
pub record LinkIn (n : ℕ) (u : Link) : Type 0 where
  pub link_in : u.link ≤ n + 2
  pub link_env : u.env ≤ 65535

-- each stack row can be written out, and there is room for it
pub record Laying (rows parts : List ℕ) (n : ℕ) (work : List ℕ) : Type 0 where
  pub flat : Flat rows parts n
  pub room : 8192 ≤ length work

-- the stack of link b, in environment b.env
abbrev pub tail_of : List ℕ → List ℕ → List ℕ → Held → Ty stack
tail_of rows parts E b = stack_in rows parts E b.env b.row

-- what of sp is above the tail b, and its new tail
abbrev pub parted : List ℕ → List ℕ → ℕ → List ℕ → List ℕ → ℕ → List ℕ → Held → Ty stack × Ty stack
parted rows parts n E sp d work b =
    (sp_above (held_in rows parts n E) sp (items (tail_of rows parts E b)) (d - items (tail_of rows parts E b)), sp_of (held_in rows parts n E) work (items (tail_of rows parts E b)))

-- register x.pointer points to b, which is the tail of sp, and has the new tail
pub record Passed (rows parts : List ℕ) (n : ℕ) (E regs sp : List ℕ) (d : ℕ) (work : List ℕ) (u : Link) (x : PointerStore) (b : Held) : Type 0 where
  pub tail : IsTail (held_in rows parts n E) sp d (tail_of rows parts E b)
  pub put : Replaced (held_in rows parts n E) (tail_of rows parts E b) x.item u (2 * length E) (given_row n x.row) (sp_of (held_in rows parts n E) work (items (tail_of rows parts E b)))
  pub found : Found n E regs b
