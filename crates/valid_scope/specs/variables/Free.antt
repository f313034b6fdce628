-- The free variables of a type, each with the kind at which it is used, and whether every variable that is bound inside a type is of its
-- letter. proofs/WellFormed.antt: with the conditions on lists of items these say when a type is well-formed (`is_formed` of crate valid).
use Rattle.std.specs.Prelude.{ℕ, zero, suc, ◌+◌, Bool, true, ◌&&◌, ◌||◌, cond, List, eqb, length}
use Rattle.std.proofs.Math.Option.{Option, none, some}
use Rattle.std.proofs.Math.ListN.{get_elem?}
use Rattle.syntax.specs.Syntax.{Kind, value, stack}
use Rattle.types.specs.Types.{Ty, int, junk, var, tuple, pointer, hidden, code, nil, push, svar, gap, items, Arg, arg, Use, a_stack, a_tuple, a_file}
use Rattle.valid.specs.Tests.{is_stack, is_file}

-- ---- how a variable is used: 0 not at all, 1 as a value variable, 2 as a stack variable, 3 as both
-- used as u says and as w says
unfoldable pub both : ℕ → ℕ → ℕ
both u w = cond (eqb u 0) w (cond (eqb w 0) u (cond (eqb u w) u 3))

-- used as a variable of this kind
unfoldable pub use_of : Kind → ℕ
use_of value = 1
use_of stack = 2

-- a variable of this use may have this letter, or, where it is not used, any or none
unfoldable pub fits : ℕ → Option Kind → Bool
fits u none = eqb u 0
fits u (some κ) = eqb u 0 || eqb u (use_of κ)

-- each variable below n, used as f says, is bound by Δ and of its letter
unfoldable pub fit_to : List Kind → (ℕ → ℕ) → ℕ → Bool
fit_to Δ f zero = true
fit_to Δ f (suc n) = fit_to Δ f n && fits (f n) (get_elem? Δ n)

-- one more than the highest variable below n that is used
unfoldable pub top_of : (ℕ → ℕ) → ℕ → ℕ
top_of f zero = 0
top_of f (suc n) = cond (eqb (f n) 0) (top_of f n) (suc n)

-- ---- types
-- how variable k is free in a type; inside a code type it is the variable k past the letters, inside a package the next
unfoldable pub free_as : ℕ → {κ : Kind} → Ty κ → ℕ
free_as k int = 0
free_as k junk = 0
free_as k (var j) = cond (eqb j k) 1 0
free_as k (tuple a) = free_as k a
free_as k (pointer a) = free_as k a
free_as k (hidden t) = free_as (suc k) t
free_as k (code q a r) = both (free_as (length q + k) a) (free_as (length q + k) r)
free_as k nil = 0
free_as k (push t a) = both (free_as k t) (free_as k a)
free_as k (svar j a) = both (cond (eqb j k) 2 0) (free_as k a)
free_as k (gap a) = free_as k a

-- each variable that is bound inside the type is of its letter
unfoldable pub respected : {κ : Kind} → Ty κ → Bool
respected int = true
respected junk = true
respected (var j) = true
respected (tuple a) = respected a
respected (pointer a) = respected a
respected (hidden t) = respected t && fits (free_as 0 t) (some value)
respected (code q a r) = (respected a && respected r) && fit_to q (λ k. both (free_as k a) (free_as k r)) (length q)
respected nil = true
respected (push t a) = respected t && respected a
respected (svar j a) = respected a
respected (gap a) = respected a

-- only a stack has stack variables, only a register file has gaps, and it has eight registers
unfoldable pub proper : Use → {κ : Kind} → Ty κ → Bool
proper u int = true
proper u junk = true
proper u (var j) = true
proper u (tuple a) = proper a_tuple a
proper u (pointer a) = proper a_stack a
proper u (hidden t) = proper a_stack t
proper u (code q a r) = proper a_stack a && (proper a_file r && eqb (items r) 8)
proper u nil = true
proper u (push t a) = proper u t && proper u a
proper u (svar j a) = is_stack u && proper u a
proper u (gap a) = is_file u && proper u a

-- ---- at a type's own kind
-- how variable k is free in a type of either kind
unfoldable pub free_in : ℕ → Arg → ℕ
free_in k (arg κ t) = free_as k t

-- each variable that is bound inside a type of either kind is of its letter
unfoldable pub respected_in : Arg → Bool
respected_in (arg κ t) = respected t

-- a type of either kind is proper where a stack may stand
unfoldable pub proper_in : Arg → Bool
proper_in (arg κ t) = proper a_stack t
