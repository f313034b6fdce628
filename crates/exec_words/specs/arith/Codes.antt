-- Operations, branches and signs by the numbers that the code has for them.
use Rattle.std.specs.Prelude.{ℕ, zero, suc}
use Rattle.syntax.specs.Syntax.{Arith, add, sub, mul, Branch, beq, bneq, bgt, blt, bgte, blte}
use Rattle.exec.specs.Machine.{Sign, negative, null, positive}
use Rattle.exec_words.specs.declared.arith.Arith.{Arith as Operation}
use Rattle.exec_words.specs.declared.arith.Arith.TheVariants.{Add, Sub, Mul}

-- an operation of the code, as that of crate syntax
abbrev pub arith_is : Operation → Arith
arith_is Add = add
arith_is Sub = sub
arith_is Mul = mul

-- operation k, in the order of the forms
unfoldable pub arith_of : ℕ → Arith
arith_of zero = add
arith_of (suc zero) = sub
arith_of (suc (suc k)) = mul

-- branch k, in the order of the forms
unfoldable pub branch_of : ℕ → Branch
branch_of zero = beq
branch_of (suc zero) = bneq
branch_of (suc (suc zero)) = bgt
branch_of (suc (suc (suc zero))) = blt
branch_of (suc (suc (suc (suc zero)))) = bgte
branch_of (suc (suc (suc (suc (suc k))))) = blte

-- the table's columns
unfoldable pub sign_at : ℕ → Sign
sign_at zero = negative
sign_at (suc zero) = null
sign_at (suc (suc k)) = positive

-- a sign's column in the table, as `sign_at` reads it
unfoldable pub column : Sign → ℕ
column negative = 0
column null = 1
column positive = 2
