-- Laws of the faults of pass one, line by line.
-- Assumes nothing.
use mathlib.Core.Path.{◌≡◌, refl, ap, sym, ◌∙◌}
use mathlib.Core.Bool.{Bool, true, false, not, cond}
use mathlib.Core.List.{List, [], ◌∷◌, ◌++◌, map}
use mathlib.Core.Option.{Option, none, some}
use Prim.Native.Nat.{ℕ, suc, ◌+◌, ◌<◌, ◌≤◌}
use native.Mathlib.Omega.{arith}
use native.Mathlib.Numerals.{add-one}
use lib.Dec.{eqb, leb}
use lib.ListN.{length}
use borrow.Author.Tests.{lt-ltb, le-ltb, ne_eqb}
use Rattle.std.proofs.Common.{◌⊎◌, inl, inr}
use Rattle.std.specs.Prelude as code
use Rattle.faults.specs.declared.Fault as found
use Rattle.faults.specs.declared.Fault.TheVariants.{Malformed, Misplaced, TooMany}
use Rattle.faults.specs.Numbers.{number, fault_number}
use Rattle.image.specs.declared.Counts as image
use Rattle.syntax.specs.Syntax.{Row, Instr, Entry, row, block, instr}
use Rattle.syntax.specs.Fault.{Fault, number_of, given, Pass, first_item, lowest, refuse, lowest_line}
use Rattle.syntax.proofs.Least.{least_of, line_next, line_here}
use Rattle.text.specs.Bytes.{lines_of}
use Rattle.text.specs.Grammar.{parse}
use Rattle.text.specs.PassOne.{is_last, Place, place_after, in_order, may_end, Counts, counted, too_many, line_faults, after, with_one, lines_faults, pass_one}
use Rattle.text_decode.specs.store.Lines.{used_after}
use Rattle.text_decode.specs.Decoded.{refusal_of, place_of}
use Rattle.text_decode.specs.state.State.{none_used, faulty, counts_in, last_read, among_types, inside_block, place_behind, fault_of, line_fault}
use Rattle.text_decode.specs.declared.store.Used.{Used}
use Rattle.text_decode.specs.declared.store.Line.{Line}
use Rattle.text_decode.specs.declared.store.Line.TheVariants as line
use Rattle.text_decode.specs.declared.state.Place as decoded
use Rattle.text_decode.specs.declared.state.Place.TheVariants.{TypeLines, InBlock, BehindBlock}

-- what pass one counts
abbrev pub counts_of : Used → Counts
counts_of u = record { rows = u.rows; blocks = u.blocks; instrs = u.instrs }

-- ---- a line's faults
least_two : (i t : Bool) → least_of (given (not i) 2 ++ given t 3) ≡ fault_number (fault_of i t)
unfolding least_of given lowest number_of
least_two true true = refl
least_two true false = refl
least_two false true = refl
least_two false false = refl

none_two : (i t : Bool) → fault_of i t ≡ code.None → given (not i) 2 ++ given t 3 ≡ []
unfolding given
none_two true true e = cc
none_two true false e = refl
none_two false t e = cc

row_order : (p : decoded.Place) (r : Row) → in_order (place_of p) (row r) ≡ among_types p
unfolding in_order
row_order TypeLines r = refl
row_order InBlock r = refl
row_order BehindBlock r = refl

block_order : (p : decoded.Place) (c : ℕ) → in_order (place_of p) (block c) ≡ not (inside_block p)
unfolding in_order
block_order TypeLines c = refl
block_order InBlock c = refl
block_order BehindBlock c = refl

instr_order : (p : decoded.Place) (x : Instr) → in_order (place_of p) (instr x) ≡ inside_block p
unfolding in_order
instr_order TypeLines x = refl
instr_order InBlock x = refl
instr_order BehindBlock x = refl

-- a line and what it says are of one kind
pub data Kin : Line → Entry → Type 0 where
  a_row : (r : Row) → Kin line.Row (row r)
  a_block : (c : ℕ) → Kin line.Block (block c)
  an_instr : (n m : ℕ) (x : Instr) → is_last x ≡ false → Kin (line.Instruction n m) (instr x)
  a_last : (n m : ℕ) (x : Instr) → is_last x ≡ true → Kin (line.Last n m) (instr x)

module _ (p : decoded.Place) (u : Used) where
  -- its least fault
  pub fault_is : (l : Line) (o : Entry) → Kin l o → least_of (line_faults (place_of p) (counts_of u) (some o)) ≡ fault_number (line_fault l p u)
  unfolding line_faults too_many
  fault_is l o (a_row r) = least_two (in_order (place_of p) (row r)) (leb 512 u.rows) ∙ ap (λ (i : Bool). fault_number (fault_of i (leb 512 u.rows))) (row_order p r)
  fault_is l o (a_block c) = least_two (in_order (place_of p) (block c)) (leb 64 u.blocks) ∙ ap (λ (i : Bool). fault_number (fault_of i (leb 64 u.blocks))) (block_order p c)
  fault_is l o (an_instr n m x e) = least_two (in_order (place_of p) (instr x)) (leb 1024 u.instrs) ∙ ap (λ (i : Bool). fault_number (fault_of i (leb 1024 u.instrs))) (instr_order p x)
  fault_is l o (a_last n m x e) = least_two (in_order (place_of p) (instr x)) (leb 1024 u.instrs) ∙ ap (λ (i : Bool). fault_number (fault_of i (leb 1024 u.instrs))) (instr_order p x)

  pub no_fault : (l : Line) (o : Entry) → Kin l o → line_fault l p u ≡ code.None → line_faults (place_of p) (counts_of u) (some o) ≡ []
  unfolding line_faults too_many
  no_fault l o (a_row r) e = none_two (in_order (place_of p) (row r)) (leb 512 u.rows) (ap (λ (i : Bool). fault_of i (leb 512 u.rows)) (row_order p r) ∙ e)
  no_fault l o (a_block c) e = none_two (in_order (place_of p) (block c)) (leb 64 u.blocks) (ap (λ (i : Bool). fault_of i (leb 64 u.blocks)) (block_order p c) ∙ e)
  no_fault l o (an_instr n m x q) e = none_two (in_order (place_of p) (instr x)) (leb 1024 u.instrs) (ap (λ (i : Bool). fault_of i (leb 1024 u.instrs)) (instr_order p x) ∙ e)
  no_fault l o (a_last n m x q) e = none_two (in_order (place_of p) (instr x)) (leb 1024 u.instrs) (ap (λ (i : Bool). fault_of i (leb 1024 u.instrs)) (instr_order p x) ∙ e)

  -- it is out of order, or one too many
  two_few : (i t : Bool) (f : found.Fault) → fault_of i t ≡ code.Some f → (number f ≡ 2) ⊎ (number f ≡ 3)
  two_few true true f e = let q : TooMany ≡ f = cc in inr (ap number (sym q))
  two_few true false f e = cc
  two_few false t f e = let q : Misplaced ≡ f = cc in inl (ap number (sym q))

  pub fault_few : (l : Line) (f : found.Fault) → line_fault l p u ≡ code.Some f → (number f ≡ 2) ⊎ (number f ≡ 3)
  fault_few line.Row f e = two_few (among_types p) (leb 512 u.rows) f e
  fault_few line.Block f e = two_few (not (inside_block p)) (leb 64 u.blocks) f e
  fault_few (line.Instruction n m) f e = two_few (inside_block p) (leb 1024 u.instrs) f e
  fault_few (line.Last n m) f e = two_few (inside_block p) (leb 1024 u.instrs) f e

-- a line with a fault that names no item, as the answer names it
pub names : (n : ℕ) (f : found.Fault) (fs : List Fault) (ls : Pass) → least_of fs ≡ number f → (number f ≡ 0 → ⊥) → (number f ≡ 10 → ⊥) → refusal_of (faulty f n) ≡ lowest_line n (fs ∷ ls)
names n f fs ls e h k =
    let t : eqb (least_of fs) 10 ≡ false = ne_eqb (least_of fs) 10 (λ w. k (sym e ∙ w)) in
    let there : lowest_line n (fs ∷ ls) ≡ some (refuse (least_of fs) n fs) = line_here n fs ls (λ w. h (sym e ∙ w)) in
    let same : refuse (least_of fs) n fs ≡ record { number = number f; line = n; item = none } = ap (λ (b : Bool). record { number = least_of fs; line = n; item = cond b (first_item fs) none }) t ∙ ap (λ (k : ℕ). record { number = k; line = n; item = none }) e in
    sym (there ∙ ap some same)

-- ---- the lines behind one
pub place_is : (l : Line) (o : Entry) (p : Place) → Kin l o → after p (some o) ≡ place_of (place_behind l)
unfolding place_after
place_is l o p (a_row r) = refl
place_is l o p (a_block c) = refl
place_is l o p (an_instr n m x e) = simp e
place_is l o p (a_last n m x e) = simp e

pub counts_are : (l : Line) (o : Entry) (u : Used) → Kin l o → with_one (counts_of u) (some o) ≡ counts_of (used_after u l)
unfolding counted
counts_are l o u (a_row r) = simp add-one
counts_are l o u (a_block c) = simp add-one
counts_are l o u (an_instr n m x e) = simp add-one
counts_are l o u (a_last n m x e) = simp add-one

-- the first line is passed
pub fault_behind : (n : ℕ) (p : decoded.Place) (u : Used) (l : Line) (o : Entry) (os : List (Option Entry)) → Kin l o → line_fault l p u ≡ code.None → lowest_line n (lines_faults (place_of p) (counts_of u) (some o ∷ os)) ≡ lowest_line (n + 1) (lines_faults (place_of (place_behind l)) (counts_of (used_after u l)) os)
unfolding lines_faults
fault_behind n p u l o os k e =
    line_next n (line_faults (place_of p) (counts_of u) (some o)) (lines_faults (after (place_of p) (some o)) (with_one (counts_of u) (some o)) os) (no_fault p u l o k e)
    ∙ ap (λ (q : Place). lowest_line (suc n) (lines_faults q (with_one (counts_of u) (some o)) os)) (place_is l o (place_of p) k)
    ∙ ap (λ (c : Counts). lowest_line (suc n) (lines_faults (place_of (place_behind l)) c os)) (counts_are l o u k)
    ∙ ap (λ (m : ℕ). lowest_line m (lines_faults (place_of (place_behind l)) (counts_of (used_after u l)) os)) (sym (add-one n))

-- the first line has a fault
pub fault_here : (n : ℕ) (p : decoded.Place) (u : Used) (l : Line) (o : Entry) (os : List (Option Entry)) (f : found.Fault) → Kin l o → line_fault l p u ≡ code.Some f → refusal_of (faulty f n) ≡ lowest_line n (lines_faults (place_of p) (counts_of u) (some o ∷ os))
unfolding lines_faults
fault_here n p u l o os f k e =
    let few = fault_few p u l f e in
    names n f (line_faults (place_of p) (counts_of u) (some o)) (lines_faults (after (place_of p) (some o)) (with_one (counts_of u) (some o)) os) (fault_is p u l o k ∙ ap fault_number e)
    (λ w. not_none few w) (λ w. not_ten few w)
  where
    not_none : (number f ≡ 2) ⊎ (number f ≡ 3) → number f ≡ 0 → ⊥
    not_none (inl a) w = omega arith
    not_none (inr a) w = omega arith

    not_ten : (number f ≡ 2) ⊎ (number f ≡ 3) → number f ≡ 10 → ⊥
    not_ten (inl a) w = omega arith
    not_ten (inr a) w = omega arith

-- the first line is of no form
pub fault_none : (n : ℕ) (p : decoded.Place) (u : Used) (os : List (Option Entry)) → refusal_of (faulty Malformed n) ≡ lowest_line n (lines_faults (place_of p) (counts_of u) (none ∷ os))
unfolding lines_faults line_faults
fault_none n p u os = unfold least_of lowest number_of in names n Malformed (line_faults (place_of p) (counts_of u) none) (lines_faults (after (place_of p) none) (with_one (counts_of u) none) os) refl (λ w. omega arith) (λ w. omega arith)

-- no line is left
may_end_lem : (p : decoded.Place) → may_end (place_of p) ≡ not (inside_block p)
unfolding may_end
may_end_lem TypeLines = refl
may_end_lem InBlock = refl
may_end_lem BehindBlock = refl

pub fault_end : (n : ℕ) (p : decoded.Place) (u : Used) → refusal_of (last_read p n u) ≡ lowest_line n (lines_faults (place_of p) (counts_of u) [])
unfolding lines_faults
fault_end n p u = go (inside_block p) ∙ ap (λ (t : Bool). lowest_line n (given (not t) 2 ∷ [])) (sym (may_end_lem p))
  where
    go : (t : Bool) → refusal_of {A = image.Counts} (cond t (faulty Misplaced n) (code.Ok (counts_in u))) ≡ lowest_line n (given (not (not t)) 2 ∷ [])
    go true = unfold lowest_line given lowest number_of in refl
    go false = unfold lowest_line given in refl

-- ---- the whole text
pub fault_long : (text : List ℕ) → 65536 < length text → refusal_of (faulty TooMany 0) ≡ lowest_line 0 (pass_one text)
unfolding pass_one given lowest_line lowest number_of
fault_long text h = simp (lt-ltb 65536 (length text) h)

pub fault_start : (text : List ℕ) → length text ≤ 65536 → lowest_line 0 (pass_one text) ≡ lowest_line 1 (lines_faults (place_of TypeLines) (counts_of none_used) (map parse (lines_of text)))
unfolding pass_one given lowest_line
fault_start text h = simp (le-ltb 65536 (length text) h)
