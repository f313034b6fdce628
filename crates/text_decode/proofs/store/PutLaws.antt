-- Laws of what is stored of a line, and of the fields behind its first.
-- Assumes nothing.
use mathlib.Core.Path.{◌≡◌, refl, ap, sym, ◌∙◌, subst}
use mathlib.Core.Bool.{Bool, true, false}
use mathlib.Core.List.{List, [], ◌∷◌, ◌++◌, append_assoc}
use Prim.Native.Nat.{ℕ, ◌+◌, ◌-◌, ◌*◌, ◌<◌, ◌≤◌}
use native.Mathlib.Omega.{arith}
use lib.Dec.{eqb, ltb}
use lib.ListN.{length, take, drop, length-drop}
use lib.Seq.{sets, sets-eq, take_all, drop-drop}
use borrow.Author.Tests.{ltb-true, ltb-false, lt-ltb, le-ltb, le-leb, lt-leb, eq-eqb, ne_eqb}
use borrow.Rule.Slice.PartMut.{put_mid}
use Rattle.image.specs.declared.Places.{Places}
use Rattle.image.specs.Sections.{Ordered, Outside, row_section, block_section, instr_section}
use Rattle.text.specs.Bytes.{fields_of}
use Rattle.tables.specs.Tables.{OperandTable}
use Rattle.text_lines.specs.Parts.{line_in, StopAt}
use Rattle.text_lines.proofs.InLine.{line_from_lem, stop_from}
use Rattle.text_decode.specs.line.Fields.{fields_from}
use Rattle.text_decode.specs.line.Answers.{Carried, SaidThrough, FormIs}
use Rattle.std.specs.Prelude.{Option as Maybe, Some, None}
use Rattle.text_decode.specs.declared.line.Said.{Said}
use Rattle.text_decode.proofs.line.ImageLaws.{rows_back, blocks_back, instrs_back}
use Rattle.text_decode.specs.store.Lines.{line_of, Stored, RestThrough}
use Rattle.text_decode.specs.declared.store.Used.{Used}
use Rattle.text_decode.specs.declared.store.Line.{Line}
use Rattle.text_decode.specs.declared.store.Line.TheVariants.{Row, Block, Instruction, Last}

-- a part that was written from its start to its end
pub put_all : (l : List ℕ) (i : ℕ) (vs ys : List ℕ) → i + length vs ≤ length l → ys ≡ vs → put_mid i (i + length vs - i) l ys ≡ sets l i vs
put_all l i vs ys h e =
    let q : i + length vs - i ≡ length vs = omega arith in
    let w : drop (length vs) (drop i l) ≡ drop (i + length vs) l = drop-drop (length vs) i l in
    rw (e, q) (ap (λ (x : List ℕ). take i l ++ (vs ++ x)) w ∙ sym (append_assoc (take i l) vs (drop (i + length vs) l)) ∙ sym (sets-eq vs l i h))

module _ (code : ℕ) (s : Said) (u : Used) (rows instrs blocks : List ℕ) where
  pub stored_row : code < 11 → (rows' : List ℕ) → rows' ≡ sets rows (4 * u.rows) (code ∷ s.a ∷ s.b ∷ []) → Stored code s u rows instrs blocks rows' instrs blocks Row
  stored_row h rows' e =
      let n : eqb code 11 ≡ false = ne_eqb code 11 (λ w. omega arith) in
      let m : ltb 11 code ≡ false = le-ltb 11 code (omega arith) in
      record {
        row = e ∙ simp (lt-ltb code 11 h);
        instr = simp m;
        block = simp n;
        line = simp (lt-ltb code 11 h);
      }

  pub stored_block : code ≡ 11 → (blocks' : List ℕ) → blocks' ≡ sets blocks (2 * u.blocks) (s.a ∷ u.instrs ∷ []) → Stored code s u rows instrs blocks rows instrs blocks' Block
  stored_block h blocks' e =
      let n : ltb code 11 ≡ false = le-ltb code 11 (omega arith) in
      let m : ltb 11 code ≡ false = le-ltb 11 code (omega arith) in
      record {
        row = simp n;
        instr = simp m;
        block = e ∙ simp (eq-eqb code 11 h);
        line = simp (n, eq-eqb code 11 h);
      }

  module _ (h : 11 ≤ code) (q : code ≡ 11 → ⊥) (instrs' : List ℕ) (e : instrs' ≡ sets instrs (8 * u.instrs) ((code - 12) ∷ s.a ∷ s.b ∷ s.c ∷ s.d ∷ u.operands ∷ s.count ∷ [])) where
    stored_instr : (l : Line) → l ≡ line_of code s.count s.args → Stored code s u rows instrs blocks rows instrs' blocks l
    stored_instr l w =
        let m : ltb 11 code ≡ true = lt-ltb 11 code (omega arith) in
        record {
          row = simp (le-ltb code 11 h);
          instr = e ∙ simp m;
          block = simp (ne_eqb code 11 q);
          line = w;
        }

-- which instructions end a block
module _ (code : ℕ) (h : 11 ≤ code) (q : code ≡ 11 → ⊥) (n m k : ℕ) (e : k ≡ n) where
  pub line_inside : code < 33 → Instruction k m ≡ line_of code n m
  line_inside w = simp (e, le-ltb code 11 h, ne_eqb code 11 q, lt-ltb code 33 w)

  pub line_last : 33 ≤ code → code < 35 → Last k m ≡ line_of code n m
  line_last v w = simp (e, le-ltb code 11 h, ne_eqb code 11 q, le-ltb code 33 v, lt-ltb code 35 w)

  pub line_behind : 33 ≤ code → 35 ≤ code → Instruction k m ≡ line_of code n m
  line_behind v w = simp (e, le-ltb code 11 h, ne_eqb code 11 q, le-ltb code 33 v, le-ltb code 35 w)

-- ---- the same in an image: the section of the line's kind was lent, and came back as y
module _ (p : Places) (l : List ℕ) (o : Ordered p (length l)) (code : ℕ) (s : Said) (u : Used) (y : List ℕ) where
  abbrev pub PutIn : List ℕ → Line → Type 0
  PutIn l' r =
      Stored code s u (row_section p l) (instr_section p l) (block_section p l) (row_section p l') (instr_section p l') (block_section p l') r × Outside p.rows p.parts l l'

  pub row_in : code < 11 → length y ≡ length (row_section p l) → y ≡ sets (row_section p l) (4 * u.rows) (code ∷ s.a ∷ s.b ∷ []) → PutIn (put_mid p.rows (p.blocks - p.rows) l y) Row
  row_in h n e =
      let b = rows_back p l o y n in
      (rw (b.rows, b.instrs, b.blocks) (stored_row code s u (row_section p l) (instr_section p l) (block_section p l) h y e), b.outside)

  pub block_in : code ≡ 11 → length y ≡ length (block_section p l) → y ≡ sets (block_section p l) (2 * u.blocks) (s.a ∷ u.instrs ∷ []) → PutIn (put_mid p.blocks (p.instrs - p.blocks) l y) Block
  block_in h n e =
      let b = blocks_back p l o y n in
      (rw (b.rows, b.instrs, b.blocks) (stored_block code s u (row_section p l) (instr_section p l) (block_section p l) h y e), b.outside)

  pub instr_in_lem : 11 ≤ code → (code ≡ 11 → ⊥) → length y ≡ length (instr_section p l) → y ≡ sets (instr_section p l) (8 * u.instrs) ((code - 12) ∷ s.a ∷ s.b ∷ s.c ∷ s.d ∷ u.operands ∷ s.count ∷ [])
      → (r : Line) → r ≡ line_of code s.count s.args → PutIn (put_mid p.instrs (p.parts - p.instrs) l y) r
  instr_in_lem h q n e r w =
      let b = instrs_back p l o y n in
      (rw (b.rows, b.instrs, b.blocks) (stored_instr code s u (row_section p l) (instr_section p l) (block_section p l) h q y e r w), b.outside)

-- ---- a line's first field, and its rest, as a part that starts in its middle
pub front_of : (l : List ℕ) (f : ℕ) → take f l ≡ take (f - 0) (drop 0 l)
front_of l f = let q : f ≡ f - 0 = omega arith in ap (λ (k : ℕ). take k l) q

pub part_from : (l : List ℕ) (a : ℕ) → take (length l - a) (drop a l) ≡ drop a l
part_from l a = let q : length (drop a l) ≤ length l - a = omega (arith, length-drop a l) in take_all (length l - a) (drop a l) q

fields_from_lem : (line : List ℕ) (f : ℕ) → fields_from (drop f line) (0 + 1) ≡ fields_from line (f + 1)
unfolding fields_from
fields_from_lem line f = go (ltb f (length line)) refl
  where
    go : (t : Bool) → ltb f (length line) ≡ t → fields_from (drop f line) (0 + 1) ≡ fields_from line (f + 1)
    go true e =
        let h : f < length line = ltb-true f (length line) e in
        let p : 0 + 1 ≤ length (drop f line) = omega (arith, length-drop f line) in
        let q : f + 1 ≤ length line = omega arith in
        simp (le-leb (0 + 1) (length (drop f line)) p, le-leb (f + 1) (length line) q) (ap fields_of (drop-drop 1 f line))
    go false e =
        let h : length line ≤ f = ltb-false f (length line) e in
        let p : length (drop f line) < 0 + 1 = omega (arith, length-drop f line) in
        let q : length line < f + 1 = omega arith in
        simp (lt-leb (0 + 1) (length (drop f line)) p, lt-leb (f + 1) (length line) q)

module _ (s : List ℕ) (f : ℕ) (p : StopAt s f) where
  pub rest_stop : StopAt (take (length s - f) (drop f s)) 0
  rest_stop = rw (part_from s f) (stop_from s f p)

  rest_line : line_in (take (length s - f) (drop f s)) ≡ drop f (line_in s)
  rest_line = ap line_in (part_from s f) ∙ line_from_lem s f p.place.within

  pub rest_fields : fields_from (line_in (take (length s - f) (drop f s))) (0 + 1) ≡ fields_from (line_in s) (f + 1)
  rest_fields = ap (λ (l : List ℕ). fields_from l (0 + 1)) rest_line ∙ fields_from_lem (line_in s) f

  rest_end : (n : ℕ) → n ≡ length (line_in (take (length s - f) (drop f s))) → f + n ≡ length (line_in s)
  rest_end n e =
      let m : length (line_in (take (length s - f) (drop f s))) ≡ length (line_in s) - f = ap length rest_line ∙ length-drop f (line_in s) in
      omega (arith, p.place.within)

  -- and the arguments in it stand in the whole line
  rest_carried : (m : ℕ) → Carried (take (length s - f) (drop f s)) m → Carried s m
  rest_carried m g =
      let e : length (line_in (take (length s - f) (drop f s))) ≡ length (line_in s) - f = ap length rest_line ∙ length-drop f (line_in s) in
      let h = g.0 in
      (omega arith, g.1)

  pub rest_through : (r : Maybe Said) → SaidThrough (take (length s - f) (drop f s)) r → RestThrough s f r
  rest_through None g = tt
  rest_through (Some x) g = (rest_end x.next g.0, rest_carried x.args g.1)

-- the same fields say the same
pub form_as : (code p v a : ℕ) (parts parts' : List ℕ) (ω ω' : OperandTable) (s : Maybe Said) {fs gs : List (List ℕ)} → fs ≡ gs → FormIs code fs p v a parts parts' ω ω' s → FormIs code gs p v a parts parts' ω ω' s
form_as code p v a parts parts' ω ω' s e h = subst (λ (xs : List (List ℕ)). FormIs code xs p v a parts parts' ω ω' s) e h
