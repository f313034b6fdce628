-- Laws of lines: words and numbers put behind one another are the lines of crate print.
use mathlib.Core.Path.{◌≡◌, sym, ◌∙◌}
use mathlib.Core.List.{List, [], ◌∷◌, ◌++◌, append_assoc}
use Prim.Native.Nat.{ℕ, ◌+◌, ◌≤◌}
use native.Mathlib.Omega.{arith}
use lib.ListN.{length, take}
use borrow.Author.Tests.{ne_eqb}
use Rattle.text.specs.Bytes.{bytes}
use Rattle.print.specs.Lines.{parted, line_of, kind_name}
use Rattle.print_write.specs.Put.{Puts}
use Rattle.print_write.proofs.Laws.{puts_behind}

-- ---- lines put
-- a word, given with its comma, and a number
pub one_put : {l l₁ l₂ l₃ w s : List ℕ} {i j k : ℕ} → Puts l 0 w l₁ i → Puts l₁ i s l₂ j × (j ≤ i + 20) → Puts l₂ j (10 ∷ []) l₃ k
    → length w ≤ 7 → (k ≤ 64) × (take k l₃ ≡ w ++ (s ++ (10 ∷ [])))
one_put p q r h =
    let a = p.end in
    let b = q.1 in
    let c = r.end in
    (omega arith, (puts_behind p (puts_behind q.0 r)).held)

-- a word, given with its comma, and two numbers
pub two_put : {l l₁ l₂ l₃ l₄ l₅ w s t : List ℕ} {i j k m n : ℕ} → Puts l 0 w l₁ i → Puts l₁ i s l₂ j × (j ≤ i + 20)
    → Puts l₂ j (44 ∷ []) l₃ k → Puts l₃ k t l₄ m × (m ≤ k + 20) → Puts l₄ m (10 ∷ []) l₅ n → length w ≤ 7
    → (n ≤ 64) × (take n l₅ ≡ w ++ (s ++ (44 ∷ (t ++ (10 ∷ [])))))
two_put p q r s t h =
    let a = p.end in
    let b = q.1 in
    let c = r.end in
    let d = s.1 in
    let e = t.end in
    (omega arith, (puts_behind p (puts_behind q.0 (puts_behind r (puts_behind s.0 t)))).held)

-- a word, given with its comma, a number, the name of a kind and a signed number
pub halt_put : {l l₁ l₂ l₃ l₄ l₅ l₆ l₇ w s t u : List ℕ} {e₁ e₂ e₃ e₄ e₅ e₆ e₇ : ℕ} → Puts l 0 w l₁ e₁ → Puts l₁ e₁ s l₂ e₂ × (e₂ ≤ e₁ + 20)
    → Puts l₂ e₂ (44 ∷ []) l₃ e₃ → Puts l₃ e₃ t l₄ e₄ × (e₄ ≤ e₃ + 6) → Puts l₄ e₄ (44 ∷ []) l₅ e₅
    → Puts l₅ e₅ u l₆ e₆ × (e₆ ≤ e₅ + 21) → Puts l₆ e₆ (10 ∷ []) l₇ e₇ → length w ≤ 7
    → (e₇ ≤ 64) × (take e₇ l₇ ≡ w ++ (s ++ (44 ∷ (t ++ (44 ∷ (u ++ (10 ∷ [])))))))
halt_put p q r s t u v h =
    let a = p.end in
    let b = q.1 in
    let c = r.end in
    let d = s.1 in
    let e = t.end in
    let f = u.1 in
    let g = v.end in
    (omega arith, (puts_behind p (puts_behind q.0 (puts_behind r (puts_behind s.0 (puts_behind t (puts_behind u.0 v)))))).held)

-- the name of a kind
pub kind_put : {l s l' : List ℕ} {at e : ℕ} (k : ℕ) → kind_name k ≡ s → length s ≤ 6 → Puts l at s l' e
    → Puts l at (kind_name k) l' e × (e ≤ at + 6)
kind_put k q h p = let a = p.end in (rw q p, omega arith)

-- a kind that has none of the four names before it
pub junk_name : (k : ℕ) → (k ≡ 0 → ⊥) → (k ≡ 1 → ⊥) → (k ≡ 2 → ⊥) → (k ≡ 3 → ⊥) → kind_name k ≡ bytes "junk"
unfolding kind_name
junk_name k a b c d = rw (ne_eqb k 0 a, ne_eqb k 1 b, ne_eqb k 2 c, ne_eqb k 3 d)

-- ---- lines of fields
-- a line of two fields
pub two_fields : (l : List ℕ) (r : ℕ) (w s : List ℕ) → (r ≤ 64) × (take r l ≡ w ++ (44 ∷ (s ++ (10 ∷ []))))
    → (r ≤ 64) × (take r l ≡ line_of (w ∷ s ∷ []))
unfolding parted line_of
two_fields l r w s p = (p.0, p.1 ∙ sym (append_assoc w (44 ∷ s) (10 ∷ [])))

-- a line of three fields
pub three_fields : (l : List ℕ) (r : ℕ) (w s t : List ℕ) → (r ≤ 64) × (take r l ≡ w ++ (44 ∷ (s ++ (44 ∷ (t ++ (10 ∷ []))))))
    → (r ≤ 64) × (take r l ≡ line_of (w ∷ s ∷ t ∷ []))
unfolding parted line_of
three_fields l r w s t p = (p.0, p.1 ∙ simp append_assoc)

-- a line of four fields
pub four_fields : (l : List ℕ) (r : ℕ) (w s t u : List ℕ) → (r ≤ 64) × (take r l ≡ w ++ (44 ∷ (s ++ (44 ∷ (t ++ (44 ∷ (u ++ (10 ∷ []))))))))
    → (r ≤ 64) × (take r l ≡ line_of (w ∷ s ∷ t ∷ u ∷ []))
unfolding parted line_of
four_fields l r w s t u p = (p.0, p.1 ∙ simp append_assoc)
