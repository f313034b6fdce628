-- Reading and writing lent memory, seen as the list of its words in use, from the bottom (registers, heap) or from the top (stack).
use Prim.Native.Nat.{ℕ, zero, suc, ◌+◌, ◌≤◌, ◌<◌}
use native.Mathlib.Nat.{add-zero, add-suc}
use native.Mathlib.Decide.{ℕ_discrete}
use native.Mathlib.Omega.{arith}
use mathlib.Core.Path.{◌≡◌, refl, ap, ap₂, sym, ◌∙◌}
use mathlib.Core.Logic.{◌≢◌}
use mathlib.Core.List.{List, [], ◌∷◌, ◌++◌}
use lib.ListN.{length, length-append, length-set, length-replicate, get_or, get_or-replicate, set, drop, replicate, get_or-append}
use lib.Seq.{get_or-set_same, get_or-set_other, get_or-append-add, ext_get_or}
use Rattle.types.proofs.Filling.{Side, lo, hi, side}
use Rattle.exec.specs.Machine.{Word, junk_kind, junk_word, Memory, at, put, puts}
use Rattle.exec.specs.Run.{words_from, in_use}
use Rattle.sound.specs.Claim.{from_top}

-- at least n words are lent
abbrev pub Long : Memory → ℕ → Type 0
Long m n = (n ≤ length m.kinds) × (n ≤ length m.numbers)

-- ---- one word written
put_same : (m : Memory) (n i : ℕ) (w : Word) → Long m n → i < n → at (put m i w) i ≡ w
unfolding at put
put_same m n i w l h = rw (get_or-set_same m.kinds i w.kind junk_kind (omega arith), get_or-set_same m.numbers i w.number 0 (omega arith))

put_other : (m : Memory) (i j : ℕ) (w : Word) → j ≢ i → at (put m i w) j ≡ at m j
unfolding at put
put_other m i j w h = rw (get_or-set_other m.kinds i j w.kind junk_kind h, get_or-set_other m.numbers i j w.number 0 h)

pub put_long : (m : Memory) (n i : ℕ) (w : Word) → Long m n → Long (put m i w) n
unfolding put
put_long m n i w l = simp length-set l

-- what is read after a write: the word written there, elsewhere what was there
pub put_cases : (m : Memory) (n i j : ℕ) (w : Word) (Q : Word → Type 0) → Long m n → j < n → (j ≡ i → Q w) → (j ≢ i → Q (at m j)) → Q (at (put m i w) j)
put_cases m n i j w Q l h f g = go (ℕ_discrete j i)
  where
    go : Dec (j ≡ i) → Q (at (put m i w) j)
    go (yes e) = rw (← e, put_same m n j w l h) (f e)
    go (no e) = rw (put_other m i j w e) (g e)

-- ---- words in a row written
pub puts_before : (ws : List Word) (m : Memory) (i j : ℕ) → j < i → at (puts m i ws) j ≡ at m j
unfolding puts
puts_before [] m i j h = refl
puts_before (w ∷ ws) m i j h = puts_before ws (put m i w) (suc i) j (omega arith) ∙ put_other m i j w (omega arith)

pub puts_in : (ws : List Word) (m : Memory) (n i k : ℕ) → Long m n → i + length ws ≤ n → k < length ws → at (puts m i ws) (i + k) ≡ get_or ws k junk_word
unfolding puts
puts_in [] m n i k l e h = absurd (omega arith)
puts_in (w ∷ ws) m n i zero l e h = rw add-zero (puts_before ws (put m i w) (suc i) i (omega arith) ∙ put_same m n i w l (omega arith))
puts_in (w ∷ ws) m n i (suc k) l e h = ap (at (puts (put m i w) (suc i) ws)) (omega arith) ∙ puts_in ws (put m i w) n (suc i) k (put_long m n i w l) (omega arith) (omega arith)

pub puts_long : (ws : List Word) (m : Memory) (n i : ℕ) → Long m n → Long (puts m i ws) n
unfolding puts
puts_long [] m n i l = l
puts_long (w ∷ ws) m n i l = puts_long ws (put m i w) n (suc i) (put_long m n i w l)

-- ---- from the bottom
words_length : (m : Memory) (i n : ℕ) → length (words_from m i n) ≡ n
unfolding words_from
words_length m i zero = refl
words_length m i (suc n) = ap suc (words_length m (suc i) n)

words_at : (m : Memory) (i n k : ℕ) → k < n → get_or (words_from m i n) k junk_word ≡ at m (i + k)
unfolding words_from
words_at m i zero k h = absurd (omega arith)
words_at m i (suc n) zero h = rw add-zero
words_at m i (suc n) (suc k) h = words_at m (suc i) n k (omega arith) ∙ ap (at m) (omega arith)

pub use_length : (m : Memory) (n : ℕ) → length (in_use m n) ≡ n
use_length m n = words_length m 0 n

pub use_at_lem : (m : Memory) (n k : ℕ) → k < n → get_or (in_use m n) k junk_word ≡ at m k
use_at_lem m n k h = words_at m 0 n k h ∙ ap (at m) (omega arith)

-- the words in use are those of a list that is read alike
use_is : (m : Memory) (n : ℕ) (ws : List Word) → n ≡ length ws → ((k : ℕ) → k < n → at m k ≡ get_or ws k junk_word) → in_use m n ≡ ws
use_is m n ws e f = ext_get_or junk_word (in_use m n) ws (use_length m n ∙ e) (λ k h. let g : k < n = rw (use_length m n) at h in use_at_lem m n k g ∙ f k g)

-- a word written among those in use, and words written behind them
pub use_put : (m : Memory) (n i : ℕ) (w : Word) → Long m n → in_use (put m i w) n ≡ set (in_use m n) i w
use_put m n i w l =
    use_is (put m i w) n (set (in_use m n) i w) (rw (length-set, use_length m n)) (λ k h.
    put_cases m n i k w (λ z. z ≡ get_or (set (in_use m n) i w) k junk_word) l h (λ e. rw (← e) (sym (get_or-set_same (in_use m n) k w junk_word (rw (use_length m n) h)))) (λ e. sym (get_or-set_other (in_use m n) i k w junk_word e ∙ use_at_lem m n k h)))

pub use_puts : (m : Memory) (n c : ℕ) (ws : List Word) → Long m c → n + length ws ≤ c → in_use (puts m n ws) (n + length ws) ≡ in_use m n ++ ws
use_puts m n c ws l h = use_is (puts m n ws) (n + length ws) (in_use m n ++ ws) (rw (length-append, use_length m n)) (λ k g. go k g (side n k))
  where
    go : (k : ℕ) → k < n + length ws → Side n k → at (puts m n ws) k ≡ get_or (in_use m n ++ ws) k junk_word
    go k g (lo z) = puts_before ws m n k z ∙ sym (get_or-append (in_use m n) ws junk_word k (rw (use_length m n) z) ∙ use_at_lem m n k z)
    go k g (hi j z) =
        let e : k ≡ n + j = omega arith in
        let f = get_or-append-add (in_use m n) ws j junk_word in
        rw e (puts_in ws m c n j l h (omega arith) ∙ sym (rw (use_length m n) at f))

-- ---- from the top
pub top_length : (m : Memory) (d : ℕ) → length (from_top m d) ≡ d
unfolding from_top
top_length m zero = refl
top_length m (suc d) = ap suc (top_length m d)

-- item k from the top is word j from the bottom
pub top_at : (m : Memory) (d k j : ℕ) → suc (k + j) ≡ d → get_or (from_top m d) k junk_word ≡ at m j
unfolding from_top
top_at m zero k j e = absurd (omega arith)
top_at m (suc d) zero j e = ap (at m) (omega arith)
top_at m (suc d) (suc k) j e = top_at m d k j (omega arith)

-- without its n upper words a stack has j left
pub top_drop : (m : Memory) (d n j : ℕ) → n + j ≡ d → drop n (from_top m d) ≡ from_top m j
unfolding from_top
top_drop m d zero j e = let p : d ≡ j = omega arith in rw p
top_drop m zero (suc n) j e = absurd (omega arith)
top_drop m (suc d) (suc n) j e = top_drop m d n j (omega arith)

top_same : (m u : Memory) (d : ℕ) → ((j : ℕ) → j < d → at u j ≡ at m j) → from_top u d ≡ from_top m d
unfolding from_top
top_same m u zero h = refl
top_same m u (suc d) h = ap₂ ◌∷◌ (h d (omega arith)) (top_same m u d (λ j l. h j (omega arith)))

pub top_put : (m : Memory) (d k j : ℕ) (w : Word) → Long m d → suc (k + j) ≡ d → from_top (put m j w) d ≡ set (from_top m d) k w
unfolding from_top
top_put m zero k j w l e = absurd (omega arith)
top_put m (suc d) zero j w l e = let p : d ≡ j = omega arith in rw p (ap₂ ◌∷◌ (put_same m (suc d) j w l (omega arith)) (top_same m (put m j w) j (λ i h. put_other m j i w (omega arith))))
top_put m (suc d) (suc k) j w l e = ap₂ ◌∷◌ (put_other m j d w (omega arith)) (top_put m d k j w (omega arith) (omega arith))

-- n words of junk pushed
pub top_junk : (m : Memory) (d n c : ℕ) → Long m c → d + n ≤ c → from_top (puts m d (replicate n junk_word)) (d + n) ≡ replicate n junk_word ++ from_top m d
unfolding from_top
top_junk m d n c l h = go n (omega arith)
  where
    u : Memory
    u = puts m d (replicate n junk_word)

    go : (k : ℕ) → k ≤ n → from_top u (d + k) ≡ replicate k junk_word ++ from_top m d
    go zero g = rw add-zero (top_same m u d (λ j z. puts_before (replicate n junk_word) m d j z))
    go (suc k) g = rw add-suc (ap₂ ◌∷◌ (puts_in (replicate n junk_word) m c d k l (simp length-replicate h) (simp length-replicate g) ∙ get_or-replicate n k junk_word junk_word g) (go k (omega arith)))
