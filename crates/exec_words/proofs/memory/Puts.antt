-- Laws of words written in a row, and of the tail of a heap that is lent on.
use Rattle.std.proofs.Common.{◌≡◌, ℕ, suc, ◌+◌, ◌-◌, ◌<◌, ◌≤◌, List, [], ◌∷◌, ◌++◌, map, length, take, drop, set, sym, refl, ap, ◌∙◌, subst, ap₂, append-nil, add-zero, add-suc, suc-add, zero-add, arith, length-drop, take-append-drop, drop_of_length-le, length-take-le, take_all, drop-drop}
use lib.Seq.{sets}
use borrow.Rule.Slice.PartMut.{put_mid}
use Rattle.exec.specs.Machine.{Word, Memory, put, puts, integer, word_of}
use Rattle.tables.specs.Tables.{OperandTable, operand_at, operands_at}
use Rattle.exec_words.specs.memory.Lent.{lent, tuple_of, WordAt}

-- ---- one list
set_behind : (p q : List ℕ) (j x : ℕ) → set (p ++ q) (length p + j) x ≡ p ++ set q j x
set_behind [] q j x = rw zero-add
set_behind (y ∷ p) q j x = rw suc-add (ap (λ (l : List ℕ). y ∷ l) (set_behind p q j x))

sets_behind : (p q xs : List ℕ) (j : ℕ) → sets (p ++ q) (length p + j) xs ≡ p ++ sets q j xs
sets_behind p q [] j = refl
sets_behind p q (x ∷ xs) j = rw (set_behind, ← add-suc) (sets_behind p (set q j x) xs (suc j))

-- what is written from u on is written to the part that starts there
sets_in_part : (l xs : List ℕ) (u : ℕ) → u ≤ length l → take u l ++ sets (drop u l) 0 xs ≡ sets l u xs
sets_in_part l xs u h =
    let n : length (take u l) + 0 ≡ u = add-zero (length (take u l)) ∙ length-take-le u l h in
    sym (sets_behind (take u l) (drop u l) xs 0) ∙ ap₂ (λ (t : List ℕ) (k : ℕ). sets t k xs) (take-append-drop u l) n

-- ---- a list of words, as kinds and as numbers
kinds_of_lem : (m : Memory) (i : ℕ) (ws : List Word) → (puts m i ws).kinds ≡ sets m.kinds i (map (λ w. w.kind) ws)
unfolding puts put
kinds_of_lem m i [] = refl
kinds_of_lem m i (w ∷ ws) = kinds_of_lem (put m i w) (suc i) ws

numbers_of : (m : Memory) (i : ℕ) (ws : List Word) → (puts m i ws).numbers ≡ sets m.numbers i (map (λ w. w.number) ws)
unfolding puts put
numbers_of m i [] = refl
numbers_of m i (w ∷ ws) = numbers_of (put m i w) (suc i) ws

-- ---- `&mut s[a..]`: a callee has the list `take (length s - a) (drop a s)`, and what it leaves comes back in its place
part : (s : List ℕ) (a : ℕ) → take (length s - a) (drop a s) ≡ drop a s
part s a =
    let q : length (drop a s) ≤ length s - a = omega (arith, length-drop a s) in
    take_all (length s - a) (drop a s) q

room_in : (s : List ℕ) (u a n : ℕ) → a ≡ u → u + n < length s → n < length (take (length s - a) (drop a s))
room_in s u a n e h =
    let q : n < length (drop a s) = omega (arith, length-drop a s, e, h) in
    subst (λ (t : List ℕ). n < length t) (sym (part s a)) q

pub word_in_part : {hk hn : List ℕ} {u a n : ℕ} → a ≡ u → WordAt (u + n) hk hn → WordAt n (take (length hk - a) (drop a hk)) (take (length hn - a) (drop a hn))
word_in_part {hk} {hn} e w = record { kinds = room_in hk _ _ _ e w.kinds; numbers = room_in hn _ _ _ e w.numbers }

back : (s y : List ℕ) (a : ℕ) → a ≤ length s → put_mid a (length s - a) s y ≡ take a s ++ y
back s y a h =
    let q : length s ≤ a + (length s - a) = omega arith in
    ap (λ (t : List ℕ). take a s ++ (y ++ t)) (drop-drop (length s - a) a s ∙ drop_of_length-le s q) ∙ simp append-nil

tail : (s y xs : List ℕ) (u : ℕ) → u ≤ length s → y ≡ sets (take (length s - u) (drop u s)) 0 xs → put_mid u (length s - u) s y ≡ sets s u xs
tail s y xs u q h = back s y u q ∙ ap (λ (t : List ℕ). take u s ++ t) (h ∙ ap (λ (t : List ℕ). sets t 0 xs) (part s u)) ∙ sets_in_part s xs u q

in_part : (hk hn yk yn : List ℕ) (u : ℕ) (ws : List Word) → u ≤ length hk → u ≤ length hn → lent yk yn ≡ puts (lent (take (length hk - u) (drop u hk)) (take (length hn - u) (drop u hn))) 0 ws → lent (put_mid u (length hk - u) hk yk) (put_mid u (length hn - u) hn yn) ≡ puts (lent hk hn) u ws
in_part hk hn yk yn u ws lk ln h =
    let mk : List ℕ = take (length hk - u) (drop u hk) in
    let mn : List ℕ = take (length hn - u) (drop u hn) in
    let k : put_mid u (length hk - u) hk yk ≡ (puts (lent hk hn) u ws).kinds = tail hk yk (map (λ w. w.kind) ws) u lk (ap (λ (m : Memory). m.kinds) h ∙ kinds_of_lem (lent mk mn) 0 ws) ∙ sym (kinds_of_lem (lent hk hn) u ws) in
    let n : put_mid u (length hn - u) hn yn ≡ (puts (lent hk hn) u ws).numbers = tail hn yn (map (λ w. w.number) ws) u ln (ap (λ (m : Memory). m.numbers) h ∙ numbers_of (lent mk mn) 0 ws) ∙ sym (numbers_of (lent hk hn) u ws) in
    λ i. record { kinds = k i; numbers = n i }

-- the same, where the part's start is another name for u
pub in_tail : (hk hn yk yn : List ℕ) (u a : ℕ) (ws : List Word) → a ≡ u → a ≤ length hk → a ≤ length hn → lent yk yn ≡ puts
    (lent (take (length hk - a) (drop a hk)) (take (length hn - a) (drop a hn))) 0 ws → lent (put_mid a (length hk - a) hk yk)
    (put_mid a (length hn - a) hn yn) ≡ puts (lent hk hn) u ws
in_tail hk hn yk yn u a ws e lk ln h = in_part hk hn yk yn a ws lk ln h ∙ ap (λ (i : ℕ). puts (lent hk hn) i ws) e

-- ---- loops: what is left to write from here gives the whole
pub nothing_left : {m : Memory} {whole : Memory} (k : ℕ) (ws : ℕ → List Word) (c i : ℕ) → c ≤ i → ws 0 ≡ [] → puts m k (ws (c - i)) ≡ whole → m ≡ whole
unfolding puts
nothing_left {m} k ws c i h e p =
    let z : c - i ≡ 0 = omega arith in
    sym (ap (λ (l : List Word). puts m k l) (ap ws z ∙ e)) ∙ p

-- one more word: the rest of a row whose length is c - i, of which w is the first
pub one_written : (m : Memory) {n whole : Memory} (k j : ℕ) (ws : ℕ → List Word) (vs : ℕ → List Word) (w : Word) (c i : ℕ) → i < c → j ≡ suc k → ((t : ℕ) → ws (suc t) ≡ w ∷ vs t) → n ≡ put m k w → puts m k (ws (c - i)) ≡ whole → puts n j (vs (c - (i + 1))) ≡ whole
unfolding puts
one_written m k j ws vs w c i h ej e en p =
    let t : ℕ = c - (i + 1) in
    let z : c - i ≡ suc t = omega arith in
    ap₂ (λ (x : Memory) (y : ℕ). puts x y (vs t)) en ej ∙ sym (ap (λ (l : List Word). puts m k l) (ap ws z ∙ e t)) ∙ p

-- ---- a tuple
abbrev pub components : OperandTable → Memory → ℕ → ℕ → List Word
components ω R v n = map (word_of R) (operands_at ω v n)

pub length_word : (ω : OperandTable) (R m : Memory) (v n f c : ℕ) {m' : Memory} → f ≡ v → c ≡ n → m' ≡ put m 0 (integer n) → puts m' (0 + 1) (components ω R (f + 0) (c - 0)) ≡ puts m 0 (tuple_of ω R v n)
unfolding puts tuple_of
length_word ω R m v n f c {m'} ef ec em =
    let a : f + 0 ≡ v = add-zero f ∙ ef in
    let b : c - 0 ≡ n = omega arith in
    ap₂ (λ (x y : ℕ). puts m' 1 (components ω R x y)) a b ∙ ap (λ (y : Memory). puts y 1 (components ω R v n)) em

pub next_component : (ω : OperandTable) (R : Memory) (f i t : ℕ) → components ω R (f + i) (suc t) ≡ word_of R (operand_at ω (f + i)) ∷ components ω R (f + (i + 1)) t
unfolding operands_at
next_component ω R f i t =
    let q : suc (f + i) ≡ f + (i + 1) = omega arith in
    ap (λ (v : ℕ). word_of R (operand_at ω (f + i)) ∷ components ω R v t) q
