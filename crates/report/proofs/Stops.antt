-- A line tells a stop exactly where the stop is found by its fields; such a line is short, and holds no LF.
use Prim.Native.Nat.{ℕ, zero, suc, ◌<◌, ◌≤◌}
use Prim.Native.Char.{code}
use native.Mathlib.Omega.{arith}
use mathlib.Core.Path.{◌≡◌, refl, ap, ap₂, sym, ◌∙◌}
use mathlib.Core.Bool.{Bool, true, false, ◌&&◌, ◌||◌, not, cond}
use mathlib.Core.Option.{Option, none, some}
use mathlib.Core.List.{List, [], ◌∷◌, ◌++◌}
use lib.Dec.{eqb, leb, ltb}
use lib.ListN.{length, length-append}
use lib.IntN.{ℤ, pos, negsuc}
use borrow.Author.Tests.{le-leb, leb-true, lt-ltb, ltb-true}
use Rattle.syntax.specs.Bits.{modulus, signed}
use Rattle.syntax.specs.Partial.{guarded}
use Rattle.text.specs.Bytes.{bytes, same_bytes, split, fields_of, is_digit, all_digits, number, literal}
use Rattle.types.proofs.Equal.{and_inv, none_true}
use Rattle.valid.proofs.Reading.{none_some, some_inj}
use Rattle.exec.specs.Machine.{int_kind, code_kind, tuple_kind, height_kind, junk_kind}
use Rattle.exec.specs.Run.{Answer, refused, halted_after, paused_after, stack_full_after, heap_full_after, stuck_after}
use Rattle.calls.proofs.All.{All, chain_inv, guarded_inv}
use Rattle.print.specs.Decimal.{decimal, signed_decimal}
use Rattle.print.specs.Lines.{parted, refusal, kind_name, stop_fields, answer_fields}
use Rattle.print.proofs.Decimal.{decimal_digits, decimal_long}
use Rattle.print.proofs.Signed.{number_back, number_only, literal_back, literal_only, literal_long}
use Rattle.report.specs.Stops.{most_steps, word_fits, permitted, Tells, kind_of, plain_stop, halt_with, halt_of, stop_in, stop_of}
use Rattle.report.proofs.Fields.{same_bytes_lem, lacks, past_comma, split_behind, parted_fields, fields_parted, parted_lacks}

-- ---- names
-- what the name w stands for, or else what o finds
named : {A Q : Type 0} (s w : List ℕ) (x : A) (o : Option A) (y : A)
    → cond (same_bytes s w) (some x) o ≡ some y → (s ≡ w → x ≡ y → Q) → (o ≡ some y → Q) → Q
named {Q = Q} s w x o y e f g = go (same_bytes s w) refl e
  where
    go : (t : Bool) → same_bytes s w ≡ t → cond t (some x) o ≡ some y → Q
    go true z e = f (same_bytes_lem s w z) (some_inj e)
    go false z e = g e

-- the last name
lastly : {A : Type 0} (s w : List ℕ) (x y : A) → guarded (same_bytes s w) x ≡ some y → (s ≡ w) × (x ≡ y)
lastly s w x y e = let j = guarded_inv (same_bytes s w) x y e in (same_bytes_lem s w j.0, j.1)

-- ---- kinds
-- what each kind's name has
each_kind : (Q : List ℕ → Type 0) → Q (bytes "int") → Q (bytes "code") → Q (bytes "tuple") → Q (bytes "height") → Q (bytes "junk")
    → (k : ℕ) → Q (kind_name k)
unfolding kind_name
each_kind Q a b c d e k = go (eqb k int_kind) a (go (eqb k code_kind) b (go (eqb k tuple_kind) c (go (eqb k height_kind) d e)))
  where
    go : (t : Bool) {x y : List ℕ} → Q x → Q y → Q (cond t x y)
    go true h k = h
    go false h k = k

-- a kind is read from its name
kind_back : (k : ℕ) → k ≤ junk_kind → kind_of (kind_name k) ≡ some k
unfolding kind_of kind_name same_bytes bytes
kind_back zero h = refl
kind_back (suc zero) h = refl
kind_back (suc (suc zero)) h = refl
kind_back (suc (suc (suc zero))) h = refl
kind_back (suc (suc (suc (suc zero)))) h = refl
kind_back (suc (suc (suc (suc (suc k))))) h = absurd (omega arith)

-- and from nothing else
kind_only : (s : List ℕ) (k : ℕ) → kind_of s ≡ some k → s ≡ kind_name k
unfolding kind_of kind_name
kind_only s k e =
    named s (bytes "int") int_kind _ k e (λ h z. rw (← z) h) (λ e.
    named s (bytes "code") code_kind _ k e (λ h z. rw (← z) h) (λ e.
    named s (bytes "tuple") tuple_kind _ k e (λ h z. rw (← z) h) (λ e.
    named s (bytes "height") height_kind _ k e (λ h z. rw (← z) h) (λ e.
    let j = lastly s (bytes "junk") junk_kind k e in rw (← j.1) j.0))))

-- ---- fields hold neither comma nor LF
digits_past : (s : List ℕ) → all_digits s ≡ true → past_comma s ≡ true
unfolding all_digits is_digit past_comma
digits_past [] e = refl
digits_past (b ∷ s) e =
    let j = and_inv (is_digit b) (all_digits s) e in
    let l = leb-true (code "0") b (and_inv (leb (code "0") b) (leb b (code "9")) j.0).0 in
    rw (lt-ltb (code ",") b (omega arith)) (digits_past s j.1)

decimal_past : (n : ℕ) → past_comma (decimal n) ≡ true
decimal_past n = digits_past (decimal n) (decimal_digits n)

signed_past : (z : ℤ) → past_comma (signed_decimal z) ≡ true
unfolding signed_decimal past_comma
signed_past (pos n) = decimal_past n
signed_past (negsuc n) = decimal_past (suc n)

fields_past : (a : Answer) → All (λ f. past_comma f ≡ true) (answer_fields a)
unfolding answer_fields refusal stop_fields past_comma bytes
fields_past (refused n line) = (refl, (decimal_past n, (decimal_past line, tt)))
fields_past (halted_after steps kind bits) =
    (refl, (decimal_past steps, (each_kind (λ s. past_comma s ≡ true) refl refl refl refl refl kind, (signed_past (signed bits), tt))))
fields_past (paused_after steps) = (refl, (decimal_past steps, tt))
fields_past (stack_full_after steps) = (refl, (decimal_past steps, tt))
fields_past (heap_full_after steps) = (refl, (decimal_past steps, tt))
fields_past (stuck_after steps) = (refl, (decimal_past steps, tt))

-- so the line's fields are the stop's
fields_back : (a : Answer) → fields_of (parted (answer_fields a)) ≡ answer_fields a
unfolding answer_fields refusal stop_fields
fields_back (refused n line) = fields_parted _ _ (fields_past (refused n line))
fields_back (halted_after steps kind bits) = fields_parted _ _ (fields_past (halted_after steps kind bits))
fields_back (paused_after steps) = fields_parted _ _ (fields_past (paused_after steps))
fields_back (stack_full_after steps) = fields_parted _ _ (fields_past (stack_full_after steps))
fields_back (heap_full_after steps) = fields_parted _ _ (fields_past (heap_full_after steps))
fields_back (stuck_after steps) = fields_parted _ _ (fields_past (stuck_after steps))

-- ---- found by its fields
-- what permits a halt
record Fits (steps kind bits : ℕ) : Type 0 where
  few : leb steps most_steps ≡ true
  word : word_fits kind bits ≡ true
  known : kind ≤ junk_kind
  small : bits < modulus

fits : (steps kind bits : ℕ) → permitted (halted_after steps kind bits) ≡ true → Fits steps kind bits
unfolding permitted word_fits
fits steps kind bits h =
    let j = and_inv (leb steps most_steps) (word_fits kind bits) h in
    let i = and_inv (leb kind junk_kind && ltb bits modulus) (not (eqb kind junk_kind) || eqb bits 0) j.1 in
    let k = and_inv (leb kind junk_kind) (ltb bits modulus) i.0 in
    record { few = j.0; word = j.1; known = leb-true kind junk_kind k.0; small = ltb-true bits modulus k.1 }

steps_back : (steps : ℕ) → leb steps most_steps ≡ true → number 0 most_steps (decimal steps) ≡ some steps
steps_back steps h = number_back 0 most_steps steps (omega arith) (leb-true steps most_steps h)

found : (a : Answer) → permitted a ≡ true → stop_in (answer_fields a) ≡ some a
unfolding permitted stop_in answer_fields stop_fields plain_stop halt_of halt_with same_bytes bytes
found (refused n line) h = none_true h
found (halted_after steps kind bits) h =
    let f = fits steps kind bits h in
    rw (steps_back steps f.few, kind_back kind f.known, literal_back bits f.small, f.word)
found (paused_after steps) h = rw (steps_back steps h)
found (stack_full_after steps) h = rw (steps_back steps h)
found (heap_full_after steps) h = rw (steps_back steps h)
found (stuck_after steps) h = rw (steps_back steps h)

-- the fields are those of the stop, which is permitted
abbrev Told : List (List ℕ) → Answer → Type 0
Told fs a = (fs ≡ answer_fields a) × (permitted a ≡ true)

-- with two fields
plain_told : (w n : List ℕ) (steps : ℕ) (a : Answer) → n ≡ decimal steps → steps ≤ most_steps → plain_stop w steps ≡ some a → Told (w ∷ n ∷ []) a
unfolding plain_stop answer_fields stop_fields permitted
plain_told w n steps a d l e =
    let p = le-leb steps most_steps l in
    named w (bytes "paused") (paused_after steps) _ a e (λ h z. rw (← z) (rw (h, d), p)) (λ e.
    named w (bytes "stack") (stack_full_after steps) _ a e (λ h z. rw (← z) (rw (h, d), p)) (λ e.
    named w (bytes "heap") (heap_full_after steps) _ a e (λ h z. rw (← z) (rw (h, d), p)) (λ e.
    let j = lastly w (bytes "stuck") (stuck_after steps) a e in rw (← j.1) (rw (j.0, d), p))))

-- with four
halt_told : (w n k m : List ℕ) (a : Answer) → w ≡ bytes "halted" → halt_of n k m ≡ some a → Told (w ∷ n ∷ k ∷ m ∷ []) a
unfolding halt_of halt_with answer_fields permitted
halt_told w n k m a h e =
    let j = chain_inv (number 0 most_steps n) _ a e in
    let i = chain_inv (kind_of k) _ a j.2 in
    let b = chain_inv (literal m) _ a i.2 in
    let g = guarded_inv (word_fits i.0 b.0) (halted_after j.0 i.0 b.0) a b.2 in
    let p = number_only 0 most_steps n j.0 j.1 in
    let q = ap₂ ◌∷◌ (kind_only k i.0 i.1) (ap (λ (z : List ℕ). z ∷ []) (literal_only m b.0 b.1).0) in
    rw (← g.1) (ap₂ ◌∷◌ h (ap₂ ◌∷◌ p.0 q), rw (le-leb j.0 most_steps p.2) g.0)

told : (fs : List (List ℕ)) (a : Answer) → stop_in fs ≡ some a → Told fs a
unfolding stop_in
told [] a e = none_some e
told (w ∷ []) a e = none_some e
told (w ∷ n ∷ []) a e =
    let j = chain_inv (number 0 most_steps n) (plain_stop w) a e in
    let k = number_only 0 most_steps n j.0 j.1 in
    plain_told w n j.0 a k.0 k.2 j.2
told (w ∷ n ∷ k ∷ []) a e = none_some e
told (w ∷ n ∷ k ∷ m ∷ []) a e = go (same_bytes w (bytes "halted")) refl e
  where
    go : (t : Bool) → same_bytes w (bytes "halted") ≡ t → cond t (halt_of n k m) none ≡ some a → Told (w ∷ n ∷ k ∷ m ∷ []) a
    go true z e = halt_told w n k m a (same_bytes_lem w (bytes "halted") z) e
    go false z e = none_some e
told (w ∷ n ∷ k ∷ m ∷ f ∷ fs) a e = none_some e

-- ---- its length
steps_long : (steps : ℕ) → leb steps most_steps ≡ true → length (decimal steps) ≤ 7
steps_long steps h = let l = leb-true steps most_steps h in decimal_long 6 steps (omega arith)

kind_long : (k : ℕ) → length (kind_name k) ≤ 6
unfolding bytes
kind_long k = each_kind (λ s. length s ≤ 6) (omega arith) (omega arith) (omega arith) (omega arith) (omega arith) k

short : (a : Answer) → permitted a ≡ true → length (parted (answer_fields a)) ≤ 33
unfolding permitted parted answer_fields stop_fields bytes
short (refused n line) h = none_true h
short (halted_after steps kind bits) h =
    let f = fits steps kind bits h in
    let d = steps_long steps f.few in
    let n = kind_long kind in
    let l = literal_long bits f.small in
    let p = length-append (kind_name kind) (code "," ∷ signed_decimal (signed bits)) in
    let q = length-append (decimal steps) (code "," ∷ (kind_name kind ++ (code "," ∷ signed_decimal (signed bits)))) in
    omega arith
short (paused_after steps) h = let d = steps_long steps h in omega arith
short (stack_full_after steps) h = let d = steps_long steps h in omega arith
short (heap_full_after steps) h = let d = steps_long steps h in omega arith
short (stuck_after steps) h = let d = steps_long steps h in omega arith

-- ---- what is promised
-- the stop that is found is the one that the line tells
pub stop_exactly : (s : List ℕ) (a : Answer) → (stop_of s ≡ some a → Tells s a) × (Tells s a → stop_of s ≡ some a)
unfolding stop_of
stop_exactly s a = (
  λ e. let t = told (fields_of s) a e in (sym (parted_fields s) ∙ ap parted t.0, t.1),
  λ t. rw (t.0, fields_back a) (found a t.1),
)

-- a line that tells a stop has at most 33 bytes
pub stop_short : (s : List ℕ) (a : Answer) → stop_of s ≡ some a → length s ≤ 33
stop_short s a e = let t = (stop_exactly s a).0 e in rw t.0 (short a t.1)

-- and holds no LF
pub no_break : (s : List ℕ) (a : Answer) → Tells s a → lacks (code "\n") s ≡ true
no_break s a t = rw t.0 (parted_lacks (answer_fields a) (fields_past a))

-- a line without LF is parted from what follows its LF
pub line_behind : (s t : List ℕ) → lacks (code "\n") s ≡ true → split (code "\n") (s ++ (code "\n" ∷ t)) ≡ s ∷ split (code "\n") t
line_behind s t h = split_behind (code "\n") s t h
