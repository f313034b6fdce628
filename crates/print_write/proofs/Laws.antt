-- Laws of bytes put into lent memory, and of numbers in decimal as std writes them.
use mathlib.Core.Path.{◌≡◌, refl, ap, sym, ◌∙◌}
use mathlib.Core.Option.{none, some}
use mathlib.Core.List.{List, [], ◌∷◌, ◌++◌, append_assoc}
use Prim.Native.Nat.{ℕ, zero, suc, ◌+◌, ◌-◌, ◌/◌, ◌%◌, ◌^◌, ◌<◌, ◌≤◌}
use native.Mathlib.Omega.{arith}
use native.Mathlib.Nat.{not-suc-le-zero}
use lib.ListN.{length, take, drop, length-append, length-take, take-append-drop}
use lib.Seq.{take_at, drop-drop}
use lib.Signed.{mag}
use borrow.Rule.Slice.PartMut.{put_mid}
use Rattle.std.proofs.lemmas.Slice.{take-put_mid, drop-put_mid}
use borrow.Author.Tests.{lt-leb, le-leb}
use Rattle.std.specs.Prelude.{ℤ, pos, negsuc, Option, Some, None, IsSome}
use Rattle.std.specs.Fmt as std
use Rattle.std.proofs.lemmas.Fmt.{decimal_by_steps}
use Rattle.print.specs.Decimal.{digit, digits_in, decimal, signed_decimal}
use Rattle.print.proofs.Decimal.{in_enough}
use Rattle.print.specs.Written.{Written, written, holding}
use Rattle.print_write.specs.Put.{Puts}
use Rattle.print_write.specs.Answers.{written_is}

-- ---- bytes
-- a part of the memory that is written over
pub part_put : (l s ys : List ℕ) (at : ℕ) → at + length s ≤ length l → ys ≡ s → Puts l at s (put_mid at (at + length s - at) l ys) (at + length s)
part_put l s ys at h e =
    let n = ap length e in
    record {
      end = refl;
      held = take-put_mid at (at + length s - at) l ys (at + length s) (omega arith) (omega arith) ∙ ap (λ (x : List ℕ). take at l ++ x) e;
      kept = drop-put_mid at (at + length s - at) l ys (at + length s) (omega arith) (omega arith) (omega arith);
    }

-- one behind the other
pub puts_behind : {l s l' t l'' : List ℕ} {at e f : ℕ} → Puts l at s l' e → Puts l' e t l'' f → Puts l at (s ++ t) l'' f
puts_behind {l} {s} {l'} {t} {l''} {at} {e} {f} p q =
    let i = p.end in
    let j = q.end in
    let k = length-append s t in
    let n = length t in
    record {
      end = omega arith;
      held = q.held ∙ ap (λ (x : List ℕ). x ++ t) p.held ∙ append_assoc (take at l) s t;
      kept =
          q.kept
          ∙ ap (λ (m : ℕ). drop m l') j
          ∙ sym (drop-drop n e l')
          ∙ ap (drop n) p.kept
          ∙ drop-drop n e l
          ∙ ap (λ (m : ℕ). drop m l) (sym j);
    }

-- a line at the start of memory that is long enough
pub put_first : (l s l' : List ℕ) (e : ℕ) → Puts l 0 s l' e → length s ≤ length l → holding (some e) l' ≡ written s l
unfolding written
put_first l s l' e p h =
    let i : e ≡ length s = p.end ∙ omega arith in
    let m : l' ≡ s ++ drop (length s) l = sym (take-append-drop e l') ∙ ap (λ (x : List ℕ). x ++ drop e l') p.held ∙ ap (λ (x : List ℕ). s ++ x) p.kept ∙ ap (λ (k : ℕ). s ++ drop k l) i in
    rw (le-leb (length s) (length l) h, i, m)

-- memory that is too short
pub not_put : (l s : List ℕ) → length l < length s → holding none l ≡ written s l
unfolding written
not_put l s h = rw (lt-leb (length s) (length l) h)

-- the part of memory that holds a line, written elsewhere
pub line_written : (l : List ℕ) (n : ℕ) (s m : List ℕ) {w : Written} → take n l ≡ s → w ≡ written (take (n - 0) (drop 0 l)) m → w ≡ written s m
line_written l n s m e h = let z : n - 0 ≡ n = omega arith in rw (← e, ← z) h

-- what stands up to n has at most n bytes
pub line_short : (l : List ℕ) (n k : ℕ) (s : List ℕ) → n ≤ k → take n l ≡ s → length s ≤ k
line_short l n k s h e = let a = length-take n l in let b = ap length e in omega arith

-- a line that there is room for is written whole
module _ (w : Option ℕ) (l l' s : List ℕ) (e : written_is w l' ≡ written s l) (h : length s ≤ length l) where
  whole : written_is w l' ≡ holding (some (length s)) (s ++ drop (length s) l)
  unfolding written
  whole = e ∙ rw (le-leb (length s) (length l) h)

  pub all_written : (n : ℕ) → w ≡ Some n → (n ≤ length l') × (take n l' ≡ s)
  all_written n q =
      let i : holding (some n) l' ≡ holding (some (length s)) (s ++ drop (length s) l) = rw q at whole in
      let a : some n ≡ some (length s) = ap (λ (x : Written). x.count) i in
      let b : n ≡ length s = cc in
      let c : l' ≡ s ++ drop (length s) l = ap (λ (x : Written). x.memory) i in
      let d = length-append s (drop (length s) l) in
      let f = ap length c in
      (omega arith, ap (take n) c ∙ take_at s (drop (length s) l) n (sym b))

  never_none : w ≡ None → ⊥
  never_none q =
      let i : holding none l' ≡ holding (some (length s)) (s ++ drop (length s) l) = rw q at whole in
      let a : none ≡ some (length s) = ap (λ (x : Written). x.count) i in
      let z : ◌≡◌ {A = ℕ} 0 1 = cc in
      omega arith

  pub some_written : IsSome w
  some_written = go w refl
    where
      go : (o : Option ℕ) → w ≡ o → IsSome o
      go (Some n) q = refl
      go None q = absurd (never_none q)

-- ---- digits
-- the digits of a number but the last are those of its tenth
more_digits : (n : ℕ) → 0 < n → digits_in n n ≡ digits_in (n / 10) (n / 10) ++ (digit (n % 10) ∷ [])
unfolding digits_in
more_digits zero h = absurd (not-suc-le-zero h)
more_digits (suc n) h = ap (λ (s : List ℕ). s ++ (digit (suc n % 10) ∷ [])) (in_enough n (suc n / 10) (suc n / 10) (omega arith) (omega arith))

-- a number above 0 is its digits
its_digits : (n : ℕ) → 0 < n → decimal n ≡ digits_in n n
unfolding decimal
its_digits zero h = absurd (not-suc-le-zero h)
its_digits (suc n) h = refl

-- one of one digit, and one of more
one_digit : (n : ℕ) → n < 10 → ((48 + n) ∷ []) ≡ decimal n
unfolding decimal digits_in digit
one_digit zero h = refl
one_digit (suc n) h =
    let q : suc n / 10 ≡ 0 = omega arith in
    let r : suc n % 10 ≡ suc n = omega arith in
    sym (its_digits (suc n) (omega arith) ∙ more_digits (suc n) (omega arith) ∙ rw (q, r) refl)

more_than_one : (n : ℕ) (s : List ℕ) → 10 ≤ n → s ≡ decimal (n / 10) → s ++ ((48 + n % 10) ∷ []) ≡ decimal n
unfolding digit
more_than_one n s h e =
    ap (λ (x : List ℕ). x ++ ((48 + n % 10) ∷ [])) (e ∙ its_digits (n / 10) (omega arith))
    ∙ sym (its_digits n (omega arith) ∙ more_digits n (omega arith))

-- what std writes of a number is what is printed
pub same_decimal : (n : ℕ) → n < 2 ^ 64 → std.decimal n ≡ decimal n
same_decimal n h = decimal_by_steps (λ m s. s ≡ decimal m) one_digit more_than_one n h

pub same_signed : (z : ℤ) → mag z < 2 ^ 63 → std.signed_decimal z ≡ signed_decimal z
unfolding signed_decimal
same_signed (pos n) h = same_decimal n (omega arith)
same_signed (negsuc n) h = ap (λ (s : List ℕ). 45 ∷ s) (same_decimal (suc n) (omega arith))

-- text of at most k bytes
pub text_put : {l s t l' : List ℕ} {at e : ℕ} (k : ℕ) → t ≡ s → length t ≤ k → Puts l at t l' e → Puts l at s l' e × (e ≤ at + k)
text_put k q h p = let i = p.end in (rw q at p, omega arith)
