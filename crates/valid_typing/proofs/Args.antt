-- Rows that an instruction gives, and arguments.
use Prim.Native.Nat.{ℕ, zero, suc, ◌+◌, ◌-◌, ◌≤◌, ◌<◌}
use native.Mathlib.Omega.{arith}
use native.Mathlib.Nat.{add-zero, sub-zero}
use mathlib.Core.Path.{◌≡◌, refl, ap, ap₂, sym, ◌∙◌}
use mathlib.Core.Bool.{Bool, true, false, ◌&&◌, and-true, not, cond}
use mathlib.Core.Option.{none}
use mathlib.Core.List.{List, [], ◌∷◌, ◌++◌, map, map-append, reverse, reverse_aux, reverse-append}
use lib.Dec.{ltb, eqb, eqb-suc-zero}
use lib.ListN.{length, get_or, take, drop, set, length-set, drop_of_length-le, length-map, get_or-eq_default}
use lib.Seq.{length-take-le, take-set-lt, drop-set-lt, drop-cons, get_or-set_same}
use borrow.Author.Tests.{lt-ltb, le-ltb, ltb-true, ltb-false, le-leb, lt-leb}
use Rattle.syntax.specs.Partial.{guarded}
use Rattle.syntax.specs.Syntax.{Kind, value, stack}
use Rattle.types.specs.Types.{junk, Arg, arg, kind_of, of_kind, a_stack}
use Rattle.types.specs.Rows.{type_at, types_of, all_below}
use Rattle.types.specs.Equal.{same_letters}
use Rattle.types.proofs.Equal.{and_inv}
use Rattle.tables.specs.Tables.{span, letter_of, letters_at, rows_in}
use Rattle.tables.proofs.Steps.{span_step}
use Rattle.valid.specs.Program.{Program, type_of, args_of}
use Rattle.valid.specs.Tests.{is_formed, formed_arg, formed_args, letters_left}
use Rattle.valid.specs.PassThree.{formed}
use Rattle.types_rows.specs.Read.{tab, mean_v, mean_s, value_at, value_with, build_v, is_stack_at, arg_of}
use Rattle.types_rows.specs.declared.Val.TheVariants.{ValVar, Junk}
use Rattle.types_rows.proofs.Laws.{value_is}
use Rattle.types_rows.proofs.Bridge.{arg_at, length_types}
use Rattle.valid_context.specs.Told.{told_of, answer}
use Rattle.valid_typing.specs.Typing.{types_in, Ready, given_row, given_arg, args_in, fits_letter}
use Rattle.valid_typing.proofs.Judging.{needs}

-- ---- given rows
module _ (rows parts : List ℕ) (n : ℕ) where
  junk_arg : Ready rows parts n → arg_of (tab rows parts) (n + 1) ≡ arg value junk
  unfolding arg_of
  junk_arg r = rw r.junk_row (ap (arg value) (value_is (tab rows parts) (suc (n + 1)) ∙ ap (build_v (mean_v (tab rows parts)) (mean_s (tab rows parts)) parts (suc (n + 1))) junk_form))
    where
      junk_form : value_at rows ValVar (suc (n + 1)) ≡ Junk
      junk_form = rw r.junk_row (unfold value_with in refl)

  pub past_arg : (t : ℕ) → n ≤ t → given_arg rows parts n t ≡ arg value junk
  past_arg t l = let g = length_types (tab rows parts) n in get_or-eq_default (types_of (rows_in (tab rows parts) n)) (arg value junk) (omega arith)

  pub given_low : (t : ℕ) → t < n → get_or (types_in rows parts n) t (arg value junk) ≡ given_arg rows parts n t
  given_low t l = arg_at (tab rows parts) (n + 2) t (omega arith) ∙ sym (arg_at (tab rows parts) n t l)

  pub given_past : (t : ℕ) → n ≤ t → Ready rows parts n → get_or (types_in rows parts n) (n + 1) (arg value junk) ≡ given_arg rows parts n t
  given_past t l r = arg_at (tab rows parts) (n + 2) (n + 1) (omega arith) ∙ junk_arg r ∙ sym (past_arg t l)

  pub given_is : (t : ℕ) → Ready rows parts n → get_or (types_in rows parts n) (given_row n t) (arg value junk) ≡ given_arg rows parts n t
  unfolding given_row
  given_is t r = go (ltb t n) refl
    where
      go : (b : Bool) → ltb t n ≡ b → get_or (types_in rows parts n) (cond b t (n + 1)) (arg value junk) ≡ given_arg rows parts n t
      go true e = given_low t (ltb-true t n e)
      go false e = given_past t (ltb-false t n e) r

  -- ---- formed rows
  pub past_formed : (Δ : List Kind) (t : ℕ) → n ≤ t → true ≡ formed_arg Δ (given_arg rows parts n t)
  past_formed Δ t l = rw (past_arg t l) (unfold formed_arg is_formed in refl)

  -- which kind
  pub kind_low : (t : ℕ) (b : Bool) → t < n → b ≡ is_stack_at rows t → kind_of (given_arg rows parts n t) ≡ cond b stack value
  kind_low t b l e = ap kind_of (arg_at (tab rows parts) n t l) ∙ unfold arg_of in rw (← e) (go b)
    where
      go : (b : Bool) → kind_of (cond b (arg stack (mean_s (tab rows parts) (suc t))) (arg value (mean_v (tab rows parts) (suc t)))) ≡ cond b stack value
      go true = unfold kind_of in refl
      go false = unfold kind_of in refl

  pub kind_past : (t : ℕ) → n ≤ t → kind_of (given_arg rows parts n t) ≡ value
  kind_past t l = ap kind_of (past_arg t l) ∙ unfold kind_of in refl

formed_of : (Δ : List Kind) (a : Arg) → kind_of a ≡ value → is_formed Δ a_stack (of_kind value a) ≡ formed_arg Δ a
unfolding kind_of of_kind formed_arg
formed_of Δ (arg value t) e = refl
formed_of Δ (arg stack t) e = let z : ◌≡◌ {A = ℕ} 0 1 = cc in absurd (omega arith)

formed_stack : (Δ : List Kind) (a : Arg) → kind_of a ≡ stack → is_formed Δ a_stack (of_kind value a) ≡ true
unfolding kind_of of_kind is_formed
formed_stack Δ (arg value t) e = let z : ◌≡◌ {A = ℕ} 0 1 = cc in absurd (omega arith)
formed_stack Δ (arg stack t) e = refl

module _ (rows parts : List ℕ) (n : ℕ) (P : Program) (Δ : List Kind) (t : ℕ) (e : P.types ≡ types_of (rows_in (tab rows parts) n)) where
  pub given_type : type_of P t ≡ of_kind value (given_arg rows parts n t)
  unfolding type_at
  given_type = ap (λ A. of_kind value (get_or A t (arg value junk))) e

  pub given_typed : (r : ℕ) → get_or (types_in rows parts n) r (arg value junk) ≡ given_arg rows parts n t → type_of P t ≡ type_at value (types_in rows parts n) r
  given_typed r h = given_type ∙ ap (of_kind value) (sym h) ∙ unfold type_at in refl

  pub formed_other : kind_of (given_arg rows parts n t) ≡ stack → told_of (formed P Δ t) ≡ answer 0 tt
  unfolding formed
  formed_other k = needs 6 _ true (sym (ap (is_formed Δ a_stack) given_type ∙ formed_stack Δ (given_arg rows parts n t) k))

  pub formed_told : (b : Bool) → kind_of (given_arg rows parts n t) ≡ value → b ≡ formed_arg Δ (given_arg rows parts n t) → told_of (formed P Δ t) ≡ answer (cond b 0 7) tt
  unfolding formed
  formed_told b k h = needs 6 _ b (h ∙ sym (ap (is_formed Δ a_stack) given_type ∙ formed_of Δ (given_arg rows parts n t) k))

-- ---- arguments in the order in which they are written, and in the order of their variables
and_turn : (x y z : Bool) → x && (y && z) ≡ (y && x) && z
and_turn true true z = refl
and_turn true false z = refl
and_turn false true z = refl
and_turn false false z = refl

formed_back : (Δ : List Kind) (A B : List Arg) → formed_args Δ (reverse_aux A B) ≡ formed_args Δ A && formed_args Δ B
unfolding formed_args
formed_back Δ [] B = refl
formed_back Δ (a ∷ A) B = formed_back Δ A (a ∷ B) ∙ and_turn (formed_args Δ A) (formed_arg Δ a) (formed_args Δ B)

formed_reverse : (Δ : List Kind) (A : List Arg) → formed_args Δ (reverse A) ≡ formed_args Δ A
unfolding formed_args
formed_reverse Δ A = formed_back Δ A [] ∙ and-true (formed_args Δ A)

below_back : (n : ℕ) (a b : List ℕ) → all_below n (reverse_aux a b) ≡ all_below n a && all_below n b
unfolding all_below
below_back n [] b = refl
below_back n (x ∷ a) b = below_back n a (x ∷ b) ∙ and_turn (all_below n a) (ltb x n) (all_below n b)

map_back : {A B : Type 0} (f : A → B) (l r : List A) → map f (reverse_aux l r) ≡ reverse_aux (map f l) (map f r)
map_back f [] r = refl
map_back f (x ∷ l) r = map_back f l (x ∷ r)

map_same : {A B : Type 0} (f g : A → B) (h : (x : A) → f x ≡ g x) (l : List A) → map f l ≡ map g l
map_same f g h [] = refl
map_same f g h (x ∷ l) = ap₂ ◌∷◌ (h x) (map_same f g h l)

map_twice : {A B C : Type 0} (g : B → C) (f : A → B) (l : List A) → map g (map f l) ≡ map (λ x. g (f x)) l
map_twice g f [] = refl
map_twice g f (x ∷ l) = ap (◌∷◌ (g (f x))) (map_twice g f l)

-- ---- the loop over written arguments
module _ (rows parts : List ℕ) (n : ℕ) (Δ : List Kind) (args : List ℕ) (at c : ℕ) where
  abbrev pub RestFormed : ℕ → Type 0
  RestFormed i = formed_args Δ (map (given_arg rows parts n) (span args (at + i) (c - i))) ≡ formed_args Δ (args_in rows parts n (span args at c))

  pub rest_first : RestFormed 0
  rest_first = rw (add-zero, sub-zero) (sym (formed_reverse Δ (map (given_arg rows parts n) (span args at c))))

  rest_on : (i : ℕ) → i < c → formed_args Δ (map (given_arg rows parts n) (span args (at + i) (c - i))) ≡ formed_arg Δ (given_arg rows parts n (get_or args (at + i) 0)) && formed_args Δ (map (given_arg rows parts n) (span args (at + (i + 1)) (c - (i + 1))))
  rest_on i l = ap (λ ts. formed_args Δ (map (given_arg rows parts n) ts)) (span_step args at i c l) ∙ unfold formed_args in refl

  pub rest_next : (i : ℕ) {b : Bool} → i < c → RestFormed i → b ≡ formed_arg Δ (given_arg rows parts n (get_or args (at + i) 0)) → b ≡ true → RestFormed (i + 1)
  rest_next i l r e z = ap (λ (b : Bool). b && formed_args Δ (map (given_arg rows parts n) (span args (at + (i + 1)) (c - (i + 1))))) (sym (sym e ∙ z)) ∙ sym (rest_on i l) ∙ r

  pub rest_fails : (i : ℕ) {b : Bool} → i < c → RestFormed i → b ≡ formed_arg Δ (given_arg rows parts n (get_or args (at + i) 0)) → b ≡ false → false ≡ formed_args Δ (args_in rows parts n (span args at c))
  rest_fails i l r e z = sym (sym r ∙ rest_on i l ∙ ap (λ (b : Bool). b && formed_args Δ (map (given_arg rows parts n) (span args (at + (i + 1)) (c - (i + 1))))) (sym e ∙ z))

  pub rest_done : (i : ℕ) → c ≤ i → RestFormed i → true ≡ formed_args Δ (args_in rows parts n (span args at c))
  rest_done i l r = let q : c - i ≡ 0 = omega arith in sym (ap (λ (k : ℕ). formed_args Δ (map (given_arg rows parts n) (span args (at + i) k))) q ∙ unfold span formed_args in refl) ∙ r

pub args_are : (rows parts : List ℕ) (n : ℕ) (P : Program) (ts : List ℕ) → P.types ≡ types_of (rows_in (tab rows parts) n) → args_of P ts ≡ args_in rows parts n ts
args_are rows parts n P ts e = ap (λ A. reverse (map (λ t. get_or A t (arg value junk)) ts)) e

-- ---- the arguments written down in the order of their variables
span_snoc : (l : List ℕ) (i n : ℕ) → span l i (suc n) ≡ span l i n ++ get_or l (i + n) 0 ∷ []
unfolding span
span_snoc l i zero = rw add-zero
span_snoc l i (suc n) = let q : suc i + n ≡ i + suc n = omega arith in ap (◌∷◌ (get_or l i 0)) (span_snoc l (suc i) n ∙ ap (λ (j : ℕ). span l (suc i) n ++ get_or l j 0 ∷ []) q)

module _ (n : ℕ) (args : List ℕ) (at c : ℕ) where
  abbrev pub Back : List ℕ → ℕ → Type 0
  Back l i = drop (c - i) (take c l) ≡ reverse (map (given_row n) (span args at i))

  pub back_none : (l : List ℕ) → c ≤ length l → Back l 0
  unfolding span
  back_none l h =
      let k = length-take-le c l h in
      let q : length (take c l) ≤ c = omega arith in
      rw sub-zero (drop_of_length-le (take c l) q)

  pub back_next : (l : List ℕ) (i x : ℕ) → i < c → c ≤ length l → x ≡ given_row n (get_or args (at + i) 0) → Back l i → Back (set l (c - i - 1) x) (i + 1)
  back_next l i x h q e b =
      let p : c - (i + 1) ≡ c - i - 1 = omega arith in
      let o : i + 1 ≡ suc i = omega arith in
      let s : suc (c - i - 1) ≡ c - i = omega arith in
      let k = length-take-le c l q in
      let m = length-set (take c l) (c - i - 1) x in
      let j : c - i - 1 < length (set (take c l) (c - i - 1) x) = omega arith in
      rw (p, o, take-set-lt c l (c - i - 1) x (omega arith), drop-cons (set (take c l) (c - i - 1) x) (c - i - 1) 0 j, get_or-set_same (take c l) (c - i - 1) x 0 (omega arith), drop-set-lt (suc (c - i - 1)) (take c l) (c - i - 1) x (omega arith), s)
      (ap₂ ◌∷◌ e b ∙ sym (ap (λ ts. reverse (map (given_row n) ts)) (span_snoc args at i) ∙ ap reverse (map-append (given_row n) (span args at i) (get_or args (at + i) 0 ∷ [])) ∙ reverse-append (map (given_row n) (span args at i)) (given_row n (get_or args (at + i) 0) ∷ [])))

  pub back_all : (l : List ℕ) (i : ℕ) → i ≤ c → c ≤ i → Back l i → take c l ≡ reverse (map (given_row n) (span args at c))
  back_all l i h q b =
      let p : c - i ≡ 0 = omega arith in
      let o : i ≡ c = omega arith in
      rw (p, o) at b

given_below : (n t : ℕ) → ltb (given_row n t) (n + 2) ≡ true
unfolding given_row
given_below n t = go (ltb t n) refl
  where
    go : (b : Bool) → ltb t n ≡ b → ltb (cond b t (n + 1)) (n + 2) ≡ true
    go true e = let l = ltb-true t n e in lt-ltb t (n + 2) (omega arith)
    go false e = lt-ltb (n + 1) (n + 2) (omega arith)

all_given : (n : ℕ) (ts : List ℕ) → all_below (n + 2) (map (given_row n) ts) ≡ true
unfolding all_below
all_given n [] = refl
all_given n (t ∷ ts) = rw (given_below n t) (all_given n ts)

pub back_below : (n : ℕ) (ts : List ℕ) {l : List ℕ} → l ≡ reverse (map (given_row n) ts) → all_below (n + 2) l ≡ true
back_below n ts e = rw (e, below_back (n + 2) (map (given_row n) ts) [], all_given n ts) (unfold all_below in refl)

pub back_args : (rows parts : List ℕ) (n : ℕ) (ts : List ℕ) {l : List ℕ} → Ready rows parts n → l ≡ reverse (map (given_row n) ts) → map (λ x. get_or (types_in rows parts n) x (arg value junk)) l ≡ args_in rows parts n ts
back_args rows parts n ts r e =
    ap (map (λ x. get_or (types_in rows parts n) x (arg value junk))) e ∙ map_back (λ x. get_or (types_in rows parts n) x (arg value junk)) (map (given_row n) ts) []
    ∙ ap reverse (map_twice (λ x. get_or (types_in rows parts n) x (arg value junk)) (given_row n) ts ∙ map_same _ (given_arg rows parts n) (λ t. given_is rows parts n t r) ts)

-- ---- letters
fits_letter_lem : (b : Bool) (x : ℕ) (p q : List Kind) → same_letters (cond b stack value ∷ p) (letter_of x ∷ q) ≡ fits_letter b x && same_letters p q
unfolding same_letters letter_of fits_letter
fits_letter_lem true zero p q = refl
fits_letter_lem true (suc x) p q = refl
fits_letter_lem false zero p q = refl
fits_letter_lem false (suc x) p q = refl

pub letter_stack : (b : Bool) (x : ℕ) → b ≡ true → not (eqb x 0) ≡ fits_letter b x
unfolding fits_letter
letter_stack b zero e = rw e
letter_stack b (suc x) e = rw (e, eqb-suc-zero x)

pub letter_value : (b : Bool) (x : ℕ) → b ≡ false → eqb x 0 ≡ fits_letter b x
unfolding fits_letter
letter_value b zero e = rw e
letter_value b (suc x) e = rw (e, eqb-suc-zero x)

length_span : (l : List ℕ) (i n : ℕ) → length (span l i n) ≡ n
unfolding span
length_span l i zero = refl
length_span l i (suc n) = ap suc (length_span l (suc i) n)

drop_span : (l : List ℕ) (i n m : ℕ) → drop m (span l i n) ≡ span l (i + m) (n - m)
unfolding span
drop_span l i n zero = rw (add-zero, sub-zero)
drop_span l i zero (suc m) = let q : 0 - suc m ≡ 0 = omega arith in rw q
drop_span l i (suc n) (suc m) = let q : suc n - suc m ≡ n - m = omega arith in let p : i + suc m ≡ suc i + m = omega arith in rw (q, p) (drop_span l (suc i) n m)

drop_map : {A B : Type 0} (f : A → B) (m : ℕ) (l : List A) → drop m (map f l) ≡ map f (drop m l)
drop_map f zero l = refl
drop_map f (suc m) [] = refl
drop_map f (suc m) (x ∷ l) = drop_map f m l

below_at : (n : ℕ) (l : List ℕ) (j : ℕ) → all_below n l ≡ true → j < length l → get_or l j 0 < n
unfolding all_below
below_at n [] j e h = absurd (omega arith)
below_at n (x ∷ l) zero e h = ltb-true x n (and_inv (ltb x n) (all_below n l) e).0
below_at n (x ∷ l) (suc j) e h = below_at n l j (and_inv (ltb x n) (all_below n l) e).1 (omega arith)

kind_at : (rows parts : List ℕ) (n r : ℕ) (b : Bool) → r < n + 2 → b ≡ is_stack_at rows r → kind_of (get_or (types_in rows parts n) r (arg value junk)) ≡ cond b stack value
kind_at rows parts n r b l e = ap kind_of (arg_at (tab rows parts) (n + 2) r l) ∙ unfold arg_of in rw (← e) (go b)
  where
    go : (b : Bool) → kind_of (cond b (arg stack (mean_s (tab rows parts) (suc r))) (arg value (mean_v (tab rows parts) (suc r)))) ≡ cond b stack value
    go true = unfold kind_of in refl
    go false = unfold kind_of in refl

-- the letters that arguments fill, from the first variable on
module _ (rows parts : List ℕ) (n : ℕ) (args : List ℕ) (p k : ℕ) where
  abbrev kinds : ℕ → List Kind
  kinds j = map (λ x. kind_of (get_or (types_in rows parts n) x (arg value junk))) (drop j args)

  abbrev letters : ℕ → List Kind
  letters j = drop (k - length args + j) (letters_at parts p)

  abbrev pub RestFit : ℕ → Type 0
  RestFit j = same_letters (map kind_of (map (λ x. get_or (types_in rows parts n) x (arg value junk)) args)) (drop (k - length args) (letters_at parts p)) ≡ same_letters (kinds j) (letters j)

  pub fit_first : RestFit 0
  fit_first = rw (add-zero, map_twice kind_of (λ x. get_or (types_in rows parts n) x (arg value junk)) args)

module _ (rows parts : List ℕ) (n : ℕ) (args : List ℕ) (p k : ℕ) (below : all_below (n + 2) args ≡ true) (count : k ≡ get_or parts (p + 8) 0) where
  letter_on : (m : ℕ) → m < k → drop m (letters_at parts p) ≡ letter_of (get_or parts (p + 9 + m) 0) ∷ drop (suc m) (letters_at parts p)
  unfolding letters_at
  letter_on m l =
      let q : k - m ≡ suc (k - suc m) = omega arith in
      let o : p + 9 + suc m ≡ suc (p + 9 + m) = omega arith in
      rw (← count, drop_map letter_of m (span parts (p + 9) k), drop_map letter_of (suc m) (span parts (p + 9) k), drop_span parts (p + 9) k m, drop_span parts (p + 9) k (suc m), q, o) (unfold span in refl)

  fit_on : (j : ℕ) (b : Bool) → j < length args → length args ≤ k → b ≡ is_stack_at rows (get_or args j 0) → RestFit rows parts n args p k j
      → same_letters (map kind_of (map (λ x. get_or (types_in rows parts n) x (arg value junk)) args)) (drop (k - length args)
      (letters_at parts p)) ≡ fits_letter b (get_or parts (p + 9 + (k - length args + j)) 0) && same_letters (kinds rows parts n args p k
      (suc j)) (letters rows parts n args p k (suc j))
  fit_on j b l h e r =
      let f = below_at (n + 2) args j below l in
      let q : k - length args + suc j ≡ suc (k - length args + j) = omega arith in
      r ∙ rw (drop-cons args j 0 l, letter_on (k - length args + j) (omega arith), kind_at rows parts n (get_or args j 0) b f e, q) (fits_letter_lem b (get_or parts (p + 9 + (k - length args + j)) 0) (kinds rows parts n args p k (suc j)) (drop (suc (k - length args + j)) (letters_at parts p)))

  pub fit_next : (j : ℕ) (b : Bool) {v : Bool} → j < length args → length args ≤ k → b ≡ is_stack_at rows (get_or args j 0) → RestFit rows parts n args p k j → v ≡ fits_letter b (get_or parts (p + 9 + (k - length args + j)) 0) → v ≡ true → RestFit rows parts n args p k (j + 1)
  fit_next j b l h e r f z = let q : j + 1 ≡ suc j = omega arith in rw q (fit_on j b l h e r ∙ ap (λ (w : Bool). w && same_letters (kinds rows parts n args p k (suc j)) (letters rows parts n args p k (suc j))) (sym f ∙ z))

  pub fit_fails : (j : ℕ) (b : Bool) {v : Bool} → j < length args → length args ≤ k → b ≡ is_stack_at rows (get_or args j 0) → RestFit rows parts n args p k j → v ≡ fits_letter b (get_or parts (p + 9 + (k - length args + j)) 0) → v ≡ false
      → same_letters (map kind_of (map (λ x. get_or (types_in rows parts n) x (arg value junk)) args)) (drop (k - length args) (letters_at parts p)) ≡ false
  fit_fails j b l h e r f z = fit_on j b l h e r ∙ ap (λ (w : Bool). w && same_letters (kinds rows parts n args p k (suc j)) (letters rows parts n args p k (suc j))) (sym f ∙ z)

  length_letters : length (letters_at parts p) ≡ k
  unfolding letters_at
  length_letters = rw (← count) (length-map (span parts (p + 9) k) letter_of ∙ length_span parts (p + 9) k)

  pub fit_all : (j : ℕ) → j ≤ length args → length args ≤ j → length args ≤ k → RestFit rows parts n args p k j → same_letters (map kind_of (map (λ x. get_or (types_in rows parts n) x (arg value junk)) args)) (drop (k - length args) (letters_at parts p)) ≡ true
  fit_all j l g h r =
      let m = length_letters in
      let o : length args ≤ j = g in
      let w : length (letters_at parts p) ≤ k - length args + j = omega arith in
      r ∙ rw (drop_of_length-le args o, drop_of_length-le (letters_at parts p) w) (unfold same_letters in refl)

  -- the letters left
  abbrev A : List Arg
  A = map (λ x. get_or (types_in rows parts n) x (arg value junk)) args

  pub left_few : k < length args → letters_left A (letters_at parts p) ≡ none
  unfolding letters_left
  left_few l = let a = length-map args (λ x. get_or (types_in rows parts n) x (arg value junk)) in let m = length_letters in rw (lt-leb (length A) (length (letters_at parts p)) (omega arith))

  pub left_is : (v : Bool) → length args ≤ k → same_letters (map kind_of A) (drop (k - length args) (letters_at parts p)) ≡ v → letters_left A (letters_at parts p) ≡ guarded v (take (length (letters_at parts p) - length args) (letters_at parts p))
  unfolding letters_left
  left_is v l e =
      let a = length-map args (λ x. get_or (types_in rows parts n) x (arg value junk)) in
      let m = length_letters in
      let q : length (letters_at parts p) - length A ≡ k - length args = omega arith in
      let o : length (letters_at parts p) - length args ≡ k - length args = omega arith in
      rw (le-leb (length A) (length (letters_at parts p)) (omega arith), q, e, o)

pub given_row_low : (n t : ℕ) → t < n → t ≡ given_row n t
unfolding given_row
given_row_low n t l = rw (lt-ltb t n l)

pub given_row_past : (n t : ℕ) → n ≤ t → n + 1 ≡ given_row n t
unfolding given_row
given_row_past n t l = rw (le-ltb t n l)
