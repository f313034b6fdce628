-- The bytes that are put one behind the other are the report's line.
use Rattle.std.proofs.Common.{◌≡◌, ℕ, List, [], ◌∷◌, ◌++◌, take, sym, ap, ◌∙◌, append_assoc}
use Rattle.text.specs.Bytes.{bytes}
use Rattle.print.specs.Decimal.{digit, digits_in, decimal, signed_decimal}
use Rattle.print.specs.Lines.{parted, line_of, refusal}
use Rattle.print_write.specs.Put.{Puts}
use Rattle.print_write.proofs.Laws.{puts_behind}
use Rattle.report.specs.Day.{refused, no_integer, figures, report_fields, report_line}
use Rattle.report_day.specs.declared.Figures.{Figures}
use Rattle.report_day.specs.Answers.{figures_is}

pub refused_line : {l l1 l2 l3 : List ℕ} {a b e : ℕ} (line : ℕ) → Puts l 0 (114 ∷ 101 ∷ 102 ∷ 117 ∷ 115 ∷ 101 ∷ 44 ∷ 49 ∷ 55 ∷ 44 ∷ []) l1 a → Puts l1 a (decimal line) l2 b → Puts l2 b (10 ∷ []) l3 e
    → take e l3 ≡ report_line (refused line)
unfolding report_line report_fields line_of parted refusal bytes decimal digits_in digit
refused_line line p q r = (puts_behind p (puts_behind q r)).held

pub no_integer_line : {l l1 l2 : List ℕ} {a e : ℕ} (others : ℕ) → Puts l 0 (decimal 0 ++ (44 ∷ decimal others)) l1 a → Puts l1 a (44 ∷ 45 ∷ 44 ∷ 45 ∷ 44 ∷ 45 ∷ 44 ∷ 45 ∷ 44 ∷ 45 ∷ 10 ∷ []) l2 e
    → take e l2 ≡ report_line (no_integer others)
unfolding report_line report_fields line_of parted bytes decimal digit
no_integer_line others p q = (puts_behind p q).held ∙ ap (λ (x : List ℕ). 48 ∷ 44 ∷ x) (sym (append_assoc (decimal others) (44 ∷ 45 ∷ 44 ∷ 45 ∷ 44 ∷ 45 ∷ 44 ∷ 45 ∷ 44 ∷ 45 ∷ []) (10 ∷ [])))

seven_line : (a b c d e f g : List ℕ) → line_of (a ∷ b ∷ c ∷ d ∷ e ∷ f ∷ g ∷ []) ≡ a ++ (44 ∷ (b ++ (44 ∷ (c ++ (44 ∷ (d ++ (44 ∷ (e ++ (44 ∷ (f ++ (44 ∷ (g ++ (10 ∷ [])))))))))))))
unfolding line_of parted
seven_line a b c d e f g = simp append_assoc

pub seven_figures : {l l1 l2 l3 l4 l5 l6 : List ℕ} {a b c d e g : ℕ} (f : Figures)
    → Puts l 0 (decimal f.count ++ (44 ∷ decimal f.others)) l1 a
    → Puts l1 a (44 ∷ signed_decimal f.total) l2 b
    → Puts l2 b (44 ∷ signed_decimal f.smallest) l3 c
    → Puts l3 c (44 ∷ signed_decimal f.largest) l4 d
    → Puts l4 d (44 ∷ signed_decimal f.quotient) l5 e
    → Puts l5 e (44 ∷ (decimal f.remainder ++ (10 ∷ []))) l6 g
    → take g l6 ≡ report_line (figures (figures_is f))
unfolding report_line report_fields
seven_figures f p q r s t u =
    (puts_behind p (puts_behind q (puts_behind r (puts_behind s (puts_behind t u))))).held
    ∙ append_assoc (decimal f.count) (44 ∷ decimal f.others) _
    ∙ sym (seven_line (decimal f.count) (decimal f.others) (signed_decimal f.total) (signed_decimal f.smallest) (signed_decimal f.largest) (signed_decimal f.quotient) (decimal f.remainder))
